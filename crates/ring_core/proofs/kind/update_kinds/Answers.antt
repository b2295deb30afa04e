use Rattle.std.proofs.Common.{◌∙◌, sym, inl, inr, arith}
use Rattle.ring_core.proofs.clipping.KindsKept.{up_to_date}
use Rattle.ring_core.proofs.ears.LeftSimple.{same_or}
use Rattle.ring_core.proofs.kind.update_kinds.Goals as goal

pub returns-clause-are : goal.returns-clause-are
returns-clause-are c = λ whole numbers t h.
    let corners = c.args.corners.now in let left = c.args.numbers.now in
    let after = c.after_gap-after.result in let before = c.preceding-before.result in record {
      same_length = c.look_at.auto.kinds ∙ c.look_at-last.auto.kinds ∙ c.release-released.auto.kinds ∙ c.requires.same_length;
      each = λ j b. elim (same_or j before) [
        | inl e ↦ rw e (c.look_at.ensures.here left)
        | inr off_before ↦ rw (c.look_at.ensures.others j off_before) (elim (same_or j after) [
          | inl e ↦ rw e (c.look_at-last.ensures.here left)
          | inr off_after ↦ rw (c.look_at-last.ensures.others j off_after)
              (up_to_date whole corners numbers left c.args.k j c.args.gone t b
              (λ x. elim (c.after_gap-after.ensures.beside j b x) [
                | inl e ↦ off_after e
                | inr e ↦ off_before (e ∙ sym c.preceding-before.ensures)
              ]) _ _ (c.release-released.ensures.released j (omega (arith, b, c.requires.same_length))) (h j b))
        ])
      ];
    }
