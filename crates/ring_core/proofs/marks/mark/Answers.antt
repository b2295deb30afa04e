use Rattle.std.proofs.Common.{◌∙◌, inl, inr, ap, subst, get_or}
use Rattle.std.proofs.lemmas.List.{get_or-set_same, get_or-set_other, get_or_default}
use Rattle.ring_core.proofs.ears.LeftSimple.{same_or}
use Rattle.ring_core.specs.own.Kinds.{IsInReach, everywhere}
use Rattle.ring_core.proofs.marks.mark.Goals as goal

pub returns-then-w-marks-clause-kept : goal.returns-then-w-marks-clause-kept
returns-then-w-marks-clause-kept c = λ w n h.
    let marks = c.args.marks.now in let here = c.from-w.result in let wider = c.around.result in
    elim (same_or w here) [
      | inl e ↦ rw (e, get_or-set_same marks here wider everywhere c.if-w-marks.true)
          (c.around.ensures.kept n (subst (IsInReach n)
          (ap (λ i. get_or marks i everywhere) e ∙ get_or_default marks here everywhere _ c.if-w-marks.true) h))
      | inr off ↦ rw (get_or-set_other marks here w wider everywhere off) h
    ]
