use Rattle.std.proofs.Common.{◌≡◌, ◌-◌, ◌≤◌, ◌∙◌, inl, inr, arith, below_more, length, subst, sym}
use Rattle.geo_exact.specs.Places.{after, corner_at}
use Rattle.leaning_boxes.specs.Leaning.{IsHeld}
use Rattle.ring_core.proofs.edges.CornersRead.{corner_read, corner_after_read}
use Rattle.ring_core.proofs.ears.LeftSimple.{same_or}
use Rattle.ring_core.proofs.edges.RoundNumbers.{after_inner}
use Rattle.ring_core.proofs.leaning.box_of_edges.Goals as goal

pub loop-i-init : goal.loop-i-init
loop-i-init c = record {
  first = subst (IsHeld c.of_corner-held.result)
      (corner_read c.args.ring.now c.args.start _ (omega arith) c.index-ring-start.is) c.of_corner-held.ensures;
  rest = λ k o b. absurd (omega arith);
}

pub loop-i-preserved : goal.loop-i-preserved
loop-i-preserved c =
    let ring = c.args.ring.now in let n = length ring in let i = c.loop-i.i in
    let held = c.around-held.result in let kept = c.around-held.ensures.keeps in record {
      first = kept (corner_at ring c.args.start) c.loop-i.invariant.first;
      rest = λ k o b. below_more (λ m. c.args.start ≤ m → IsHeld held (corner_at ring (after n m))) i
          (λ m q r. kept (corner_at ring (after n m)) (c.loop-i.invariant.rest m r q))
          (λ q. subst (IsHeld held)
          (corner_after_read ring i c.following-in-loop-i.result c.index-ring-following-in-loop-i.result (omega arith)
          c.following-in-loop-i.ensures c.index-ring-following-in-loop-i.is)
          c.around-held.ensures.holds) k b o;
    }

pub returns : goal.returns
returns c = λ i o b.
    let ring = c.args.ring.now in let n = length ring in let held = c.loop-i.held in (
      elim (same_or i c.args.start) [
        | inl e ↦ subst (λ m. IsHeld held (corner_at ring m)) (sym e) c.loop-i.invariant.first
        | inr off ↦ let e : after n (i - 1) ≡ i = after_inner n (i - 1) (omega arith) ∙ omega arith in
            subst (λ m. IsHeld held (corner_at ring m)) e (c.loop-i.invariant.rest (i - 1) (omega arith) (omega arith))
      ],
      c.loop-i.invariant.rest i o (omega arith),
    )
