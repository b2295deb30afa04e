use Rattle.std.proofs.Common.{refl, inl, inr}
use Rattle.std.proofs.lemmas.Bool.{false≢true}
use Rattle.geo_exact.proofs.numbers.Dropped.{drop_item}
use Rattle.tri_overlap.proofs.Boxes.{inside_box}
use Rattle.geo_exact.proofs.boxes.InBoxes.{nothing_in_empty}
use Rattle.tri_overlap.proofs.Halves.{in_item}
use Rattle.tri_overlap.proofs.RingPairs.{point_of_one}
use Rattle.tri_overlap.proofs.shapes.meets_some.Goals as goal

pub returns-then-meet_in_box : goal.returns-then-meet_in_box
returns-then-meet_in_box c =
    let here = drop_item c.args.others.now c.loop-other.other-index c.other-item.result c.loop-other-test.true c.other-item.is in
    (λ _. c.loop-other.invariant.1 (rw here (inl (c.if-meet_in_box.ensures.0 refl))), λ _. refl)

pub loop-other-preserved : goal.loop-other-preserved
loop-other-preserved c =
    let here = drop_item c.args.others.now c.loop-other.other-index c.other-item.result c.loop-other-test.true c.other-item.is in (
      λ m. elim (rw here at (c.loop-other.invariant.0 m)) [
        | inl h ↦ absurd (false≢true (c.if-meet_in_box.ensures.1 h))
        | inr h ↦ h
      ],
      λ m. c.loop-other.invariant.1 (rw here (inr m)),
    )

pub meet_in_box-requires : goal.meet_in_box-requires
meet_in_box-requires c = λ p i j. (c.common-bounds.ensures p).1 (
  c.requires p i (in_item p c.args.others.now c.loop-other.other-index c.other-item.result c.loop-other-test.true c.other-item.is j),
  inside_box c.args.triangle.now p _ c.bounds_of.ensures i,
)

pub returns-then-is_empty : goal.returns-then-is_empty
returns-then-is_empty c = (
  λ b. absurd (false≢true b),
  λ m. let w = point_of_one c.args.triangle.now c.args.others.now m in
      absurd (nothing_in_empty _ (c.is_empty.ensures.0 c.if-is_empty.true) w.0
      ((c.common-bounds.ensures w.0).1 (c.requires w.0 w.2 w.3, inside_box c.args.triangle.now w.0 _ c.bounds_of.ensures w.2))),
)
