use Rattle.std.proofs.Common.{refl, inl, inr}
use Rattle.std.proofs.lemmas.Bool.{false≢true}
use Rattle.geo_exact.proofs.numbers.Dropped.{drop_item}
use Rattle.tri_overlap.proofs.Halves.{in_item}
use Rattle.tri_overlap.proofs.shapes.some_pair_meets.Goals as goal

pub meets_some-requires : goal.meets_some-requires
meets_some-requires c = λ p i j. c.requires p
    (in_item p c.args.first.now c.loop-triangle.triangle-index c.triangle-item.result c.loop-triangle-test.true c.triangle-item.is i) j

pub returns-then-meets_some : goal.returns-then-meets_some
returns-then-meets_some c =
    let here = drop_item c.args.first.now c.loop-triangle.triangle-index c.triangle-item.result
    c.loop-triangle-test.true c.triangle-item.is in
    (λ _. c.loop-triangle.invariant.1 (rw here (inl (c.if-meets_some.ensures.0 refl))), λ _. refl)

pub loop-triangle-preserved : goal.loop-triangle-preserved
loop-triangle-preserved c =
    let here = drop_item c.args.first.now c.loop-triangle.triangle-index c.triangle-item.result
    c.loop-triangle-test.true c.triangle-item.is in (
      λ m. elim (rw here at (c.loop-triangle.invariant.0 m)) [
        | inl h ↦ absurd (false≢true (c.if-meets_some.ensures.1 h))
        | inr h ↦ h
      ],
      λ m. c.loop-triangle.invariant.1 (rw here (inr m)),
    )
