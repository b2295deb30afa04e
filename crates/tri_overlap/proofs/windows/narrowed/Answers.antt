use Rattle.std.proofs.Common.{inl, inr}
use Rattle.geo_exact.proofs.numbers.Dropped.{drop_item}
use Rattle.tri_overlap.proofs.windows.narrowed.Goals as goal

pub loop-triangle-preserved : goal.loop-triangle-preserved
loop-triangle-preserved c =
    let here = drop_item c.args.triangles.now c.loop-triangle.triangle-index c.triangle-item.result
    c.loop-triangle-test.true c.triangle-item.is in
    λ p i j. elim (c.loop-triangle.invariant p i j) [
      | inl h ↦ inl (c.widened-bounds.ensures.kept p h)
      | inr h ↦ elim (rw here at h) [
        | inl k ↦ inl (c.widened-bounds.ensures.added p k j)
        | inr k ↦ inr k
      ]
    ]
