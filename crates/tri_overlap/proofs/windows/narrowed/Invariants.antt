use Rattle.std.proofs.Common.{◌⊎◌, drop}
use Rattle.geo_exact.specs.Point.{Point}
use Rattle.tri_overlap.specs.own.Bounding.{InSome}
use Rattle.geo_exact.specs.Bounds.{IsInsideBox}
use Rattle.tri_overlap.proofs.windows.narrowed.Given as goal

abbrev pub invariant-loop-triangle : goal.invariant-loop-triangle
invariant-loop-triangle l = (p : Point) → InSome p l.triangles → IsInsideBox p l.window
    → IsInsideBox p l.bounds ⊎ InSome p (drop l.triangle-index l.triangles)
