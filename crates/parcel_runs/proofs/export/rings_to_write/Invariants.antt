use Rattle.std.proofs.Common.{◌≡◌, ◌+◌, ◌≤◌, ◌++◌, map, length}
use Rattle.std.specs.List.{AllByRecursion}
use Rattle.geo_exact.specs.declared.limits.TheConstants.{RING_CORNERS}
use Rattle.shp_files.specs.Written.{corner_lists}
use Rattle.parcel_runs.proofs.export.rings_to_write.Given as goal

abbrev pub invariant-loop-shape : goal.invariant-loop-shape
invariant-loop-shape g l =
    (l.number + length l.shape-iterator ≡ length l.fn.shapes)
    × (corner_lists l.rings.items ++ map (λ shape. shape.1.ring.corners) l.shape-iterator
    ≡ map (λ shape. shape.1.ring.corners) l.fn.shapes)
    × AllByRecursion (λ shape. length shape.1.ring.corners ≤ RING_CORNERS) l.shape-iterator
