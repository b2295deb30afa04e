use Rattle.std.proofs.Common.{◌≡◌, ◌++◌, List}
use Rattle.std.specs.List.{AllByRecursion, AllZip}
use Rattle.geo_exact.specs.Layers.{NumberedRing}
use Rattle.parcel_table.specs.Table.{rows_of as rows_of_shapes}
use Rattle.scaled_rings.specs.Tenfold.{AreTenTimes, IsNear}
use Rattle.fabric_core.specs.Tenfold.{corners_of_rows}
use Rattle.fabric_core.proofs.tenfold.tenfold_shapes.Given as goal

abbrev pub invariant-loop-shape : goal.invariant-loop-shape
invariant-loop-shape g l =
    (done : List NumberedRing) × (done ++ rows_of_shapes l.shape-iterator ≡ rows_of_shapes l.fn.shapes)
    × AllByRecursion IsNear (corners_of_rows (rows_of_shapes l.shape-iterator))
    × AllZip (λ row other. AreTenTimes row.corners other.ring.corners) done l.others.items
