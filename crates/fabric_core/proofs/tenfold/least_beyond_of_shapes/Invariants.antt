use Rattle.std.proofs.Common.{◌≡◌, ◌++◌, List}
use Rattle.geo_exact.specs.declared.corner.Corner.{Corner}
use Rattle.geo_exact.specs.Layers.{NumberedRing}
use Rattle.parcel_table.specs.Table.{rows_of as rows_of_shapes}
use Rattle.scaled_rings.specs.Tenfold.{IsLeastBeyondOf}
use Rattle.fabric_core.specs.Tenfold.{corners_of_rows}
use Rattle.fabric_core.proofs.tenfold.least_beyond_of_shapes.Given as goal

abbrev pub invariant-loop-shape : goal.invariant-loop-shape
invariant-loop-shape g l =
    (done : List NumberedRing) × (done ++ rows_of_shapes l.shape-iterator ≡ rows_of_shapes l.fn.shapes)
    × ((before : List Corner) → IsLeastBeyondOf l.most before l.fn.found → IsLeastBeyondOf l.most (before ++ corners_of_rows done) l.least)
