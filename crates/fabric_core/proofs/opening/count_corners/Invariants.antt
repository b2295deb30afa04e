use Rattle.std.proofs.Common.{◌≡◌, ◌+◌}
use Rattle.geo_exact.specs.Layers.{corner_count}
use Rattle.parcel_table.specs.Table.{rows_of as rows_of_shapes}
use Rattle.fabric_core.proofs.opening.count_corners.Given as goal

abbrev pub invariant-loop-shape : goal.invariant-loop-shape
invariant-loop-shape g l = l.sum + corner_count (rows_of_shapes l.shape-iterator) ≡ corner_count (rows_of_shapes l.fn.shapes)
