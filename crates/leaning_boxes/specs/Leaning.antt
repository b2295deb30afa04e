-- Leaning boxes: the part of a box along the axes between two parallels of a line (this product's own).
use Rattle.std.specs.Prelude.{◌≤ℤ◌}
use Rattle.geo_exact.specs.declared.corner.Corner.{Corner}
use Rattle.geo_exact.specs.Bounds.{HoldsCorner}
use Rattle.geo_exact.specs.Turn.{turn}
use Rattle.leaning_boxes.specs.declared.leaning.LeaningBox.{LeaningBox}

-- the leaning box holds the corner: its box along the axes does, and the corner's turn from its line lies in its range
pub record IsHeld (box : LeaningBox) (corner : Corner) : Type 0 where
  pub inside : HoldsCorner box.bounds corner
  pub not_below : box.low ≤ℤ turn box.from box.to corner
  pub not_above : turn box.from box.to corner ≤ℤ box.high
