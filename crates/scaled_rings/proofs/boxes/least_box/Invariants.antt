use Rattle.std.proofs.Common.{take}
use Rattle.std.specs.List.{All}
use Rattle.geo_exact.specs.declared.bounds.Bounds.{Bounds}
use Rattle.geo_exact.specs.Bounds.{HoldsCorner, IsWider}
use Rattle.scaled_rings.proofs.boxes.least_box.Given as goal

abbrev pub invariant-loop-corner : goal.invariant-loop-corner
invariant-loop-corner l = record {
  holds : All (HoldsCorner l.bounds) (take l.corner-index l.corners);
  is_least : (other : Bounds) → All (HoldsCorner other) l.corners → IsWider l.bounds other;
}
