use Rattle.std.proofs.Common.{take}
use Rattle.shp_files.specs.Written.{corner_lists, all_corners}
use Rattle.shp_files.specs.own.Writing.{MayBeBounds}
use Rattle.shp_files.proofs.write.layer_bounds.Given as goal

abbrev pub invariant-loop-ring : goal.invariant-loop-ring
invariant-loop-ring g l = MayBeBounds l.bounds (all_corners (corner_lists (take l.ring-index l.rings)))
