use Rattle.std.proofs.Common.{◌≡◌, ◌++◌, take, flat_map}
use Rattle.shp_files.specs.Written.{point}
use Rattle.shp_files.proofs.write.put_forwards.Given as goal

abbrev pub invariant-loop-corner : goal.invariant-loop-corner
invariant-loop-corner g l = l.out.items ≡ l.initial.out.items ++ flat_map point (take l.corner-index l.corners)
