use Rattle.std.proofs.Common.{◌≡◌, ◌++◌, map, flat_map}
use Rattle.shp_files.specs.Written.{point}
use Rattle.shp_files.proofs.write.put_backwards.Given as goal

abbrev pub invariant-loop-corner : goal.invariant-loop-corner
invariant-loop-corner g l = l.out.items ≡ l.initial.out.items ++ flat_map point (map (λ corner. corner.now) l.yielded)
