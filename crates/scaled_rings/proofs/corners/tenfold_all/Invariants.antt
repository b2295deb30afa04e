use Rattle.std.proofs.Common.{take}
use Rattle.scaled_rings.specs.Tenfold.{AreTenTimes}
use Rattle.scaled_rings.proofs.corners.tenfold_all.Given as goal

abbrev pub invariant-loop-corner : goal.invariant-loop-corner
invariant-loop-corner g l = AreTenTimes (take l.corner-index l.corners) l.others
