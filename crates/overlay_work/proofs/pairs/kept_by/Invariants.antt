use Rattle.std.proofs.Common.{take}
use Rattle.overlay_work.specs.own.Gathered.{ArePairsOfHands}
use Rattle.overlay_work.specs.Sharing.{joined}
use Rattle.overlay_work.proofs.pairs.kept_by.Given as goal

abbrev pub invariant-loop-hand : goal.invariant-loop-hand
invariant-loop-hand g l = ArePairsOfHands (take l.hand-index l.hands) (joined l.kept)
