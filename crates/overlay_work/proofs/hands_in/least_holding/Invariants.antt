use Rattle.std.proofs.Common.{take}
use Rattle.overlay_work.specs.own.Gathered.{LeastIs}
use Rattle.overlay_work.proofs.hands_in.least_holding.Given as goal

abbrev pub invariant-loop-hand : goal.invariant-loop-hand
invariant-loop-hand g l = LeastIs l.least (take l.hand-index l.hands)
