use Rattle.std.proofs.Common.{◌-◌, length}
use Rattle.geo_exact.specs.declared.limits.TheConstants.{LAYER_CORNERS}
use Rattle.overlay_work.specs.Rounds.{HasGoneOn}
use Rattle.overlay_work.proofs.gate.step_until_done.Given as goal

abbrev pub invariant-loop-hand : goal.invariant-loop-hand
invariant-loop-hand g l = HasGoneOn l.fn.hand l.hand

abbrev pub decreases-loop-hand : goal.decreases-loop-hand
decreases-loop-hand g l = LAYER_CORNERS - length l.hand.did
