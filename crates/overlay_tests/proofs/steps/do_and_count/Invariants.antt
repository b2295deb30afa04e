use Rattle.overlay_work.specs.Rounds.{AreHandsOf}
use Rattle.overlay_tests.proofs.steps.do_and_count.Given as goal

abbrev pub invariant-loop-turn : goal.invariant-loop-turn
invariant-loop-turn g l = AreHandsOf l.round l.hands.items
