use Rattle.overlay_work.specs.Rounds.{AreHandsOf}
use Rattle.overlay_tests.proofs.steps.do_all.Given as goal

abbrev pub invariant-loop-at : goal.invariant-loop-at
invariant-loop-at g l = AreHandsOf l.round l.hands.items
