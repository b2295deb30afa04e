use Rattle.std.proofs.Common.{take}
use Rattle.std.specs.List.{AllByRecursion}
use Rattle.overlay_work.specs.Rounds.{HasAllEnds}
use Rattle.overlay_work.proofs.hands_in.some_is_done.Given as goal

abbrev pub invariant-loop-hand : goal.invariant-loop-hand
invariant-loop-hand g l = AllByRecursion (λ hand. HasAllEnds hand → ⊥) (take l.hand-index l.hands)
