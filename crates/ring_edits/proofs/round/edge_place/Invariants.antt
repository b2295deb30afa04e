use Rattle.std.proofs.Common.{◌<◌, ℕ}
use Rattle.ring_edits.specs.Round.{HasEdgeAt}
use Rattle.ring_edits.proofs.round.edge_place.Given as goal

abbrev pub invariant-loop-i : goal.invariant-loop-i
invariant-loop-i l = (k : ℕ) → k < l.i → ¬ HasEdgeAt l.ring l.from l.to k
