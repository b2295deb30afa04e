use Rattle.std.proofs.Common.{◌≢◌, ◌<◌, ℕ}
use Rattle.geo_exact.specs.Places.{corner_at}
use Rattle.ring_edits.proofs.round.place_of.Given as goal

abbrev pub invariant-loop-i : goal.invariant-loop-i
invariant-loop-i l = (k : ℕ) → k < l.i → corner_at l.ring k ≢ l.corner
