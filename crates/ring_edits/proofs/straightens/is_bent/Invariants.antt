use Rattle.std.proofs.Common.{◌<◌, ℕ}
use Rattle.ring_edits.specs.own.Between.{IsBentAt}
use Rattle.ring_edits.proofs.straightens.is_bent.Given as goal

abbrev pub invariant-loop-i : goal.invariant-loop-i
invariant-loop-i l = (k : ℕ) → k < l.i → ¬ IsBentAt l.ring l.at k
