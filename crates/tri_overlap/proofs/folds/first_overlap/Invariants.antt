use Rattle.std.proofs.Common.{ℕ, ◌<◌}
use Rattle.tri_overlap.specs.Folding.{OverlapAt}
use Rattle.tri_overlap.proofs.folds.first_overlap.Given as goal

abbrev pub invariant-loop-i : goal.invariant-loop-i
invariant-loop-i l = (k m : ℕ) → k < l.i → k < m → ¬ OverlapAt l.triangles k m
