use Rattle.std.proofs.Common.{ℕ, ◌<◌}
use Rattle.tri_overlap.specs.Folding.{OverlapAt}
use Rattle.tri_overlap.proofs.folds.first_overlap_with.Given as goal

abbrev pub invariant-loop-j : goal.invariant-loop-j
invariant-loop-j l = (k : ℕ) → l.i < k → k < l.j → ¬ OverlapAt l.triangles l.i k
