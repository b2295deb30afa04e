use Rattle.std.proofs.Common.{◌↔◌, ◌<◌, ◌≤◌, ℕ, IsTrue}
use Rattle.ring_edits.specs.Edits.{IsSharedAt}
use Rattle.ring_edits.proofs.border.first_other.Given as goal

abbrev pub invariant-loop-i : goal.invariant-loop-i
invariant-loop-i l = (k : ℕ) → l.from ≤ k → k < l.i → IsSharedAt l.a l.b k ↔ IsTrue l.shared
