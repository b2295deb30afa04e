use Rattle.std.proofs.Common.{◌≡◌, ℕ}
use Rattle.overlay_work.specs.own.Differences.{IsFirstDifference}
use Rattle.overlay_work.proofs.sharing.first_difference.Given as goal

abbrev pub invariant-loop-id : goal.invariant-loop-id
invariant-loop-id g l = record {
  differs : (id : ℕ) → IsFirstDifference l.left l.id-iterator id → IsFirstDifference l.fn.dealt l.fn.ids id;
  same : l.left ≡ l.id-iterator → l.fn.dealt ≡ l.fn.ids;
}
