use Rattle.std.proofs.Common.{◌≡◌, true, List, drop, Bor}
use Rattle.std.specs.Prelude.{All}
use mathlib.Core.List.{IsPrefix}
use Rattle.fabric_core.specs.Journal.{JournalEntry}
use Rattle.clerk_runs.specs.own.Windows.{IsLearnt}
use Rattle.clerk_runs.proofs.locating.learn_all.Given as goal

abbrev pub invariant-loop-receipt : goal.invariant-loop-receipt
invariant-loop-receipt g l = record {
  opening : l.window.opening ≡ l.fn.window.opening;
  begins : IsPrefix l.fn.window.seen l.window.seen;
  learnt : l.all ≡ true → (later : List (JournalEntry (Bor g.row.H.Denot))) → IsPrefix l.window.seen later
      → All (IsLearnt later) (drop l.receipt-index l.receipts) → All (IsLearnt later) l.receipts;
}
