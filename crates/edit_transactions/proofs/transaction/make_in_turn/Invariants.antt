use Rattle.std.proofs.Common.{◌≡◌, ℕ, ◌+◌, ◌≤◌, List, ◌++◌, length, take}
use Rattle.fabric_core.specs.declared.refusal.Refusal.{Refusal}
use Rattle.fabric_core.specs.Journal.{JournalEntry, replay}
use Rattle.edit_transactions.specs.Transactions.{IsFirstRefused, IsTransaction}
use Rattle.edit_transactions.proofs.transaction.make_in_turn.Given as goal

abbrev pub invariant-loop-edit : goal.invariant-loop-edit
invariant-loop-edit g l = record {
  place : l.place ≡ l.edit-index + 1;
  turn : IsTransaction l.fn.fabric.now (length l.fn.fabric.journal + 1) l.clerk (take l.edit-index l.edits) l.entries.items;
  now : l.fabric.now ≡ replay l.fn.fabric.now l.entries.items;
  journal : l.fabric.journal ≡ l.fn.fabric.journal ++ l.entries.items;
  city : l.fabric.city ≡ l.fn.fabric.city;
  opening : l.fabric.opening ≡ l.fn.fabric.opening;
  same : (others : List (JournalEntry _))
      → IsTransaction l.fn.fabric.now (length l.fn.fabric.journal + 1) l.clerk (take l.edit-index l.edits) others
      → others ≡ l.entries.items;
  later : (place : ℕ) (refusal : Refusal)
      → (first : IsFirstRefused l.fn.fabric.now l.fn.fabric.journal l.clerk l.edits place refusal)
      → l.edit-index ≤ length first.before;
}
