-- What a clerk's job leaves at an office whose fabric was handed in with no entry, and what the jobs of all clerks
-- leave together. Public contracts do not speak of it.
use Rattle.std.specs.Prelude.{◌≡◌, Bool, true, false, ℕ, List, [], ◌∷◌, ◌++◌, map, All}
use mathlib.Core.List.{IsPrefix}
use Rattle.ring_edits.specs.declared.edit.Edit.{Edit}
use Rattle.fabric_core.specs.declared.refusal.Refusal.{Refusal}
use Rattle.fabric_core.specs.Journal.{JournalEntry, replay}
use Rattle.desk_lock.specs.Offices.{OfficeId, CardState, ReceiptState, EndsWith}
use Rattle.clerk_runs.specs.ClerkLines.{ok_line, refused_line}
use Rattle.clerk_runs.specs.ClerkRuns.{Run, Register, IsRefusedFor, IsJournal, AreTold, AreEachTold}

module _ {A : Type 0} where
  -- the run of an office's clerks
  abbrev pub run_at : OfficeId A → Run
  run_at office = record { clerks = office.clerks; opening = office.origin.opening }

  -- a receipt that was published tells a list of as many entries as its own number, which ends with its own
  abbrev pub Tells : ReceiptState A → Type 0
  Tells receipt = receipt.published ≡ true → EndsWith receipt.entry receipt.entry.number receipt.told

  -- an edit behind its line's number is accepted: card, lines and receipts have one more
  pub record IsAccepted (card : CardState A) (told : ℕ × Edit A) (after : CardState A) (lines lines_after : List ℕ)
      (receipts receipts_after : List (ReceiptState A)) : Type 0 where
    pub receipt : ReceiptState A
    pub tells : Tells receipt
    pub has_edit : receipt.entry.edit ≡ told.1
    pub made : after.made ≡ card.made ++ receipt.entry ∷ []
    pub met : IsPrefix card.met after.met
    pub ends : EndsWith receipt.entry receipt.entry.number after.met
    pub line : lines_after ≡ lines ++ ok_line card.clerk told.0 receipt.entry.number
    pub kept : receipts_after ≡ receipts ++ receipt ∷ []

  -- it is refused: the lines have one more
  pub record IsRefused (run : Run) (card : CardState A) (told : ℕ × Edit A) (after : CardState A)
      (lines lines_after : List ℕ) (receipts receipts_after : List (ReceiptState A)) : Type 0 where
    pub refusal : Refusal
    pub is_due : IsRefusedFor run after.met card.clerk card.made told.1 refusal
    pub made : after.made ≡ card.made
    pub met : IsPrefix card.met after.met
    pub line : lines_after ≡ lines ++ refused_line card.clerk told.0 refusal
    pub kept : receipts_after ≡ receipts

  -- the lines tell of a clerk's edits and of the entries that were made, in each journal that begins with what the card
  -- has met; there is a receipt for each entry, in order
  pub record HasSaid (run : Run) (met : List (JournalEntry A)) (clerk : ℕ) (edits : List (ℕ × Edit A))
      (made : List (JournalEntry A)) (lines : List ℕ) (receipts : List (ReceiptState A)) : Type 0 where
    pub are_told : (whole : List (JournalEntry A)) → IsPrefix met whole → AreTold run whole clerk [] [] edits made lines
    pub are_all : made ≡ map (λ receipt. receipt.entry) receipts
    pub tell : All Tells receipts

  -- a job is worked off, unless memory was refused it: what it says from a card with no entries
  pub record IsWorked (run : Run) (card : CardState A) (edits : List (ℕ × Edit A)) (after : CardState A)
      (refused : Bool) (lines : List ℕ)
      (receipts : List (ReceiptState A)) : Type 0 where
    pub same_clerk : after.clerk ≡ card.clerk
    pub said : card.made ≡ [] → refused ≡ false → HasSaid run after.met card.clerk edits after.made lines receipts

  -- the edits of the clerks lead to this register and give these lines
  pub record AreMadeIn (run : Run) (clerks : List (List (ℕ × Edit A))) (after : Register A)
      (lines : List ℕ) : Type 0 where
    pub is_journal : IsJournal run after.journal
    pub leads : after.now ≡ replay run.opening after.journal
    pub are_told : AreEachTold run 1 clerks after.journal lines
