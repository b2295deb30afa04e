-- What a user is told where a journal's edits are not made again (this product's own).
use Rattle.std.specs.Prelude.{◌≡◌, ◌⊎◌, ℕ, ◌+◌, ◌*◌, ◌^◌, ◌<◌, List, Vec}
use Rattle.std.specs.Borrow.{Bor}
use Rattle.fabric_core.specs.declared.refusal.Refusal.{Refusal}
use Rattle.city_layers.specs.declared.fault.ToolFault.TheVariants.{NoMemory}
use Rattle.journal_records.specs.declared.read.JournalFault.TheVariants.{NoJournal as NoJournalThere}
use Rattle.journal_records.specs.declared.read.JournalFault.TheVariants.{OtherLayer as OfOtherLayer, Changed}
use Rattle.journal_records.specs.declared.read.JournalFault.TheVariants.{NoMemory as NoRoom}
use Rattle.journal_replays.specs.declared.journal_edits.ReplayFault.{ReplayFault}
use Rattle.journal_replays.specs.declared.journal_edits.ReplayFault.TheVariants.{Journal, Refused}
use Rattle.clerk_runs.specs.ClerkLines.{refusal_text}
use Rattle.register_sessions.specs.declared.start_fault.StartFault.{StartFault}
use Rattle.register_sessions.specs.declared.start_fault.StartFault.TheVariants.{Run, NoJournal, OtherLayer}
use Rattle.register_sessions.specs.declared.start_fault.StartFault.TheVariants.{JournalChanged, EditRefused}

module _ {A : Type 0} where
  -- the edit in this line of the file is refused for this; memory may always be wanted
  pub record IsEditRefused (path : Bor (List ℕ)) (line : ℕ) (refusal : Refusal) (told : StartFault A) : Type 0 where
    pub text : Vec ℕ A
    pub is : told ≡ EditRefused path line text
    pub says : text.items ≡ refusal_text refusal

  abbrev pub IsToldRefused : Bor (List ℕ) → ℕ → Refusal → StartFault A → Type 0
  IsToldRefused path line refusal told = IsEditRefused path line refusal told ⊎ (told ≡ Run NoMemory)

  -- a journal's fault is told with its path; of an edit that is refused the line is the
  -- second of its record, behind the header
  abbrev pub IsToldOf : Bor (List ℕ) → ReplayFault → StartFault A → Type 0
  IsToldOf path (Journal NoJournalThere) told = told ≡ NoJournal path
  IsToldOf path (Journal OfOtherLayer) told = told ≡ OtherLayer path
  IsToldOf path (Journal (Changed line)) told = told ≡ JournalChanged path line
  IsToldOf path (Journal NoRoom) told = told ≡ Run NoMemory
  IsToldOf path (Refused number refusal) told =
      2 * number + 1 < 2 ^ 64 → IsToldRefused path (2 * number + 1) refusal told
