-- What a session keeps of the edits that it makes: records in its journal, and what the disk has of them (this
-- product's own).
use Rattle.std.specs.Prelude.{◌≡◌, ⊤, ℕ, ◌≤◌, List, [], ◌∷◌, Option, None, Some}
use Rattle.journal_records.specs.declared.record.Stamp.{Stamp}
use Rattle.journal_writers.specs.Writers.{WriterState, HasOneMore}
use Rattle.fabric_core.specs.Journal.{JournalEntry}
use Rattle.journal_writers.specs.declared.synced.DiskHas.{DiskHas}
use Rattle.journal_writers.specs.declared.file_id.FileId.{FileId}

-- a journal has one record more: that of this entry
pub record IsRecorded {A : Type 0} (before after : WriterState) (entry : JournalEntry A) : Type 0 where
  pub stamp : Stamp
  pub number : stamp.number ≡ entry.number
  pub clerk : stamp.clerk ≡ entry.clerk
  pub one_more : HasOneMore before after stamp entry.edit

-- a journal has one record more for each of these entries, in order
abbrev pub HasRecords : {A : Type 0} → WriterState → WriterState → List (JournalEntry A) → Type 0
HasRecords before after [] = after ≡ before
HasRecords before after (entry ∷ others) =
    (mid : WriterState) × IsRecorded before mid entry × HasRecords mid after others

-- where there is a journal, the disk has at least so many records
abbrev pub IsOnDisk : {J : Type 0} → Option J → Option DiskHas → ℕ → Type 0
IsOnDisk None on_disk number = ⊤
IsOnDisk (Some journal) None number = ⊥
IsOnDisk (Some journal) (Some on_disk) number = number ≤ on_disk.records

-- a synchronisation has brought at least so many records of this file to the disk
abbrev pub AreBrought : (FileId → ℕ → Type 0) → FileId → ℕ → Type 0
AreBrought brought file number = (records : ℕ) × brought file records × (number ≤ records)

-- so many are all that a synchronisation has brought of this file, or more
abbrev pub HasBrought : (FileId → ℕ → Type 0) → FileId → ℕ → Type 0
HasBrought brought file number = (records : ℕ) × brought file records × (records ≤ number)
