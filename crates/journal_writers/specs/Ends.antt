-- What the disk has of a journal (this product's own).
use Rattle.std.specs.Prelude.{◌≡◌, nat_le, ℕ, Bool, true, Result, Ok, Err, if◌then◌else◌}
use Rattle.journal_writers.specs.declared.file_id.FileId.{FileId}
use Rattle.journal_writers.specs.declared.file.FileFailed.{FileFailed}

-- so many records of the file were written, or the disk has so many
pub record Reached : Type 0 where
  pub file : FileId
  pub records : ℕ

-- how far a journal is synchronised: what the disk has, whether somebody synchronises, and whether one failed
pub record SyncedState : Type 0 where
  pub on_disk : Reached
  pub is_busy : Bool
  pub is_lost : Bool

-- the further of two
abbrev pub further : Reached → Reached → Reached
further old new = if nat_le new.records old.records then old else new

-- a synchronisation that ended well brings as many records as it says, and takes none away; one that failed brings
-- none, and is remembered
abbrev pub IsEnded : SyncedState → SyncedState → Result Reached FileFailed → Type 0
IsEnded before after (Ok brought) =
    (after.on_disk ≡ further before.on_disk brought) × (after.is_lost ≡ before.is_lost)
IsEnded before after (Err fault) = (after.on_disk ≡ before.on_disk) × (after.is_lost ≡ true)
