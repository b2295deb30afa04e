-- A journal as it is written (this product's own).
use Rattle.std.specs.Prelude.{◌≡◌, ◌⊎◌, ℕ, ◌+◌, List, [], length, Option, Bool, true, IfSome}
use Rattle.ring_edits.specs.declared.edit.Edit.{Edit}
use Rattle.journal_records.specs.declared.record.Stamp.{Stamp}
use Rattle.journal_records.specs.declared.record.Record.{Record}
use Rattle.journal_records.specs.Journals.{IsReadWhole, record_text, record_seal}
use Rattle.journal_writers.specs.declared.file_id.FileId.{FileId}
use Rattle.journal_writers.specs.Files.{with_more}

-- what a journal shows: which file it is, the digest of its layer, the bytes of its file, where that tells them, how
-- many records it has, the digest of the last, and whether it could not be written once
pub record WriterState : Type 0 where
  pub file : FileId
  pub layer : List ℕ
  pub bytes : Option (List ℕ)
  pub records : ℕ
  pub seal : List ℕ
  pub is_broken : Bool

-- what a draft shows: its number, the digest before it, its own, and its lines
pub record DraftState : Type 0 where
  pub number : ℕ
  pub before : List ℕ
  pub seal : List ℕ
  pub text : List ℕ

-- the draft is the record with this stamp and this edit, behind the one with its digest before
pub record IsDraftOf {A : Type 0} (draft : DraftState) (stamp : Stamp) (edit : Edit A) : Type 0 where
  pub number : draft.number ≡ stamp.number
  pub text : draft.text ≡ record_text draft.before stamp edit
  pub seal : draft.seal ≡ record_seal draft.before stamp edit

-- it is that of some record
abbrev pub IsDraft : Type 0 → DraftState → Type 0
IsDraft A draft = (it : Record A) × IsDraftOf draft it.stamp it.edit

-- the bytes are the header of this layer and the lines of so many records, in order and numbered from 1, each behind
-- the digest of the one before, and the last with this digest
pub record IsKept (A : Type 0) (layer bytes : List ℕ) (records : ℕ) (seal : List ℕ) : Type 0 where
  pub written : List (Record A)
  pub are_lines : IsReadWhole layer bytes written seal []
  pub count : length written ≡ records

-- so they are, where the file tells its bytes, unless a write failed
abbrev pub IsKeptUnlessBroken : Type 0 → WriterState → Type 0
IsKeptUnlessBroken A journal =
    (journal.is_broken ≡ true)
    ⊎ IfSome journal.bytes (λ bytes. IsKept A journal.layer bytes journal.records journal.seal)

-- a journal has one record more, with this stamp and this edit, under the next number
pub record HasOneMore {A : Type 0} (before after : WriterState) (stamp : Stamp) (edit : Edit A) : Type 0 where
  pub bytes : after.bytes ≡ with_more (record_text before.seal stamp edit) before.bytes
  pub next : stamp.number ≡ before.records + 1
  pub records : after.records ≡ stamp.number
  pub seal : after.seal ≡ record_seal before.seal stamp edit
  pub layer : after.layer ≡ before.layer
  pub file : after.file ≡ before.file
  pub whole : after.is_broken ≡ before.is_broken
