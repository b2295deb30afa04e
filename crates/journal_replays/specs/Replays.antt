-- The edits of a journal, made again (this product's own).
use Rattle.std.specs.Prelude.{◌≡◌, ◌⊎◌, ⊤, ℕ, Bool, List, ◌∷◌, ◌++◌, map, length}
use Rattle.std.specs.List.{flat_map}
use Rattle.geo_exact.specs.declared.corner.Corner.{Corner}
use Rattle.geo_exact.specs.Layers.{NumberedRing}
use Rattle.journal_records.specs.declared.record.Record.{Record}
use Rattle.journal_records.specs.Journals.{IsJournal, IsHeaderFault, outline_line}
use Rattle.journal_replays.specs.declared.journal_edits.ReplayFault.{ReplayFault}
use Rattle.journal_replays.specs.declared.journal_edits.ReplayFault.TheVariants.{Journal, Refused}
use Rattle.fabric_core.specs.declared.refusal.Refusal.{Refusal}
use Rattle.fabric_core.specs.Journal.{JournalEntry, Book}
use Rattle.fabric_core.specs.Refusals.{IsRefusal, NeedsNoMemory}

-- a line for each of these rings
abbrev pub outlines : List NumberedRing → List ℕ
outlines rows = flat_map (λ row. outline_line row.number row.corners) rows

-- the text of a layer, of which its journal's header has the digest: a line for the city, and one for each parcel
abbrev pub layer_text : List Corner → List NumberedRing → List ℕ
layer_text city rows = outline_line 0 city ++ outlines rows

-- the edits of records, made one after the other, each by its clerk, lead from one book to another
pub record AreMade {A : Type 0} (records : List (Record A)) (before after : Book A) : Type 0 where
  pub entries : List (JournalEntry A)
  pub journal : after.journal ≡ before.journal ++ entries
  pub have_edits : map (λ entry. entry.edit) entries ≡ map (λ said. said.edit) records
  pub have_clerks : map (λ entry. entry.clerk) entries ≡ map (λ said. said.stamp.clerk) records
  pub opening : after.opening ≡ before.opening
  pub city : after.city ≡ before.city

-- the text is a journal of this layer, which has so many records and ends with this digest and so many torn bytes, or
-- lacks its last line feed, and its edits lead from one book to another
pub record IsReplayed {A : Type 0} (layer text : List ℕ) (before after : Book A) (count : ℕ) (seal : List ℕ)
    (torn : ℕ) (lacks : Bool) : Type 0 where
  pub records : List (Record A)
  pub rest : List ℕ
  pub is_journal : IsJournal layer text records seal rest lacks
  pub are_so_many : count ≡ length records
  pub is_torn : torn ≡ length rest
  pub are_made : AreMade records before after

-- of records, those before the one of this number are made, and lead to a book; its
-- edit is refused then, for this reason
pub record IsStoppedAt {A : Type 0} (records : List (Record A)) (before after : Book A) (number : ℕ) (refusal : Refusal)
    : Type 0 where
  pub made : List (Record A)
  pub stopped : Record A
  pub rest : List (Record A)
  pub are_all : records ≡ made ++ stopped ∷ rest
  pub is_number : stopped.stamp.number ≡ number
  pub are_made : AreMade made before after
  pub is_refusal : IsRefusal after.now after.journal stopped.edit refusal

-- the text is a journal of this layer, of whose records that of this number is the first whose edit is refused
pub record IsRefusedAt {A : Type 0} (layer text : List ℕ) (before after : Book A) (number : ℕ) (refusal : Refusal)
    : Type 0 where
  pub records : List (Record A)
  pub seal : List ℕ
  pub torn : List ℕ
  pub lacks : Bool
  pub is_journal : IsJournal layer text records seal torn lacks
  pub is_stopped : IsStoppedAt records before after number refusal

-- of records, those before some one are made, and lead to a book; its edit finds no memory then, and is not refused
-- for a reason that is told whatever memory there is
pub record IsShortIn {A : Type 0} (records : List (Record A)) (before after : Book A) : Type 0 where
  pub made : List (Record A)
  pub short : Record A
  pub rest : List (Record A)
  pub are_all : records ≡ made ++ short ∷ rest
  pub are_made : AreMade made before after
  pub is_not_due : (due : Refusal) → IsRefusal after.now after.journal short.edit due → ¬ NeedsNoMemory due

-- the text is a journal of this layer, of whose records those before some one are made, and whose edit finds no memory
pub record IsShortAt {A : Type 0} (layer text : List ℕ) (before after : Book A) : Type 0 where
  pub records : List (Record A)
  pub seal : List ℕ
  pub torn : List ℕ
  pub lacks : Bool
  pub is_journal : IsJournal layer text records seal torn lacks
  pub is_short : IsShortIn records before after

-- memory is refused while the text is read, and nothing is made yet; or for an edit of its records
abbrev pub IsShortOf : {A : Type 0} → List ℕ → List ℕ → Book A → Book A → Type 0
IsShortOf layer text before after = (after ≡ before) ⊎ IsShortAt layer text before after

-- a text is no journal of this layer for what its first line says
abbrev pub IsReplayFault : List ℕ → List ℕ → ReplayFault → Type 0
IsReplayFault layer text (Journal fault) = IsHeaderFault layer text fault
IsReplayFault layer text (Refused number refusal) = ⊤
