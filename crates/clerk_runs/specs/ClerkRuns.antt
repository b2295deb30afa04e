-- The edits of several clerks, made on one fabric by all of them at the same time: what they lead to, and the lines
-- that report each (this product's own).
use Rattle.std.specs.Prelude.{◌≡◌, ◌⊎◌, ℕ, ◌+◌, List, [], ◌∷◌, ◌++◌, length}
use Rattle.std.specs.List.{AllZip}
use mathlib.Core.List.{IsPrefix}
use Rattle.geo_exact.specs.Point.{corner_point}
use Rattle.geo_exact.specs.Layers.{NumberedRing}
use Rattle.geo_exact.specs.declared.corner.Corner.{Corner}
use Rattle.ring_edits.specs.declared.edit.Edit.{Edit}
use Rattle.fabric_core.specs.declared.locate.At.{At}
use Rattle.fabric_core.specs.declared.refusal.Refusal.{Refusal}
use Rattle.fabric_core.specs.declared.refusal.Refusal.TheVariants.{NoMemory}
use Rattle.fabric_core.specs.Rows.{Tiles}
use Rattle.fabric_core.specs.Tiling.{IsTiling}
use Rattle.fabric_core.specs.Journal.{State, JournalEntry, Book, opening_state, replay}
use Rattle.fabric_core.specs.EditResults.{IsLawful}
use Rattle.fabric_core.specs.Refusals.{IsRefusal, NeedsNoMemory}
use Rattle.fabric_core.specs.Locate.{IsLocatedAt}
use Rattle.desk_lock.specs.Offices.{of_clerk, AreOfClerks, EndsWith}
use Rattle.clerk_runs.specs.ClerkFiles.{AreClerkFiles}
use Rattle.clerk_runs.specs.ClerkLines.{ok_line, refused_line}

-- parcels as they are at a moment, and the journal of the edits that led there
pub record Register (A : Type 0) : Type 0 where
  pub now : State
  pub journal : List (JournalEntry A)

-- the register of a layer that is opened
abbrev pub opened : {A : Type 0} → Tiles → Register A
opened tiles = record { now = opening_state tiles.rows tiles.refined; journal = [] }

-- what a fabric or a sheet tells of it
abbrev pub register_of : {A : Type 0} → Book A → Register A
register_of book = record { now = book.now; journal = book.journal }

-- the run of so many clerks on a fabric that was opened in this state
pub record Run : Type 0 where
  pub clerks : ℕ
  pub opening : State

module _ {A : Type 0} where
  -- a lawful list of entries, each of them by one of the run's clerks
  pub record IsJournal (run : Run) (journal : List (JournalEntry A)) : Type 0 where
    pub lawful : IsLawful run.opening journal
    pub of_clerks : AreOfClerks run.clerks journal

  -- the refusal is due after such a list, in which the clerk's entries are those that were accepted of the clerk before
  pub record IsRefusalDue (run : Run) (journal : List (JournalEntry A)) (clerk : ℕ) (made : List (JournalEntry A))
      (edit : Edit A) (refusal : Refusal) : Type 0 where
    pub is_journal : IsJournal run journal
    pub has_made : of_clerk clerk journal ≡ made
    pub is_refusal : IsRefusal (replay run.opening journal) journal edit refusal

  -- the refusal is due after such a list; or memory ran out, and nothing is due after it that is told whatever memory
  -- there is
  abbrev pub IsRefusedFor : Run → List (JournalEntry A) → ℕ → List (JournalEntry A) → Edit A → Refusal → Type 0
  IsRefusedFor run journal clerk made edit refusal = IsRefusalDue run journal clerk made edit refusal
      ⊎ ((refusal ≡ NoMemory)
      × ((due : Refusal) → IsRefusal (replay run.opening journal) journal edit due → ¬ NeedsNoMemory due))

  -- a clerk's edits, each behind its line's number, are reported in order, and judged in that order: each after a
  -- beginning of the run's journal, `whole`, that begins with the one after which the edit before was judged, `met`. It
  -- is `ok` under the number of the next of the clerk's entries, which has the edit and ends that beginning, or
  -- `refused` for a reason that was due after it, or because memory ran out where nothing was due that is told whatever
  -- memory there is; the clerk has no other entries, and `made` are those from before
  abbrev pub AreTold : Run → List (JournalEntry A) → ℕ → List (JournalEntry A) → List (JournalEntry A)
      → List (ℕ × Edit A)
      → List (JournalEntry A) → List ℕ → Type 0
  AreTold run whole clerk made met [] entries text = (entries ≡ []) × (text ≡ [])
  AreTold run whole clerk made met (told ∷ rest) entries text =
      (now : List (JournalEntry A)) × IsPrefix met now × IsPrefix now whole
      × (((entry : JournalEntry A) × (others : List (JournalEntry A)) × (more : List ℕ) × (entries ≡ entry ∷ others)
      × (entry.edit ≡ told.1) × EndsWith entry entry.number now
      × (text ≡ ok_line clerk told.0 entry.number ++ more)
      × AreTold run whole clerk (made ++ entry ∷ []) now rest others more)
      ⊎ ((refusal : Refusal) × (more : List ℕ) × IsRefusedFor run now clerk made told.1 refusal
      × (text ≡ refused_line clerk told.0 refusal ++ more) × AreTold run whole clerk made now rest entries more))

  -- the lines of each clerk, one clerk's after the other's, report the clerk's edits and the journal's entries of that
  -- clerk; clerks are numbered on from a first one
  abbrev pub AreEachTold : Run → ℕ → List (List (ℕ × Edit A)) → List (JournalEntry A) → List ℕ → Type 0
  AreEachTold run clerk [] journal text = text ≡ []
  AreEachTold run clerk (edits ∷ others) journal text = (lines : List ℕ) × (more : List ℕ) × (text ≡ lines ++ more)
      × AreTold run journal clerk [] [] edits (of_clerk clerk journal) lines
      × AreEachTold run (clerk + 1) others journal more

  -- the run of these clerks' edits on a layer
  abbrev pub run_of : Tiles → List (List (ℕ × Edit A)) → Run
  run_of tiles clerks = record { clerks = length clerks; opening = opening_state tiles.rows tiles.refined }

  -- the clerks' edits, made on a layer, lead to this register and give these lines: its journal is lawful, has entries
  -- of the clerks alone, and leads to parcels that tile the city; and each clerk's lines report that clerk's edits
  pub record AreMade (tiles : Tiles) (clerks : List (List (ℕ × Edit A))) (after : Register A)
      (lines : List ℕ) : Type 0 where
    pub is_journal : IsJournal (run_of tiles clerks) after.journal
    pub leads : after.now ≡ replay (run_of tiles clerks).opening after.journal
    pub is_tiling : IsTiling after.now.rows tiles.city
    pub are_told : AreEachTold (run_of tiles clerks) 1 clerks after.journal lines

  -- the same of the clerks' files
  pub record IsEdited (tiles : Tiles) (files : List (List ℕ)) (after : Register A) (lines : List ℕ) : Type 0 where
    pub clerks : List (List (ℕ × Edit A))
    pub are_files : AreClerkFiles files clerks
    pub are_made : AreMade tiles clerks after lines

  -- where each corner lies among the rows, in order
  abbrev pub AreLocated : List NumberedRing → List Corner → List (At A) → Type 0
  AreLocated rows corners places = AllZip (λ corner at. IsLocatedAt rows (corner_point corner) at) corners places
