-- The edits of a clerk's file with which a session begins (this product's own).
use Rattle.std.specs.Prelude.{◌≡◌, ◌⊎◌, ℕ, List, ◌∷◌, ◌++◌, map}
use Rattle.ring_edits.specs.declared.edit.Edit.{Edit}
use Rattle.line_files.specs.ClerkFile.{IsClerkFile, IsFirstBadLine}
use Rattle.fabric_core.specs.declared.refusal.Refusal.{Refusal}
use Rattle.fabric_core.specs.Journal.{JournalEntry, Book}
use Rattle.fabric_core.specs.Refusals.{IsRefusal, NeedsNoMemory}
use Rattle.session_rooms.specs.declared.clerk_edits.TheConstants.{EDITS_CLERK}
use Rattle.session_rooms.specs.declared.clerk_edits.EditsFault.{EditsFault}
use Rattle.session_rooms.specs.declared.clerk_edits.EditsFault.TheVariants.{Line, Refused, NoMemory}

-- the edits are made in order, each by this clerk, each as the next entry
pub record AreMadeBy {A : Type 0} (clerk : ℕ) (edits : List (ℕ × Edit A)) (before after : Book A) : Type 0 where
  pub entries : List (JournalEntry A)
  pub journal : after.journal ≡ before.journal ++ entries
  pub have_edits : map (λ entry. entry.edit) entries ≡ map (λ said. said.1) edits
  pub have_clerk : map (λ entry. entry.clerk) entries ≡ map (λ said. clerk) edits
  pub opening : after.opening ≡ before.opening
  pub city : after.city ≡ before.city

-- they are those of a clerk's file with this text
pub record AreMadeOf {A : Type 0} (text : List ℕ) (before after : Book A) : Type 0 where
  pub edits : List (ℕ × Edit A)
  pub is_file : IsClerkFile text edits
  pub are_made : AreMadeBy EDITS_CLERK edits before after

-- of edits, those before the one in this line are made, and lead to a book; it is refused then, for this reason
pub record IsStoppedIn {A : Type 0} (clerk : ℕ) (edits : List (ℕ × Edit A)) (before after : Book A) (number : ℕ)
    (refusal : Refusal) : Type 0 where
  pub made : List (ℕ × Edit A)
  pub stopped : ℕ × Edit A
  pub rest : List (ℕ × Edit A)
  pub are_all : edits ≡ made ++ stopped ∷ rest
  pub is_line : stopped.0 ≡ number
  pub are_made : AreMadeBy clerk made before after
  pub is_refusal : IsRefusal after.now after.journal stopped.1 refusal

-- they are those of a clerk's file with this text
pub record IsStoppedOf {A : Type 0} (text : List ℕ) (before after : Book A) (number : ℕ)
    (refusal : Refusal) : Type 0 where
  pub edits : List (ℕ × Edit A)
  pub is_file : IsClerkFile text edits
  pub is_stopped : IsStoppedIn EDITS_CLERK edits before after number refusal

-- of edits, those before some one are made, and lead to a book; it finds no memory then, and is not refused for a
-- reason that is told whatever memory there is
pub record IsShortIn {A : Type 0} (clerk : ℕ) (edits : List (ℕ × Edit A)) (before after : Book A) : Type 0 where
  pub made : List (ℕ × Edit A)
  pub short : ℕ × Edit A
  pub rest : List (ℕ × Edit A)
  pub are_all : edits ≡ made ++ short ∷ rest
  pub are_made : AreMadeBy clerk made before after
  pub is_not_due : (due : Refusal) → IsRefusal after.now after.journal short.1 due → ¬ NeedsNoMemory due

-- they are those of a clerk's file with this text
pub record IsShortOf {A : Type 0} (text : List ℕ) (before after : Book A) : Type 0 where
  pub edits : List (ℕ × Edit A)
  pub is_file : IsClerkFile text edits
  pub is_short : IsShortIn EDITS_CLERK edits before after

-- a bad line is the first of the file, and nothing is made then; an edit that is refused is the first that is; memory
-- is refused while the file is read, and nothing is made, or for an edit of it
abbrev pub IsEditsFault : {A : Type 0} → List ℕ → Book A → Book A → EditsFault → Type 0
IsEditsFault text before after (Line number) = IsFirstBadLine text number × (after ≡ before)
IsEditsFault text before after (Refused number refusal) = IsStoppedOf text before after number refusal
IsEditsFault text before after NoMemory = (after ≡ before) ⊎ IsShortOf text before after
