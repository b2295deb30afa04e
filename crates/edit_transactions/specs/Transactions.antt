-- Several edits as one: a transaction is made whole or not at all (this product's own).
use Rattle.std.specs.Prelude.{◌≡◌, ℕ, ◌+◌, List, [], ◌∷◌, ◌++◌, map, length}
use Rattle.std.specs.List.{AllByRecursion}
use Rattle.ring_edits.specs.declared.edit.Edit.{Edit}
use Rattle.fabric_core.specs.declared.refusal.Refusal.{Refusal}
use Rattle.fabric_core.specs.Journal.{State, JournalEntry, replay}
use Rattle.fabric_core.specs.EditResults.{AreLawfulFrom}
use Rattle.fabric_core.specs.Refusals.{IsRefusal}

module _ {A : Type 0} where
  -- the entries are those of these edits by this clerk, in order, numbered on from this number: each its edit's in the
  -- state that those before it lead to
  pub record IsTransaction (state : State) (number clerk : ℕ) (edits : List (Edit A))
      (entries : List (JournalEntry A)) : Type 0 where
    pub are_edits : map (λ entry. entry.edit) entries ≡ edits
    pub are_clerks : AllByRecursion (λ entry. entry.clerk ≡ clerk) entries
    pub are_lawful : AreLawfulFrom state number entries

  -- the first edit that is refused is the one at this place, from 1, for this reason: those before it can be made, and
  -- in the state that they lead to, after the journal and their entries, it is refused
  pub record IsFirstRefused (state : State) (journal : List (JournalEntry A)) (clerk : ℕ) (edits : List (Edit A))
      (place : ℕ) (refusal : Refusal) : Type 0 where
    pub before : List (Edit A)
    pub edit : Edit A
    pub behind : List (Edit A)
    pub are_all : edits ≡ before ++ edit ∷ behind
    pub is_place : place ≡ length before + 1
    pub made : List (JournalEntry A)
    pub are_made : IsTransaction state (length journal + 1) clerk before made
    pub is_refusal : IsRefusal (replay state made) (journal ++ made) edit refusal
