-- Edits of a clerk's file that are made one after the other.
use Rattle.std.proofs.Common.{◌≡◌, ◌⊎◌, inl, inr, refl, sym, ap, ◌∙◌, subst, ℕ, suc, List, [], ◌∷◌, ◌++◌, map, take, drop}
use Rattle.std.proofs.Common.{append_assoc, append-nil, Result, Ok, Err}
use Rattle.std.proofs.lemmas.List.{map-append}
use Rattle.ring_edits.specs.declared.edit.Edit.{Edit}
use Rattle.fabric_core.specs.Journal.{JournalEntry, Book}
use Rattle.fabric_core.specs.declared.refusal.Refusal.{Refusal}
use Rattle.fabric_core.specs.declared.refusal.Refusal.TheVariants.{NoMemory}
use Rattle.fabric_core.specs.Refusals.{IsRefusal, NeedsNoMemory}
use Rattle.session_rooms.specs.ClerkEdits.{AreMadeBy, IsStoppedIn, IsShortIn}

module _ {A : Type 0} where
  -- none
  pub none_made : (clerk : ℕ) (book : Book A) → AreMadeBy clerk [] book book
  none_made clerk book = record {
    entries = [];
    journal = sym (append-nil book.journal);
    have_edits = refl;
    have_clerk = refl;
    opening = refl;
    city = refl;
  }

  -- and one more
  pub one_more : (clerk : ℕ) (edits : List (ℕ × Edit A)) (said : ℕ × Edit A) (before mid after : Book A) (entry : JournalEntry A)
      → AreMadeBy clerk edits before mid → after.journal ≡ mid.journal ++ entry ∷ [] → entry.edit ≡ said.1
      → entry.clerk ≡ clerk → after.opening ≡ mid.opening → after.city ≡ mid.city
      → AreMadeBy clerk (edits ++ said ∷ []) before after
  one_more clerk edits said before mid after entry made journal edit by opening city = record {
    entries = made.entries ++ entry ∷ [];
    journal = journal ∙ ap (λ l. l ++ entry ∷ []) made.journal ∙ append_assoc before.journal made.entries (entry ∷ []);
    have_edits = map-append (λ (e : JournalEntry A). e.edit) made.entries (entry ∷ [])
        ∙ ap (λ l. l ++ entry.edit ∷ []) made.have_edits
        ∙ ap (λ e. map (λ (r : ℕ × Edit A). r.1) edits ++ e ∷ []) edit
        ∙ sym (map-append (λ (r : ℕ × Edit A). r.1) edits (said ∷ []));
    have_clerk = map-append (λ (e : JournalEntry A). e.clerk) made.entries (entry ∷ [])
        ∙ ap (λ l. l ++ entry.clerk ∷ []) made.have_clerk
        ∙ ap (λ e. map (λ (r : ℕ × Edit A). clerk) edits ++ e ∷ []) by
        ∙ sym (map-append (λ (r : ℕ × Edit A). clerk) edits (said ∷ []));
    opening = opening ∙ made.opening;
    city = city ∙ made.city;
  }

-- what stops them: one that is refused
pub stopped : {A : Type 0} (clerk : ℕ) (edits : List (ℕ × Edit A)) (i : ℕ) (said : ℕ × Edit A) (before mid after : Book A)
    (refusal : Refusal) → edits ≡ take i edits ++ said ∷ drop (suc i) edits → AreMadeBy clerk (take i edits) before mid
    → after ≡ mid → IsRefusal mid.now mid.journal said.1 refusal ⊎ (refusal ≡ NoMemory)
    → IsStoppedIn clerk edits before after said.0 refusal ⊎ (refusal ≡ NoMemory)
stopped clerk edits i said before mid after refusal is made same (inl h) =
    inl (subst (λ book. IsStoppedIn clerk edits before book said.0 refusal) (sym same) (record {
      made = take i edits;
      stopped = said;
      rest = drop (suc i) edits;
      are_all = is;
      is_line = refl;
      are_made = made;
      is_refusal = h;
    }))
stopped clerk edits i said before mid after refusal is made same (inr h) = inr h

-- the error of an answer
abbrev error_or : {T E : Type 0} → E → Result T E → E
error_or default (Ok value) = default
error_or default (Err error) = error

-- and what stops them where memory is refused: nothing is due then that is told whatever memory there is
pub short : {A T : Type 0} (clerk : ℕ) (edits : List (ℕ × Edit A)) (i : ℕ) (said : ℕ × Edit A) (before mid after : Book A)
    (refusal : Refusal) → edits ≡ take i edits ++ said ∷ drop (suc i) edits → AreMadeBy clerk (take i edits) before mid
    → after ≡ mid
    → ((due : Refusal) → IsRefusal mid.now mid.journal said.1 due → NeedsNoMemory due
    → ◌≡◌ {A = Result T Refusal} (Err refusal) (Err due))
    → refusal ≡ NoMemory → IsShortIn clerk edits before after
short clerk edits i said before mid after refusal is made same exact none =
    subst (λ book. IsShortIn clerk edits before book) (sym same) (record {
      made = take i edits;
      short = said;
      rest = drop (suc i) edits;
      are_all = is;
      are_made = made;
      is_not_due = λ due h alone. subst NeedsNoMemory (sym (ap (error_or due) (exact due h alone)) ∙ none) alone;
    })
