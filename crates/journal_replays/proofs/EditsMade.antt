-- Edits that are made one after the other.
use Rattle.std.proofs.Common.{◌≡◌, ◌⊎◌, inl, inr, refl, sym, ap, ◌∙◌, subst, ℕ, suc, List, [], ◌∷◌, ◌++◌, map, take, drop}
use Rattle.std.proofs.Common.{append_assoc, append-nil, Result, Ok, Err}
use Rattle.std.proofs.lemmas.List.{map-append}
use Rattle.journal_records.specs.declared.record.Record.{Record}
use Rattle.fabric_core.specs.Journal.{JournalEntry, Book}
use Rattle.fabric_core.specs.declared.refusal.Refusal.{Refusal}
use Rattle.fabric_core.specs.declared.refusal.Refusal.TheVariants.{NoMemory}
use Rattle.fabric_core.specs.Refusals.{IsRefusal, NeedsNoMemory}
use Rattle.journal_replays.specs.Replays.{AreMade, IsStoppedAt, IsShortIn}

module _ {A : Type 0} where
  -- none
  pub none_made : (book : Book A) → AreMade {A = A} [] book book
  none_made book = record {
    entries = [];
    journal = sym (append-nil book.journal);
    have_edits = refl;
    have_clerks = refl;
    opening = refl;
    city = refl;
  }

  -- and one more
  pub one_more : (records : List (Record A)) (said : Record A) (before mid after : Book A) (entry : JournalEntry A)
      → AreMade records before mid → after.journal ≡ mid.journal ++ entry ∷ [] → entry.edit ≡ said.edit
      → entry.clerk ≡ said.stamp.clerk → after.opening ≡ mid.opening → after.city ≡ mid.city
      → AreMade (records ++ said ∷ []) before after
  one_more records said before mid after entry made journal edit clerk opening city = record {
    entries = made.entries ++ entry ∷ [];
    journal = journal ∙ ap (λ l. l ++ entry ∷ []) made.journal ∙ append_assoc before.journal made.entries (entry ∷ []);
    have_edits = map-append (λ (e : JournalEntry A). e.edit) made.entries (entry ∷ [])
        ∙ ap (λ l. l ++ entry.edit ∷ []) made.have_edits
        ∙ ap (λ e. map (λ (r : Record A). r.edit) records ++ e ∷ []) edit
        ∙ sym (map-append (λ (r : Record A). r.edit) records (said ∷ []));
    have_clerks = map-append (λ (e : JournalEntry A). e.clerk) made.entries (entry ∷ [])
        ∙ ap (λ l. l ++ entry.clerk ∷ []) made.have_clerks
        ∙ ap (λ e. map (λ (r : Record A). r.stamp.clerk) records ++ e ∷ []) clerk
        ∙ sym (map-append (λ (r : Record A). r.stamp.clerk) records (said ∷ []));
    opening = opening ∙ made.opening;
    city = city ∙ made.city;
  }

-- what stops them: a record whose edit is refused
pub stopped : {A : Type 0} (records : List (Record A)) (i : ℕ) (said : Record A) (before mid after : Book A) (refusal : Refusal)
    → records ≡ take i records ++ said ∷ drop (suc i) records → AreMade (take i records) before mid → after ≡ mid
    → IsRefusal mid.now mid.journal said.edit refusal ⊎ (refusal ≡ NoMemory)
    → IsStoppedAt records before after said.stamp.number refusal ⊎ (refusal ≡ NoMemory)
stopped records i said before mid after refusal is made same (inl h) =
    inl (subst (λ book. IsStoppedAt records before book said.stamp.number refusal) (sym same) (record {
      made = take i records;
      stopped = said;
      rest = drop (suc i) records;
      are_all = is;
      is_number = refl;
      are_made = made;
      is_refusal = h;
    }))
stopped records i said before mid after refusal is made same (inr h) = inr h

-- the error of an answer
abbrev error_or : {T E : Type 0} → E → Result T E → E
error_or default (Ok value) = default
error_or default (Err error) = error

-- and what stops them where memory is refused: nothing is due then that is told whatever memory there is
pub short : {A T : Type 0} (records : List (Record A)) (i : ℕ) (said : Record A) (before mid after : Book A) (refusal : Refusal)
    → records ≡ take i records ++ said ∷ drop (suc i) records → AreMade (take i records) before mid → after ≡ mid
    → ((due : Refusal) → IsRefusal mid.now mid.journal said.edit due → NeedsNoMemory due
    → ◌≡◌ {A = Result T Refusal} (Err refusal) (Err due))
    → refusal ≡ NoMemory → IsShortIn records before after
short records i said before mid after refusal is made same exact none =
    subst (λ book. IsShortIn records before book) (sym same) (record {
      made = take i records;
      short = said;
      rest = drop (suc i) records;
      are_all = is;
      are_made = made;
      is_not_due = λ due h alone. subst NeedsNoMemory (sym (ap (error_or due) (exact due h alone)) ∙ none) alone;
    })
