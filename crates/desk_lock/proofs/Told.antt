-- What notices and receipts tell.
use Rattle.std.proofs.Common.{◌≡◌, ◌≢◌, ◌⊎◌, inl, inr, Some, None, Option, Ok, Err, Result, true, ◌+◌}
use Rattle.std.proofs.Common.{ℕ, ◌≤◌, max, List, [], ◌∷◌, ◌++◌, take, drop, length, refl, ap, sym, ◌∙◌, subst, arith, length-append}
use Rattle.std.specs.Prelude.{is_some, IfSome, IfNone, IfOk, IfErr, OnErr, IsErrAnd, IsErrOf}
use mathlib.Core.List.{IsPrefix}
use Rattle.std.proofs.lemmas.List.Elements.{All-same}
use Rattle.entry_cards.specs.Cards.{IsClerk}
use Rattle.entry_history.proofs.Beginnings.{begins_itself, begins_shorter}
use Rattle.fabric_core.specs.EditResults.{IsLawful}
use Rattle.ring_edits.specs.declared.edit.Edit.{Edit}
use Rattle.fabric_core.specs.declared.refusal.Refusal.{Refusal}
use Rattle.fabric_core.specs.declared.refusal.Refusal.TheVariants.{NoMemory}
use Rattle.fabric_core.specs.Journal.{State, JournalEntry, replay}
use Rattle.fabric_core.specs.Refusals.{IsRefusal, NeedsNoMemory}
use Rattle.desk_lock.specs.Offices.{Origin, OfficeId, CardState, DeskState, ReceiptState, EndsWith, IsSometime, IsRefusedWhenMet}
use Rattle.desk_lock.specs.Offices.{IsOfOrigin, AreOfClerks, behind, journal_met, with_made, with_met, IsDueWhenMet}
use Rattle.desk_lock.specs.own.Keeping.{told_by}
use Rattle.desk_lock.proofs.Behind.{behind_it, more_behind, still_begins}
use Rattle.desk_lock.proofs.Clerks.{is_sometime_after}
use Rattle.desk_lock.proofs.FirstEntries.{first_lawful, first_has_origin, first_of_clerks}

-- the reason of an answer that is one
abbrev error_or : {B : Type 0} → Refusal → Result B Refusal → Refusal
error_or none (Ok answer) = none
error_or none (Err refusal) = refusal

module _ {A : Type 0} where
  -- ---- a notice that may be there
  -- where it is there, the whole journal is published
  pub whole_shown : (notice : Option (List (JournalEntry A))) (journal published : List (JournalEntry A))
      → IfSome notice (λ told. told ≡ journal) → IfSome notice (λ told. published ≡ told) → is_some notice ≡ true
      → published ≡ journal
  whole_shown None journal published whole shown is = absurd (cc is)
  whole_shown (Some told) journal published whole shown is = shown ∙ whole

  -- and it is told
  pub shown_told : (notice : Option (List (JournalEntry A))) (published : List (JournalEntry A))
      → IfSome notice (λ told. published ≡ told) → is_some notice ≡ true → told_by notice ≡ published
  shown_told None published shown is = absurd (cc is)
  shown_told (Some told) published shown is = sym shown

  -- where it is not, what is published stays
  pub shown_stays : (notice : Option (List (JournalEntry A))) (old new : DeskState A) → IfNone notice (new ≡ old)
      → is_some notice ≢ true → new.published ≡ old.published
  shown_stays None old new same not = ap (λ (desk : DeskState A). desk.published) same
  shown_stays (Some told) old new same not = absurd (not refl)

  -- and nothing is told
  pub none_told : (notice : Option (List (JournalEntry A))) → is_some notice ≢ true → told_by notice ≡ []
  none_told None not = refl
  none_told (Some told) not = absurd (not refl)

  -- ---- the answer to a submit
  -- one entry more, under the next number
  ends_with : (entry : JournalEntry A) (before whole : List (JournalEntry A)) → entry.number ≡ length before + 1
      → whole ≡ before ++ entry ∷ [] → EndsWith entry entry.number whole
  ends_with entry before whole number is = record {
    before = before;
    ends = is;
    count = omega (arith, ap length is, length-append before (entry ∷ []), number);
  }

  -- a receipt that tells the whole journal ends with its entry
  pub receipt_ends : (answer : Result (ReceiptState A) Refusal) (before : List (JournalEntry A)) (desk : DeskState A)
      → IfOk answer (λ receipt. receipt.entry.number ≡ length before + 1)
      → IfOk answer (λ receipt. desk.book.journal ≡ before ++ receipt.entry ∷ [])
      → IfOk answer (λ receipt. receipt.published ≡ true → desk.published ≡ desk.book.journal)
      → IfOk answer (λ receipt. receipt.published ≡ true → receipt.told ≡ desk.published)
      → IfOk answer (λ receipt. receipt.published ≡ true → EndsWith receipt.entry receipt.entry.number receipt.told)
  receipt_ends (Err refusal) before desk number journal published told = tt
  receipt_ends (Ok receipt) before desk number journal published told = λ is.
      ends_with receipt.entry before receipt.told number (told is ∙ (published is ∙ journal))

  -- what a receipt tells that tells the whole journal
  pub receipt_is_sometime : (office : OfficeId A) (card : CardState A) (answer : Result (ReceiptState A) Refusal) (desk : DeskState A)
      → IfOk answer (λ receipt. IsSometime office card desk.book.journal)
      → IfOk answer (λ receipt. receipt.published ≡ true → desk.published ≡ desk.book.journal)
      → IfOk answer (λ receipt. receipt.published ≡ true → receipt.told ≡ desk.published)
      → IfOk answer (λ receipt. receipt.published ≡ true → IsSometime office card receipt.told)
  receipt_is_sometime office card (Err refusal) desk after published told = tt
  receipt_is_sometime office card (Ok receipt) desk after published told =
      λ is. subst (IsSometime office card) (sym (told is ∙ published is)) after

  -- ---- what a card has met
  -- a card that has met the whole journal, and is else as it was
  is_sometime_met : (office : OfficeId A) (card after : CardState A) (journal : List (JournalEntry A)) → IsSometime office card journal
      → after ≡ with_met card after.met → journal_met office after ≡ journal → IsSometime office after journal
  is_sometime_met office card after journal sometime same met = subst (λ c. IsSometime office c journal) (sym same) record {
    lawful = sometime.lawful;
    begins = sometime.begins;
    of_clerks = sometime.of_clerks;
    agrees = sometime.agrees;
    met = subst (IsPrefix after.met) (sym (behind_it office.origin journal after.met (sym met))) (begins_itself after.met);
  }

  -- what is refused after the desk's journal is refused after that which the card has met then
  pub refused_when_met : (office : OfficeId A) {B : Type 0} (card after : CardState A) (edit : Edit A) (answer : Result B Refusal)
      (old new : DeskState A) → IsSometime office card old.book.journal
      → replay office.origin.opening old.book.journal ≡ old.book.now → journal_met office after ≡ new.book.journal
      → OnErr answer ((new ≡ old) × (after ≡ with_met card after.met))
      → IfErr answer (λ refusal. IsRefusal old.book.now old.book.journal edit refusal ⊎ (refusal ≡ NoMemory))
      → IfErr answer (λ refusal. IsRefusedWhenMet office after edit refusal ⊎ (refusal ≡ NoMemory))
  refused_when_met office card after edit (Ok receipt) old new sometime replays met same is = tt
  refused_when_met office card after edit (Err refusal) old new sometime replays met same is =
      let journal : List (JournalEntry A) = old.book.journal in
      let met_it : journal_met office after ≡ journal = met ∙ ap (λ (desk : DeskState A). desk.book.journal) same.0 in
      elim is [
        | inl due ↦ inl (record {
          sometime = subst (IsSometime office after) (sym met_it)
              (is_sometime_met office card after journal sometime same.1 met_it);
          is_refusal = subst (λ l. IsRefusal (replay office.origin.opening l) l edit refusal) (sym met_it)
              (subst (λ (state : State). IsRefusal state journal edit refusal) (sym replays) due);
        })
        | inr none ↦ inr none
      ]

  -- what is due after the journal that the card has met then was due after the desk's
  due_at_desk : (office : OfficeId A) (card after : CardState A) (edit : Edit A) (old new : DeskState A) (due : Refusal)
      → replay office.origin.opening old.book.journal ≡ old.book.now → journal_met office after ≡ new.book.journal
      → (new ≡ old) × (after ≡ with_met card after.met) → IsDueWhenMet office after edit due
      → IsRefusal old.book.now old.book.journal edit due
  due_at_desk office card after edit old new due replays met same is =
      let met_it : journal_met office after ≡ old.book.journal = met ∙ ap (λ (desk : DeskState A). desk.book.journal) same.0 in
      subst (λ (state : State). IsRefusal state old.book.journal edit due) replays
      (subst (λ l. IsRefusal (replay office.origin.opening l) l edit due) met_it is)

  -- so it is told, or no memory
  pub refuses_when_met : (office : OfficeId A) {B : Type 0} (card after : CardState A) (edit : Edit A) (answer : Result B Refusal)
      (old new : DeskState A) → replay office.origin.opening old.book.journal ≡ old.book.now
      → journal_met office after ≡ new.book.journal → OnErr answer ((new ≡ old) × (after ≡ with_met card after.met))
      → ((due : Refusal) → IsRefusal old.book.now old.book.journal edit due → IsErrAnd answer (λ e. (e ≡ due) ⊎ (e ≡ NoMemory)))
      → IfErr answer (λ refusal. (due : Refusal) → IsDueWhenMet office after edit due → (refusal ≡ due) ⊎ (refusal ≡ NoMemory))
  refuses_when_met office card after edit (Ok receipt) old new replays met same refuses = tt
  refuses_when_met office card after edit (Err refusal) old new replays met same refuses =
      λ due is. refuses due (due_at_desk office card after edit old new due replays met same is)

  -- and where it needs no memory it is told whatever memory there is
  pub exact_when_met : (office : OfficeId A) {B : Type 0} (card after : CardState A) (edit : Edit A) (answer : Result B Refusal)
      (old new : DeskState A) → replay office.origin.opening old.book.journal ≡ old.book.now
      → journal_met office after ≡ new.book.journal → OnErr answer ((new ≡ old) × (after ≡ with_met card after.met))
      → ((due : Refusal) → IsRefusal old.book.now old.book.journal edit due → NeedsNoMemory due → IsErrOf answer due)
      → IfErr answer (λ refusal. (due : Refusal) → IsDueWhenMet office after edit due → NeedsNoMemory due → refusal ≡ due)
  exact_when_met office card after edit (Ok receipt) old new replays met same exact = tt
  exact_when_met office card after edit (Err refusal) old new replays met same exact =
      λ due is alone. ap (error_or due) (exact due (due_at_desk office card after edit old new due replays met same is) alone)

  -- an answer that has an entry: a receipt, or the entry itself
  module _ {B : Type 0} (entry_of : B → JournalEntry A) where
    -- what a card had met begins what it has met after the edit
    pub met_on : (office : OfficeId A) (card after : CardState A) (answer : Result B Refusal) (old new : DeskState A)
        → IsSometime office card old.book.journal → journal_met office after ≡ new.book.journal
        → IfOk answer (λ accepted. new.book.journal ≡ old.book.journal ++ entry_of accepted ∷ [])
        → OnErr answer ((new ≡ old) × (after ≡ with_met card after.met)) → IsPrefix card.met after.met
    met_on office card after (Ok accepted) old new sometime met journal same =
        let origin : Origin A = office.origin in
        let entry : JournalEntry A = entry_of accepted in
        let is : behind origin new.book.journal ≡ after.met = behind_it origin new.book.journal after.met (sym met) in
        let more : behind origin new.book.journal ≡ behind origin old.book.journal ++ entry ∷ [] =
        ap (drop (length origin.journal)) journal ∙ more_behind origin.journal old.book.journal (entry ∷ []) sometime.begins in
        subst (IsPrefix card.met) (sym more ∙ is) (still_begins card.met (behind origin old.book.journal) (entry ∷ []) sometime.met)
    met_on office card after (Err refusal) old new sometime met journal same =
        let origin : Origin A = office.origin in
        let is : behind origin new.book.journal ≡ after.met = behind_it origin new.book.journal after.met (sym met) in
        let stays : behind origin new.book.journal ≡ behind origin old.book.journal =
        ap (λ (desk : DeskState A). behind origin desk.book.journal) same.0 in
        subst (IsPrefix card.met) (sym stays ∙ is) sometime.met

    -- the journal that a card has met ends with the edit's entry
    pub met_ends : (office : OfficeId A) (after : CardState A) (answer : Result B Refusal) (before : List (JournalEntry A))
        (new : DeskState A) → journal_met office after ≡ new.book.journal
        → IfOk answer (λ accepted. (entry_of accepted).number ≡ length before + 1)
        → IfOk answer (λ accepted. new.book.journal ≡ before ++ entry_of accepted ∷ [])
        → IfOk answer (λ accepted. EndsWith (entry_of accepted) (entry_of accepted).number (journal_met office after))
    met_ends office after (Err refusal) before new met number journal = tt
    met_ends office after (Ok accepted) before new met number journal =
        ends_with (entry_of accepted) before (journal_met office after) number (met ∙ journal)

    -- and it is one of the office then
    pub met_is_sometime : (office : OfficeId A) (after : CardState A) (answer : Result B Refusal)
        (new : DeskState A) → journal_met office after ≡ new.book.journal
        → IfOk answer (λ accepted. IsSometime office after new.book.journal)
        → IfOk answer (λ accepted. IsSometime office after (journal_met office after))
    met_is_sometime office after (Err refusal) new met is = tt
    met_is_sometime office after (Ok accepted) new met is = subst (IsSometime office after) (sym met) is

  -- and so where an edit is entered that is not published yet
  pub entered_is_sometime : (office : OfficeId A) (card after : CardState A) (answer : Result (JournalEntry A) Refusal)
      (old new : DeskState A) → journal_met office after ≡ new.book.journal → IsSometime office card old.book.journal
      → IfOk answer (λ entry. entry.clerk ≡ card.clerk) → IfOk answer (λ entry. new.book.journal ≡ old.book.journal ++ entry ∷ [])
      → IfOk answer (λ entry. after ≡ with_made card entry after.met) → IsLawful new.book.opening new.book.journal
      → IsOfOrigin office.origin new.book → new.book.journal ≡ office.origin.journal ++ new.entries
      → AreOfClerks office.clerks new.entries → IfOk answer (λ entry. IsSometime office after (journal_met office after))
  entered_is_sometime office card after (Err refusal) old new met sometime clerk journal made lawful of whole of_clerks = tt
  entered_is_sometime office card after (Ok entry) old new met sometime clerk journal made lawful of whole of_clerks =
      subst (IsSometime office after) (sym met) (subst (λ c. IsSometime office c new.book.journal) (sym made)
      (is_sometime_after office card old.book.journal entry new.book new.entries after.met met sometime clerk journal lawful of whole
      of_clerks))

  -- ---- a notice of a journal's first entries
  pub told_lawful : (office : OfficeId A) (notice : Option (List (JournalEntry A))) (n : ℕ) (desk : DeskState A)
      → IfSome notice (λ told. told ≡ take n desk.book.journal) → IsLawful desk.book.opening desk.book.journal
      → IsOfOrigin office.origin desk.book → IfSome notice (IsLawful office.origin.opening)
  told_lawful office None n desk first lawful of = tt
  told_lawful office (Some told) n desk first lawful of = first_lawful office.origin desk.book n told first lawful of

  pub told_of_clerks : (office : OfficeId A) (notice : Option (List (JournalEntry A))) (n : ℕ) (desk : DeskState A)
      → IfSome notice (λ told. told ≡ take (max n (length desk.published)) desk.book.journal)
      → IsOfOrigin office.origin desk.book → IsPrefix office.origin.journal desk.published
      → desk.book.journal ≡ office.origin.journal ++ desk.entries → AreOfClerks office.clerks desk.entries
      → IfSome notice (λ told. AreOfClerks office.clerks (behind office.origin told))
  told_of_clerks office None n desk first of shows whole of_clerks = tt
  told_of_clerks office (Some told) n desk first of shows whole of_clerks =
      let origin : Origin A = office.origin in
      let P = λ (entry : JournalEntry A). IsClerk office.clerks entry.clerk in
      let long : length origin.journal ≤ max n (length desk.published) =
      omega (arith, begins_shorter origin.journal desk.published shows) in
      first_of_clerks origin desk.book (max n (length desk.published)) told first office.clerks
      (All-same P (behind origin desk.book.journal) desk.entries (behind_it origin desk.book.journal desk.entries whole) of_clerks)
      (first_has_origin origin desk.book (max n (length desk.published)) told first of long)
