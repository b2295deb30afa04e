-- A clerk's edits, submitted one after the other.
use Rattle.std.proofs.Common.{◌≡◌, ◌⊎◌, inl, inr, refl, sym, ap, subst, ◌∙◌, ℕ, List, [], ◌∷◌, ◌++◌, map}
use Rattle.std.proofs.Common.{drop, length, append_assoc, append-nil}
use Rattle.std.specs.Prelude.{All}
use Rattle.std.proofs.lemmas.List.{map-append}
use Rattle.std.proofs.lemmas.List.Elements.{All-nil, All-push, All-same}
use mathlib.Core.List.{IsPrefix}
use Rattle.entry_history.proofs.Beginnings.{begins_whole}
use Rattle.ring_edits.specs.declared.edit.Edit.{Edit}
use Rattle.entry_cards.specs.Cards.{IsClerk}
use Rattle.fabric_core.specs.declared.refusal.Refusal.{Refusal}
use Rattle.fabric_core.specs.declared.refusal.Refusal.TheVariants.{NoMemory}
use Rattle.fabric_core.specs.Journal.{JournalEntry, replay}
use Rattle.fabric_core.specs.Refusals.{IsRefusal, NeedsNoMemory}
use Rattle.desk_lock.specs.Offices.{OfficeId, CardState, ReceiptState, EndsWith, IsRefusedWhenMet, IsSometime, behind}
use Rattle.desk_lock.specs.Offices.{of_clerk, journal_met, with_met, IsDueWhenMet}
use Rattle.clerk_runs.specs.ClerkLines.{ok_line, refused_line}
use Rattle.clerk_runs.specs.ClerkRuns.{Run, IsRefusedFor, AreTold}
use Rattle.clerk_runs.specs.own.Working.{run_at, Tells, IsAccepted, IsRefused, HasSaid}

module _ {A : Type 0} where
  -- ---- an office whose fabric was handed in with no entry
  -- all entries stand behind none
  pub behind_none : (office : OfficeId A) (journal : List (JournalEntry A)) → office.origin.journal ≡ []
      → behind office.origin journal ≡ journal
  behind_none office journal none = ap (λ (l : List (JournalEntry A)). drop (length l) journal) none

  -- what a card is refused is due after the journal that it has met then, or memory ran out where nothing is due that
  -- needs none
  pub refused_is_due : (office : OfficeId A) (card after : CardState A) (edit : Edit A) (refusal : Refusal) → office.origin.journal ≡ []
      → after ≡ with_met card after.met → IsRefusedWhenMet office after edit refusal ⊎ (refusal ≡ NoMemory)
      → ((due : Refusal) → IsDueWhenMet office after edit due → NeedsNoMemory due → refusal ≡ due)
      → IsRefusedFor (run_at office) after.met card.clerk card.made edit refusal
  refused_is_due office card after edit refusal none same (inl is) exact =
      let journal : List (JournalEntry A) = after.met in
      let all : journal_met office after ≡ journal = ap (λ l. l ++ journal) none in
      let sometime : IsSometime office after journal = subst (IsSometime office after) all is.sometime in
      let all_behind = behind_none office journal none in
      let his : of_clerk after.clerk journal ≡ after.made = sym (rw all_behind at sometime.agrees) in
      inl (record {
        is_journal = record {
          lawful = sometime.lawful;
          of_clerks = All-same (λ (entry : JournalEntry A). IsClerk office.clerks entry.clerk) journal
              (behind office.origin journal) (sym all_behind) sometime.of_clerks;
        };
        has_made = subst (λ (c : CardState A). of_clerk c.clerk journal ≡ c.made) same his;
        is_refusal = subst (λ l. IsRefusal (replay office.origin.opening l) l edit refusal) all is.is_refusal;
      })
  refused_is_due office card after edit refusal none same (inr is) exact =
      let all : journal_met office after ≡ after.met = ap (λ l. l ++ after.met) none in
      inr (
        is,
        λ due is_due alone. subst NeedsNoMemory
            (sym (exact due (subst (λ l. IsRefusal (replay office.origin.opening l) l edit due) (sym all) is_due) alone) ∙ is) alone,
      )

  -- an accepted edit's entry ends what the card has met then
  pub ends_met : (office : OfficeId A) (after : CardState A) (entry : JournalEntry A) → office.origin.journal ≡ []
      → EndsWith entry entry.number (journal_met office after) → EndsWith entry entry.number after.met
  ends_met office after entry none ends = subst (EndsWith entry entry.number) (ap (λ l. l ++ after.met) none) ends

  -- what may be told behind a beginning may be told behind nothing
  told_from_nothing : (run : Run) (whole : List (JournalEntry A)) (clerk : ℕ) (made met : List (JournalEntry A))
      (edits : List (ℕ × Edit A)) (entries : List (JournalEntry A)) (text : List ℕ)
      → AreTold run whole clerk made met edits entries text → AreTold run whole clerk made [] edits entries text
  told_from_nothing run whole clerk made met [] entries text told = told
  told_from_nothing run whole clerk made met (first ∷ rest) entries text told = (told.0, (told.0, refl), told.2, told.3)

  -- ---- what is said so far
  -- the edits that are left may be told behind those that were, in each journal that begins with what the card has met
  pub record HaveSaid (run : Run) (met : List (JournalEntry A)) (clerk : ℕ) (all left : List (ℕ × Edit A))
      (made : List (JournalEntry A)) (lines : List ℕ) (receipts : List (ReceiptState A)) : Type 0 where
    pub adds : (whole : List (JournalEntry A)) → IsPrefix met whole → (entries : List (JournalEntry A)) (text : List ℕ)
        → AreTold run whole clerk made met left entries text → AreTold run whole clerk [] [] all (made ++ entries) (lines ++ text)
    pub are_all : made ≡ map (λ receipt. receipt.entry) receipts
    pub tell : All Tells receipts

  -- the clerk's number, in other words
  pub still_his : (run : Run) (met : List (JournalEntry A)) (clerk other : ℕ) (all left : List (ℕ × Edit A))
      (made : List (JournalEntry A)) (lines : List ℕ) (receipts : List (ReceiptState A)) → clerk ≡ other
      → HaveSaid run met clerk all left made lines receipts → HaveSaid run met other all left made lines receipts
  still_his run met clerk other all left made lines receipts same h =
      subst (λ k. HaveSaid run met k all left made lines receipts) same h

  -- none is told
  pub none_said : (run : Run) (met : List (JournalEntry A)) (clerk : ℕ) (all : List (ℕ × Edit A))
      (made : List (JournalEntry A)) (lines : List ℕ) (receipts : List (ReceiptState A)) → made ≡ [] → lines ≡ [] → receipts ≡ []
      → HaveSaid run met clerk all all made lines receipts
  none_said run met clerk all made lines receipts none no_lines no_receipts = rw (none, no_lines, no_receipts) (record {
    adds = λ whole begins entries text told. told_from_nothing run whole clerk [] met all entries text told;
    are_all = refl;
    tell = All-nil Tells;
  })

  -- one edit more is accepted
  pub accepted_more : (run : Run) (card after : CardState A) (all left : List (ℕ × Edit A)) (told : ℕ × Edit A)
      (lines lines_after : List ℕ)
      (receipts receipts_after : List (ReceiptState A)) → HaveSaid run card.met card.clerk all (told ∷ left) card.made lines receipts
      → IsAccepted card told after lines lines_after receipts receipts_after
      → HaveSaid run after.met card.clerk all left after.made lines_after receipts_after
  accepted_more run card after all left told lines lines_after receipts receipts_after h is = record {
    adds = λ whole begins entries text rest.
        let line = ok_line card.clerk told.0 is.receipt.entry.number in
        let more : AreTold run whole card.clerk (card.made ++ is.receipt.entry ∷ []) after.met left entries text = rw is.made at rest in
        rw (is.made, is.line, append_assoc card.made (is.receipt.entry ∷ []) entries, append_assoc lines line text)
        (h.adds whole (begins_whole card.met after.met whole is.met begins) (is.receipt.entry ∷ entries) (line ++ text)
        (after.met, is.met, begins, inl (is.receipt.entry, entries, text, refl, is.has_edit, is.ends, refl, more)));
    are_all = is.made
        ∙ (ap (λ made. made ++ is.receipt.entry ∷ []) h.are_all
        ∙ (sym (map-append (λ (receipt : ReceiptState A). receipt.entry) receipts (is.receipt ∷ []))
        ∙ ap (map (λ (receipt : ReceiptState A). receipt.entry)) (sym is.kept)));
    tell = All-same Tells receipts_after (receipts ++ is.receipt ∷ []) is.kept (All-push Tells receipts is.receipt h.tell is.tells);
  }

  -- one edit more is refused
  pub refused_more : (run : Run) (card after : CardState A) (all left : List (ℕ × Edit A)) (told : ℕ × Edit A)
      (lines lines_after : List ℕ)
      (receipts receipts_after : List (ReceiptState A)) → HaveSaid run card.met card.clerk all (told ∷ left) card.made lines receipts
      → IsRefused run card told after lines lines_after receipts receipts_after
      → HaveSaid run after.met card.clerk all left after.made lines_after receipts_after
  refused_more run card after all left told lines lines_after receipts receipts_after h is = record {
    adds = λ whole begins entries text rest.
        let line = refused_line card.clerk told.0 is.refusal in
        let more : AreTold run whole card.clerk card.made after.met left entries text = rw is.made at rest in
        rw (is.made, is.line, append_assoc lines line text)
        (h.adds whole (begins_whole card.met after.met whole is.met begins) entries (line ++ text)
        (after.met, is.met, begins, inr (is.refusal, text, is.is_due, refl, more)));
    are_all = is.made ∙ (h.are_all ∙ ap (map (λ (receipt : ReceiptState A). receipt.entry)) (sym is.kept));
    tell = All-same Tells receipts_after receipts is.kept h.tell;
  }

  pub one_more : (run : Run) (card after : CardState A) (all left : List (ℕ × Edit A)) (told : ℕ × Edit A)
      (lines lines_after : List ℕ)
      (receipts receipts_after : List (ReceiptState A)) → HaveSaid run card.met card.clerk all (told ∷ left) card.made lines receipts
      → IsAccepted card told after lines lines_after receipts receipts_after
      ⊎ IsRefused run card told after lines lines_after receipts receipts_after
      → HaveSaid run after.met card.clerk all left after.made lines_after receipts_after
  one_more run card after all left told lines lines_after receipts receipts_after h (inl is) =
      accepted_more run card after all left told lines lines_after receipts receipts_after h is
  one_more run card after all left told lines lines_after receipts receipts_after h (inr is) =
      refused_more run card after all left told lines lines_after receipts receipts_after h is

  -- all are told
  pub all_said : (run : Run) (met : List (JournalEntry A)) (clerk : ℕ) (all : List (ℕ × Edit A)) (made : List (JournalEntry A))
      (lines : List ℕ) (receipts : List (ReceiptState A)) → HaveSaid run met clerk all [] made lines receipts
      → HasSaid run met clerk all made lines receipts
  all_said run met clerk all made lines receipts h = record {
    are_told = λ whole begins. rw (append-nil made, append-nil lines) at (h.adds whole begins [] [] (refl, refl));
    are_all = h.are_all;
    tell = h.tell;
  }
