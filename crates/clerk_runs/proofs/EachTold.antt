-- What the jobs of all clerks leave together.
use Rattle.std.proofs.Common.{◌≡◌, refl, sym, ap, subst, ◌∙◌, arith, ℕ, zero, suc, ◌+◌, Bool, false, List, [], ◌∷◌}
use Rattle.std.proofs.Common.{map, length}
use Rattle.std.specs.Prelude.{All}
use Rattle.std.specs.List.{AllZip, flat_map}
use Rattle.std.proofs.lemmas.List.Elements.{All-head, All-tail, All-same}
use Rattle.ring_edits.specs.declared.edit.Edit.{Edit}
use Rattle.entry_cards.specs.Cards.{IsClerk}
use Rattle.fabric_core.specs.Journal.{JournalEntry, Book, replay}
use Rattle.fabric_core.specs.EditResults.{IsLawful}
use Rattle.desk_lock.specs.Offices.{Origin, OfficeId, origin_of, CardState, ReceiptState, IsSheetOf, Agrees, HasMet}
use Rattle.desk_lock.specs.Offices.{behind, of_clerk, fresh_cards}
use Rattle.clerk_runs.specs.ClerkRuns.{Run, AreTold, AreEachTold, register_of}
use Rattle.clerk_runs.specs.own.Working.{run_at, IsWorked, AreMadeIn}
use Rattle.clerk_runs.proofs.Submitted.{behind_none}

-- as many cards as clerks
pub length_fresh : (A : Type 0) (before n : ℕ) → length (fresh_cards {A = A} before n) ≡ n
length_fresh A before zero = refl
length_fresh A before (suc n) = ap suc (length_fresh A (suc before) n)

module _ {A X : Type 0} (run : Run) (card : X → CardState A) (edits : X → List (ℕ × Edit A)) (refused : X
    → Bool) (lines : X → List ℕ)
    (receipts : X → List (ReceiptState A)) where
  -- a job that was done
  abbrev pub Works : X → X → Type 0
  Works old new = IsWorked run (card old) (edits old) (card new) (refused new) (lines new) (receipts new)

  -- one clerk's lines tell of his edits and of the entries that the journal has of him
  one_told : (journal : List (JournalEntry A)) (clerk : ℕ) (old new : X) → Works old new
      → card old ≡ record { clerk = clerk; made = []; met = [] }
      → refused new ≡ false → Agrees journal (card new) → HasMet journal (card new)
      → AreTold run journal clerk [] [] (edits old) (of_clerk clerk journal) (lines new)
  one_told journal clerk old new works fresh not_refused agrees met =
      let old_clerk : (card old).clerk ≡ clerk = ap (λ (c : CardState A). c.clerk) fresh in
      let said = works.said (ap (λ (c : CardState A). c.made) fresh) not_refused in
      let made : (card new).made ≡ of_clerk clerk journal = agrees ∙ ap (λ k. of_clerk k journal) (works.same_clerk ∙ old_clerk) in
      subst (λ made. AreTold run journal clerk [] [] (edits old) made (lines new)) made
      (subst (λ k. AreTold run journal k [] [] (edits old) (card new).made (lines new)) old_clerk (said.are_told journal met))

  -- and so of all clerks
  pub each_told : (journal : List (JournalEntry A)) (before n : ℕ) (olds news : List X) → AllZip Works olds news
      → map card olds ≡ fresh_cards before n → All (λ new. refused new ≡ false) news → All (Agrees journal) (map card news)
      → All (HasMet journal) (map card news) → AreEachTold run (before + 1) (map edits olds) journal (flat_map lines news)
  each_told journal before n [] [] zip fresh not_refused agree met = refl
  each_told journal before n [] (new ∷ news) zip fresh not_refused agree met = absurd zip
  each_told journal before n (old ∷ olds) [] zip fresh not_refused agree met = absurd zip
  each_told journal before zero (old ∷ olds) (new ∷ news) zip fresh not_refused agree met = absurd (cc fresh)
  each_told journal before (suc n) (old ∷ olds) (new ∷ news) zip fresh not_refused agree met =
      let first : card old ≡ record { clerk = suc before; made = []; met = [] } = cc fresh in
      let rest : map card olds ≡ fresh_cards (suc before) n = cc fresh in
      let told = one_told journal (suc before) old new zip.0 first (All-head (λ x. refused x ≡ false) new news not_refused)
      (All-head (Agrees journal) (card new) (map card news) agree) (All-head (HasMet journal) (card new) (map card news) met) in
      let others = each_told journal (suc before) n olds news zip.1 rest (All-tail (λ x. refused x ≡ false) new news not_refused)
      (All-tail (Agrees journal) (card new) (map card news) agree) (All-tail (HasMet journal) (card new) (map card news) met) in
      let next : suc before ≡ before + 1 = omega arith in (
        lines new,
        flat_map lines news,
        refl,
        subst (λ k. AreTold run journal k [] [] (edits old) (of_clerk k journal) (lines new)) next told,
        subst (λ k. AreEachTold run (k + 1) (map edits olds) journal (flat_map lines news)) next others,
      )

  -- ---- what the clerks of an office with no entry before lead to
  pub made_at : (office : OfficeId A) → run ≡ run_at office → office.origin.journal ≡ [] → (olds news : List X)
      → AllZip Works olds news
      → map card olds ≡ fresh_cards 0 run.clerks → All (λ new. refused new ≡ false) news → (book : Book A)
      → IsSheetOf office (map card news) book
      → IsLawful book.opening book.journal → replay book.opening book.journal ≡ book.now
      → AreMadeIn run (map edits olds) (register_of book) (flat_map lines news)
  made_at office at none olds news zip fresh not_refused book sheet lawful replays =
      let journal : List (JournalEntry A) = book.journal in
      let same : behind office.origin journal ≡ journal = behind_none office journal none in
      let opening : book.opening ≡ run.opening = sheet.of_origin.opening ∙ sym (ap (λ (r : Run). r.opening) at) in
      record {
        is_journal = record {
          lawful = subst (λ o. IsLawful o journal) opening lawful;
          of_clerks = subst (λ n. All (λ entry. IsClerk n entry.clerk) journal) (sym (ap (λ (r : Run). r.clerks) at))
              (All-same (λ (entry : JournalEntry A). IsClerk office.clerks entry.clerk) journal
              (behind office.origin journal) (sym same) sheet.of_clerks);
        };
        leads = sym replays ∙ ap (λ o. replay o journal) opening;
        are_told = each_told journal 0 run.clerks olds news zip fresh not_refused
            (subst (λ l. All (Agrees l) (map card news)) same sheet.agree)
            (subst (λ l. All (HasMet l) (map card news)) same sheet.met);
      }

-- the run of an office that is known
pub run_is : {A : Type 0} (office : OfficeId A) (clerks : ℕ) (book : Book A) → office.clerks ≡ clerks
    → office.origin ≡ origin_of book
    → record { clerks = clerks; opening = book.opening } ≡ run_at office
run_is {A} office clerks book count origin =
    let opening : office.origin.opening ≡ book.opening = ap (λ (o : Origin A). o.opening) origin in
    cc (count, opening)

pub origin_empty : {A : Type 0} (office : OfficeId A) (book : Book A) → office.origin ≡ origin_of book → book.journal ≡ []
    → office.origin.journal ≡ []
origin_empty {A} office book origin none = ap (λ (o : Origin A). o.journal) origin ∙ none

-- what the jobs of an office that is known leave
pub made_known : {A X : Type 0} (card : X → CardState A) (edits : X → List (ℕ × Edit A)) (refused : X
    → Bool) (lines : X → List ℕ)
    (receipts : X → List (ReceiptState A)) (office : OfficeId A) (clerks : List (List (ℕ × Edit A)))
    (fabric sheet : Book A) (jobs done : List X)
    (text : List ℕ) → office.clerks ≡ length clerks → office.origin ≡ origin_of fabric → fabric.journal ≡ []
    → AllZip (λ old new. IsWorked (run_at office) (card old) (edits old) (card new) (refused new) (lines new) (receipts new)) jobs done
    → map card jobs ≡ fresh_cards 0 (length clerks) → map edits jobs ≡ clerks → text ≡ flat_map lines done
    → All (λ new. refused new ≡ false) done → IsSheetOf office (map card done) sheet → IsLawful sheet.opening sheet.journal
    → replay sheet.opening sheet.journal ≡ sheet.now
    → AreMadeIn (record { clerks = length clerks; opening = fabric.opening }) clerks (register_of sheet) text
made_known card edits refused lines receipts office clerks fabric sheet jobs done text count origin none zip fresh all
    joined not_refused is_sheet
    lawful replays =
    let at = run_is office (length clerks) fabric count origin in
    let cards = fresh ∙ ap (λ n. fresh_cards 0 n) (sym count) in
    let made = made_at (run_at office) card edits refused lines receipts office refl
    (origin_empty office fabric origin none) jobs done zip cards
    not_refused sheet is_sheet lawful replays in
    subst (λ run. AreMadeIn run clerks (register_of sheet) text) (sym at)
    (subst (λ list. AreMadeIn (run_at office) list (register_of sheet) text) all
    (subst (λ t. AreMadeIn (run_at office) (map edits jobs) (register_of sheet) t) (sym joined) made))
