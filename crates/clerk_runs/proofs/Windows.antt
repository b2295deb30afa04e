-- What a window has seen that learnt every receipt: it begins with the journal.
use Rattle.std.proofs.Common.{◌≡◌, inl, inr, get_or, refl, sym, ap, subst, ◌∙◌, arith, ℕ, zero, suc, ◌+◌, ◌<◌}
use Rattle.std.proofs.Common.{◌≤◌, nat_eq, Bool, true, false, cond, List, [], ◌∷◌, ◌++◌, map, length, append_assoc}
use Rattle.std.proofs.Common.{append-nil, length-append}
use Rattle.std.specs.Prelude.{All}
use Rattle.std.specs.List.{AllZip}
use Rattle.std.proofs.lemmas.Bool.Decides.{nat_tests}
use Rattle.std.proofs.lemmas.Bool.{cases_eq}
use Rattle.std.proofs.lemmas.List.Elements.{All-nil, All-cons, All-head, All-tail, All-same, All-map}
use mathlib.Core.List.{IsPrefix}
use Rattle.entry_history.proofs.Beginnings.{begins_whole, begins_longer, is_whole}
use Rattle.ring_edits.specs.declared.edit.Edit.{Edit}
use Rattle.entry_cards.specs.Cards.{IsClerk}
use Rattle.fabric_core.specs.Journal.{State, JournalEntry, Book, after_entry}
use Rattle.fabric_core.specs.EditResults.{IsLawful, AreLawfulFrom}
use Rattle.desk_lock.specs.Offices.{OfficeId, CardState, ReceiptState, IsSheetOf, Agrees, behind, of_clerk, fresh_cards}
use Rattle.clerk_runs.specs.ClerkRuns.{Run}
use Rattle.clerk_runs.specs.own.Working.{run_at, Tells, IsWorked}
use Rattle.clerk_runs.specs.own.Windows.{IsLearnt, Stands}
use Rattle.clerk_runs.proofs.Submitted.{behind_none}

own_number : (k : ℕ) → nat_eq k k ≡ true
own_number k = grind (arith, nat_tests)

module _ {A : Type 0} where
  -- what is learnt stays so while the window sees more
  pub still_learnt : (seen later : List (JournalEntry A)) → IsPrefix seen later → (receipt : ReceiptState A) → IsLearnt seen receipt
      → IsLearnt later receipt
  still_learnt seen later p receipt h = record {
    published = h.published;
    begins = begins_whole receipt.told seen later h.begins p;
  }

  -- the entry of a receipt that is learnt stands in what was seen
  stands : {seen : List (JournalEntry A)} (receipt : ReceiptState A) → Tells receipt → IsLearnt seen receipt
      → Stands seen receipt.entry
  stands {seen} receipt tells is = record { told = receipt.told; ends = tells is.published; begins = is.begins }

  -- ---- the journal's entries, one after the other
  -- the next entry, if it stands in what was seen, is the next that was seen
  next_seen : (seen front : List (JournalEntry A)) (entry : JournalEntry A) → entry.number ≡ length front + 1 → IsPrefix front seen
      → Stands seen entry → IsPrefix (front ++ entry ∷ []) seen
  next_seen seen front entry number begins s =
      let before : List (JournalEntry A) = s.ends.before in
      let same_length : length front ≡ length before =
      omega (arith, ap length s.ends.ends, length-append before (entry ∷ []), s.ends.count, number) in
      let before_begins : IsPrefix before seen = begins_whole before s.told seen (entry ∷ [], sym s.ends.ends) s.begins in
      let shorter = begins_longer front before seen begins before_begins (omega (arith, same_length)) in
      let same : front ≡ before = is_whole front before shorter (omega (arith, same_length)) in
      subst (λ l. IsPrefix l seen) (s.ends.ends ∙ ap (λ l. l ++ entry ∷ []) (sym same)) s.begins

  all_seen : (seen : List (JournalEntry A)) (state : State) (front rest : List (JournalEntry A))
      → AreLawfulFrom state (length front + 1) rest
      → IsPrefix front seen → All (Stands seen) rest → IsPrefix (front ++ rest) seen
  all_seen seen state front [] lawful begins stand = subst (λ l. IsPrefix l seen) (sym (append-nil front)) begins
  all_seen seen state front (entry ∷ rest) lawful begins stand =
      let next = next_seen seen front entry lawful.0 begins (All-head (Stands seen) entry rest stand) in
      let number : length front + 1 + 1 ≡ length (front ++ entry ∷ []) + 1 = omega (arith, length-append front (entry ∷ [])) in
      subst (λ l. IsPrefix l seen) (append_assoc front (entry ∷ []) rest)
      (all_seen seen (after_entry state entry) (front ++ entry ∷ []) rest
      (subst (λ n. AreLawfulFrom (after_entry state entry) n rest) number lawful.2) next (All-tail (Stands seen) entry rest stand))

  -- ---- the entries of each clerk
  of_rest : (P : JournalEntry A → Type 0) (is_his : Bool) (entry : JournalEntry A) (rest : List (JournalEntry A))
      → All P (cond is_his (entry ∷ rest) rest) → All P rest
  of_rest P true entry rest h = All-tail P entry rest h
  of_rest P false entry rest h = h

  of_first : (P : JournalEntry A → Type 0) (is_his : Bool) (entry : JournalEntry A) (rest : List (JournalEntry A)) → is_his ≡ true
      → All P (cond is_his (entry ∷ rest) rest) → P entry
  of_first P true entry rest is h = All-head P entry rest h
  of_first P false entry rest is h = absurd (cc is)

  -- what holds of each clerk's entries holds of all, where they are all of clerks
  of_each : (P : JournalEntry A → Type 0) (n : ℕ) (journal : List (JournalEntry A)) → All (λ entry. IsClerk n entry.clerk) journal
      → ((clerk : ℕ) → IsClerk n clerk → All P (of_clerk clerk journal)) → All P journal
  of_each P n [] are each = All-nil P
  of_each P n (entry ∷ rest) are each =
      let is = All-head (λ (e : JournalEntry A). IsClerk n e.clerk) entry rest are in
      All-cons P entry rest
      (of_first P (nat_eq entry.clerk entry.clerk) entry (of_clerk entry.clerk rest) (own_number entry.clerk) (each entry.clerk is))
      (of_each P n rest (All-tail (λ (e : JournalEntry A). IsClerk n e.clerk) entry rest are)
      (λ clerk k. of_rest P (nat_eq entry.clerk clerk) entry (of_clerk clerk rest) (each clerk k)))

module _ {A X : Type 0} (run : Run) (card : X → CardState A) (edits : X → List (ℕ × Edit A)) (refused : X
    → Bool) (lines : X → List ℕ)
    (receipts : X → List (ReceiptState A)) (journal seen : List (JournalEntry A)) where
  abbrev Works : X → X → Type 0
  Works old new = IsWorked run (card old) (edits old) (card new) (refused new) (lines new) (receipts new)

  -- the receipts of a job are learnt
  abbrev AreLearnt : X → Type 0
  AreLearnt job = All (IsLearnt seen) (receipts job)

  -- the entries of a clerk whose receipts are learnt stand in what was seen
  his_stand : (clerk : ℕ) (old new : X) → Works old new → card old ≡ record { clerk = clerk; made = []; met = [] } → refused new ≡ false
      → Agrees journal (card new) → AreLearnt new → All (Stands seen) (of_clerk clerk journal)
  his_stand clerk old new works fresh not_refused agrees learnt =
      let old_clerk : (card old).clerk ≡ clerk = ap (λ (c : CardState A). c.clerk) fresh in
      let said = works.said (ap (λ (c : CardState A). c.made) fresh) not_refused in
      let made : of_clerk clerk journal ≡ map (λ receipt. receipt.entry) (receipts new) =
      ap (λ k. of_clerk k journal) (sym (works.same_clerk ∙ old_clerk)) ∙ (sym agrees ∙ said.are_all) in
      All-same (Stands seen) (of_clerk clerk journal) (map (λ receipt. receipt.entry) (receipts new)) made
      (All-map (Stands seen) (λ (receipt : ReceiptState A). receipt.entry) (receipts new)
      (λ k d less. stands (get_or (receipts new) k d) (said.tell k d less) (learnt k d less)))

  -- the entries of each clerk do
  clerk_stand : (before n : ℕ) (olds news : List X) → AllZip Works olds news → map card olds ≡ fresh_cards before n
      → All (λ new. refused new ≡ false) news → All (Agrees journal) (map card news) → All AreLearnt news
      → (clerk : ℕ) → before < clerk → clerk ≤ before + n → All (Stands seen) (of_clerk clerk journal)
  clerk_stand before zero olds news zip fresh not_refused agree learnt clerk above below = absurd (omega (arith, above, below))
  clerk_stand before (suc n) [] news zip fresh not_refused agree learnt clerk above below = absurd (cc fresh)
  clerk_stand before (suc n) (old ∷ olds) [] zip fresh not_refused agree learnt clerk above below = absurd zip
  clerk_stand before (suc n) (old ∷ olds) (new ∷ news) zip fresh not_refused agree learnt clerk above below =
      elim (cases_eq clerk (suc before)) [
        | inl is ↦
            let first : card old ≡ record { clerk = suc before; made = []; met = [] } = cc fresh in
            subst (λ k. All (Stands seen) (of_clerk k journal)) (sym is)
            (his_stand (suc before) old new zip.0 first (All-head (λ x. refused x ≡ false) new news not_refused)
            (All-head (Agrees journal) (card new) (map card news) agree) (All-head AreLearnt new news learnt))
        | inr not ↦
            let rest : map card olds ≡ fresh_cards (suc before) n = cc fresh in
            clerk_stand (suc before) n olds news zip.1 rest (All-tail (λ x. refused x ≡ false) new news not_refused)
            (All-tail (Agrees journal) (card new) (map card news) agree) (All-tail AreLearnt new news learnt) clerk
            (grind (arith, above, not)) (omega (arith, below))
      ]

-- what jobs leave whose receipts are all learnt at an office whose fabric was handed in with no entry: what was seen
-- begins with the journal
pub journal_seen : {A X : Type 0} (card : X → CardState A) (edits : X → List (ℕ × Edit A)) (refused : X
    → Bool) (lines : X → List ℕ)
    (receipts : X → List (ReceiptState A)) (office : OfficeId A) (sheet : Book A) (seen : List (JournalEntry A)) (jobs done : List X)
    → office.origin.journal ≡ []
    → AllZip (λ old new. IsWorked (run_at office) (card old) (edits old) (card new) (refused new) (lines new) (receipts new)) jobs done
    → map card jobs ≡ fresh_cards 0 office.clerks → All (λ new. refused new ≡ false) done
    → IsSheetOf office (map card done) sheet
    → IsLawful sheet.opening sheet.journal → All (λ new. All (IsLearnt seen) (receipts new)) done → IsPrefix sheet.journal seen
journal_seen {A} card edits refused lines receipts office sheet seen jobs done none zip fresh not_refused is_sheet lawful learnt =
    let journal : List (JournalEntry A) = sheet.journal in
    let same : behind office.origin journal ≡ journal = behind_none office journal none in
    let agree : All (Agrees journal) (map card done) = subst (λ l. All (Agrees l) (map card done)) same is_sheet.agree in
    let are : All (λ entry. IsClerk office.clerks entry.clerk) journal =
    All-same (λ (entry : JournalEntry A). IsClerk office.clerks entry.clerk) journal (behind office.origin journal)
    (sym same) is_sheet.of_clerks in
    let each : (clerk : ℕ) → IsClerk office.clerks clerk → All (Stands seen) (of_clerk clerk journal) =
    λ clerk is. clerk_stand (run_at office) card edits refused lines receipts journal seen 0 office.clerks jobs done
    zip fresh not_refused agree
    learnt clerk (omega (arith, is.from_one)) (omega (arith, is.to_n)) in
    all_seen seen sheet.opening [] journal lawful (seen, refl) (of_each (Stands seen) office.clerks journal are each)
