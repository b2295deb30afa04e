-- Runs of no clerk and of one.
use Rattle.std.proofs.Common.{◌≡◌, refl, sym, ap, subst, ◌∙◌, arith, ℕ, true, cond, nat_eq, List, [], ◌∷◌}
use Rattle.std.specs.Prelude.{All}
use Rattle.std.proofs.lemmas.List.Elements.{All-head, All-tail}
use Rattle.std.proofs.lemmas.Bool.Decides.{nat_tests}
use Rattle.ring_edits.specs.declared.edit.Edit.{Edit}
use Rattle.entry_cards.specs.Cards.{IsClerk}
use Rattle.fabric_core.specs.declared.refusal.Refusal.{Refusal}
use Rattle.fabric_core.specs.Rows.{Tiles}
use Rattle.fabric_core.specs.Journal.{JournalEntry, opening_state, replay}
use Rattle.fabric_core.specs.Refusals.{IsRefusal}
use Rattle.desk_lock.specs.Offices.{of_clerk}
use Rattle.clerk_runs.specs.ClerkFiles.{AreClerkFiles}
use Rattle.clerk_runs.specs.ClerkRuns.{Register, Run, opened, IsRefusalDue, AreMade, IsEdited}

-- the only clerk
only_one : (clerk : ℕ) → IsClerk 1 clerk → nat_eq clerk 1 ≡ true
only_one clerk is =
    let from_one = is.from_one in
    let to_one = is.to_n in
    grind (arith, nat_tests)

module _ {A : Type 0} where
  -- ---- no clerk
  no_clerks : (clerks : List (List (ℕ × Edit A))) → AreClerkFiles [] clerks → clerks ≡ []
  no_clerks [] are = refl
  no_clerks (edits ∷ clerks) are = absurd are

  no_entries : (journal : List (JournalEntry A)) → All (λ entry. IsClerk 0 entry.clerk) journal → journal ≡ []
  no_entries [] are = refl
  no_entries (entry ∷ journal) are =
      let is = All-head (λ (e : JournalEntry A). IsClerk 0 e.clerk) entry journal are in
      absurd (omega (arith, is.from_one, is.to_n))

  made_by_none : (tiles : Tiles) (after : Register A) (lines : List ℕ) → AreMade tiles [] after lines
      → (after ≡ opened tiles) × (lines ≡ [])
  made_by_none tiles after lines h =
      let none = no_entries after.journal h.is_journal.of_clerks in
      let now : after.now ≡ opening_state tiles.rows tiles.refined =
      h.leads ∙ ap (λ l. replay (opening_state tiles.rows tiles.refined) l) none in (
        ap (λ state. record { now = state; journal = after.journal }) now
            ∙ ap (λ l. record { now = opening_state tiles.rows tiles.refined; journal = l }) none,
        h.are_told,
      )

  pub edited_by_none : (tiles : Tiles) (after : Register A) (lines : List ℕ) → IsEdited tiles [] after lines
      → (after ≡ opened tiles) × (lines ≡ [])
  edited_by_none tiles after lines h =
      made_by_none tiles after lines (subst (λ clerks. AreMade tiles clerks after lines) (no_clerks h.clerks h.are_files) h.are_made)

  -- ---- one clerk
  all_his : (journal : List (JournalEntry A)) → All (λ entry. IsClerk 1 entry.clerk) journal → of_clerk 1 journal ≡ journal
  all_his [] are = refl
  all_his (entry ∷ journal) are =
      let is = only_one entry.clerk (All-head (λ (e : JournalEntry A). IsClerk 1 e.clerk) entry journal are) in
      let rest = all_his journal (All-tail (λ (e : JournalEntry A). IsClerk 1 e.clerk) entry journal are) in
      ap (λ b. cond b (entry ∷ of_clerk 1 journal) (of_clerk 1 journal)) is ∙ ap (λ l. entry ∷ l) rest

  pub due_after_his : (run : Run) (journal made : List (JournalEntry A)) (edit : Edit A) (refusal : Refusal) → run.clerks ≡ 1
      → IsRefusalDue run journal 1 made edit refusal → IsRefusal (replay run.opening made) made edit refusal
  due_after_his run journal made edit refusal one due =
      let are = subst (λ n. All (λ entry. IsClerk n entry.clerk) journal) one due.is_journal.of_clerks in
      let same : journal ≡ made = sym (all_his journal are) ∙ due.has_made in
      subst (λ l. IsRefusal (replay run.opening l) l edit refusal) same due.is_refusal
