-- What is told of edits that are made in turn, where one is refused.
use Rattle.std.proofs.Common.{◌≡◌, ◌⊎◌, inl, inr, ⊎_elim, refl, sym, ◌∙◌, ap, subst, arith, ℕ, ◌+◌, ◌<◌, ◌≤◌}
use Rattle.std.proofs.Common.{List, ◌++◌, length, get_or, take}
use Rattle.std.specs.List.Sorted.{IsStrictlyIncreasing}
use Rattle.ring_edits.specs.declared.edit.Edit.{Edit}
use Rattle.fabric_core.specs.declared.refusal.Refusal.{Refusal}
use Rattle.fabric_core.specs.declared.refusal.Refusal.TheVariants.{NoMemory}
use Rattle.fabric_core.specs.Faults.{AreSimple}
use Rattle.fabric_core.specs.Rows.{numbers}
use Rattle.fabric_core.specs.Journal.{State, JournalEntry, replay}
use Rattle.fabric_core.specs.Refusals.{IsRefusal, NeedsNoMemory}
use Rattle.edit_transactions.specs.Transactions.{IsFirstRefused, IsTransaction}
use Rattle.edit_transactions.proofs.Turns.{by_less, first_refused, is_there, not_here}

module _ {A : Type 0} (state : State) (journal : List (JournalEntry A)) (clerk : ℕ) (edits : List (Edit A)) where
  -- all that is told of a refusal at a place, from 1
  pub record IsTold (at : ℕ) (s : Refusal) : Type 0 where
    pub refusal : IsFirstRefused state journal clerk edits at s ⊎ (s ≡ NoMemory)
    pub refuses : (p : ℕ) (r : Refusal) → IsFirstRefused state journal clerk edits p r → ((at ≡ p) × (s ≡ r)) ⊎ (s ≡ NoMemory)
    pub exact : (p : ℕ) (r : Refusal) → IsFirstRefused state journal clerk edits p r → (at ≤ p) × (at ≡ p → NeedsNoMemory r → s ≡ r)

  module _ (place : ℕ) (entries : List (JournalEntry A)) (now : State) (all : List (JournalEntry A))
      (same_now : now ≡ replay state entries) (same_all : all ≡ journal ++ entries)
      (turn : IsTransaction state (length journal + 1) clerk (take place edits) entries)
      (same : (others : List (JournalEntry A)) → IsTransaction state (length journal + 1) clerk (take place edits) others
      → others ≡ entries)
      (later : (p : ℕ) (r : Refusal) → (first : IsFirstRefused state journal clerk edits p r) → place ≤ length first.before)
      (edit : Edit A) (is : edit ≡ get_or edits place edit) where
    there : (r : Refusal) → IsRefusal now all edit r → IsRefusal (replay state entries) (journal ++ entries) edit r
    there r h = subst (λ xs. IsRefusal (replay state entries) xs edit r) same_all (subst (λ s. IsRefusal s all edit r) same_now h)

    back : (r : Refusal) → IsRefusal (replay state entries) (journal ++ entries) edit r → IsRefusal now all edit r
    back r h = subst (λ s. IsRefusal s all edit r) (sym same_now)
        (subst (λ xs. IsRefusal (replay state entries) xs edit r) (sym same_all) h)

    -- an edit that is refused
    pub told : AreSimple now.rows → IsStrictlyIncreasing (numbers now.rows) → place < length edits → (at : ℕ) → at ≡ place + 1
        → (s : Refusal)
        → IsRefusal now all edit s ⊎ (s ≡ NoMemory)
        → ((r : Refusal) → IsRefusal now all edit r → (s ≡ r) ⊎ (s ≡ NoMemory))
        → ((r : Refusal) → IsRefusal now all edit r → NeedsNoMemory r → s ≡ r) → IsTold at s
    told simple rise inside at is_at s refusal refuses exact =
        let simple_there : AreSimple (replay state entries).rows = subst (λ (z : State). AreSimple z.rows) same_now simple in
        let rise_there : IsStrictlyIncreasing (numbers (replay state entries).rows) =
        subst (λ (z : State). IsStrictlyIncreasing (numbers z.rows)) same_now rise in record {
          refusal = ⊎_elim
              (λ h. inl (subst (λ n. IsFirstRefused state journal clerk edits n s) (sym is_at)
              (first_refused state journal clerk edits place entries turn edit s inside is (there s h))))
              (λ n. inr n) refusal;
          refuses = λ p r first. by_less place (length first.before)
              (λ l. ⊎_elim
              (λ h. absurd (not_here state journal clerk edits place entries p r first same simple_there rise_there edit s l is
              (there s h)))
              (λ n. inr n) refusal)
              (λ g. let e : place ≡ length first.before = omega (arith, later p r first, g) in
              ⊎_elim (λ h. inl (is_at ∙ ap (λ n. n + 1) e ∙ sym first.is_place, h)) (λ n. inr n)
              (refuses r (back r (is_there state journal clerk edits place entries p r first same edit e is))));
          exact = λ p r first. (
            omega (arith, later p r first, first.is_place, is_at),
            λ here needs. exact r
                (back r (is_there state journal clerk edits place entries p r first same edit (omega (
                  arith,
                  here,
                  first.is_place,
                  is_at,
                )) is))
                needs,
          );
        }

    -- an edit that is made is not among the first that are refused
    pub later_still : ((r : Refusal) → IsRefusal now all edit r → ⊥) → (p : ℕ) (r : Refusal)
        → (first : IsFirstRefused state journal clerk edits p r) → place + 1 ≤ length first.before
    later_still none p r first = by_less place (length first.before) (λ l. omega (arith, l))
        (λ g. absurd (none r (back r (is_there state journal clerk edits place entries p r first same edit
        (omega (arith, later p r first, g)) is))))

    -- so where memory runs out after it, that is told at its place
    pub ran_out : ((r : Refusal) → IsRefusal now all edit r → ⊥) → (at : ℕ) → at ≡ place + 1 → IsTold at NoMemory
    ran_out none at is_at = record {
      refusal = inr refl;
      refuses = λ p r first. inr refl;
      exact = λ p r first. (
        omega (arith, later_still none p r first, first.is_place, is_at),
        λ here needs. absurd (omega (arith, later_still none p r first, first.is_place, is_at, here)),
      );
    }
