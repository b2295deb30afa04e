-- Cards of clerks, and the entries of one clerk in a list.
use Rattle.std.proofs.Common.{◌≡◌, ◌≢◌, ⊎_elim, refl, sym, ◌∙◌, ap, arith, ℕ, zero, suc, ◌+◌, ◌<◌, ◌≤◌}
use Rattle.std.proofs.Common.{nat_eq, cond, List, [], ◌∷◌, ◌++◌, map, length, append-nil, append_assoc, eq-eqb, ne_eqb}
use Rattle.std.specs.List.{AllByRecursion}
use Rattle.std.proofs.lemmas.Bool.{cases_eq, cases_lt}
use Rattle.std.proofs.lemmas.List.{map-append}
use Rattle.std.proofs.lemmas.List.Elements.{filter-append}
use Rattle.std.proofs.lemmas.List.Sums.{sum_by-cons, sum_by-append, count_by-le-length}
use mathlib.Core.List.{IsPrefix}
use Rattle.entry_cards.specs.declared.view.Card.{Card}
use Rattle.entry_cards.specs.Cards.{IsClerk, HasAll, HasMet, entries_of, of_clerk, times}
use Rattle.entry_cards.specs.own.Rule.{blank_cards, blank_card}

module _ {X : Type 0} (P : X → Type 0) where
  pub all_append : (xs ys : List X) → AllByRecursion P xs → AllByRecursion P ys → AllByRecursion P (xs ++ ys)
  all_append [] ys left right = right
  all_append (x ∷ xs) ys left right = (left.0, all_append xs ys left.1 right)

  pub all_left : (xs ys : List X) → AllByRecursion P (xs ++ ys) → AllByRecursion P xs
  all_left [] ys all = tt
  all_left (x ∷ xs) ys all = (all.0, all_left xs ys all.1)

  pub all_right : (xs ys : List X) → AllByRecursion P (xs ++ ys) → AllByRecursion P ys
  all_right [] ys all = all
  all_right (x ∷ xs) ys all = all_right xs ys all.1

-- one where a clerk is the other, else none
pub here : (k c : ℕ) → k ≡ c → ◌≡◌ {A = ℕ} (cond (nat_eq k c) 1 0) 1
here k c same = ap (λ b. cond b 1 0) (eq-eqb k c same)

pub elsewhere : (k c : ℕ) → k ≢ c → ◌≡◌ {A = ℕ} (cond (nat_eq k c) 1 0) 0
elsewhere k c apart = ap (λ b. cond b 1 0) (ne_eqb k c apart)

-- a number beyond another that is not the next one
pub beyond_next : (k before : ℕ) → before < k → (k ≡ suc before → ⊥) → suc before < k
beyond_next k before less apart = ⊎_elim
    (λ (more : suc before < k). more)
    (λ (most : k ≤ suc before). absurd (apart (omega (arith, less, most))))
    (cases_lt (suc before) k)

module _ {E : Type 0} where
  pub times-cons : (k : ℕ) (card : Card E) (cards : List (Card E))
      → times k (card ∷ cards) ≡ cond (nat_eq k card.clerk) 1 0 + times k cards
  times-cons k card cards = sum_by-cons _ card cards

  pub times-append : (k : ℕ) (cards others : List (Card E)) → times k (cards ++ others) ≡ times k cards + times k others
  times-append k cards others = sum_by-append _ cards others

  pub times_at_most : (k : ℕ) (cards : List (Card E)) → times k cards ≤ length cards
  times_at_most k cards = count_by-le-length _ cards

  pub times_first : (card : Card E) (cards : List (Card E)) → times card.clerk (card ∷ cards) ≡ 1 + times card.clerk cards
  times_first card cards = times-cons card.clerk card cards ∙ ap (λ n. n + times card.clerk cards) (here card.clerk card.clerk refl)

-- ---- blank cards
module _ (E : Type 0) where
  pub length-blank_cards : (before n : ℕ) → length (blank_cards {E = E} before n) ≡ n
  length-blank_cards before zero = refl
  length-blank_cards before (suc n) = let rest = length-blank_cards (suc before) n in omega (arith, rest)

  pub blank_before : (k before n : ℕ) → k ≤ before → times k (blank_cards {E = E} before n) ≡ 0
  blank_before k before zero less = refl
  blank_before k before (suc n) less =
      let all = times-cons k (blank_card (suc before)) (blank_cards {E = E} (suc before) n) in
      let first = elsewhere k (suc before) (λ same. absurd (omega (arith, same, less))) in
      let rest = blank_before k (suc before) n (omega (arith, less)) in
      omega (arith, all, first, rest)

  pub blank_behind : (k before n : ℕ) → before + n < k → times k (blank_cards {E = E} before n) ≡ 0
  blank_behind k before zero more = refl
  blank_behind k before (suc n) more =
      let all = times-cons k (blank_card (suc before)) (blank_cards {E = E} (suc before) n) in
      let first = elsewhere k (suc before) (λ same. absurd (omega (arith, same, more))) in
      let rest = blank_behind k (suc before) n (omega (arith, more)) in
      omega (arith, all, first, rest)

  pub blank_one : (k before n : ℕ) → before < k → k ≤ before + n → times k (blank_cards {E = E} before n) ≡ 1
  blank_one k before zero less most = absurd (omega (arith, less, most))
  blank_one k before (suc n) less most =
      let all = times-cons k (blank_card (suc before)) (blank_cards {E = E} (suc before) n) in
      ⊎_elim
      (λ (same : k ≡ suc before).
      let first = here k (suc before) same in
      let rest = blank_before k (suc before) n (omega (arith, same)) in
      omega (arith, all, first, rest))
      (λ (apart : k ≡ suc before → ⊥).
      let first = elsewhere k (suc before) apart in
      let rest = blank_one k (suc before) n (beyond_next k before less apart) (omega (arith, most)) in
      omega (arith, all, first, rest))
      (cases_eq k (suc before))

  pub at_most_one : (k n : ℕ) → times k (blank_cards {E = E} 0 n) ≤ 1
  at_most_one k n = ⊎_elim
      (λ (more : n < k). let none = blank_behind k 0 n (omega (arith, more)) in omega (arith, none))
      (λ (most : k ≤ n). ⊎_elim
      (λ (less : 0 < k). let one = blank_one k 0 n less (omega (arith, most)) in omega (arith, one))
      (λ (zero : k ≤ 0). let none = blank_before k 0 n zero in omega (arith, none))
      (cases_lt 0 k))
      (cases_lt n k)

  pub one_is_clerk : (k n : ℕ) → 0 < times k (blank_cards {E = E} 0 n) → IsClerk n k
  one_is_clerk k n some = record {
    from_one = ⊎_elim
        (λ (less : 0 < k). omega (arith, less))
        (λ (zero : k ≤ 0). let none = blank_before k 0 n zero in absurd (omega (arith, none, some)))
        (cases_lt 0 k);
    to_n = ⊎_elim
        (λ (more : n < k). let none = blank_behind k 0 n (omega (arith, more)) in absurd (omega (arith, none, some)))
        (λ (most : k ≤ n). most)
        (cases_lt n k);
  }

module _ {E : Type 0} where
  -- ---- the entries of a clerk
  pub of_clerk-append : (k : ℕ) (xs ys : List (ℕ × E)) → of_clerk k (xs ++ ys) ≡ of_clerk k xs ++ of_clerk k ys
  of_clerk-append k xs ys =
      ap (map (λ entry. entry.1)) (filter-append (λ entry. nat_eq entry.0 k) xs ys) ∙ map-append (λ entry. entry.1) _ _

  pub of_clerk_more : (k : ℕ) (all : List (ℕ × E)) (entry : E) → of_clerk k (all ++ (k, entry) ∷ []) ≡ of_clerk k all
      ++ entry ∷ []
  of_clerk_more k all entry =
      of_clerk-append k all ((k, entry) ∷ [])
      ∙ ap (λ b. of_clerk k all ++ map (λ (e : ℕ × E). e.1) (cond b ((k, entry) ∷ []) [])) (eq-eqb k k refl)

  pub of_clerk_other : (k c : ℕ) (all : List (ℕ × E)) (entry : E) → k ≢ c → of_clerk k (all ++ (c, entry) ∷ [])
      ≡ of_clerk k all
  of_clerk_other k c all entry apart =
      of_clerk-append k all ((c, entry) ∷ [])
      ∙ ap (λ b. of_clerk k all ++ map (λ (e : ℕ × E). e.1) (cond b ((c, entry) ∷ []) [])) (ne_eqb c k (λ same. apart (sym same)))
      ∙ append-nil (of_clerk k all)

  -- cards of other clerks have all of their clerks' entries after one more
  pub others_have_all : (k : ℕ) (all : List (ℕ × E)) (entry : E) (cards : List (Card E)) → times k cards ≡ 0
      → AllByRecursion (HasAll all) cards
      → AllByRecursion (HasAll (all ++ (k, entry) ∷ [])) cards
  others_have_all k all entry [] none own = tt
  others_have_all k all entry (card ∷ cards) none own =
      let count = times-cons k card cards in
      let apart : card.clerk ≢ k = (λ same. let one = here k card.clerk (sym same) in absurd (omega (arith, count, none, one))) in
      (own.0 ∙ sym (of_clerk_other card.clerk k all entry apart), others_have_all k all entry cards (omega (arith, count, none)) own.1)

  -- ---- what cards met
  met_more : (all : List (ℕ × E)) (xs : List E) (entry : ℕ × E) → IsPrefix xs (entries_of all)
      → IsPrefix xs (entries_of (all ++ entry ∷ []))
  met_more all xs entry p = (
    p.0 ++ entry.1 ∷ [],
    sym (append_assoc xs p.0 (entry.1 ∷ []))
        ∙ (ap (λ l. l ++ entry.1 ∷ []) p.1 ∙ sym (map-append (λ (e : ℕ × E). e.1) all (entry ∷ []))),
  )

  pub all_met_more : (all : List (ℕ × E)) (entry : ℕ × E) (cards : List (Card E)) → AllByRecursion (HasMet all) cards
      → AllByRecursion (HasMet (all ++ entry ∷ [])) cards
  all_met_more all entry [] met = tt
  all_met_more all entry (card ∷ cards) met = (met_more all card.met entry met.0, all_met_more all entry cards met.1)

  -- what all entries are begins them
  pub begins_all : (all known : List (ℕ × E)) → known ≡ all → IsPrefix (entries_of known) (entries_of all)
  begins_all all known same = ([], append-nil (entries_of known) ∙ ap entries_of same)
