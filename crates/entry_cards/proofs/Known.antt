-- What who keeps knows of one stub, and of all stubs.
use Rattle.std.proofs.Common.{◌≡◌, ⊎_elim, refl, sym, ◌∙◌, ap, arith, ℕ, zero, suc, ◌+◌, ◌-◌, ◌<◌, ◌≤◌}
use Rattle.std.proofs.Common.{Bool, true, false, nat_eq, cond, List, [], ◌∷◌, ◌++◌, map, length, take, eq-eqb}
use Rattle.std.proofs.Common.{length-append}
use Rattle.std.specs.Prelude.{filter, sum_by}
use Rattle.std.specs.List.{AllByRecursion}
use Rattle.std.proofs.lemmas.Bool.{cases_eq, cases_lt}
use Rattle.std.proofs.lemmas.List.Elements.{All-from_recursion}
use Rattle.std.proofs.lemmas.List.Sums.{sum_by-cons}
use Rattle.entry_cards.specs.declared.view.Card.{Card}
use Rattle.entry_cards.specs.Cards.{IsClerk, HasAll, HasMet, AccountFor, of_clerk, times}
use Rattle.entry_cards.specs.own.Rule.{blank_cards, taken_in, AreKnown}
use Rattle.entry_cards.proofs.Lists.{all_left, all_right, beyond_next, times-cons, times-append, times_first}
use Rattle.entry_cards.proofs.Lists.{length-blank_cards, blank_before, blank_one, at_most_one, one_is_clerk}

take_front : {X : Type 0} (xs ys : List X) → take (length xs) (xs ++ ys) ≡ xs
take_front [] ys = refl
take_front (x ∷ xs) ys = ap (λ l. x ∷ l) (take_front xs ys)

module _ {E : Type 0} where
  -- the rest of a list has no entry of a clerk that the list has none of
  none_behind : (b : Bool) (x : ℕ × E) (xs : List (ℕ × E)) → map (λ (e : ℕ × E). e.1) (cond b (x ∷ xs) xs) ≡ []
      → map (λ (e : ℕ × E). e.1) xs ≡ []
  none_behind true x xs none = let count = ap length none in absurd (omega (arith, count))
  none_behind false x xs none = none

  has_first : (k : ℕ) (entry : E) (all : List (ℕ × E)) → of_clerk k ((k, entry) ∷ all) ≡ entry ∷ of_clerk k all
  has_first k entry all =
      let rest : List (ℕ × E) = filter (λ e. nat_eq e.0 k) all in
      ap (λ b. map (λ (e : ℕ × E). e.1) (cond b ((k, entry) ∷ rest) rest)) (eq-eqb k k refl)

  -- entries of clerks up to m, of whom those beyond n have none, are of clerks up to n
  all_of_dealt : (n m : ℕ) (all : List (ℕ × E)) → AllByRecursion (λ e. IsClerk m e.0) all
      → ((k : ℕ) → n < k → k ≤ m → of_clerk k all ≡ [])
      → AllByRecursion (λ e. IsClerk n e.0) all
  all_of_dealt n m [] of_clerks none = tt
  all_of_dealt n m ((k, entry) ∷ all) of_clerks none = (
    record {
      from_one = of_clerks.0.from_one;
      to_n = ⊎_elim
          (λ (more : n < k).
          let count = ap length (sym (has_first k entry all) ∙ none k more of_clerks.0.to_n) in
          absurd (omega (arith, count)))
          (λ (most : k ≤ n). most)
          (cases_lt n k);
    },
    all_of_dealt n m all of_clerks.1
        (λ j more most. none_behind (nat_eq k j) (k, entry) (filter (λ e. nat_eq e.0 j) all) (none j more most)),
  )

  blank_has_none : (all : List (ℕ × E)) (k before n : ℕ) → AllByRecursion (HasAll all) (blank_cards before n) → before < k
      → k ≤ before + n → of_clerk k all ≡ []
  blank_has_none all k before zero own less most = absurd (omega (arith, less, most))
  blank_has_none all k before (suc n) own less most = ⊎_elim
      (λ (same : k ≡ suc before). ap (λ j. of_clerk j all) same ∙ sym own.0)
      (λ (apart : k ≡ suc before → ⊥). blank_has_none all k (suc before) n own.1
      (beyond_next k before less apart)
      (omega (arith, most)))
      (cases_eq k (suc before))

  -- ---- the entries of all cards are all entries
  its_length : (b : Bool) (x : ℕ × E) (xs : List (ℕ × E))
      → length (map (λ (e : ℕ × E). e.1) (cond b (x ∷ xs) xs)) ≡ cond b 1 0 + length (map (λ (e : ℕ × E). e.1) xs)
  its_length true x xs = omega arith
  its_length false x xs = omega arith

  abbrev number_of : List (ℕ × E) → List (Card E) → ℕ
  number_of all cards = sum_by (λ card. length (of_clerk card.clerk all)) cards

  no_entries : (cards : List (Card E)) → number_of [] cards ≡ 0
  no_entries [] = refl
  no_entries (card ∷ cards) =
      let sum = sum_by-cons (λ (c : Card E). length (of_clerk {E = E} c.clerk [])) card cards in
      let rest = no_entries cards in
      omega (arith, sum, rest)

  one_more : (k : ℕ) (entry : E) (all : List (ℕ × E)) (cards : List (Card E))
      → number_of ((k, entry) ∷ all) cards ≡ times k cards + number_of all cards
  one_more k entry all [] = refl
  one_more k entry all (card ∷ cards) =
      let new = sum_by-cons (λ (c : Card E). length (of_clerk c.clerk ((k, entry) ∷ all))) card cards in
      let old = sum_by-cons (λ (c : Card E). length (of_clerk c.clerk all)) card cards in
      let first = its_length (nat_eq k card.clerk) (k, entry) (filter (λ e. nat_eq e.0 card.clerk) all) in
      let count = times-cons k card cards in
      let rest = one_more k entry all cards in
      omega (arith, new, old, first, count, rest)

  all_entries : (n : ℕ) (all : List (ℕ × E)) (cards : List (Card E)) → AllByRecursion (λ e. IsClerk n e.0) all
      → ((k : ℕ) → IsClerk n k → times k cards ≡ 1)
      → number_of all cards ≡ length all
  all_entries n [] cards of_clerks distinct = no_entries cards
  all_entries n ((k, entry) ∷ all) cards of_clerks distinct =
      let more = one_more k entry all cards in
      let one = distinct k of_clerks.0 in
      let rest = all_entries n all cards of_clerks.1 distinct in
      omega (arith, more, one, rest)

  made_are : (all : List (ℕ × E)) (cards : List (Card E)) → AllByRecursion (HasAll all) cards
      → sum_by (λ card. length card.made) cards ≡ number_of all cards
  made_are all [] own = refl
  made_are all (card ∷ cards) own =
      let made = sum_by-cons (λ (c : Card E). length c.made) card cards in
      let old = sum_by-cons (λ (c : Card E). length (of_clerk c.clerk all)) card cards in
      let first = ap length own.0 in
      let rest = made_are all cards own.1 in
      omega (arith, made, old, first, rest)

  -- ---- one stub, and all
  pub one_stub : (clerks dealt : ℕ) (all : List (ℕ × E)) (card : Card E) → dealt ≤ clerks
      → AreKnown clerks all (card ∷ blank_cards dealt (clerks - dealt))
      → HasAll all card × IsClerk dealt card.clerk
  one_stub clerks dealt all card few known =
      let blanks : List (Card E) = blank_cards dealt (clerks - dealt) in
      let k : ℕ = card.clerk in
      let first : times k (card ∷ blanks) ≡ 1 + times k blanks = times_first card blanks in
      let once = known.at_most_once k in
      let one = at_most_one E k clerks in
      let clerk = one_is_clerk E k clerks (omega (arith, first, once)) in (
        known.own.0,
        record {
          from_one = clerk.from_one;
          to_n = ⊎_elim
              (λ (more : dealt < k).
              let most = clerk.to_n in
              let blank = blank_one E k dealt (clerks - dealt) more (omega (arith, most, few)) in
              absurd (omega (arith, first, once, one, blank)))
              (λ (most : k ≤ dealt). most)
              (cases_lt dealt k);
        },
      )

  pub all_stubs : (clerks dealt : ℕ) (all : List (ℕ × E)) (cards : List (Card E)) → dealt ≤ clerks
      → length cards ≡ dealt
      → AreKnown clerks all (cards ++ blank_cards dealt (clerks - dealt)) → AccountFor dealt all cards
  all_stubs clerks dealt all cards few count known =
      let n : ℕ = clerks - dealt in
      let blanks : List (Card E) = blank_cards dealt n in
      let together = length-append cards blanks in
      let left = length-blank_cards E dealt n in
      let whole : length (cards ++ blanks) ≡ clerks = omega (arith, together, left, count, few) in
      let own = all_left (HasAll all) cards blanks known.own in
      let unused = all_right (HasAll all) cards blanks known.own in
      let distinct : (k : ℕ) → IsClerk dealt k → times k cards ≡ 1 =
      (λ k clerk.
      let least = clerk.from_one in
      let most = clerk.to_n in
      let once = known.once whole k in
      let both = times-append k cards blanks in
      let one = blank_one E k 0 clerks (omega (arith, least)) (omega (arith, most, few)) in
      let none = blank_before E k dealt n most in
      omega (arith, once, both, one, none)) in
      let of_dealt = all_of_dealt dealt clerks all known.of_clerks
      (λ k more most. blank_has_none all k dealt n unused more (omega (arith, most, few))) in
      record {
        agree = All-from_recursion (HasAll all) cards own;
        met = All-from_recursion (HasMet all) cards (all_left (HasMet all) cards blanks known.met);
        distinct = distinct;
        known = All-from_recursion (λ (e : ℕ × E). IsClerk dealt e.0) all of_dealt;
        total = sym (made_are all cards own ∙ all_entries dealt all cards of_dealt distinct);
      }

  -- ---- the cards that a gathering took in
  pub taken_in_front : (clerks dealt : ℕ) (cards : List (Card E))
      → taken_in clerks dealt (cards ++ blank_cards dealt (clerks - dealt)) ≡ cards
  taken_in_front clerks dealt cards =
      let n : ℕ = clerks - dealt in
      let blanks : List (Card E) = blank_cards dealt n in
      let together = length-append cards blanks in
      let left = length-blank_cards E dealt n in
      let count : length (cards ++ blanks) - n ≡ length cards = omega (arith, together, left) in
      ap (λ m. take m (cards ++ blanks)) count ∙ take_front cards blanks
