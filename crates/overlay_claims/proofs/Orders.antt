-- A hand goes through all lists, each once.
use Rattle.std.proofs.Common.{◌≡◌, ◌≢◌, ⊎_elim, refl, sym, ◌∙◌, ap, subst, arith, ℕ, zero, suc, ◌+◌, ◌-◌}
use Rattle.std.proofs.Common.{◌%◌, ◌<◌, ◌≤◌, [], ◌∷◌, ◌++◌}
use Rattle.std.proofs.lemmas.Bool.{cases_eq, cases_lt}
use Rattle.std.proofs.Math.Nat.{mod-eq_of_lt, mod-lt, add-mod_right}
use Rattle.atomic_table.proofs.Lists.{one_turn}
use Rattle.overlay_claims.specs.Claims.{times}
use Rattle.overlay_claims.specs.Claimants.{lists_from, AreAllEnded}
use Rattle.overlay_claims.proofs.Steps.{times_grow, times_more_here, times_other}

-- the list after so many is none of those
not_among : (number count j k : ℕ) → k < count → j ≤ k → times ((number + k) % count) (lists_from number count j) ≡ 0
not_among number count zero k less before = refl
not_among number count (suc j) k less before =
    let apart : (number + k) % count ≢ (number + j) % count =
    (λ e. let same = one_turn (number + j) (number + k) count (omega arith) (omega arith) (sym e) in omega (arith, same, before)) in
    times_other ((number + k) % count) ((number + j) % count) (lists_from number count j) apart
    ∙ not_among number count j k less (omega arith)

pub next_is_not_noted : (number count k : ℕ) → k < count → times ((number + k) % count) (lists_from number count k) ≡ 0
next_is_not_noted number count k less = not_among number count k k less (omega arith)

-- each of those before is
among : (number count j k : ℕ) → k < j → 0 < times ((number + k) % count) (lists_from number count j)
among number count zero k before = absurd (omega arith)
among number count (suc j) k before = ⊎_elim
    (λ (e : k ≡ j). subst (λ i. 0 < times ((number + i) % count) (lists_from number count j ++ ((number + j) % count) ∷ [])) (sym e)
    (let here = times_more_here ((number + j) % count) (lists_from number count j) in omega (arith, here)))
    (λ (apart : k ≡ j → ⊥).
    let less : k < j = below k j before apart in
    let rest = among number count j k less in
    let grow = times_grow ((number + k) % count) ((number + j) % count) (lists_from number count j) in
    omega (arith, rest, grow))
    (cases_eq k j)
  where
    below : (k j : ℕ) → k < suc j → (k ≡ j → ⊥) → k < j
    below k j h n = ⊎_elim (λ (l : k < j). l) (λ (m : j ≤ k). absurd (n (omega arith))) (cases_lt k j)

pub all_are_among : (number count : ℕ) → number < count → AreAllEnded count (lists_from number count count)
all_are_among number count own list here = ⊎_elim
    (λ (less : list < number).
    let k : ℕ = list + count - number in
    let at : number + k ≡ list + count = omega arith in
    let e : (number + k) % count ≡ list = ap (λ n. n % count) at ∙ around list count here in
    subst (λ l. 0 < times l (lists_from number count count)) e (among number count count k (omega arith)))
    (λ (more : number ≤ list).
    let k : ℕ = list - number in
    let at : number + k ≡ list = omega arith in
    let e : (number + k) % count ≡ list = ap (λ n. n % count) at ∙ mod-eq_of_lt here in
    subst (λ l. 0 < times l (lists_from number count count)) e (among number count count k (omega arith)))
    (cases_lt list number)
  where
    around : (list count : ℕ) → list < count → (list + count) % count ≡ list
    around list count less = add-mod_right list count ∙ mod-eq_of_lt less

pub not_all_before_the_end : (number count ended : ℕ) → ended < count → AreAllEnded count (lists_from number count ended) → ⊥
not_all_before_the_end number count ended less all =
    let here = all ((number + ended) % count) (mod-lt (number + ended) (omega arith)) in
    let none = next_is_not_noted number count ended less in
    omega (arith, here, none)

-- the list after so many, by sums that stay below the count
pub wrapped : (number count k : ℕ) → number < count → k < count → count - number ≤ k → (number + k) % count
    ≡ k - (count - number)
wrapped number count k own less past =
    let at : number + k ≡ (k - (count - number)) + count = omega arith in
    ap (λ n. n % count) at ∙ add-mod_right (k - (count - number)) count ∙ mod-eq_of_lt (omega arith)
