-- Pairs that were sorted do not fall.
use Rattle.std.proofs.Common.{◌≡◌, ◌⊎◌, inl, inr, ⊎_elim, sym, ◌∙◌, ap, subst, arith, ℕ, suc, ◌+◌, ◌<◌}
use Rattle.std.proofs.Common.{◌≤◌, false, true≢false, List, [], ◌∷◌, length, get_or}
use Rattle.std.specs.List.{AllByRecursion}
use Rattle.std.proofs.Common.{Less, Equal}
use Rattle.std.specs.Ordering.{nat_cmp, is_lt, ordering_then}
use Rattle.std.proofs.lemmas.Bool.{cases_lt}
use Rattle.std.proofs.lemmas.Bool.Decides.{nat_tests}
use Rattle.zone_tables.specs.Overlap.{IsPairBefore}
use Rattle.overlay_work.specs.own.Gathered.{AreOrdered}

abbrev pub AtMost : ℕ × ℕ → ℕ × ℕ → Type 0
AtMost x y = IsPairBefore x y ⊎ (x ≡ y)

less_is : (a b : ℕ) → a < b → nat_cmp a b ≡ Less
less_is a b h = grind (arith, nat_tests)

same_is : (a b : ℕ) → a ≡ b → nat_cmp a b ≡ Equal
same_is a b h = grind (arith, nat_tests)

not_before : (x y : ℕ × ℕ) → is_lt (ordering_then (nat_cmp y.0 x.0) (nat_cmp y.1 x.1)) ≡ false → AtMost x y
not_before x y test = ⊎_elim
    (λ (less : x.0 < y.0). inl (inl less))
    (λ (more : y.0 ≤ x.0). ⊎_elim
    (λ (above : y.0 < x.0).
    absurd (true≢false (sym (ap (λ o. is_lt (ordering_then o (nat_cmp y.1 x.1))) (less_is y.0 x.0 above)) ∙ test)))
    (λ (below : x.0 ≤ y.0).
    let same : x.0 ≡ y.0 = omega (arith, more, below) in
    let second : is_lt (nat_cmp y.1 x.1) ≡ false =
    sym (ap (λ o. is_lt (ordering_then o (nat_cmp y.1 x.1))) (same_is y.0 x.0 (sym same))) ∙ test in
    ⊎_elim
    (λ (less : x.1 < y.1). inl (inr (same, less)))
    (λ (up : y.1 ≤ x.1). ⊎_elim
    (λ (above : y.1 < x.1). absurd (true≢false (sym (ap is_lt (less_is y.1 x.1 above)) ∙ second)))
    (λ (down : x.1 ≤ y.1). let equal : x.1 ≡ y.1 = omega (arith, up, down) in inr (λ i. (same i, equal i)))
    (cases_lt y.1 x.1))
    (cases_lt x.1 y.1))
    (cases_lt y.0 x.0))
    (cases_lt x.0 y.0)

at_most-trans : (x y z : ℕ × ℕ) → AtMost x y → AtMost y z → AtMost x z
at_most-trans x y z a b = ⊎_elim
    (λ (before : IsPairBefore x y). ⊎_elim
    (λ (next : IsPairBefore y z). inl (⊎_elim
    (λ less. ⊎_elim (λ more. inl (omega (arith, less, more))) (λ same. inl (omega (arith, less, same.0))) next)
    (λ less. ⊎_elim (λ more. inl (omega (arith, less.0, more))) (λ more. inr (less.0 ∙ more.0, omega (arith, less.1, more.1))) next)
    before))
    (λ (same : y ≡ z). inl (subst (IsPairBefore x) same before))
    b)
    (λ (same : x ≡ y). subst (λ w. AtMost w z) (sym same) b)
    a

weaker : (x y : ℕ × ℕ) (pairs : List (ℕ × ℕ)) → AtMost x y → AllByRecursion (AtMost y) pairs
    → AllByRecursion (AtMost x) pairs
weaker x y [] a all = tt
weaker x y (p ∷ pairs) a all = (at_most-trans x y p a all.0, weaker x y pairs a all.1)

-- the pair at j does not come before the one at i
abbrev DoesNotFall : List (ℕ × ℕ) → ℕ → ℕ → ℕ × ℕ → Type 0
DoesNotFall pairs i j d =
    is_lt (ordering_then (nat_cmp (get_or pairs j d).0 (get_or pairs i d).0) (nat_cmp (get_or pairs j d).1 (get_or pairs i d).1)) ≡ false

pub ordered : (pairs : List (ℕ × ℕ)) → ((k : ℕ) (d : ℕ × ℕ) → 0 ≤ k → k + 1 < length pairs
    → DoesNotFall pairs k (k + 1) d) → AreOrdered pairs
ordered [] up = tt
ordered (x ∷ []) up = (tt, tt)
ordered (x ∷ y ∷ pairs) up =
    let rest = ordered (y ∷ pairs) (λ k d low less.
    let at : suc k + 1 ≡ suc (k + 1) = omega arith in
    subst (λ j. DoesNotFall (x ∷ y ∷ pairs) (suc k) j d) at (up (suc k) d (omega arith) (omega (arith, less)))) in
    let first : AtMost x y = not_before x y (up 0 x (omega arith) (omega arith)) in
    ((first, weaker x y pairs first rest.0), rest)
