-- The first number with a property: there is none or one, and it is one alone.
use Rattle.std.proofs.Common.{◌≡◌, ◌⊎◌, inl, inr, ⊎_elim, ℕ, zero, suc, subst, arith}
use Rattle.std.proofs.lemmas.Bool.{cases_lt}
use Rattle.geo_exact.specs.First.{HasNone, IsFirst}

-- of the numbers below n none has a property that is decided for each, or one is the first
pub first_or_none : (P : ℕ → Type 0) → ((j : ℕ) → P j ⊎ (¬ P j)) → (n : ℕ) → ((k : ℕ) × IsFirst P n k) ⊎ HasNone P n
first_or_none P decide zero = inr (λ j b p. absurd (omega arith))
first_or_none P decide (suc n) =
    ⊎_elim
    (λ f. inl (f.0, record { below = omega (arith, f.1.below); has = f.1.has; none_before = f.1.none_before }))
    (λ none. ⊎_elim
    (λ p. inl (n, record { below = omega arith; has = p; none_before = none }))
    (λ no. inr (λ j b p. ⊎_elim
    (λ less. none j less p)
    (λ not_less. no (let e : j ≡ n = omega arith in subst P e p))
    (cases_lt j n)))
    (decide n))
    (first_or_none P decide n)

pub first_same : (P : ℕ → Type 0) (n j k : ℕ) → IsFirst P n j → IsFirst P n k → j ≡ k
first_same P n j k f g = elim (cases_lt j k) [
  | inl q ↦ absurd (g.none_before j q f.has)
  | inr q ↦ elim (cases_lt k j) [
    | inl r ↦ absurd (f.none_before k r g.has)
    | inr r ↦ omega arith
  ]
]
