-- Sums over views, after one of them is exchanged.
use Rattle.std.proofs.Common.{◌≡◌, sym, ◌∙◌, subst, arith, ℕ, zero, suc, ◌+◌, ◌<◌, ◌≤◌, ◌≢◌, List, []}
use Rattle.std.proofs.Common.{◌∷◌, length, set, get_or}
use Rattle.std.specs.Prelude.{sum_by}
use Rattle.std.proofs.lemmas.List.Sums.{sum_by-set, get_or-le-sum_by, sum_by-le-sum_by}
use mathlib.Core.Option.{some, some-ne-none, some-injective}
use lib.ListN.{get_elem?}
use Rattle.atomic_table.proofs.Lists.{set_else}

module _ {X : Type 0} where
  stands : (xs : List X) (i : ℕ) (x : X) → get_elem? xs i ≡ some x → (i < length xs) × (get_or xs i x ≡ x)
  stands [] i x at = absurd (some-ne-none x (sym at))
  stands (y ∷ xs) zero x at = (omega arith, some-injective y x at)
  stands (y ∷ xs) (suc i) x at = let rest = stands xs i x at in let less = rest.0 in (omega (arith, less), rest.1)

  pub sum_set : (f : X → ℕ) (xs : List X) (i : ℕ) (x y : X) → get_elem? xs i ≡ some x → sum_by f (set xs i y) + f x
      ≡ sum_by f xs + f y
  sum_set f xs i x y at =
      let here = stands xs i x at in
      subst (λ z. sum_by f (set xs i y) + f z ≡ sum_by f xs + f y) here.1 (sum_by-set f xs i y x here.0)

  pub at_in : (f : X → ℕ) (xs : List X) (i : ℕ) (x : X) → get_elem? xs i ≡ some x → f x ≤ sum_by f xs
  at_in f xs i x at = let here = stands xs i x at in subst (λ z. f z ≤ sum_by f xs) here.1 (get_or-le-sum_by f xs i x here.0)

  -- two elements at different places are no more than all
  pub two_in : (f : X → ℕ) (xs : List X) (i j : ℕ) (x y z : X) → f z ≡ 0 → get_elem? xs i ≡ some x
      → get_elem? xs j ≡ some y → j ≢ i
      → f x + f y ≤ sum_by f xs
  two_in f xs i j x y z none at there apart =
      let e = sum_set f xs i x z at in
      let other = at_in f (set xs i z) j y (set_else xs i j z apart ∙ there) in
      omega (arith, e, none, other)

  -- where one element has all of f, it has all of g, which is less
  pub all_in_one : (f g : X → ℕ) → ((x : X) → g x ≤ f x) → (xs : List X) (i : ℕ) (x z : X) → f z ≡ 0
      → get_elem? xs i ≡ some x
      → sum_by f xs ≤ f x → g x ≡ sum_by g xs
  all_in_one f g less xs i x z none at whole =
      let others = sum_set f xs i x z at in
      let others' = sum_set g xs i x z at in
      let fewer = sum_by-le-sum_by g f (set xs i z) less in
      let none' = less z in
      omega (arith, others, others', fewer, none, none', whole)
