-- Sums over the whole numbers on either side of 0.
use Rattle.std.proofs.Common.{◌≡◌, ℕ, zero, suc, refl, ◌∙◌, sym, ap, arith, List, [], ◌∷◌}
use Rattle.std.proofs.lemmas.Int.{ints, by_lt_z, int_max_is, int_min_is}
use Rattle.std.specs.Int.{int_min, int_max}
use lib.IntN.{ℤ, pos, negsuc, ◌+ℤ◌, ◌-ℤ◌, ◌*ℤ◌, neg_ℤ}
use lib.Signed.{◌<ℤ◌, ◌≤ℤ◌}
use Rattle.geo_exact.specs.Rings.{Edge, sum_over}
use Rattle.geo_exact.proofs.numbers.Polynomials.{var, add, mul, same_by}
use Rattle.common_areas.specs.Grid.{sum_around}

pub around-same : (n : ℕ) (f g : ℤ → ℤ) → ((k : ℤ) → f k ≡ g k) → sum_around n f ≡ sum_around n g
around-same zero f g h = refl
around-same (suc n) f g h = omega (arith, ints, around-same n f g h, h (pos n), h (negsuc n))

pub around-nothing : (n : ℕ) → sum_around n (λ k. pos 0) ≡ pos 0
around-nothing zero = refl
around-nothing (suc n) = omega (arith, ints, around-nothing n)

pub around-plus : (n : ℕ) (f g : ℤ → ℤ) → sum_around n (λ k. f k +ℤ g k) ≡ sum_around n f +ℤ sum_around n g
around-plus zero f g = refl
around-plus (suc n) f g = omega (arith, ints, around-plus n f g)

pub around-times : (n : ℕ) (c : ℤ) (f : ℤ → ℤ) → sum_around n (λ k. c *ℤ f k) ≡ c *ℤ sum_around n f
around-times zero c f = sym (let e : c *ℤ pos 0 ≡ pos 0 = omega (arith, ints) in e)
around-times (suc n) c f =
    ap (λ x. x +ℤ c *ℤ f (pos n) +ℤ c *ℤ f (negsuc n)) (around-times n c f)
    ∙ same_by (c ∷ sum_around n f ∷ f (pos n) ∷ f (negsuc n) ∷ [])
    (add (add (mul (var 0) (var 1)) (mul (var 0) (var 2))) (mul (var 0) (var 3)))
    (mul (var 0) (add (add (var 1) (var 2)) (var 3)))
    refl

-- a sum over edges of sums over rows is the sum over rows of sums over edges
pub around-edges : (n : ℕ) (g : Edge → ℤ → ℤ) (es : List Edge)
    → sum_over (λ e. sum_around n (g e)) es ≡ sum_around n (λ k. sum_over (λ e. g e k) es)
around-edges n g [] = sym (around-nothing n)
around-edges n g (e ∷ es) = ap (λ x. sum_around n (g e) +ℤ x) (around-edges n g es)
    ∙ sym (around-plus n (g e) (λ k. sum_over (λ e'. g e' k) es))

-- k, or the nearer of a and b where it is outside
pub clamped : (a b k : ℤ) → ℤ
clamped a b k = int_max a (int_min k b)

pub clamped_low : (a b k : ℤ) → a ≤ℤ b → k ≤ℤ a → clamped a b k ≡ a
unfolding clamped
clamped_low a b k h p = let e = int_min_is k b in let f = int_max_is a (int_min k b) in omega (arith, ints)

pub clamped_mid : (a b k : ℤ) → a ≤ℤ k → k ≤ℤ b → clamped a b k ≡ k
unfolding clamped
clamped_mid a b k h p = let e = int_min_is k b in let f = int_max_is a (int_min k b) in omega (arith, ints)

pub clamped_high : (a b k : ℤ) → a ≤ℤ b → b ≤ℤ k → clamped a b k ≡ b
unfolding clamped
clamped_high a b k h p = let e = int_min_is k b in let f = int_max_is a (int_min k b) in omega (arith, ints)

-- F is the step of T from a to b, and 0 elsewhere
pub record IsStep (a b : ℤ) (T F : ℤ → ℤ) : Type 0 where
  pub below : (k : ℤ) → k <ℤ a → F k ≡ pos 0
  pub step : (k : ℤ) → a ≤ℤ k → k <ℤ b → F k ≡ T (k +ℤ pos 1) -ℤ T k
  pub above : (k : ℤ) → b ≤ℤ k → F k ≡ pos 0

clamped_step : (a b : ℤ) (T F : ℤ → ℤ) → a ≤ℤ b → IsStep a b T F → (k l : ℤ) → l ≡ k +ℤ pos 1
    → F k ≡ T (clamped a b l) -ℤ T (clamped a b k)
clamped_step a b T F ab h k l e = by_lt_z k a
    (λ p. let u : T (clamped a b l) ≡ T a = ap T (clamped_low a b l ab (omega (arith, ints))) in
    let v : T (clamped a b k) ≡ T a = ap T (clamped_low a b k ab (omega (arith, ints))) in
    omega (arith, ints, u, v, h.below k p))
    (λ p. by_lt_z k b
    (λ q. let u : T (clamped a b l) ≡ T (k +ℤ pos 1) = ap T (clamped_mid a b l (omega (arith, ints)) (omega (arith, ints)) ∙ e) in
    let v : T (clamped a b k) ≡ T k = ap T (clamped_mid a b k p (omega (arith, ints))) in
    omega (arith, ints, u, v, h.step k p q))
    (λ q. let u : T (clamped a b l) ≡ T b = ap T (clamped_high a b l ab (omega (arith, ints))) in
    let v : T (clamped a b k) ≡ T b = ap T (clamped_high a b k ab q) in
    omega (arith, ints, u, v, h.above k q)))

telescoped : (a b : ℤ) (T F : ℤ → ℤ) → a ≤ℤ b → IsStep a b T F → (n : ℕ)
    → sum_around n F ≡ T (clamped a b (pos n)) -ℤ T (clamped a b (neg_ℤ (pos n)))
telescoped a b T F ab h zero = sym (let e : T (clamped a b (pos 0)) -ℤ T (clamped a b (pos 0)) ≡ pos 0 = omega (arith, ints) in e)
telescoped a b T F ab h (suc n) =
    omega (
      arith,
      ints,
      telescoped a b T F ab h n,
      clamped_step a b T F ab h (pos n) (pos (suc n)) (omega (arith, ints)),
      clamped_step a b T F ab h (negsuc n) (neg_ℤ (pos n)) (omega (arith, ints)),
    )

-- the sum of the steps, where the sum reaches past both ends
pub stepped : (a b : ℤ) (T F : ℤ → ℤ) → a ≤ℤ b → IsStep a b T F → (n : ℕ) → neg_ℤ (pos n) ≤ℤ a → b ≤ℤ pos n
    → sum_around n F ≡ T b -ℤ T a
stepped a b T F ab h n low high =
    telescoped a b T F ab h n
    ∙ ap (λ x. T x -ℤ T (clamped a b (neg_ℤ (pos n)))) (clamped_high a b (pos n) ab high)
    ∙ ap (λ x. T b -ℤ T x) (clamped_low a b (neg_ℤ (pos n)) ab low)
