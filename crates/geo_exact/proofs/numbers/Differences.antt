-- Polynomial identities over ℤ: every z is `diff p q`, and sums, products and negations of differences are differences.
use Rattle.std.proofs.Common.{◌≡◌, ℕ, ◌+◌, ◌*◌, ◌∙◌, ap, arith}
use Rattle.std.proofs.lemmas.Int.{ints}
use lib.IntN.{ℤ, pos, ◌+ℤ◌, ◌-ℤ◌, ◌*ℤ◌, neg_ℤ, *ℤ_comm}
use borrow.Author.Differences.{up, down, product_is, neg_is}

-- p - q
pub diff : ℕ → ℕ → ℤ
diff p q = pos p -ℤ pos q

pub diff_of : (z : ℤ) → z ≡ diff (up z) (down z)
unfolding diff
diff_of z = omega (arith, ints)

pub diff-add : (p q r s : ℕ) → diff p q +ℤ diff r s ≡ diff (p + r) (q + s)
unfolding diff
diff-add p q r s = omega (arith, ints)

pub diff-neg : (p q : ℕ) → neg_ℤ (diff p q) ≡ diff q p
unfolding diff
diff-neg p q = omega (arith, ints)

pub diff-pos : (p : ℕ) → pos p ≡ diff p 0
unfolding diff
diff-pos p = omega (arith, ints)

up_down : (p q : ℕ) → up (diff p q) + q ≡ p + down (diff p q)
unfolding diff
up_down p q = omega (arith, ints)

crossed : (U D V E p q r s : ℕ) → U + q ≡ p + D → V + s ≡ r + E → U * V + D * E + (p * s + q * r) ≡ U * E + D * V
    + (p * r + q * s)
crossed U D V E p q r s h k = omega (arith, ap (λ n. n * V) h, ap (λ n. n * E) h, ap (λ n. p * n) k, ap (λ n. q * n) k)

diff_in : (z : ℤ) (p q : ℕ) → up z + q ≡ p + down z → z ≡ diff p q
unfolding diff
diff_in z p q h = omega (arith, ints)

pub diff-mul : (p q r s : ℕ) → diff p q *ℤ diff r s ≡ diff (p * r + q * s) (p * s + q * r)
diff-mul p q r s = diff_in (diff p q *ℤ diff r s) (p * r + q * s) (p * s + q * r)
    (omega (
      arith,
      product_is (diff p q) (diff r s),
      crossed (up (diff p q)) (down (diff p q)) (up (diff r s)) (down (diff r s)) p q r s (up_down p q) (up_down r s),
    ))

pub diff_same : (p q r s : ℕ) → p + s ≡ r + q → diff p q ≡ diff r s
unfolding diff
diff_same p q r s h = omega (arith, ints)

pub ruleset diffs = (diff-add, diff-neg, diff-mul, diff-pos)

mul-add' : (a a' b b' c c' : ℕ) → diff a a' *ℤ (diff b b' +ℤ diff c c') ≡ diff a a' *ℤ diff b b' +ℤ diff a a' *ℤ diff c c'
mul-add' a a' b b' c c' = simp diffs (diff_same _ _ _ _ (omega arith))

pub mul-add : (a b c : ℤ) → a *ℤ (b +ℤ c) ≡ a *ℤ b +ℤ a *ℤ c
mul-add a b c = rw (diff_of a, diff_of b, diff_of c) (mul-add' _ _ _ _ _ _)

pub add-mul : (a b c : ℤ) → (a +ℤ b) *ℤ c ≡ a *ℤ c +ℤ b *ℤ c
add-mul a b c = *ℤ_comm (a +ℤ b) c ∙ mul-add c a b ∙ omega (arith, ints)

pub neg-mul : (a b : ℤ) → neg_ℤ a *ℤ b ≡ neg_ℤ (a *ℤ b)
neg-mul a b =
    let is = neg_is a in
    omega (arith, ints, ap (λ n. n * up b) is.0, ap (λ n. n * up b) is.1, ap (λ n. n * down b) is.0, ap (λ n. n * down b) is.1)

pub mul-neg : (a b : ℤ) → a *ℤ neg_ℤ b ≡ neg_ℤ (a *ℤ b)
mul-neg a b = *ℤ_comm a (neg_ℤ b) ∙ neg-mul b a ∙ omega (arith, ints)

mul_assoc' : (a a' b b' c c' : ℕ) → (diff a a' *ℤ diff b b') *ℤ diff c c' ≡ diff a a' *ℤ (diff b b' *ℤ diff c c')
mul_assoc' a a' b b' c c' = simp diffs (diff_same _ _ _ _ (omega arith))

pub mul_assoc : (a b c : ℤ) → (a *ℤ b) *ℤ c ≡ a *ℤ (b *ℤ c)
mul_assoc a b c = rw (diff_of a, diff_of b, diff_of c) (mul_assoc' _ _ _ _ _ _)

pub times_one : (z : ℤ) → z *ℤ pos 1 ≡ z
times_one z = omega (arith, ints)

-- multiplies a product of sums out, down to products of unknowns
pub ruleset expand = (mul-add, add-mul, neg-mul, mul-neg)
