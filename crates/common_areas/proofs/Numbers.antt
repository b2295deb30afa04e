-- Sizes and ways of numbers, and products.
use Rattle.std.proofs.Common.{◌≡◌, zero, suc, refl, ◌∙◌, sym, ap, arith, [], ◌∷◌}
use Rattle.std.proofs.lemmas.Int.{ints, by_lt_z}
use Rattle.std.specs.Int.{int_signum}
use lib.IntN.{ℤ, pos, negsuc, ◌+ℤ◌, ◌-ℤ◌, ◌*ℤ◌, neg_ℤ}
use lib.Signed.{◌<ℤ◌, ◌≤ℤ◌}
use Rattle.geo_exact.proofs.numbers.Polynomials.{var, lit, add, mul, neg, sub, same_by}
use Rattle.geo_exact.proofs.numbers.Signs.{mul_not_neg, mul_neg, mul_not_pos}
use Rattle.common_areas.specs.Between.{size}

pub size_not_neg : (z : ℤ) → pos 0 ≤ℤ z → size z ≡ z
size_not_neg (pos n) h = refl
size_not_neg (negsuc n) h = absurd (omega (arith, ints, h))

pub size_not_pos : (z : ℤ) → z ≤ℤ pos 0 → size z ≡ neg_ℤ z
size_not_pos (pos zero) h = refl
size_not_pos (pos (suc n)) h = absurd (omega (arith, ints, h))
size_not_pos (negsuc n) h = refl

pub size_of_neg : (z : ℤ) → size (neg_ℤ z) ≡ size z
size_of_neg (pos zero) = refl
size_of_neg (pos (suc n)) = refl
size_of_neg (negsuc n) = refl

pub size_is_not_neg : (z : ℤ) → pos 0 ≤ℤ size z
size_is_not_neg z = by_lt_z z (pos 0)
    (λ h. let e : size z ≡ neg_ℤ z = size_not_pos z (omega (arith, ints)) in rw e (omega (arith, ints)))
    (λ h. let e : size z ≡ z = size_not_neg z h in rw e h)

pub way_up : (z : ℤ) → pos 0 <ℤ z → int_signum z ≡ pos 1
way_up (pos zero) h = absurd (omega (arith, ints, h))
way_up (pos (suc n)) h = ap pos (omega arith)
way_up (negsuc n) h = absurd (omega (arith, ints, h))

pub way_down : (z : ℤ) → z <ℤ pos 0 → int_signum z ≡ negsuc 0
way_down (pos n) h = absurd (omega (arith, ints, h))
way_down (negsuc n) h = refl

-- a product's size, where one factor is not negative
pub size_times : (a b : ℤ) → pos 0 ≤ℤ a → size (a *ℤ b) ≡ a *ℤ size b
size_times a b h = by_lt_z b (pos 0)
    (λ k. let e : size (a *ℤ b) ≡ neg_ℤ (a *ℤ b) = size_not_pos (a *ℤ b) (mul_not_pos a b h (omega (arith, ints))) in
    let f : size b ≡ neg_ℤ b = size_not_pos b (omega (arith, ints)) in
    e ∙ sym (ap (λ x. a *ℤ x) f ∙ same_by (a ∷ b ∷ []) (mul (var 0) (neg (var 1))) (neg (mul (var 0) (var 1))) refl))
    (λ k. let e : size (a *ℤ b) ≡ a *ℤ b = size_not_neg (a *ℤ b) (mul_not_neg a b h k) in
    let f : size b ≡ b = size_not_neg b k in
    e ∙ sym (ap (λ x. a *ℤ x) f))

pub size_of_product : (a b : ℤ) → size (a *ℤ b) ≡ size a *ℤ size b
size_of_product a b = by_lt_z a (pos 0)
    (λ h. let n : pos 0 ≤ℤ neg_ℤ a = omega (arith, ints) in
    let f : size a ≡ neg_ℤ a = size_not_pos a (omega (arith, ints)) in
    let e : a *ℤ b ≡ neg_ℤ (neg_ℤ a *ℤ b) = same_by (a ∷ b ∷ []) (mul (var 0) (var 1)) (neg (mul (neg (var 0)) (var 1))) refl in
    ap size e ∙ size_of_neg (neg_ℤ a *ℤ b) ∙ size_times (neg_ℤ a) b n ∙ sym (ap (λ x. x *ℤ size b) f))
    (λ h. let f : size a ≡ a = size_not_neg a h in size_times a b h ∙ sym (ap (λ x. x *ℤ size b) f))

-- the square of a number, with the number's sign
abbrev pub signed_square : ℤ → ℤ
signed_square m = m *ℤ size m

odd_by : (m a b c : ℤ) → size (pos 2 *ℤ m +ℤ pos 1) ≡ a → size (m +ℤ pos 1) ≡ b → size m ≡ c
    → a ≡ (m +ℤ pos 1) *ℤ b -ℤ m *ℤ c
    → size (pos 2 *ℤ m +ℤ pos 1) ≡ signed_square (m +ℤ pos 1) -ℤ signed_square m
odd_by m a b c ha hb hc h =
    ha ∙ h ∙ sym (ap (λ x. (m +ℤ pos 1) *ℤ x -ℤ m *ℤ size m) hb ∙ ap (λ x. (m +ℤ pos 1) *ℤ b -ℤ m *ℤ x) hc)

-- an odd number's size is the difference of two signed squares
pub odd_steps : (m : ℤ) → size (pos 2 *ℤ m +ℤ pos 1) ≡ signed_square (m +ℤ pos 1) -ℤ signed_square m
odd_steps m = by_lt_z m (pos 0)
    (λ h. odd_by m (neg_ℤ (pos 2 *ℤ m +ℤ pos 1)) (neg_ℤ (m +ℤ pos 1)) (neg_ℤ m)
    (size_not_pos (pos 2 *ℤ m +ℤ pos 1) (omega (arith, ints))) (size_not_pos (m +ℤ pos 1) (omega (arith, ints)))
    (size_not_pos m (omega (arith, ints)))
    (same_by (m ∷ []) (neg (add (mul (lit (pos 2)) (var 0)) (lit (pos 1))))
    (sub (mul (add (var 0) (lit (pos 1))) (neg (add (var 0) (lit (pos 1))))) (mul (var 0) (neg (var 0)))) refl))
    (λ h. odd_by m (pos 2 *ℤ m +ℤ pos 1) (m +ℤ pos 1) m
    (size_not_neg (pos 2 *ℤ m +ℤ pos 1) (omega (arith, ints))) (size_not_neg (m +ℤ pos 1) (omega (arith, ints)))
    (size_not_neg m h)
    (same_by (m ∷ []) (add (mul (lit (pos 2)) (var 0)) (lit (pos 1)))
    (sub (mul (add (var 0) (lit (pos 1))) (add (var 0) (lit (pos 1)))) (mul (var 0) (var 0))) refl))

squares_by : (u v a b : ℤ) → size u ≡ a → size v ≡ b → (v -ℤ u) *ℤ (a +ℤ b) ≡ v *ℤ b -ℤ u *ℤ a
    → (v -ℤ u) *ℤ (size u +ℤ size v) ≡ signed_square v -ℤ signed_square u
squares_by u v a b ha hb h =
    ap (λ x. (v -ℤ u) *ℤ (x +ℤ size v)) ha ∙ ap (λ x. (v -ℤ u) *ℤ (a +ℤ x)) hb ∙ h
    ∙ sym (ap (λ x. v *ℤ x -ℤ u *ℤ size u) hb ∙ ap (λ x. v *ℤ b -ℤ u *ℤ x) ha)

both_down : (u v : ℤ) → u ≤ℤ pos 0 → v ≤ℤ pos 0 → (v -ℤ u) *ℤ (size u +ℤ size v) ≡ signed_square v -ℤ signed_square u
both_down u v h k = squares_by u v (neg_ℤ u) (neg_ℤ v) (size_not_pos u h) (size_not_pos v k)
    (same_by (u ∷ v ∷ []) (mul (sub (var 1) (var 0)) (add (neg (var 0)) (neg (var 1))))
    (sub (mul (var 1) (neg (var 1))) (mul (var 0) (neg (var 0)))) refl)

both_up : (u v : ℤ) → pos 0 ≤ℤ u → pos 0 ≤ℤ v → (v -ℤ u) *ℤ (size u +ℤ size v) ≡ signed_square v -ℤ signed_square u
both_up u v h k = squares_by u v u v (size_not_neg u h) (size_not_neg v k)
    (same_by (u ∷ v ∷ []) (mul (sub (var 1) (var 0)) (add (var 0) (var 1)))
    (sub (mul (var 1) (var 1)) (mul (var 0) (var 0))) refl)

-- two numbers of one sign: the difference of their signed squares
pub squares_alike : (u v : ℤ) → pos 0 ≤ℤ (u *ℤ v) → (v -ℤ u) *ℤ (size u +ℤ size v) ≡ signed_square v -ℤ signed_square u
squares_alike u v h = by_lt_z u (pos 0)
    (λ p. by_lt_z (pos 0) v
    (λ q. absurd (omega (arith, ints, h, mul_neg v u q p)))
    (λ q. both_down u v (omega (arith, ints)) q))
    (λ p. by_lt_z v (pos 0)
    (λ q. by_lt_z (pos 0) u
    (λ r. absurd (omega (arith, ints, h, mul_neg u v r q)))
    (λ r. both_down u v r (omega (arith, ints))))
    (λ q. both_up u v p q))

-- a number below 0 and one above it
pub squares_apart : (u v : ℤ) → u <ℤ pos 0 → pos 0 <ℤ v → u *ℤ u +ℤ v *ℤ v ≡ signed_square v -ℤ signed_square u
squares_apart u v h k =
    let e : size u ≡ neg_ℤ u = size_not_pos u (omega (arith, ints)) in
    let f : size v ≡ v = size_not_neg v (omega (arith, ints)) in
    same_by (u ∷ v ∷ []) (add (mul (var 0) (var 0)) (mul (var 1) (var 1)))
    (sub (mul (var 1) (var 1)) (mul (var 0) (neg (var 0)))) refl
    ∙ sym (ap (λ x. v *ℤ x -ℤ u *ℤ size u) f ∙ ap (λ x. v *ℤ v -ℤ u *ℤ x) e)

pub sizes_apart : (u v : ℤ) → u <ℤ pos 0 → pos 0 <ℤ v → size u +ℤ size v ≡ v -ℤ u
sizes_apart u v h k =
    let e : size u ≡ neg_ℤ u = size_not_pos u (omega (arith, ints)) in
    let f : size v ≡ v = size_not_neg v (omega (arith, ints)) in
    omega (arith, ints, e, f)
