-- The fields and the value of the double that is exactly a whole number.
use Rattle.std.proofs.Common.{◌≡◌, ℕ, zero, suc, ◌+◌, ◌-◌, ◌*◌, ◌%◌, ◌^◌, ◌<◌, ◌≤◌, ℤ, pos, negsuc}
use Rattle.std.proofs.Common.{◌*ℤ◌, ◌-ℤ◌, neg_ℤ}
use Rattle.std.proofs.Common.{Bool, true, false, refl, sym, ◌∙◌, ap, subst, arith, lit<, Ok, inl, inr}
use Rattle.std.specs.Prelude.{int_lt}
use Rattle.std.specs.Int.RustNames.{unsigned_abs}
use Rattle.std.proofs.lemmas.Bool.{ne_eqb, cases_lt, le-ltb}
use Rattle.std.proofs.Math.Nat.{pow-le-pow_right, mul-le-mul_right, mul-lt-mul_of_pos_right}
use Rattle.std.proofs.lemmas.Int.{ints}
use Rattle.std.proofs.lemmas.Nat.{leading_top, pow-add, pow_pos}
use Rattle.geo_exact.specs.declared.coord.Unit.TheVariants.{Mm}
use Rattle.geo_exact.specs.Doubles.{highest_bit, whole_exponent, whole_fraction, whole_bits, bits_of}
use Rattle.geo_exact.specs.Grid.{sign_bit, exponent_field, fraction_field, magnitude, scaled_value, IsOnGrid, coordinate}
use Rattle.geo_exact.specs.Limit.{IsWithin, limit}
use Rattle.geo_exact.proofs.numbers.Differences.{neg-mul}
use Rattle.geo_exact.proofs.doubles.Coordinates.{accepted_when}

-- the highest 1 of n stands at place t, and n has at most 53 places
pub record IsHighest (n t : ℕ) : Type 0 where
  pub low : 2 ^ t ≤ n
  pub high : n < 2 ^ (t + 1)
  pub bound : t ≤ 52

place_below : (n t : ℕ) → 2 ^ t ≤ n → n < 2 ^ 53 → t ≤ 52
place_below n t h k = elim (cases_lt 52 t) [
  | inl q ↦ let more : 2 ^ 53 ≤ 2 ^ t = pow-le-pow_right (lit< tt) q in absurd (omega (arith, more))
  | inr q ↦ q
]

pub highest_is : (n : ℕ) → 0 < n → n < 2 ^ 53 → IsHighest n (highest_bit n)
highest_is n some small =
    let top = leading_top 64 n some (omega arith) in
    let same : highest_bit n ≡ top.0 = omega (arith, top.1) in
    let next : suc top.0 ≡ top.0 + 1 = omega arith in
    rw same (record { low = top.2; high = rw next at top.3; bound = place_below n top.0 top.2 small })

-- moved up, the highest 1 stands at place 52
pub moved_low : (n t : ℕ) → 2 ^ t ≤ n → t ≤ 52 → 2 ^ 52 ≤ n * 2 ^ (52 - t)
moved_low n t low bound =
    let all : 52 ≡ t + (52 - t) = omega arith in
    let whole : 2 ^ 52 ≡ 2 ^ t * 2 ^ (52 - t) = ap (λ p. 2 ^ p) all ∙ pow-add 2 t (52 - t) in
    omega (arith, whole, mul-le-mul_right (2 ^ (52 - t)) low)

pub moved_high : (n t : ℕ) → n < 2 ^ (t + 1) → t ≤ 52 → n * 2 ^ (52 - t) < 2 ^ 53
moved_high n t high bound =
    let all : 53 ≡ t + 1 + (52 - t) = omega arith in
    let whole : 2 ^ 53 ≡ 2 ^ (t + 1) * 2 ^ (52 - t) = ap (λ p. 2 ^ p) all ∙ pow-add 2 (t + 1) (52 - t) in
    omega (arith, whole, mul-lt-mul_of_pos_right high (pow_pos (52 - t)))

-- ---- the fields of a double put together from them
exponent_of : (s e f : ℕ) → e < 2 ^ 11 → f < 2 ^ 52 → exponent_field (s * 2 ^ 63 + (e * 2 ^ 52 + f)) ≡ e
exponent_of s e f h k = omega arith

fraction_of : (s e f : ℕ) → f < 2 ^ 52 → fraction_field (s * 2 ^ 63 + (e * 2 ^ 52 + f)) ≡ f
fraction_of s e f k = omega arith

sign_of : (s e f : ℕ) → e < 2 ^ 11 → f < 2 ^ 52 → sign_bit (s * 2 ^ 63 + (e * 2 ^ 52 + f)) ≡ s
sign_of s e f h k = omega arith

-- moved up, it fits 64 bits
pub moved_whole : (n t : ℕ) → n < 2 ^ (t + 1) → t ≤ 52 → n * 2 ^ (52 - t) % 2 ^ 64 ≡ n * 2 ^ (52 - t)
moved_whole n t high bound = let h = moved_high n t high bound in omega arith

-- ---- the value
split_power : (n a b c : ℕ) → a + b ≡ c → n * 2 ^ a * 2 ^ b ≡ n * 2 ^ c
split_power n a b c h = rw (← h, pow-add 2 a b) (omega arith)

magnitude_of : (bits e m : ℕ) → exponent_field bits ≡ e → 0 < e → 2 ^ 52 + fraction_field bits ≡ m
    → magnitude bits ≡ m * 2 ^ e
magnitude_of bits e m he some hm = rw (he, ne_eqb e 0 (λ same. omega (arith, same, some)), hm) refl

-- the fields of the double that is exactly n, under a sign bit
record IsWhole (s n bits : ℕ) : Type 0 where
  pub sign : sign_bit bits ≡ s
  pub exponent : exponent_field bits ≡ whole_exponent n
  pub number : exponent_field bits < 2047
  pub magnitude : magnitude bits ≡ n * 2 ^ 1075

whole_is : (s n : ℕ) → 0 < n → n < 2 ^ 53 → IsWhole s n (s * 2 ^ 63 + (whole_exponent n * 2 ^ 52 + whole_fraction n))
whole_is s n some small =
    let is = highest_is n some small in
    let t = highest_bit n in
    let low = moved_low n t is.low is.bound in
    let high = moved_high n t is.high is.bound in
    let exponent : exponent_field (s * 2 ^ 63 + (whole_exponent n * 2 ^ 52 + whole_fraction n)) ≡ whole_exponent n =
    exponent_of s (whole_exponent n) (whole_fraction n) (omega (arith, is.bound)) (omega arith) in
    record {
      sign = sign_of s (whole_exponent n) (whole_fraction n) (omega (arith, is.bound)) (omega arith);
      exponent = exponent;
      number = omega (arith, exponent, is.bound);
      magnitude =
          magnitude_of _ (whole_exponent n) (n * 2 ^ (52 - t)) exponent (omega arith)
          (omega (arith, fraction_of s (whole_exponent n) (whole_fraction n) (omega arith)))
          ∙ split_power n (52 - t) (1023 + t) 1075 (omega (arith, is.bound));
    }

-- ---- a coordinate's bits
-- what the bits of k have to be
pub record IsExactly (k : ℤ) (bits : ℕ) : Type 0 where
  pub number : exponent_field bits < 2047
  pub value : scaled_value bits ≡ k *ℤ pos (2 ^ 1075)

exact_zero : IsExactly (pos 0) 0
exact_zero = record { number = lit< tt; value = refl }

plus : (bits n : ℕ) → IsWhole 0 n bits → IsExactly (pos n) bits
plus bits n is = record { number = is.number; value = rw (is.sign, is.magnitude) refl }

minus : (bits n : ℕ) → IsWhole 1 n bits → IsExactly (neg_ℤ (pos n)) bits
minus bits n is = record { number = is.number; value = rw (is.sign, is.magnitude) (sym (neg-mul (pos n) (pos (2 ^ 1075)))) }

pub whole_bits_of : (n : ℕ) → 0 < n → whole_bits n ≡ whole_exponent n * 2 ^ 52 + whole_fraction n
unfolding whole_bits
whole_bits_of n some = rw (ne_eqb n 0 (λ same. omega (arith, same, some))) refl

pub no_bits : 0 ≡ whole_bits 0
unfolding whole_bits
no_bits = refl

positive_bits : (n : ℕ) → 0 < n → 0 * 2 ^ 63 + (whole_exponent n * 2 ^ 52 + whole_fraction n) ≡ whole_bits n
positive_bits n some = rw (whole_bits_of n some) (omega arith)

negative_bits : (n : ℕ) → 0 < n → 1 * 2 ^ 63 + (whole_exponent n * 2 ^ 52 + whole_fraction n) ≡ 2 ^ 63 + whole_bits n
negative_bits n some = rw (whole_bits_of n some) refl

pub bits_minus : (k : ℤ) → int_lt k (pos 0) ≡ true → bits_of k ≡ 2 ^ 63 + whole_bits (unsigned_abs k)
unfolding bits_of
bits_minus k h = rw h refl

pub bits_plus : (k : ℤ) → int_lt k (pos 0) ≡ false → bits_of k ≡ whole_bits (unsigned_abs k)
unfolding bits_of
bits_plus k h = rw h refl

-- the number 0 has no bit
pub bits_zero : (k : ℤ) → k ≡ pos 0 → bits_of k ≡ 0
unfolding bits_of
bits_zero k is = rw is (sym no_bits)

size_small : (k : ℤ) → IsWithin limit k → unsigned_abs k < 2 ^ 53
size_small k within = omega (arith, ints)

-- the bits of k are those of the double that is exactly k
pub bits_exact : (k : ℤ) → IsWithin limit k → IsExactly k (bits_of k)
bits_exact (pos zero) within = let P : ℕ → Type 0 = IsExactly (pos 0) in subst P (sym (bits_zero (pos 0) refl)) exact_zero
bits_exact (pos (suc m)) within =
    let P : ℕ → Type 0 = IsExactly (pos (suc m)) in
    let same = positive_bits (suc m) (omega arith) ∙ sym (bits_plus (pos (suc m)) (le-ltb (suc m) 0 (omega arith))) in
    subst P same (plus _ (suc m) (whole_is 0 (suc m) (omega arith) (size_small (pos (suc m)) within)))
bits_exact (negsuc m) within =
    let P : ℕ → Type 0 = IsExactly (negsuc m) in
    let same = negative_bits (suc m) (omega arith) ∙ sym (bits_minus (negsuc m) refl) in
    subst P same (minus _ (suc m) (whole_is 1 (suc m) (omega arith) (size_small (negsuc m) within)))

same_near : (s z : ℤ) (d : ℕ) → s ≡ z → IsWithin d ((pos 1 *ℤ s -ℤ z) *ℤ pos 1024)
same_near s z d e = rw e (record { low = omega (arith, ints); high = omega (arith, ints) })

pub on_grid_at : (k : ℤ) (bits : ℕ) → IsExactly k bits → IsOnGrid bits Mm k
on_grid_at k bits is = record { is_number = is.number; is_near = same_near (scaled_value bits) (k *ℤ pos (2 ^ 1075)) (2 ^ 1075) is.value }

pub bits_on_grid : (k : ℤ) → IsWithin limit k → IsOnGrid (bits_of k) Mm k
bits_on_grid k within = on_grid_at k (bits_of k) (bits_exact k within)

-- they are read back
pub bits_read : (k : ℤ) → IsWithin limit k → coordinate (bits_of k) Mm ≡ Ok k
bits_read k within = accepted_when (bits_of k) Mm k (bits_on_grid k within) within

-- ---- they are 64 bits
whole_bits_fit : (n : ℕ) → n < 2 ^ 53 → whole_bits n < 2 ^ 63
whole_bits_fit zero small = rw (← no_bits) (lit< tt)
whole_bits_fit (suc m) small =
    let is = highest_is (suc m) (omega arith) small in
    let high = moved_high (suc m) (highest_bit (suc m)) is.high is.bound in
    rw (whole_bits_of (suc m) (omega arith)) (omega (arith, is.bound, high))

pub bits_fit : (k : ℤ) → IsWithin limit k → bits_of k < 2 ^ 64
bits_fit k within = go (int_lt k (pos 0)) refl
  where
    go : (negative : Bool) → int_lt k (pos 0) ≡ negative → bits_of k < 2 ^ 64
    go true h = rw (bits_minus k h) (let fits = whole_bits_fit (unsigned_abs k) (size_small k within) in omega arith)
    go false h = rw (bits_plus k h) (let fits = whole_bits_fit (unsigned_abs k) (size_small k within) in omega arith)
