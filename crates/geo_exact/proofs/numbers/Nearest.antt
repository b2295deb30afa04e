-- The whole number that is nearest to a fraction m / d.
use Rattle.std.proofs.Common.{◌≡◌, ℕ, ◌+◌, ◌-◌, ◌*◌, ◌/◌, ◌^◌, lit≤, lit<, ◌<◌, ◌≤◌, true, nat_le}
use Rattle.std.proofs.Common.{refl, sym, ◌∙◌, ap, arith, inl, inr, Err, Ok}
use Rattle.std.specs.Int.{abs_diff}
use Rattle.std.proofs.lemmas.Bool.{leb-true, le-leb, lt-leb, lt-ltb, le-ltb, cases_lt}
use Rattle.std.proofs.lemmas.Nat.{div-mul-add, pow-add}
use Rattle.std.proofs.Math.Nat.{mul-div-mul_right, mul-le-mul_right, mul-lt-mul_of_pos_right}
use Rattle.std.proofs.lemmas.Int.{ints}
use lib.IntN.{ℤ, pos, negsuc, ◌-ℤ◌, ◌*ℤ◌, neg_ℤ}
use Rattle.geo_exact.specs.declared.coord.CoordFault.TheVariants.{OffGrid, TooFar}
use Rattle.geo_exact.specs.Grid.{nearest, is_near, size_of}
use Rattle.geo_exact.specs.Limit.{IsWithin, limit}
use Rattle.geo_exact.proofs.numbers.Differences.{expand}

-- a common factor changes no test
times_le : (a b p : ℕ) → 0 < p → nat_le (a * p) (b * p) ≡ nat_le a b
times_le a b p h = elim (cases_lt b a) [
  | inl q ↦ lt-leb (a * p) (b * p) (mul-lt-mul_of_pos_right q h) ∙ sym (lt-leb a b q)
  | inr q ↦ le-leb (a * p) (b * p) (mul-le-mul_right p q) ∙ sym (le-leb a b q)
]

-- how far two multiples are apart
apart_above : (b n p : ℕ) → abs_diff ((b + n) * p) (b * p) ≡ n * p
apart_above b n p = omega arith

apart_below : (a n p : ℕ) → abs_diff (a * p) ((a + n) * p) ≡ n * p
apart_below a n p = omega arith

apart_times : (a b p : ℕ) → abs_diff (a * p) (b * p) ≡ abs_diff a b * p
apart_times a b p = elim (cases_lt b a) [
  | inl q ↦ let e : a ≡ b + (a - b) = omega arith in
      let f : abs_diff a b ≡ a - b = omega arith in
      rw f (ap (λ n. abs_diff (n * p) (b * p)) e ∙ apart_above b (a - b) p)
  | inr q ↦ let e : b ≡ a + (b - a) = omega arith in
      let f : abs_diff a b ≡ b - a = omega arith in
      rw f (ap (λ n. abs_diff (a * p) (n * p)) e ∙ apart_below a (b - a) p)
]

-- a common factor changes no fraction
nearest_scaled : (m d p : ℕ) → 0 < p → nearest (m * p) (d * p) ≡ nearest m d
nearest_scaled m d p h =
    let a : 2 * (m * p) + d * p ≡ (2 * m + d) * p = omega arith in
    let b : 2 * (d * p) ≡ 2 * d * p = omega arith in
    rw (a, b) (mul-div-mul_right (2 * m + d) (2 * d) h)

-- nor what is near it
near_scaled : (m d k p : ℕ) → 0 < p → is_near (m * p) (d * p) k ≡ is_near m d k
near_scaled m d k p h =
    let a : k * (d * p) ≡ k * d * p = omega arith in
    let b : abs_diff m (k * d) * p * 1024 ≡ abs_diff m (k * d) * 1024 * p = omega arith in
    rw (a, apart_times m (k * d) p, b) (times_le (abs_diff m (k * d) * 1024) d p h)

-- nor its answer
pub size_scaled : (m d p : ℕ) → 0 < p → size_of (m * p) (d * p) ≡ size_of m d
unfolding size_of
size_scaled m d p h = rw (nearest_scaled m d p h, near_scaled m d (nearest m d) p h) refl

-- ---- at most one whole number is near
-- what is near is the nearest
only_near : (m d k : ℕ) → 0 < d → abs_diff m (k * d) * 1024 ≤ d → nearest m d ≡ k
only_near m d k h near =
    let e : 2 * m + d ≡ k * (2 * d) + (2 * m + d - k * (2 * d)) = omega arith in
    let f : 2 * m + d - k * (2 * d) < 2 * d = omega arith in
    rw e (div-mul-add k (2 * d) (2 * m + d - k * (2 * d)) f)

-- the signed fraction s / d is within 1/1024 of k, both sides times d
abbrev pub IsNear : ℤ → ℕ → ℤ → Type 0
IsNear s d k = IsWithin d ((s -ℤ k *ℤ pos d) *ℤ pos 1024)

-- a number near m / d is the nearest one, and the test says so
pub near_from : (m d : ℕ) (k : ℤ) → 0 < d → IsNear (pos m) d k → (k ≡ pos (nearest m d)) × (is_near m d (nearest m d) ≡ true)
near_from m d (pos j) h near =
    let e : pos j *ℤ pos d ≡ pos (j * d) = refl in
    let f : abs_diff m (j * d) * 1024 ≤ d = omega (arith, ints, near.low, near.high, e) in
    let only = only_near m d j h f in
    rw only (refl, le-leb _ _ f)
near_from m d (negsuc j) h near =
    let e : negsuc j *ℤ pos d ≡ neg_ℤ (pos (j * d + d)) = omega (arith, ints) in
    absurd (omega (arith, ints, near.low, near.high, e))

-- what the test says is near is near
pub near_to : (m d j : ℕ) → is_near m d j ≡ true → IsNear (pos m) d (pos j)
near_to m d j h =
    let e : pos j *ℤ pos d ≡ pos (j * d) = refl in
    let f : abs_diff m (j * d) * 1024 ≤ d = leb-true _ _ h in
    record { low = omega (arith, ints, e); high = omega (arith, ints, e) }

-- both signs changed
pub near_turned : (s : ℤ) (d : ℕ) (k : ℤ) → IsNear s d k → IsNear (neg_ℤ s) d (neg_ℤ k)
near_turned s d k h =
    let e : (neg_ℤ s -ℤ neg_ℤ k *ℤ pos d) *ℤ pos 1024 ≡ neg_ℤ ((s -ℤ k *ℤ pos d) *ℤ pos 1024) =
    simp expand (omega (arith, ints)) in
    rw e (record { low = omega (arith, ints, h.low, h.high); high = omega (arith, ints, h.low, h.high) })

-- ---- the answer for a size, by its cases
pub size_off : (m d : ℕ) → d < abs_diff m (nearest m d * d) * 1024 → size_of m d ≡ Err OffGrid
unfolding size_of
size_off m d h = rw (lt-leb _ _ h) refl

pub size_far : (m d : ℕ) → abs_diff m (nearest m d * d) * 1024 ≤ d → limit < nearest m d → size_of m d ≡ Err TooFar
unfolding size_of
size_far m d h k = rw (le-leb _ _ h, lt-ltb _ _ k) refl

pub size_ok : (m d : ℕ) → abs_diff m (nearest m d * d) * 1024 ≤ d → nearest m d ≤ limit → size_of m d ≡ Ok (nearest m d)
unfolding size_of
size_ok m d h k = rw (le-leb _ _ h, le-ltb _ _ k) refl

-- a fraction below 1/1024 is read as 0
pub size_none : (m d : ℕ) → 0 < d → m * 1024 ≤ d → size_of m d ≡ Ok 0
size_none m d p h =
    let none : nearest m d ≡ 0 = only_near m d 0 p (omega arith) in
    let a : abs_diff m (nearest m d * d) * 1024 ≤ d = rw none (omega arith) in
    size_ok m d a (rw none (lit≤ tt)) ∙ ap Ok none

-- the nearest whole number as shifts give it
pub shifted_nearest : (m s : ℕ) → (2 * m + 2 ^ s) / 2 ^ (s + 1) ≡ nearest m (2 ^ s)
shifted_nearest m s = ap (λ n. (2 * m + 2 ^ s) / n) (let e : 2 ^ (s + 1) ≡ 2 ^ s * 2 ^ 1 = pow-add 2 s 1 in e ∙ omega arith)

-- a whole number beyond the limit
pub size_whole : (k : ℕ) → limit < k → size_of k 1 ≡ Err TooFar
size_whole k h =
    let n : nearest k 1 ≡ k = only_near k 1 k (lit< tt) (omega arith) in
    size_far k 1 (rw n (omega arith)) (rw n h)

-- and one within it
pub size_same : (k : ℕ) → k ≤ limit → size_of k 1 ≡ Ok k
size_same k h =
    let n : nearest k 1 ≡ k = only_near k 1 k (lit< tt) (omega arith) in
    size_ok k 1 (rw n (omega arith)) (rw n h) ∙ ap Ok n
