-- Quotients in parts, and what was lost in them.
use Rattle.std.proofs.Common.{◌≡◌, ℕ, zero, suc, ◌+◌, ◌*◌, ◌<◌, ◌≤◌, inl, inr, refl, arith}
use Rattle.std.proofs.lemmas.Bool.{cases_lt}
use Rattle.std.proofs.lemmas.Nat.{mul-le}
use Rattle.std.proofs.Math.Nat.{mul-lt-mul_of_pos_right}

-- a common factor can be left out
pub cancelled : (a b d : ℕ) → 0 < d → a * d ≤ b * d → a ≤ b
cancelled a b d h k = elim (cases_lt b a) [
  | inl q ↦ absurd (omega (arith, k, mul-lt-mul_of_pos_right {k = d} q h))
  | inr q ↦ q
]

-- what is left is less than what was lost stands for
pub within_lost : (rest d lost : ℕ) → rest < d → (lost ≡ 0 → rest ≡ 0) → rest ≤ lost * d
within_lost rest d zero h k = omega (arith, k refl)
within_lost rest d (suc n) h k = omega (arith, mul-le 1 d (suc n) d (omega arith) (omega arith))

pub two_within_lost : (first second d e lost : ℕ) → first < d → second < e → (lost ≡ 0 → (first ≡ 0) × (second ≡ 0))
    → second * d + first ≤ lost * (e * d)
two_within_lost first second d e zero h k f = let z = f refl in rw (z.0, z.1) (omega arith)
two_within_lost first second d e (suc n) h k f =
    omega (
      arith,
      mul-le (second + 1) d e d (omega arith) (omega arith),
      mul-le 1 (e * d) (suc n) (e * d) (omega arith) (omega arith),
    )

-- ---- a trapezoid's parts: P to a square millimetre, L the limit
pub trapezoid_above : (P h s r q rest : ℕ) → h * P * s ≡ q * (2 * r) + rest → q * (2 * r) ≤ P * (h * s)
trapezoid_above P h s r q rest e = omega (arith, e)

pub trapezoid_below : (P h s r q rest lost : ℕ) → h * P * s ≡ q * (2 * r) + rest → rest < 2 * r → (lost ≡ 0 → rest ≡ 0)
    → P * (h * s) ≤ (q + lost) * (2 * r)
trapezoid_below P h s r q rest lost e l k = omega (arith, e, within_lost rest (2 * r) lost l k)

pub trapezoid_bound : (P L h s r q rest : ℕ) → h * P * s ≡ q * (2 * r) + rest → 0 < r → s ≤ 4 * L * r → h ≤ 2 * L
    → q ≤ P * (2 * L * (2 * L))
trapezoid_bound P L h s r q rest e p hs hh =
    cancelled q (P * (2 * L * (2 * L))) (2 * r) (omega arith)
    (omega (arith, e, mul-le (h * P) s (2 * L * P) (4 * L * r) (mul-le h P (2 * L) P hh (omega arith)) hs))

-- ---- two triangles' parts
squares_within : (f s : ℕ) → f * f + s * s ≤ (f + s) * (f + s)
squares_within f s = omega arith

-- the squares of sides of up to 4 L r, where r is up to (2 L) (2 L)
pub squares_bound : (P L f s r : ℕ) → f + s ≤ 4 * L * r → r ≤ 2 * L * (2 * L)
    → (f * f + s * s) * P ≤ (16 * (L * L * L)) * (16 * (L * L * L)) * P
squares_bound P L f s r h k =
    let m : f + s ≤ 16 * (L * L * L) = omega (arith, h, mul-le (4 * L) r (4 * L) (2 * L * (2 * L)) (omega arith) k) in
    omega (
      arith,
      mul-le (f * f + s * s) P ((f + s) * (f + s)) P (squares_within f s) (omega arith),
      mul-le ((f + s) * (f + s)) P (16 * (L * L * L) * (16 * (L * L * L))) P
          (mul-le (f + s) (f + s) (16 * (L * L * L)) (16 * (L * L * L)) m m) (omega arith),
    )

pub triangles_above : (P h f s r p q o once twice : ℕ) → (f * f + s * s) * P ≡ o * (2 * r) + once → o ≡ q * p + twice
    → f + s ≡ p * h → q * (2 * r * (f + s)) ≤ P * (h * (f * f + s * s))
triangles_above P h f s r p q o once twice e d k =
    let a : q * p * (2 * r) ≤ (f * f + s * s) * P =
    rw e (omega (arith, mul-le (q * p) (2 * r) o (2 * r) (omega (arith, d)) (omega arith))) in
    let b : q * p * (2 * r) * h ≤ (f * f + s * s) * P * h = mul-le (q * p * (2 * r)) h ((f * f + s * s) * P) h a (omega arith) in
    let c : q * (2 * r * (p * h)) ≤ P * (h * (f * f + s * s)) = omega (arith, b) in
    rw k c

pub triangles_below : (P h f s r p q o once twice lost : ℕ) → (f * f + s * s) * P ≡ o * (2 * r) + once → o ≡ q * p + twice
    → f + s ≡ p * h → once < 2 * r → twice < p → (lost ≡ 0 → (once ≡ 0) × (twice ≡ 0))
    → P * (h * (f * f + s * s)) ≤ (q + lost) * (2 * r * (f + s))
triangles_below P h f s r p q o once twice lost e d k ho ht hl =
    let a : (f * f + s * s) * P ≤ (q + lost) * (p * (2 * r)) =
    rw (e, d) (omega (arith, two_within_lost once twice (2 * r) p lost ho ht hl)) in
    let b : (f * f + s * s) * P * h ≤ (q + lost) * (p * (2 * r)) * h =
    mul-le ((f * f + s * s) * P) h ((q + lost) * (p * (2 * r))) h a (omega arith) in
    let c : P * (h * (f * f + s * s)) ≤ (q + lost) * (2 * r * (p * h)) = omega (arith, b) in
    rw k c

pub triangles_bound : (P L h f s r p q o once twice : ℕ) → (f * f + s * s) * P ≡ o * (2 * r) + once → o ≡ q * p + twice
    → f + s ≡ p * h → f + s ≤ 4 * L * r → h ≤ 2 * L → 0 < r → 0 < p → q ≤ P * (2 * L * (2 * L))
triangles_bound P L h f s r p q o once twice e d k hs hh hr hp =
    let a : q * p * (2 * r) ≤ (f * f + s * s) * P =
    rw e (omega (arith, mul-le (q * p) (2 * r) o (2 * r) (omega (arith, d)) (omega arith))) in
    let b : (f * f + s * s) * P ≤ (f + s) * (f + s) * P =
    mul-le (f * f + s * s) P ((f + s) * (f + s)) P (squares_within f s) (omega arith) in
    let g : f + s ≤ p * (2 * L) = omega (arith, k, mul-le p h p (2 * L) (omega arith) hh) in
    let c : (f + s) * (f + s) ≤ p * (2 * L) * (4 * L * r) = mul-le (f + s) (f + s) (p * (2 * L)) (4 * L * r) g hs in
    let m : (f + s) * (f + s) * P ≤ p * (2 * L) * (4 * L * r) * P =
    mul-le ((f + s) * (f + s)) P (p * (2 * L) * (4 * L * r)) P c (omega arith) in
    let z : 0 < p * r = mul_positive p r hp hr in
    cancelled q (P * (2 * L * (2 * L))) (2 * (p * r)) (omega (arith, z)) (omega (arith, a, b, m))
  where
    mul_positive : (x y : ℕ) → 0 < x → 0 < y → 0 < x * y
    mul_positive x y h k = omega (arith, mul-le 1 1 x y (omega arith) (omega arith))
