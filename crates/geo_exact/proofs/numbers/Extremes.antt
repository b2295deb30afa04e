-- The lesser and the greater of two numbers, and the least and the greatest of three.
use Rattle.std.proofs.Common.{◌≡◌, ◌⊎◌, ◌↔◌, inl, inr, ℤ, pos, ◌*ℤ◌, ◌<ℤ◌, ◌≤ℤ◌, arith}
use Rattle.std.specs.Int.{int_min, int_max}
use Rattle.std.proofs.lemmas.Int.{ints, by_lt_z, int_min_is, int_max_is}
use Rattle.geo_exact.proofs.numbers.Signs.{mul_le}

pub least_of : {y z u v w : ℤ} → y ≡ int_min u v → z ≡ int_min y w → (z ≤ℤ u) × (z ≤ℤ v) × (z ≤ℤ w)
least_of {y = y} {u = u} {v = v} {w = w} e f =
    let g = int_min_is u v in let h = int_min_is y w in
    (omega (arith, ints), omega (arith, ints), omega (arith, ints))

pub greatest_of : {y z u v w : ℤ} → y ≡ int_max u v → z ≡ int_max y w → (u ≤ℤ z) × (v ≤ℤ z) × (w ≤ℤ z)
greatest_of {y = y} {u = u} {v = v} {w = w} e f =
    let g = int_max_is u v in let h = int_max_is y w in
    (omega (arith, ints), omega (arith, ints), omega (arith, ints))

pub min_of : {z u v : ℤ} → z ≡ int_min u v → (z ≤ℤ u) × (z ≤ℤ v)
min_of {u = u} {v = v} e = let f = int_min_is u v in (omega (arith, ints), omega (arith, ints))

pub max_of : {z u v : ℤ} → z ≡ int_max u v → (u ≤ℤ z) × (v ≤ℤ z)
max_of {u = u} {v = v} e = let f = int_max_is u v in (omega (arith, ints), omega (arith, ints))

pub max_is_one : {z u v : ℤ} → z ≡ int_max u v → (z ≡ u) ⊎ (z ≡ v)
max_is_one {z = z} {u = u} {v = v} e =
    let f = int_max_is u v in by_lt_z u v (λ h. inr (omega (arith, ints))) (λ h. inl (omega (arith, ints)))

pub min_is_one : {z u v : ℤ} → z ≡ int_min u v → (z ≡ u) ⊎ (z ≡ v)
min_is_one {z = z} {u = u} {v = v} e =
    let f = int_min_is u v in by_lt_z u v (λ h. inl (omega (arith, ints))) (λ h. inr (omega (arith, ints)))

-- what is above the greater of two, times d, is above both, and what is below the lesser is below both
pub above_max : (u v d x : ℤ) {z : ℤ} → pos 0 <ℤ d → z ≡ int_max u v → ((z *ℤ d) <ℤ x)
    ↔ (((u *ℤ d) <ℤ x) × ((v *ℤ d) <ℤ x))
above_max u v d x {z = z} p e =
    let b : (u ≤ℤ z) × (v ≤ℤ z) = max_of e in
    let q : pos 0 ≤ℤ d = omega (arith, ints) in (
      λ h. (omega (arith, ints, mul_le u z d q b.0, h), omega (arith, ints, mul_le v z d q b.1, h)),
      λ h. elim (max_is_one e) [
        | inl f ↦ rw f h.0
        | inr f ↦ rw f h.1
      ],
    )

pub below_min : (u v d x : ℤ) {z : ℤ} → pos 0 <ℤ d → z ≡ int_min u v → (x <ℤ (z *ℤ d))
    ↔ ((x <ℤ (u *ℤ d)) × (x <ℤ (v *ℤ d)))
below_min u v d x {z = z} p e =
    let b : (z ≤ℤ u) × (z ≤ℤ v) = min_of e in
    let q : pos 0 ≤ℤ d = omega (arith, ints) in (
      λ h. (omega (arith, ints, mul_le z u d q b.0, h), omega (arith, ints, mul_le z v d q b.1, h)),
      λ h. elim (min_is_one e) [
        | inl f ↦ rw f h.0
        | inr f ↦ rw f h.1
      ],
    )
