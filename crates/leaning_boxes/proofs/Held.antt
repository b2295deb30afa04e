-- The range of a leaning box once it is wider, and numbers beyond it.
use Rattle.std.proofs.Common.{◌≡◌, arith, FitsSigned, to_z, of_z}
use Rattle.std.specs.Int.{w128, int_min, int_max}
use Rattle.std.proofs.lemmas.Int.{ints, clamps, to_z-of_z}
use lib.IntN.{ℤ, pos, ◌-ℤ◌}
use lib.Signed.{◌<ℤ◌, ◌≤ℤ◌}

-- numbers of 128 bits, as the code passes them
pub least_kept : (m l v t : ℤ) → FitsSigned w128 m → FitsSigned w128 l → m ≡ int_min (to_z w128 (of_z w128 l)) v → l ≤ℤ t
    → to_z w128 (of_z w128 m) ≤ℤ t
least_kept m l v t f g e h = let i : m ≡ int_min l v = simp to_z-of_z at e in rw to_z-of_z (omega (arith, ints, clamps))

pub greatest_kept : (m l v t : ℤ) → FitsSigned w128 m → FitsSigned w128 l → m ≡ int_max (to_z w128 (of_z w128 l)) v → t ≤ℤ l
    → t ≤ℤ to_z w128 (of_z w128 m)
greatest_kept m l v t f g e h = let i : m ≡ int_max l v = simp to_z-of_z at e in rw to_z-of_z (omega (arith, ints, clamps))

pub short_by_one : (s l t : ℤ) → FitsSigned w128 s → FitsSigned w128 l → s ≡ t
    → to_z w128 (of_z w128 s) <ℤ to_z w128 (of_z w128 l) → t ≤ℤ (l -ℤ pos 1)
short_by_one s l t f g e h = let i : s <ℤ l = simp to_z-of_z at h in omega (arith, ints)

pub is_past : (s l t : ℤ) → FitsSigned w128 s → FitsSigned w128 l → s ≡ t
    → to_z w128 (of_z w128 l) <ℤ to_z w128 (of_z w128 s) → l <ℤ t
is_past s l t f g e h = let i : l <ℤ s = simp to_z-of_z at h in omega (arith, ints)

pub one_less_below : (l t : ℤ) → l ≤ℤ t → (l -ℤ pos 1) <ℤ t
one_less_below l t h = omega (arith, ints)
