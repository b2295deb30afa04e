use Rattle.std.proofs.Common.{◌≡◌, ℕ, ◌+◌, ◌*◌, ◌≤◌, ◌<◌, ◌^◌, ℤ, ◌-ℤ◌, ◌*ℤ◌, arith, FitsSigned}
use Rattle.std.proofs.Common.{to_z, of_z}
use Rattle.std.specs.Int.{w128, int_min, int_max}
use Rattle.std.proofs.lemmas.Int.{ints, to_z-of_z, unsigned_abs-mul, int_min_is, int_max_is}
use Rattle.std.specs.Int.RustNames.{unsigned_abs}
use Rattle.std.proofs.Math.Nat.{mul-le-mul}
use Rattle.geo_exact.specs.Limit.{IsWithin}

abs_within : (n : ℕ) (z : ℤ) → IsWithin n z → unsigned_abs z ≤ n
abs_within n z h = omega (arith, ints)

within_abs : (n : ℕ) (z : ℤ) → unsigned_abs z ≤ n → IsWithin n z
within_abs n z h = record { low = omega (arith, ints); high = omega (arith, ints) }

pub product_within : (m n : ℕ) (a b : ℤ) → IsWithin m a → IsWithin n b → IsWithin (m * n) (a *ℤ b)
product_within m n a b h k =
    within_abs (m * n) (a *ℤ b) (rw unsigned_abs-mul (mul-le-mul (abs_within m a h) (abs_within n b k)))

-- a difference at 128 bits, as the code's `-` shows it
pub wide_sub : (m n : ℕ) (a b : ℤ) → IsWithin m a → IsWithin n b → m + n < 2 ^ 127
    → to_z w128 (of_z w128 (to_z w128 (of_z w128 a) -ℤ to_z w128 (of_z w128 b))) ≡ a -ℤ b
wide_sub m n a b h k l =
    let p : FitsSigned w128 a = omega (arith, ints) in
    let q : FitsSigned w128 b = omega (arith, ints) in
    let r : FitsSigned w128 (a -ℤ b) = omega (arith, ints) in
    simp to_z-of_z

-- the lesser and the greater of two numbers are as far from 0 at most
pub min_within : {n : ℕ} {z u v : ℤ} → z ≡ int_min u v → IsWithin n u → IsWithin n v → IsWithin n z
min_within {u = u} {v = v} e i j = let f = int_min_is u v in record { low = omega (arith, ints, i, j); high = omega (arith, ints, i, j) }

pub max_within : {n : ℕ} {z u v : ℤ} → z ≡ int_max u v → IsWithin n u → IsWithin n v → IsWithin n z
max_within {u = u} {v = v} e i j = let f = int_max_is u v in record { low = omega (arith, ints, i, j); high = omega (arith, ints, i, j) }

pub within_more : {m n : ℕ} {z : ℤ} → m ≤ n → IsWithin m z → IsWithin n z
within_more l h = record { low = omega (arith, ints, l, h); high = omega (arith, ints, l, h) }
