-- The orders of two numbers, and their tests.
use Rattle.std.proofs.Common.{◌≡◌, sym, arith, true}
use Rattle.std.specs.Bool.{Decides}
use Rattle.std.proofs.lemmas.Int.{ints}
use lib.IntN.{ℤ, pos}
use lib.Signed.{◌<ℤ◌, ◌≤ℤ◌, lt_z, le_z}

pub Decides-int_le : (u v : ℤ) → Decides (le_z u v) (u ≤ℤ v)
Decides-int_le u v = (λ e. omega (arith, ints), λ h. let e : true ≡ le_z u v = omega (arith, ints) in sym e)

pub Decides-int_lt : (u v : ℤ) → Decides (lt_z u v) (u <ℤ v)
Decides-int_lt u v = (λ e. omega (arith, ints), λ h. let e : true ≡ lt_z u v = omega (arith, ints) in sym e)

pub le_of_lt : (u v : ℤ) → u <ℤ v → u ≤ℤ v
le_of_lt u v h = omega (arith, ints)

pub le_both : (u v : ℤ) → u ≤ℤ v → v ≤ℤ u → u ≡ v
le_both u v h k = omega (arith, ints)

pub lt_not_ge : (u v : ℤ) → u <ℤ v → v ≤ℤ u → ⊥
lt_not_ge u v h k = omega (arith, ints)

pub positive_not_zero : (z : ℤ) → pos 0 <ℤ z → z ≡ pos 0 → ⊥
positive_not_zero z h e = omega (arith, ints)
