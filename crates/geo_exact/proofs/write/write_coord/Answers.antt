use Rattle.std.proofs.Common.{◌≡◌, ◌^◌, ◌*ℤ◌, pos, Ok, ℕ, ℤ, sym, subst, arith, FitsSigned}
use Rattle.std.specs.Int.{w64}
use Rattle.std.proofs.lemmas.Int.{ints, to_z-of_z}
use Rattle.geo_exact.specs.declared.coord.Unit.TheVariants.{Mm}
use Rattle.geo_exact.specs.Grid.{IsOnGrid, coordinate, scaled_value}
use Rattle.geo_exact.specs.Limit.{IsWithin, limit}
use Rattle.geo_exact.specs.Doubles.{bits_of}
use Rattle.geo_exact.proofs.doubles.Doubles.{bits_exact, bits_zero, on_grid_at, bits_read}
use Rattle.geo_exact.proofs.write.write_coord.Goals as goal

-- what is said of the bits of a coordinate
record IsWritten (k : ℤ) (bits : ℕ) : Type 0 where
  value : bits ≡ bits_of k
  exact : scaled_value bits ≡ k *ℤ pos (2 ^ 1075)
  zero : k ≡ pos 0 → bits ≡ 0
  on_grid : IsOnGrid bits Mm k
  read_back : coordinate bits Mm ≡ Ok k

written : (k : ℤ) (bits : ℕ) → IsWithin limit k → bits ≡ bits_of k → IsWritten k bits
written k bits within same =
    let P : ℕ → Type 0 = IsWritten k in
    subst P (sym same) (record {
      value = λ i. bits_of k;
      exact = (bits_exact k within).value;
      zero = bits_zero k;
      on_grid = on_grid_at k (bits_of k) (bits_exact k within);
      read_back = bits_read k within;
    })

pub returns : goal.returns
returns c =
    let fits : FitsSigned w64 c.args.k = omega (arith, ints) in
    let is = written c.args.k _ c.requires (simp to_z-of_z at c.coordinate_bits.ensures) in
    record { value = is.value; exact = is.exact; zero = is.zero; on_grid = is.on_grid; read_back = is.read_back }
