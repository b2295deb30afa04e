use Rattle.std.proofs.Common.{sym, ◌∙◌, ap, arith, FitsSigned}
use Rattle.std.specs.Int.{w64}
use Rattle.std.proofs.lemmas.Int.{ints, to_z-of_z}
use Rattle.geo_exact.specs.Doubles.{whole_bits}
use Rattle.geo_exact.proofs.doubles.Doubles.{bits_minus, bits_plus}
use Rattle.geo_exact.proofs.write.coordinate_bits.Goals as goal

pub returns-then-k-lt0 : goal.returns-then-k-lt0
returns-then-k-lt0 c =
    let fits : FitsSigned w64 c.args.k = omega (arith, ints) in
    let bits = c.whole_bits-bits.ensures.value ∙ ap whole_bits (simp to_z-of_z at c.unsigned_abs.ensures.value) in
    omega (arith, bits, bits_minus c.args.k (simp to_z-of_z at c.if-k-lt0.true))

pub returns-else-k-lt0 : goal.returns-else-k-lt0
returns-else-k-lt0 c =
    let fits : FitsSigned w64 c.args.k = omega (arith, ints) in
    let bits = c.whole_bits-bits.ensures.value ∙ ap whole_bits (simp to_z-of_z at c.unsigned_abs.ensures.value) in
    bits ∙ sym (bits_plus c.args.k (simp to_z-of_z at c.if-k-lt0.false))
