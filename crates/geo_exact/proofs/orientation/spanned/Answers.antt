use Rattle.std.proofs.Common.{arith, lit<, ◌∙◌, FitsSigned}
use Rattle.std.specs.Int.{w64}
use Rattle.std.proofs.lemmas.Int.{ints, to_z-of_z}
use Rattle.geo_exact.proofs.numbers.Within.{wide_sub}
use Rattle.geo_exact.proofs.orientation.spanned.Goals as goal

pub overflow_sub-result : goal.overflow_sub-result
overflow_sub-result c = omega (arith, ints)

pub returns-clause-value : goal.returns-clause-value
returns-clause-value c =
    let ux : FitsSigned w64 c.args.u.x = omega (arith, ints) in
    let uy : FitsSigned w64 c.args.u.y = omega (arith, ints) in
    let vx : FitsSigned w64 c.args.v.x = omega (arith, ints) in
    let vy : FitsSigned w64 c.args.v.y = omega (arith, ints) in
    wide_sub _ _ _ _ c.side_product.ensures.bound c.side_product-2.ensures.bound (lit< tt)
    ∙ omega (arith, ints, simp to_z-of_z at c.side_product.ensures.value, simp to_z-of_z at c.side_product-2.ensures.value)

pub returns-clause-bound : goal.returns-clause-bound
returns-clause-bound c = record { low = omega (arith, ints); high = omega (arith, ints) }
