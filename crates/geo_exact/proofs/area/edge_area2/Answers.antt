use Rattle.std.proofs.Common.{arith, lit<, ◌∙◌, FitsSigned}
use Rattle.std.specs.Int.{w64}
use Rattle.std.proofs.lemmas.Int.{ints, to_z-of_z}
use Rattle.geo_exact.proofs.numbers.Within.{wide_sub}
use Rattle.geo_exact.proofs.area.edge_area2.Goals as goal

pub overflow_sub-result : goal.overflow_sub-result
overflow_sub-result c = omega (arith, ints)

pub returns-clause-value : goal.returns-clause-value
returns-clause-value c =
    let ax : FitsSigned w64 c.args.from.x = omega (arith, ints) in
    let ay : FitsSigned w64 c.args.from.y = omega (arith, ints) in
    let bx : FitsSigned w64 c.args.to.x = omega (arith, ints) in
    let by : FitsSigned w64 c.args.to.y = omega (arith, ints) in
    wide_sub _ _ _ _ c.coordinate_product.ensures.bound c.coordinate_product-2.ensures.bound (lit< tt)
    ∙ omega (arith, ints, simp to_z-of_z at c.coordinate_product.ensures.value, simp to_z-of_z at c.coordinate_product-2.ensures.value)

pub returns-clause-bound : goal.returns-clause-bound
returns-clause-bound c = record { low = omega (arith, ints); high = omega (arith, ints) }
