use Rattle.std.proofs.Common.{arith, FitsSigned, w64}
use Rattle.std.proofs.lemmas.Int.{ints, to_z-of_z}
use Rattle.geo_exact.proofs.numbers.Within.{min_within}
use Rattle.geo_exact.proofs.bounds.lower.Goals as goal

pub invariant_of-result : goal.invariant_of-result
invariant_of-result c =
    let ax : FitsSigned w64 c.args.a.x = omega (arith, ints) in
    let ay : FitsSigned w64 c.args.a.y = omega (arith, ints) in
    let bx : FitsSigned w64 c.args.b.x = omega (arith, ints) in
    let by : FitsSigned w64 c.args.b.y = omega (arith, ints) in
    let x = min_within (simp to_z-of_z at c.min.ensures.value) c.args.a.x_in_range c.args.b.x_in_range in
    let y = min_within (simp to_z-of_z at c.min-2.ensures.value) c.args.a.y_in_range c.args.b.y_in_range in
    let i : FitsSigned w64 c.min.result = omega (arith, ints) in
    let j : FitsSigned w64 c.min-2.result = omega (arith, ints) in
    record { x_in_range = simp to_z-of_z x; y_in_range = simp to_z-of_z y }
