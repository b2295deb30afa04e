use Rattle.std.proofs.Common.{◌≡◌, arith, lit<, ◌∙◌, FitsSigned, rules, ◌*◌, ◌^◌, ◌*ℤ◌}
use Rattle.std.specs.Int.{w64}
use Rattle.std.proofs.lemmas.Int.{ints, to_z-of_z}
use Rattle.geo_exact.specs.Limit.{IsWithin, limit}
use Rattle.geo_exact.proofs.numbers.Within.{wide_sub}
use Rattle.edge_chains.proofs.edges.OnLines.{product_small}
use Rattle.edge_chains.proofs.lines.rank.Goals as goal

pub overflow_sub-result : goal.overflow_sub-result
overflow_sub-result c =
    let x : FitsSigned w64 c.args.corner.x = omega (arith, ints) in
    let y : FitsSigned w64 c.args.corner.y = omega (arith, ints) in
    let u : FitsSigned w64 c.args.across = search rules in
    let v : FitsSigned w64 c.args.up = search rules in
    let p : IsWithin (2 ^ 63 * limit) c.wide_product.result =
    product_small c.args.across c.args.corner.y c.wide_product.result u c.args.corner.y_in_range
    (simp to_z-of_z at c.wide_product.ensures) in
    let q : IsWithin (2 ^ 63 * limit) c.wide_product-2.result =
    product_small c.args.up c.args.corner.x c.wide_product-2.result v c.args.corner.x_in_range
    (simp to_z-of_z at c.wide_product-2.ensures) in
    omega (arith, ints, p.low, p.high, q.low, q.high)

pub returns : goal.returns
returns c =
    let x : FitsSigned w64 c.args.corner.x = omega (arith, ints) in
    let y : FitsSigned w64 c.args.corner.y = omega (arith, ints) in
    let u : FitsSigned w64 c.args.across = search rules in
    let v : FitsSigned w64 c.args.up = search rules in
    let e : c.wide_product.result ≡ c.args.across *ℤ c.args.corner.y = simp to_z-of_z at c.wide_product.ensures in
    let f : c.wide_product-2.result ≡ c.args.up *ℤ c.args.corner.x = simp to_z-of_z at c.wide_product-2.ensures in
    wide_sub _ _ _ _ (product_small c.args.across c.args.corner.y c.wide_product.result u c.args.corner.y_in_range e)
    (product_small c.args.up c.args.corner.x c.wide_product-2.result v c.args.corner.x_in_range f) (lit< tt)
    ∙ omega (arith, ints, e, f)
