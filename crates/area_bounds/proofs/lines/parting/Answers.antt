use Rattle.std.proofs.Common.{◌≡◌, ◌∙◌, ap, arith, FitsSigned, w64, to_z, of_z}
use Rattle.std.specs.Int.{w128}
use Rattle.std.proofs.lemmas.Int.{ints, to_z-of_z}
use lib.IntN.{ℤ, ◌-ℤ◌, ◌*ℤ◌}
use Rattle.geo_exact.specs.Limit.{IsWithin, limit}
use Rattle.common_areas.specs.Between.{size}
use Rattle.area_bounds.proofs.lines.parting.Goals as goal

-- the products of four differences, taken from each other
apart : (u v w x a b c d : ℤ) → u ≡ a → v ≡ b → w ≡ c → x ≡ d → size (u *ℤ v -ℤ w *ℤ x) ≡ size (a *ℤ b -ℤ c *ℤ d)
apart u v w x a b c d e f g h = rw (e, f, g, h)

-- a difference of coordinates, as the code's `-` shows it
run_is : (a b z : ℤ) → IsWithin limit a → IsWithin limit b → z ≡ to_z w64 (of_z w64 b) -ℤ to_z w64 (of_z w64 a) → z ≡ b -ℤ a
run_is a b z h k e =
    let p : FitsSigned w64 a = omega (arith, ints) in
    let q : FitsSigned w64 b = omega (arith, ints) in
    simp to_z-of_z at e

pub returns-clause-value : goal.returns-clause-value
returns-clause-value c =
    let u : FitsSigned w64 c.run-one_across.result = omega (arith, ints) in
    let v : FitsSigned w64 c.run-one_up.result = omega (arith, ints) in
    let w : FitsSigned w64 c.run-other_across.result = omega (arith, ints) in
    let x : FitsSigned w64 c.run-other_up.result = omega (arith, ints) in
    let p : FitsSigned w128 c.run_product.result = omega (arith, ints) in
    let q : FitsSigned w128 c.run_product-2.result = omega (arith, ints) in
    let e : c.run_product.result ≡ c.run-one_across.result *ℤ c.run-other_up.result = simp to_z-of_z at c.run_product.ensures.value in
    let f : c.run_product-2.result ≡ c.run-other_across.result *ℤ c.run-one_up.result = simp to_z-of_z at c.run_product-2.ensures.value in
    let g = simp to_z-of_z at c.distance.ensures.value in
    g ∙ ap (λ z. size (z -ℤ c.run_product-2.result)) e ∙ ap (λ z. size (c.run-one_across.result *ℤ c.run-other_up.result -ℤ z)) f
    ∙ apart c.run-one_across.result c.run-other_up.result c.run-other_across.result c.run-one_up.result
    (c.args.one.high.x -ℤ c.args.one.low.x) (c.args.other.high.y -ℤ c.args.other.low.y)
    (c.args.other.high.x -ℤ c.args.other.low.x) (c.args.one.high.y -ℤ c.args.one.low.y)
    (run_is _ _ _ c.args.one.low.x_in_range c.args.one.high.x_in_range c.run-one_across.ensures.value)
    (run_is _ _ _ c.args.other.low.y_in_range c.args.other.high.y_in_range c.run-other_up.ensures.value)
    (run_is _ _ _ c.args.other.low.x_in_range c.args.other.high.x_in_range c.run-other_across.ensures.value)
    (run_is _ _ _ c.args.one.low.y_in_range c.args.one.high.y_in_range c.run-one_up.ensures.value)
