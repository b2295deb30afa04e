use Rattle.std.proofs.Common.{arith, FitsSigned, ◌*◌, ◌*ℤ◌}
use Rattle.std.specs.Int.{w128}
use Rattle.std.proofs.lemmas.Int.{ints, to_z-of_z}
use Rattle.geo_exact.specs.Limit.{limit}
use Rattle.geo_exact.proofs.numbers.Within.{product_within}
use Rattle.leaning_boxes.proofs.edge.rise_product.Goals as goal

pub returns : goal.returns
returns c =
    let p = product_within (2 * limit) (16 * (limit * limit)) c.args.way c.args.rise c.requires.first c.requires.second in
    let u : FitsSigned w128 c.args.way = omega (arith, ints, c.requires.first.low, c.requires.first.high) in
    let v : FitsSigned w128 c.args.rise = omega (arith, ints, c.requires.second.low, c.requires.second.high) in
    let w : FitsSigned w128 (c.args.way *ℤ c.args.rise) = omega (arith, ints, p.low, p.high) in
    simp to_z-of_z
