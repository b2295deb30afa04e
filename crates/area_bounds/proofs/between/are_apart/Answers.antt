use Rattle.std.proofs.Common.{arith, FitsSigned, w64}
use Rattle.std.proofs.lemmas.Int.{ints, to_z-of_z}
use Rattle.area_bounds.specs.Edges.{edge_of}
use Rattle.area_bounds.proofs.EdgeLines.{none_above, none_below}
use Rattle.area_bounds.proofs.between.are_apart.Goals as goal

pub returns-then-from-one : goal.returns-then-from-one
unfolding edge_of
returns-then-from-one c h =
    let p : FitsSigned w64 c.args.to.y = omega (arith, ints, c.args.to.y_in_range.low, c.args.to.y_in_range.high) in
    let q : FitsSigned w64 c.args.one.low.y = omega (arith, ints, c.args.one.low.y_in_range.low, c.args.one.low.y_in_range.high) in
    let k = simp to_z-of_z at h in
    none_above c.args.one.is_up c.args.one.low c.args.one.high (record { from = c.args.from; to = c.args.to }) c.args.one.rises
    (omega (arith, ints, c.if-from-one.true))
    (omega (arith, ints, k))

pub returns-then-one-from : goal.returns-then-one-from
unfolding edge_of
returns-then-one-from c h =
    let p : FitsSigned w64 c.args.to.y = omega (arith, ints, c.args.to.y_in_range.low, c.args.to.y_in_range.high) in
    let q : FitsSigned w64 c.args.one.high.y = omega (arith, ints, c.args.one.high.y_in_range.low, c.args.one.high.y_in_range.high) in
    let k = simp to_z-of_z at h in
    none_below c.args.one.is_up c.args.one.low c.args.one.high (record { from = c.args.from; to = c.args.to }) c.args.one.rises
    (omega (arith, ints, c.if-one-from.true))
    (omega (arith, ints, k))
