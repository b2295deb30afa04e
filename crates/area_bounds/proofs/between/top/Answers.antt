use Rattle.std.proofs.Common.{arith, sym, ◌∙◌, FitsSigned, w64}
use Rattle.std.proofs.lemmas.Int.{ints, to_z-of_z}
use Rattle.geo_exact.proofs.numbers.Extremes.{min_of}
use Rattle.geo_exact.proofs.numbers.Within.{min_within}
use Rattle.area_bounds.specs.Edges.{edge_of}
use Rattle.area_bounds.proofs.EdgeLines.{highest_of}
use Rattle.area_bounds.proofs.between.top.Goals as goal

pub returns : goal.returns
unfolding edge_of
returns c =
    let p : FitsSigned w64 c.args.one.high.y = omega (arith, ints, c.args.one.high.y_in_range.low, c.args.one.high.y_in_range.high) in
    let q : FitsSigned w64 c.args.other.high.y = omega (arith, ints, c.args.other.high.y_in_range.low, c.args.other.high.y_in_range.high) in
    let e = simp to_z-of_z at c.min.ensures.value in
    let i = min_within e c.args.one.high.y_in_range c.args.other.high.y_in_range in
    let r : FitsSigned w64 c.min.result = omega (arith, ints, i.low, i.high) in
    record {
      value = simp to_z-of_z (e
          ∙ sym (highest_of c.args.one.is_up c.args.other.is_up c.args.one.low c.args.one.high c.args.other.low c.args.other.high
          c.args.one.rises c.args.other.rises));
      one = simp to_z-of_z (min_of e).0;
      other = simp to_z-of_z (min_of e).1;
    }
