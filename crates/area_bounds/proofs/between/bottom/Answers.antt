use Rattle.std.proofs.Common.{arith, sym, ◌∙◌, FitsSigned, w64}
use Rattle.std.proofs.lemmas.Int.{ints, to_z-of_z}
use Rattle.geo_exact.proofs.numbers.Extremes.{max_of}
use Rattle.geo_exact.proofs.numbers.Within.{max_within}
use Rattle.area_bounds.specs.Edges.{edge_of}
use Rattle.area_bounds.proofs.EdgeLines.{lowest_of}
use Rattle.area_bounds.proofs.between.bottom.Goals as goal

pub returns : goal.returns
unfolding edge_of
returns c =
    let p : FitsSigned w64 c.args.one.low.y = omega (arith, ints, c.args.one.low.y_in_range.low, c.args.one.low.y_in_range.high) in
    let q : FitsSigned w64 c.args.other.low.y = omega (arith, ints, c.args.other.low.y_in_range.low, c.args.other.low.y_in_range.high) in
    let e = simp to_z-of_z at c.max.ensures.value in
    let i = max_within e c.args.one.low.y_in_range c.args.other.low.y_in_range in
    let r : FitsSigned w64 c.max.result = omega (arith, ints, i.low, i.high) in
    record {
      value = simp to_z-of_z (e
          ∙ sym (lowest_of c.args.one.is_up c.args.other.is_up c.args.one.low c.args.one.high c.args.other.low c.args.other.high
          c.args.one.rises c.args.other.rises));
      one = simp to_z-of_z (max_of e).0;
      other = simp to_z-of_z (max_of e).1;
    }
