use Rattle.std.proofs.Common.{◌≡◌, ◌*◌, arith}
use Rattle.std.proofs.lemmas.Nat.{mul-le}
use Rattle.geo_exact.specs.Limit.{limit}
use Rattle.area_bounds.specs.Edges.{edge_of}
use Rattle.area_bounds.proofs.EdgeLines.{rises_natural, product_some}
use Rattle.area_bounds.proofs.lines.rises.Goals as goal

pub returns : goal.returns
unfolding edge_of
returns c =
    let f : c.from.result ≡ c.rise-first.result = omega (arith, c.from.ensures) in
    let g : c.from-2.result ≡ c.rise-second.result = omega (arith, c.from-2.ensures) in
    record {
      value = rw (f, g) (rises_natural c.args.one.is_up c.args.other.is_up c.args.one.low c.args.one.high c.args.other.low c.args.other.high
          c.rise-first.result c.rise-second.result c.args.one.rises c.args.other.rises
          c.rise-first.ensures.value c.rise-second.ensures.value);
      some = rw (f, g) (product_some c.rise-first.result c.rise-second.result c.rise-first.ensures.some c.rise-second.ensures.some);
      bound =
          rw (f, g) (mul-le c.rise-first.result c.rise-second.result (2 * limit) (2 * limit) c.rise-first.ensures.bound
          c.rise-second.ensures.bound);
    }
