use Rattle.std.proofs.Common.{◌≡◌, ◌+◌, ◌*◌, ◌≤◌, ◌∙◌, sym, ap, arith, ℕ}
use Rattle.geo_exact.specs.Limit.{limit}
use Rattle.wide_numbers.specs.Value.{value}
use Rattle.area_bounds.specs.declared.parts.TheConstants.{PARTS}
use Rattle.area_bounds.proofs.Quotients.{triangles_above, triangles_below, triangles_bound}
use Rattle.area_bounds.proofs.Losses.{triangles_loss}
use Rattle.area_bounds.proofs.parts.triangles.Goals as goal

pub narrow-requires : goal.narrow-requires
narrow-requires c =
    let f : value c.plus.result ≡ c.args.first * c.args.first + c.args.second * c.args.second =
    omega (arith, c.plus.ensures, c.product.ensures, c.product-2.ensures) in
    let e : (c.args.first * c.args.first + c.args.second * c.args.second) * PARTS
    ≡ value c.divided_with_rest-once.result.whole * (2 * c.args.rises) + c.divided_with_rest-once.result.rest =
    ap (λ (x : ℕ). x * PARTS) (sym f) ∙ sym c.times-squares.ensures ∙ c.divided_with_rest-once.ensures.exact in
    let b : value c.divided_with_rest-twice.result.whole ≤ PARTS * (2 * limit * (2 * limit)) =
    triangles_bound PARTS limit c.args.height c.args.first c.args.second c.args.rises c.args.parting
    (value c.divided_with_rest-twice.result.whole) (value c.divided_with_rest-once.result.whole)
    c.divided_with_rest-once.result.rest c.divided_with_rest-twice.result.rest
    e c.divided_with_rest-twice.ensures.exact c.requires.sides_part c.requires.sides c.requires.height c.requires.some c.requires.apart in
    omega (arith, b)

pub returns : goal.returns
returns c =
    let f : value c.plus.result ≡ c.args.first * c.args.first + c.args.second * c.args.second =
    omega (arith, c.plus.ensures, c.product.ensures, c.product-2.ensures) in
    let e : (c.args.first * c.args.first + c.args.second * c.args.second) * PARTS
    ≡ value c.divided_with_rest-once.result.whole * (2 * c.args.rises) + c.divided_with_rest-once.result.rest =
    ap (λ (x : ℕ). x * PARTS) (sym f) ∙ sym c.times-squares.ensures ∙ c.divided_with_rest-once.ensures.exact in
    let d : value c.divided_with_rest-once.result.whole ≡ c.narrow.result * c.args.parting + c.divided_with_rest-twice.result.rest =
    rw c.narrow.ensures c.divided_with_rest-twice.ensures.exact in
    record {
      counted = record {
        above = triangles_above PARTS c.args.height c.args.first c.args.second c.args.rises c.args.parting c.narrow.result
            (value c.divided_with_rest-once.result.whole) c.divided_with_rest-once.result.rest c.divided_with_rest-twice.result.rest
            e d c.requires.sides_part;
        below = triangles_below PARTS c.args.height c.args.first c.args.second c.args.rises c.args.parting c.narrow.result
            (value c.divided_with_rest-once.result.whole) c.divided_with_rest-once.result.rest c.divided_with_rest-twice.result.rest
            c.lost_in.result e d c.requires.sides_part c.divided_with_rest-once.ensures.left c.divided_with_rest-twice.ensures.left
            c.lost_in.ensures.none;
      };
      bound = triangles_bound PARTS limit c.args.height c.args.first c.args.second c.args.rises c.args.parting c.narrow.result
          (value c.divided_with_rest-once.result.whole) c.divided_with_rest-once.result.rest c.divided_with_rest-twice.result.rest
          e d c.requires.sides_part c.requires.sides c.requires.height c.requires.some c.requires.apart;
      lost = c.lost_in.ensures.one;
      rounded = triangles_loss PARTS c.args.height c.args.first c.args.second c.args.rises c.args.parting c.narrow.result
          (value c.divided_with_rest-once.result.whole) c.divided_with_rest-once.result.rest c.divided_with_rest-twice.result.rest
          c.lost_in.result e d c.requires.sides_part c.divided_with_rest-once.ensures.left c.divided_with_rest-twice.ensures.left
          c.lost_in.ensures.some c.lost_in.ensures.one;
    }
