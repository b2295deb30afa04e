use Rattle.std.proofs.Common.{◌≡◌, ◌+◌, ◌*◌, ◌∙◌, refl, sym, ap, arith, ℕ}
use Rattle.geo_exact.specs.Limit.{limit}
use Rattle.area_bounds.specs.declared.parts.TheConstants.{PARTS}
use Rattle.area_bounds.proofs.Quotients.{trapezoid_above, trapezoid_below, trapezoid_bound}
use Rattle.area_bounds.proofs.Losses.{trapezoid_loss}
use Rattle.area_bounds.proofs.parts.trapezoid.Goals as goal

pub returns : goal.returns
returns c =
    let f : c.from.result ≡ c.args.height * PARTS = omega (arith, c.from.ensures) in
    let e : c.args.height * PARTS * c.args.sides ≡ c.narrow.result * (2 * c.args.rises) + c.divided_with_rest-shared.result.rest =
    rw c.narrow.ensures (ap (λ (x : ℕ). x * c.args.sides) (sym f) ∙ sym c.product.ensures ∙ c.divided_with_rest-shared.ensures.exact) in
    record {
      counted = record {
        above = trapezoid_above PARTS c.args.height c.args.sides c.args.rises c.narrow.result c.divided_with_rest-shared.result.rest e;
        below = trapezoid_below PARTS c.args.height c.args.sides c.args.rises c.narrow.result c.divided_with_rest-shared.result.rest
            c.lost_in.result e c.divided_with_rest-shared.ensures.left (λ z. (c.lost_in.ensures.none z).0);
      };
      bound = trapezoid_bound PARTS limit c.args.height c.args.sides c.args.rises c.narrow.result c.divided_with_rest-shared.result.rest
          e c.requires.some c.requires.sides c.requires.height;
      lost = c.lost_in.ensures.one;
      rounded = trapezoid_loss PARTS c.args.height c.args.sides c.args.rises c.narrow.result c.divided_with_rest-shared.result.rest
          c.lost_in.result e c.divided_with_rest-shared.ensures.left (λ z. c.lost_in.ensures.some z refl) c.lost_in.ensures.one;
    }
