use Rattle.std.proofs.Common.{Option, subst, ap, ◌∙◌}
use Rattle.std.specs.Int.{int_min, int_max}
use Rattle.geo_exact.specs.declared.corner.Corner.{Corner}
use Rattle.geo_exact.specs.declared.bounds.Bounds.{Bounds}
use Rattle.shp_files.specs.own.Writing.{MayBeBounds}
use Rattle.shp_files.proofs.rings.LeastBounds.{bounds_one, bounds_push}
use Rattle.shp_files.proofs.bounds.with_corner.Goals as goal

pub returns-in-None : goal.returns-in-None
returns-in-None c = λ before. λ are.
    let low = c.of_corner-own.ensures.low in
    let high = c.of_corner-own.ensures.high in
    let P : Option Bounds → Type 0 = λ bounds. MayBeBounds bounds before in
    bounds_one c.of_corner-own.result before c.args.corner (subst P c.in-None.is are) low high

pub returns-in-Some : goal.returns-in-Some
returns-in-Some c = λ before. λ are.
    let low = c.of_corner-own.ensures.low in
    let high = c.of_corner-own.ensures.high in
    let P : Option Bounds → Type 0 = λ bounds. MayBeBounds bounds before in
    bounds_push c.in-Some.bounds _ before c.args.corner (subst P c.in-Some.is are)
    (c.around.ensures.left ∙ ap (λ (z : Corner). int_min c.in-Some.bounds.low.x z.x) low)
    (c.around.ensures.bottom ∙ ap (λ (z : Corner). int_min c.in-Some.bounds.low.y z.y) low)
    (c.around.ensures.right ∙ ap (λ (z : Corner). int_max c.in-Some.bounds.high.x z.x) high)
    (c.around.ensures.top ∙ ap (λ (z : Corner). int_max c.in-Some.bounds.high.y z.y) high)
