use Rattle.std.proofs.Common.{◌∙◌, sym, subst}
use Rattle.geo_exact.specs.Bounds.{HoldsCorner}
use Rattle.geo_exact.proofs.boxes.InBoxes.{Decides-holds_corner}
use Rattle.part_tests.proofs.cells.kept_at.Goals as goal

pub at-requires : goal.at-requires
at-requires g c =
    subst (λ area. HoldsCorner area c.in_ok-corner.corner) c.area.ensures
    ((Decides-holds_corner c.area.result c.in_ok-corner.corner).0 (sym c.holds.ensures ∙ c.if-not-holds.false))
