use Rattle.std.proofs.Common.{sym, subst, length, ◌≤◌}
use Rattle.geo_exact.specs.declared.limits.TheConstants.{RING_CORNERS}
use Rattle.geo_exact.specs.Point.{corner_point}
use Rattle.ring_core.specs.Sides.{IsSide}
use Rattle.ring_core.specs.declared.side.Side.TheVariants.{Inside}
use Rattle.fabric_core.specs.Locate.{IsInsideOf}
use Rattle.fabric_core.specs.own.Kept.{Kept}
use Rattle.fabric_core.proofs.places.Hinted.{is_short, inside_it, inside_core}
use Rattle.fabric_core.proofs.tiled.Tiled.holder.Goals as goal

pub side_of-requires : goal.side_of-requires
side_of-requires g c =
    subst (λ ring. length ring ≤ RING_CORNERS) (sym c.as_slice.ensures)
    (is_short c.self.inside.parcels.parcels c.args.key c.in_ok-parcel.parcel.now c.in_ok-parcel.ensures c.self.invariant.within.each)

pub returns-then-holds : goal.returns-then-holds
returns-then-holds g c =
    subst (λ (t : Kept). IsInsideOf t.rows (corner_point c.args.corner) c.in_ok-parcel.parcel.now.id) c.self.view_is
    (inside_core c.self.inside.parcels.parcels c.args.key c.in_ok-parcel.parcel.now c.in_ok-parcel.ensures c.args.corner
    c.if-holds.ensures)

pub returns-in-Inside : goal.returns-in-Inside
returns-in-Inside g c =
    subst (λ (t : Kept). IsInsideOf t.rows (corner_point c.args.corner) c.in_ok-parcel.parcel.now.id) c.self.view_is
    (inside_it c.self.inside.parcels.parcels c.args.key c.in_ok-parcel.parcel.now c.in_ok-parcel.ensures (corner_point c.args.corner)
    (subst (λ ring. IsSide (corner_point c.args.corner) ring Inside) c.as_slice.ensures c.in-Inside.ensures))
