use Rattle.std.proofs.Common.{sym, subst}
use Rattle.parcel_table.specs.own.Places.{IsTable}
use Rattle.parcel_table.proofs.Tables.{roomier}
use Rattle.parcel_table.proofs.parcels.Parcels.reserve.Goals as goal

pub invariant_of-self : goal.invariant_of-self
invariant_of-self g c =
    roomier c.self.inside.slab c.reserve.new.self c.self.inside.places.items c.reserve.new.self.capacity
    c.reserve.ensures.rest_kept c.self.invariant

pub invariant_of-self-2 : goal.invariant_of-self-2
invariant_of-self-2 g c =
    subst (IsTable c.reserve.new.self) (sym c.reserve-2.ensures.items)
    (roomier c.self.inside.slab c.reserve.new.self c.self.inside.places.items c.reserve.new.self.capacity
    c.reserve.ensures.rest_kept c.self.invariant)
