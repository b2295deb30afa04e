use Rattle.std.proofs.Common.{subst, MatchOption}
use Rattle.std.specs.List.{Contains}
use Rattle.parcel_table.specs.declared.parcels.Parcel.{Parcel}
use Rattle.parcel_table.proofs.AllKeyed.{found_under}
use Rattle.parcel_table.proofs.parcels.Parcels.get.Goals as goal

pub returns : goal.returns
returns g c =
    subst (λ t. MatchOption c.get.result ((parcel : Parcel _) → ¬ Contains t.parcels (c.args.key, parcel))
    (λ parcel. Contains t.parcels (c.args.key, parcel.now))) c.self.view_is
    (found_under c.self.inside.slab c.self.inside.places.items c.args.key c.get.result c.self.invariant c.get.ensures)
