use Rattle.std.proofs.Common.{sym, ap, subst, ◌<◌, length}
use Rattle.cell_index.specs.Cells.{HaveOwnKeys}
use Rattle.std.specs.List.Sorted.{IsStrictlyIncreasing}
use Rattle.parcel_table.specs.Table.{IsKeyOf, entries_of, ids_of}
use Rattle.parcel_table.proofs.Order.{increasing, ids_ascend, own_keys, here_below, here_stays}
use Rattle.parcel_table.proofs.parcels.Parcels.use_invariant.Goals as goal

pub returns-clause-keys : goal.returns-clause-keys
returns-clause-keys g c =
    subst (λ t. HaveOwnKeys (entries_of t.parcels)) c.self.view_is
    (own_keys c.self.inside.slab 0 c.self.inside.places.items c.self.invariant.are_placed)

pub returns-clause-ascend : goal.returns-clause-ascend
returns-clause-ascend g c =
    subst (λ t. IsStrictlyIncreasing (ids_of t.parcels)) c.self.view_is
    (increasing _ (ids_ascend c.self.inside.slab 0 c.self.inside.places.items c.self.invariant.are_placed))

pub returns-clause-below : goal.returns-clause-below
returns-clause-below g c id (key, k) =
    let found : id < length c.self.inside.places.items =
    here_below c.self.inside.slab c.self.inside.places.items id key c.self.invariant.are_placed
    (subst (λ t. IsKeyOf t.parcels id key) (sym c.self.view_is) k) in
    subst (λ t. id < t.next) c.self.view_is found

pub returns-clause-here : goal.returns-clause-here
returns-clause-here g c id (key, k) =
    here_stays c.args.self.now c.self.inside.slab c.self.inside.places.items id key c.self.invariant.are_placed
    (ap (λ t. t.fates) c.self.view_is) (subst (λ t. IsKeyOf t.parcels id key) (sym c.self.view_is) k)
