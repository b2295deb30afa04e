use Rattle.std.proofs.Common.{◌≡◌, sym, ◌∙◌, ap, subst, [], ◌∷◌, ◌++◌, get_or, replicate}
use Rattle.std.proofs.Math.ListN.{get_or-map}
use Rattle.parcel_table.specs.declared.place.Place.TheVariants.{Unused, Here}
use Rattle.parcel_table.specs.Table.{retired_by}
use Rattle.parcel_table.specs.own.Places.{IsTable, keyed, fate_at}
use Rattle.parcel_table.proofs.Tables.{OnErr-always, filled, filled_table, roomier, pushed}
use Rattle.parcel_table.proofs.Changes.{fates_filled, none_replicated, none_here}
use Rattle.parcel_table.proofs.parcels.Parcels.push.Goals as goal

pub invariant_of-self : goal.invariant_of-self
invariant_of-self g c =
    subst (IsTable c.self.inside.slab) (sym c.in_err-make_room.ensures.items.1)
    (filled_table c.self.inside.slab c.self.inside.places.items c.in_err-make_room.ensures.items.0 c.self.invariant)

pub returns-in_err-make_room-clause-err : goal.returns-in_err-make_room-clause-err
returns-in_err-make_room-clause-err g c =
    OnErr-always c.from_residual.result (keyed c.self.inside.slab c.make_room.new.places.items ≡ c.args.self.now.parcels)
    (ap (keyed c.self.inside.slab) c.in_err-make_room.ensures.items.1
    ∙ filled c.self.inside.slab c.self.inside.places.items c.in_err-make_room.ensures.items.0 ∙ ap (λ t. t.parcels) c.self.view_is)

pub invariant_of-self-in_err-key : goal.invariant_of-self-in_err-key
invariant_of-self-in_err-key g c =
    roomier c.self.inside.slab c.insert.new.self c.make_room.new.places.items c.insert.new.self.capacity c.in_err-key.ensures.err
    (subst (IsTable c.self.inside.slab) (sym c.in_ok-make_room.ensures.items.1)
    (filled_table c.self.inside.slab c.self.inside.places.items c.in_ok-make_room.ensures.items.0 c.self.invariant))

pub returns-in_err-key-clause-err : goal.returns-in_err-key-clause-err
returns-in_err-key-clause-err g c =
    OnErr-always c.from_residual-in_err-key.result (keyed c.insert.new.self c.make_room.new.places.items ≡ c.args.self.now.parcels)
    (ap (λ slab. keyed slab c.make_room.new.places.items) c.in_err-key.ensures.err
    ∙ ap (keyed c.self.inside.slab) c.in_ok-make_room.ensures.items.1
    ∙ filled c.self.inside.slab c.self.inside.places.items c.in_ok-make_room.ensures.items.0 ∙ ap (λ t. t.parcels) c.self.view_is)

pub invariant_of-self-2 : goal.invariant_of-self-2
invariant_of-self-2 g c =
    subst (IsTable c.insert.new.self) (sym c.push_reserved.ensures.items)
    (pushed c.self.inside.slab c.insert.new.self c.make_room.new.places.items c.in_ok-key.key
    (record { id = c.args.id; shape = c.args.shape })
    (subst (IsTable c.self.inside.slab) (sym c.in_ok-make_room.ensures.items.1)
    (filled_table c.self.inside.slab c.self.inside.places.items c.in_ok-make_room.ensures.items.0 c.self.invariant))
    c.in_ok-make_room.ensures.next c.in_ok-key.ensures.was_vacant c.in_ok-key.ensures.updates c.in_ok-key.ensures.len).is_table

pub returns-clause-parcels : goal.returns-clause-parcels
returns-clause-parcels g c =
    ap (keyed c.insert.new.self) c.push_reserved.ensures.items
    ∙ (pushed c.self.inside.slab c.insert.new.self c.make_room.new.places.items c.in_ok-key.key
    (record { id = c.args.id; shape = c.args.shape })
    (subst (IsTable c.self.inside.slab) (sym c.in_ok-make_room.ensures.items.1)
    (filled_table c.self.inside.slab c.self.inside.places.items c.in_ok-make_room.ensures.items.0 c.self.invariant))
    c.in_ok-make_room.ensures.next c.in_ok-key.ensures.was_vacant c.in_ok-key.ensures.updates c.in_ok-key.ensures.len).one_more
    ∙ ap (λ parcels. parcels ++ (c.in_ok-key.key, record { id = c.args.id; shape = c.args.shape }) ∷ [])
    (ap (keyed c.self.inside.slab) c.in_ok-make_room.ensures.items.1
    ∙ filled c.self.inside.slab c.self.inside.places.items c.in_ok-make_room.ensures.items.0 ∙ ap (λ t. t.parcels) c.self.view_is)

pub returns-in_err-make_room-clause-fates : goal.returns-in_err-make_room-clause-fates
returns-in_err-make_room-clause-fates g c other =
    get_or-map fate_at c.make_room.new.places.items other Unused
    ∙ ap (λ xs. fate_at (get_or xs other Unused)) c.in_err-make_room.ensures.items.1
    ∙ fates_filled c.self.inside.places.items (replicate c.in_err-make_room.ensures.items.0 Unused)
    (none_replicated c.in_err-make_room.ensures.items.0) other
    ∙ sym (get_or-map fate_at c.self.inside.places.items other Unused) ∙ ap (λ t. retired_by t other) c.self.view_is

pub returns-in_err-key-clause-fates : goal.returns-in_err-key-clause-fates
returns-in_err-key-clause-fates g c other =
    get_or-map fate_at c.make_room.new.places.items other Unused
    ∙ ap (λ xs. fate_at (get_or xs other Unused)) c.in_ok-make_room.ensures.items.1
    ∙ fates_filled c.self.inside.places.items (replicate c.in_ok-make_room.ensures.items.0 Unused)
    (none_replicated c.in_ok-make_room.ensures.items.0) other
    ∙ sym (get_or-map fate_at c.self.inside.places.items other Unused) ∙ ap (λ t. retired_by t other) c.self.view_is

pub returns-clause-fates : goal.returns-clause-fates
returns-clause-fates g c other =
    get_or-map fate_at c.push_reserved.new.self.items other Unused
    ∙ ap (λ xs. fate_at (get_or xs other Unused)) c.push_reserved.ensures.items
    ∙ fates_filled c.make_room.new.places.items (Here c.in_ok-key.key ∷ []) (none_here c.in_ok-key.key) other
    ∙ ap (λ xs. fate_at (get_or xs other Unused)) c.in_ok-make_room.ensures.items.1
    ∙ fates_filled c.self.inside.places.items (replicate c.in_ok-make_room.ensures.items.0 Unused)
    (none_replicated c.in_ok-make_room.ensures.items.0) other
    ∙ sym (get_or-map fate_at c.self.inside.places.items other Unused) ∙ ap (λ t. retired_by t other) c.self.view_is
