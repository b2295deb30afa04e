use Rattle.std.proofs.Common.{sym, ◌∙◌, ap, get_or}
use Rattle.parcel_table.specs.declared.place.Place.TheVariants.{Unused, Retired, Here}
use Rattle.parcel_table.proofs.Order.{fate_of_place}
use Rattle.parcel_table.proofs.parcels.Parcels.fate.Goals as goal

pub returns-in-Unused : goal.returns-in-Unused
returns-in-Unused g c =
    fate_of_place c.args.self.now c.self.inside.slab c.self.inside.places.items c.args.id Unused c.self.invariant.are_placed
    (ap (λ t. t.parcels) c.self.view_is) (ap (λ t. t.fates) c.self.view_is)
    (sym (c.place_of.ensures ∙ ap (λ xs. get_or xs c.args.id Unused) c.deref.ensures.value) ∙ c.in-Unused.is)

pub returns-in-Retired : goal.returns-in-Retired
returns-in-Retired g c =
    fate_of_place c.args.self.now c.self.inside.slab c.self.inside.places.items c.args.id
    (Retired c.in-Retired.by) c.self.invariant.are_placed
    (ap (λ t. t.parcels) c.self.view_is) (ap (λ t. t.fates) c.self.view_is)
    (sym (c.place_of.ensures ∙ ap (λ xs. get_or xs c.args.id Unused) c.deref.ensures.value) ∙ c.in-Retired.is)

pub returns-in-Here : goal.returns-in-Here
returns-in-Here g c =
    fate_of_place c.args.self.now c.self.inside.slab c.self.inside.places.items c.args.id (Here c.in-Here.key) c.self.invariant.are_placed
    (ap (λ t. t.parcels) c.self.view_is) (ap (λ t. t.fates) c.self.view_is)
    (sym (c.place_of.ensures ∙ ap (λ xs. get_or xs c.args.id Unused) c.deref.ensures.value) ∙ c.in-Here.is)
