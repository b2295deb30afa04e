use Rattle.std.proofs.Common.{sym, ◌∙◌, ap, length}
use Rattle.std.proofs.lemmas.List.{length-map}
use Rattle.parcel_table.specs.Table.{shapes_of}
use Rattle.parcel_table.specs.own.Places.{keyed, shapes_at}
use Rattle.parcel_table.proofs.Tables.{shapes_of_keyed}
use Rattle.parcel_table.proofs.parcels.Parcels.shapes.Goals as goal

pub new-requires : goal.new-requires
new-requires g c =
    let slab = c.self.inside.slab in let places = c.self.inside.places.items in
    c.self.invariant.are_all ∙ sym (length-map (keyed slab places) (λ parcel. (parcel.1.id, parcel.1.shape)))
    ∙ ap length (shapes_of_keyed slab places) ∙ ap (λ xs. length (shapes_at slab xs)) (sym c.as_slice.ensures.value)

pub returns : goal.returns
returns g c =
    let slab = c.self.inside.slab in let places = c.self.inside.places.items in
    c.new.ensures ∙ ap (λ xs. shapes_at slab xs) c.as_slice.ensures.value ∙ sym (shapes_of_keyed slab places)
    ∙ ap (λ t. shapes_of t.parcels) c.self.view_is
