use Rattle.std.proofs.Common.{◌≡◌, ◌++◌, ◌∷◌, [], sym, ◌∙◌, ap, subst, arith, set, is_some, Some, None, slice_set}
use Rattle.std.proofs.Common.{map}
use Rattle.std.proofs.lemmas.List.{map-set, map-append}
use Rattle.slab.specs.Slab.{with_value}
use Rattle.parcel_table.specs.declared.place.Place.TheVariants.{Retired, Here}
use Rattle.parcel_table.specs.Table.{IsKeyOf, without_id}
use Rattle.parcel_table.specs.own.Places.{IsTable, keyed, fate_at}
use Rattle.parcel_table.proofs.Changes.{leads_to, one_key, succeeded}
use Rattle.parcel_table.proofs.parcels.Parcels.succeed.Goals as goal

pub index_mut-requires : goal.index_mut-requires
index_mut-requires g c =
    ap is_some (leads_to c.self.inside.slab c.self.inside.places.items c.args.id c.key_of-key.result c.self.invariant.are_placed
    (subst (λ t. IsKeyOf t.parcels c.args.id c.key_of-key.result) (sym c.self.view_is) c.key_of-key.ensures)).is_there

pub index_mut-requires-2 : goal.index_mut-requires-2
index_mut-requires-2 g c =
    let w = leads_to c.self.inside.slab c.self.inside.places.items c.args.id c.key_of-key.result c.self.invariant.are_placed
    (subst (λ t. IsKeyOf t.parcels c.args.id c.key_of-key.result) (sym c.self.view_is) c.key_of-key.ensures) in
    omega (arith, w.below, c.self.inside.places.ok.0)

pub invariant_of-self : goal.invariant_of-self
invariant_of-self g c =
    let slab = c.self.inside.slab in
    subst (IsTable (with_value slab c.key_of-key.result (record { id = c.next_id-next.result; shape = c.args.shape })))
    (sym c.push_reserved.ensures.items)
    (succeeded slab c.self.inside.places.items c.args.id c.key_of-key.result c.args.by
    (record { id = c.next_id-next.result; shape = c.args.shape }) c.self.invariant
    (subst (λ t. IsKeyOf t.parcels c.args.id c.key_of-key.result) (sym c.self.view_is) c.key_of-key.ensures)
    (c.next_id-next.ensures ∙ sym (ap (λ t. t.next) c.self.view_is))).is_table

pub returns-clause-parcels : goal.returns-clause-parcels
returns-clause-parcels g c key k =
    let slab = c.self.inside.slab in let places = c.self.inside.places.items in
    let first : c.key_of-key.result ≡ key =
    one_key slab places c.args.id c.key_of-key.result key c.self.invariant.are_placed
    (subst (λ t. IsKeyOf t.parcels c.args.id c.key_of-key.result) (sym c.self.view_is) c.key_of-key.ensures)
    (subst (λ t. IsKeyOf t.parcels c.args.id key) (sym c.self.view_is) k) in
    ap (keyed (with_value slab c.key_of-key.result
    (record { id = c.next_id-next.result; shape = c.args.shape }))) c.push_reserved.ensures.items
    ∙ (succeeded slab places c.args.id c.key_of-key.result c.args.by
    (record { id = c.next_id-next.result; shape = c.args.shape }) c.self.invariant
    (subst (λ t. IsKeyOf t.parcels c.args.id c.key_of-key.result) (sym c.self.view_is) c.key_of-key.ensures)
    (c.next_id-next.ensures ∙ sym (ap (λ t. t.next) c.self.view_is))).one_for_one
    ∙ ap (λ t. without_id c.args.id t.parcels ++
    (c.key_of-key.result, record { id = c.next_id-next.result; shape = c.args.shape }) ∷ []) c.self.view_is
    ∙ ap (λ n. without_id c.args.id c.args.self.now.parcels ++
    (c.key_of-key.result, record { id = n; shape = c.args.shape }) ∷ []) c.next_id-next.ensures
    ∙ ap (λ n. without_id c.args.id c.args.self.now.parcels
    ++ (n, record { id = c.args.self.now.next; shape = c.args.shape }) ∷ []) first

pub returns-clause-fates : goal.returns-clause-fates
returns-clause-fates g c =
    let places = c.self.inside.places.items in
    ap (map fate_at) c.push_reserved.ensures.items
    ∙ map-append fate_at (set places c.args.id (Retired c.args.by)) (Here c.key_of-key.result ∷ [])
    ∙ ap (λ xs. xs ++ None ∷ []) (map-set fate_at places c.args.id (Retired c.args.by)
    ∙ ap (λ t. slice_set t.fates c.args.id (Some c.args.by)) c.self.view_is)
