use Rattle.std.proofs.Common.{sym, ◌∙◌, ap, subst, arith, is_some, Some, slice_set}
use Rattle.std.proofs.lemmas.List.{map-set}
use Rattle.parcel_table.specs.declared.place.Place.TheVariants.{Retired}
use Rattle.parcel_table.specs.Table.{IsKeyOf, without_id}
use Rattle.parcel_table.specs.own.Places.{fate_at}
use Rattle.parcel_table.proofs.Changes.{leads_to, retired}
use Rattle.parcel_table.proofs.parcels.Parcels.retire.Goals as goal

pub remove-requires : goal.remove-requires
remove-requires g c =
    ap is_some (leads_to c.self.inside.slab c.self.inside.places.items c.args.id c.key_of-key.result c.self.invariant.are_placed
    (subst (λ t. IsKeyOf t.parcels c.args.id c.key_of-key.result) (sym c.self.view_is) c.key_of-key.ensures)).is_there

pub index_mut-requires : goal.index_mut-requires
index_mut-requires g c =
    let w = leads_to c.self.inside.slab c.self.inside.places.items c.args.id c.key_of-key.result c.self.invariant.are_placed
    (subst (λ t. IsKeyOf t.parcels c.args.id c.key_of-key.result) (sym c.self.view_is) c.key_of-key.ensures) in
    omega (arith, w.below, c.self.inside.places.ok.0)

pub invariant_of-self : goal.invariant_of-self
invariant_of-self g c =
    (retired c.self.inside.slab c.remove.new.self c.self.inside.places.items c.args.id c.key_of-key.result c.args.by c.self.invariant
    (subst (λ t. IsKeyOf t.parcels c.args.id c.key_of-key.result) (sym c.self.view_is) c.key_of-key.ensures)
    c.remove.ensures.updates c.remove.ensures.len).is_table

pub returns-clause-parcels : goal.returns-clause-parcels
returns-clause-parcels g c =
    (retired c.self.inside.slab c.remove.new.self c.self.inside.places.items c.args.id c.key_of-key.result c.args.by c.self.invariant
    (subst (λ t. IsKeyOf t.parcels c.args.id c.key_of-key.result) (sym c.self.view_is) c.key_of-key.ensures)
    c.remove.ensures.updates c.remove.ensures.len).one_less ∙ ap (λ t. without_id c.args.id t.parcels) c.self.view_is

pub returns-clause-fates : goal.returns-clause-fates
returns-clause-fates g c =
    map-set fate_at c.self.inside.places.items c.args.id (Retired c.args.by)
    ∙ ap (λ t. slice_set t.fates c.args.id (Some c.args.by)) c.self.view_is
