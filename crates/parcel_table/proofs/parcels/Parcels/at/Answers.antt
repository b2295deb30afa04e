use Rattle.std.proofs.Common.{sym, ◌∙◌, ap, subst, is_some}
use Rattle.std.specs.List.{Contains}
use Rattle.parcel_table.proofs.Tables.{stands_at, same_parcel}
use Rattle.parcel_table.proofs.parcels.Parcels.at.Goals as goal

pub index-requires : goal.index-requires
index-requires g c =
    let w = stands_at c.self.inside.slab 0 c.self.inside.places.items c.args.key c.requires.0 c.self.invariant.are_placed
    (subst (λ t. Contains t.parcels (c.args.key, c.requires.0)) (sym c.self.view_is) c.requires.1) in
    ap is_some w.is_there

pub returns : goal.returns
returns g c = λ parcel h.
    let w = stands_at c.self.inside.slab 0 c.self.inside.places.items c.args.key parcel c.self.invariant.are_placed
    (subst (λ t. Contains t.parcels (c.args.key, parcel)) (sym c.self.view_is) h) in
    same_parcel c.index.result.now parcel (sym c.index.ensures ∙ w.is_there)
