use Rattle.std.proofs.Common.{sym, ◌∙◌, ap, subst, ◌-◌, min, length, map, is_some}
use Rattle.slab.specs.Slab.{with_value}
use Rattle.std.specs.Prelude.{vec_len, vec_capacity}
use Rattle.parcel_table.specs.declared.parcels.Parcel.{Parcel}
use Rattle.parcel_table.specs.Table.{Table, IsKeyOf, with_shape}
use Rattle.parcel_table.specs.own.Places.{keyed, fate_at, room_in}
use Rattle.parcel_table.proofs.Changes.{leads_to, len_written, replaced}
use Rattle.parcel_table.proofs.parcels.Parcels.replace.Goals as goal

pub index_mut-requires : goal.index_mut-requires
index_mut-requires g c =
    ap is_some (leads_to c.self.inside.slab c.self.inside.places.items c.args.id c.key_of-key.result c.self.invariant.are_placed
    (subst (λ t. IsKeyOf t.parcels c.args.id c.key_of-key.result) (sym c.self.view_is) c.key_of-key.ensures)).is_there

pub invariant_of-self : goal.invariant_of-self
invariant_of-self g c =
    (replaced c.self.inside.slab c.self.inside.places.items c.args.id c.key_of-key.result c.args.shape c.self.invariant
    (subst (λ t. IsKeyOf t.parcels c.args.id c.key_of-key.result) (sym c.self.view_is) c.key_of-key.ensures)).is_table

pub returns : goal.returns
returns g c =
    let slab = c.self.inside.slab in let places = c.self.inside.places in
    let key = c.key_of-key.result in let parcel : Parcel g.row.A.Denot = record { id = c.args.id; shape = c.args.shape } in
    let k = subst (λ t. IsKeyOf t.parcels c.args.id key) (sym c.self.view_is) c.key_of-key.ensures in
    let w = leads_to slab places.items c.args.id key c.self.invariant.are_placed k in
    ap (λ n. record {
      parcels = keyed (with_value slab key parcel) places.items;
      next = length places.items;
      fates = map fate_at places.items;
      vacant = slab.vacant_key;
      room = min (slab.capacity - n) (vec_capacity places - vec_len places);
    }) (len_written slab key w.parcel parcel w.is_there)
    ∙ ap (λ xs. record {
      parcels = xs;
      next = length places.items;
      fates = map fate_at places.items;
      vacant = slab.vacant_key;
      room = room_in slab (vec_capacity places) (vec_len places);
    }) (replaced slab places.items c.args.id key c.args.shape c.self.invariant k).other_shape
    ∙ ap {A = Table g.row.A.Denot} {B = Table g.row.A.Denot}
    (λ t. record t { parcels = with_shape c.args.id c.args.shape t.parcels }) c.self.view_is
