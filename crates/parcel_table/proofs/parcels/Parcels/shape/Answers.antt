use Rattle.std.proofs.Common.{◌≡◌, sym, ◌∙◌, ap, subst, ◌+◌, Some, None, get_or, arith}
use Rattle.std.specs.List.{Contains}
use Rattle.parcel_table.specs.declared.place.Place.TheVariants.{Unused}
use Rattle.parcel_table.specs.own.Places.{parcel_at, keyed}
use Rattle.parcel_table.proofs.Tables.{found_at, none_at}
use Rattle.parcel_table.proofs.parcels.Parcels.shape.Goals as goal

pub returns-in_err-parcel : goal.returns-in_err-parcel
returns-in_err-parcel g c =
    let slab = c.self.inside.slab in let places = c.self.inside.places.items in
    let missed : parcel_at slab (get_or places c.args.id Unused) ≡ None =
    ap (parcel_at slab) (sym (c.place_of.ensures ∙ ap (λ xs. get_or xs c.args.id Unused) c.deref.ensures.value))
    ∙ sym c.in_err-parcel.ensures in
    rw c.from_residual.ensures (λ key parcel h. none_at slab places c.args.id c.self.invariant.are_placed missed key parcel
    (subst (λ t. Contains t.parcels (key, parcel)) (sym c.self.view_is) h))

pub returns : goal.returns
returns g c =
    let slab = c.self.inside.slab in let places = c.self.inside.places.items in let parcel = c.in_ok-parcel.parcel.now in
    let met : parcel_at slab (get_or places c.args.id Unused) ≡ Some parcel =
    ap (parcel_at slab) (sym (c.place_of.ensures ∙ ap (λ xs. get_or xs c.args.id Unused) c.deref.ensures.value))
    ∙ sym c.in_ok-parcel.ensures in
    let w = found_at slab 0 places c.args.id parcel c.self.invariant.are_placed met in
    let number : parcel.id ≡ 0 + c.args.id = w.2 in
    let same : parcel.id ≡ c.args.id = omega (arith, number) in (
      w.0,
      subst (λ t. Contains t.parcels (w.0, record { id = c.args.id; shape = parcel.shape })) c.self.view_is
          (subst (λ n. Contains (keyed slab places) (w.0, record { id = n; shape = parcel.shape })) same w.1),
    )
