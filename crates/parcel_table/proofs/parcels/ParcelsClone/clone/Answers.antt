use Rattle.std.proofs.Common.{sym, ◌∙◌, ap, subst, length, map}
use Rattle.std.specs.List.{AllZip}
use Rattle.parcel_table.specs.own.Places.{IsTable, keyed, fate_at}
use Rattle.parcel_table.proofs.Clones.{IsKeyedClone, keyed_clones, table_clone, same_places}
use Rattle.parcel_table.proofs.parcels.ParcelsClone.clone.Goals as goal

pub invariant_of-result : goal.invariant_of-result
invariant_of-result g c =
    let same = same_places c.self.inside.places.items c.in_ok-clone-2.field-0.items c.in_ok-clone-2.ensures.cases.0 in
    subst (IsTable c.in_ok-clone.field-0) (sym same)
    (table_clone c.self.inside.slab c.in_ok-clone.field-0 c.in_ok-clone.ensures.cases.slots c.self.inside.places.items c.self.invariant)

pub returns : goal.returns
returns g c =
    let slab = c.self.inside.slab in let places = c.self.inside.places.items in
    let same = same_places places c.in_ok-clone-2.field-0.items c.in_ok-clone-2.ensures.cases.0 in
    record {
      cases = record {
        parcels = subst (λ t. AllZip IsKeyedClone t.parcels (keyed c.in_ok-clone.field-0 c.in_ok-clone-2.field-0.items)) c.self.view_is
            (subst (λ xs. AllZip IsKeyedClone (keyed slab places) (keyed c.in_ok-clone.field-0 xs)) (sym same)
            (keyed_clones slab c.in_ok-clone.field-0 c.in_ok-clone.ensures.cases.slots places));
        next = ap length same ∙ ap (λ t. t.next) c.self.view_is;
        fates = ap (map fate_at) same ∙ ap (λ t. t.fates) c.self.view_is;
        vacant = c.in_ok-clone.ensures.cases.vacant_key ∙ ap (λ t. t.vacant) c.self.view_is;
      };
    }
