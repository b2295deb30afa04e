use Rattle.std.proofs.Common.{◌≡◌, ◌↔◌, sym, ◌∙◌, ap, subst, length, map, IsTrue, IsNone, IfSome}
use Rattle.std.specs.List.{AllByRecursion}
use Rattle.std.proofs.lemmas.List.{length-map}
use Rattle.parcel_table.specs.Table.{HasId, rows_of_keyed}
use Rattle.ring_core.specs.Simple.{IsSimpleRing}
use Rattle.ring_edits.specs.Edits.{CoversAlike}
use Rattle.fabric_core.specs.Rows.{numbers}
use Rattle.fabric_core.specs.own.Kept.{Kept, MayBeKept, by_ids}
use Rattle.fabric_core.specs.own.Lists.{replaced}
use Rattle.fabric_core.specs.own.RingChanges.{AreShapesOf, KeepsGround, changed_city, changed_ring, changed_row, is_changed, rows_changed}
use Rattle.fabric_core.proofs.rows.RowLists.{ascending}
use Rattle.fabric_core.proofs.edits.Exchanges.{shown}
use Rattle.fabric_core.proofs.edits.ChangedParcels.{AreChanged, change_all, changed_kept, rise_of, ids_here, ids_by_key_changed, ring_after}
use Rattle.fabric_core.proofs.edits.RingChanges.{city_covers, city_simple}
use Rattle.fabric_core.proofs.tiled.Tiled.change_rings.Goals as goal

pub replace_all-requires-clause-here : goal.replace_all-requires-clause-here
replace_all-requires-clause-here g c =
    subst (AllByRecursion (HasId c.self.inside.parcels.parcels))
    (sym (c.requires.ids ∙ sym (ap (λ (t : Kept). numbers (rows_changed c.args.change t.rows)) c.self.view_is)))
    (ids_here (λ row. is_changed c.args.change row.corners) c.self.inside.parcels.parcels)

pub replace_all-requires-clause-same_length : goal.replace_all-requires-clause-same_length
replace_all-requires-clause-same_length g c =
    let rows = rows_changed c.args.change c.args.self.now.rows in
    ap length c.requires.ids ∙ length-map rows (λ row. row.number)
    ∙ sym (length-map rows (λ row. changed_ring c.args.change row.corners)) ∙ ap length (sym c.requires.shapes)
    ∙ length-map c.args.shapes.items (λ shape. shape.ring.corners)

pub invariant_of-self : goal.invariant_of-self
invariant_of-self g c =
    let parcels = c.self.inside.parcels.parcels in let change = c.args.change in
    let rows = ap (λ (t : Kept). t.rows) c.self.view_is in
    let changed : AreChanged change parcels (replaced c.args.ids.now c.args.shapes.items parcels) =
    change_all change parcels c.args.ids.now
    c.args.shapes.items (rise_of parcels (ascending (rows_of_keyed parcels) c.self.invariant.ids_rise))
    (subst (λ rows. AllByRecursion (λ row. KeepsGround change row.corners) rows) (sym rows) c.requires.ground)
    (c.requires.ids ∙ sym (ap (λ rows. numbers (rows_changed change rows)) rows))
    (subst (λ rows. AreShapesOf change rows c.args.shapes.items) (sym rows) c.requires.shapes) in
    let refined : c.change_ring.new.ring ≡ changed_city change c.self.inside.refined =
    c.change_ring.ensures (changed_city change c.self.inside.refined)
    (ring_after change c.self.inside.refined c.in_ok-refined.refined
    (subst (λ ring. IsNone c.in_ok-refined.refined ↔ (¬ IsTrue (is_changed change ring))) c.as_slice.ensures
    c.in_ok-refined.ensures.none)
    (subst (λ ring. IfSome c.in_ok-refined.refined (λ out. out ≡ changed_city change ring)) c.as_slice.ensures
    c.in_ok-refined.ensures.some)) in
    let same = ap (λ table. table.parcels) c.replace_all.ensures in
    changed_kept change parcels c.replace_all.new.parcels.parcels c.self.inside.city c.self.inside.refined c.change_ring.new.ring
    c.self.inside.index c.self.invariant
    (subst (AreChanged change parcels) (sym same) changed)
    (subst (CoversAlike c.self.inside.refined) (sym refined)
    (city_covers change c.self.inside.refined
    (subst (λ (t : Kept). KeepsGround change t.refined) (sym c.self.view_is) c.requires.city_ground)))
    (subst IsSimpleRing (sym refined)
    (city_simple change c.self.inside.refined
    (subst (λ (t : Kept). KeepsGround change t.refined) (sym c.self.view_is) c.requires.city_ground)
    c.self.invariant.simple_city))
    (subst (λ ring. MayBeKept (map (changed_row change) (rows_of_keyed parcels)) ring) (sym refined)
    (subst (λ (t : Kept). MayBeKept (map (changed_row change) t.rows) (changed_city change t.refined))
    (sym c.self.view_is) c.requires.kept))
    c.use_invariant-2.ensures.ascend

pub returns-clause-ok : goal.returns-clause-ok
returns-clause-ok g c =
    let parcels = c.self.inside.parcels.parcels in let change = c.args.change in
    let rows = ap (λ (t : Kept). t.rows) c.self.view_is in
    let changed : AreChanged change parcels (replaced c.args.ids.now c.args.shapes.items parcels) =
    change_all change parcels c.args.ids.now
    c.args.shapes.items (rise_of parcels (ascending (rows_of_keyed parcels) c.self.invariant.ids_rise))
    (subst (λ rows. AllByRecursion (λ row. KeepsGround change row.corners) rows) (sym rows) c.requires.ground)
    (c.requires.ids ∙ sym (ap (λ rows. numbers (rows_changed change rows)) rows))
    (subst (λ rows. AreShapesOf change rows c.args.shapes.items) (sym rows) c.requires.shapes) in
    let refined : c.change_ring.new.ring ≡ changed_city change c.self.inside.refined =
    c.change_ring.ensures (changed_city change c.self.inside.refined)
    (ring_after change c.self.inside.refined c.in_ok-refined.refined
    (subst (λ ring. IsNone c.in_ok-refined.refined ↔ (¬ IsTrue (is_changed change ring))) c.as_slice.ensures
    c.in_ok-refined.ensures.none)
    (subst (λ ring. IfSome c.in_ok-refined.refined (λ out. out ≡ changed_city change ring)) c.as_slice.ensures
    c.in_ok-refined.ensures.some)) in
    let old = c.self.inside.parcels in
    subst (λ (t : Kept). shown c.self.inside.city c.change_ring.new.ring c.replace_all.new.parcels c.self.inside.index
    ≡ record t { rows = map (changed_row change) t.rows; refined = changed_city change t.refined }) c.self.view_is
    (ap (λ table. shown c.self.inside.city c.change_ring.new.ring table c.self.inside.index) c.replace_all.ensures
    ∙ ap (λ pairs. record (shown c.self.inside.city c.change_ring.new.ring old c.self.inside.index) {
      rows = rows_of_keyed (replaced c.args.ids.now c.args.shapes.items parcels);
      index = by_ids pairs c.self.inside.index;
    }) (ids_by_key_changed change parcels (replaced c.args.ids.now c.args.shapes.items parcels) changed)
    ∙ ap (λ rows. record (shown c.self.inside.city c.change_ring.new.ring old c.self.inside.index) { rows = rows }) changed.rows
    ∙ ap (λ ring. record (shown c.self.inside.city ring old c.self.inside.index) {
      rows =
          map (changed_row change) (rows_of_keyed parcels);
    }) refined)
