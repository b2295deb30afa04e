use Rattle.std.proofs.Common.{◌≡◌, sym, ◌∙◌, ap, subst, ℕ, length, map, List, IfOk, Result, Ok, Vec}
use Rattle.std.specs.Iterator.{YieldsFirst}
use Rattle.std.specs.List.{AllByRecursion, AllZip}
use Rattle.std.proofs.lemmas.Iterator.{IsCollectResult, items_from_collect}
use Rattle.std.proofs.lemmas.Iterator.Consumers.{YieldsList-from_first}
use Rattle.geo_exact.specs.Bounds.{IsLeastBox}
use Rattle.parcel_table.specs.Table.{HasId, rows_of_keyed}
use Rattle.parcel_table.proofs.Clones.{same_rows}
use Rattle.scaled_rings.specs.Tenfold.{AreTenTimes, IsNear}
use Rattle.scaled_rings.proofs.Scaling.{ten, tens_of}
use Rattle.scaled_rings.proofs.Lists.{near_left, near_right}
use Rattle.fabric_core.specs.Rows.{numbers}
use Rattle.fabric_core.specs.Tenfold.{IsTenfoldRow, corners_of_rows}
use Rattle.fabric_core.specs.own.Kept.{Kept}
use Rattle.fabric_core.proofs.tens.Rows.{AreNearRows, are_tens_of, near_rows, ten_rows}
use Rattle.fabric_core.proofs.tens.Kept.{all_here, as_many_shapes, kept_ten, rows_of_copies, IsTenShape}
use Rattle.fabric_core.proofs.tiled.Tiled.tenfold.Goals as goal

-- what is collected of the numbers that are left are those
collected : {Z E : Type 0} (result : Result (Vec ℕ Z) E) (ids : Vec ℕ Z) (left all : List ℕ) → result ≡ Ok ids
    → IsCollectResult (YieldsFirst (λ rest. rest)) left result → left ≡ all → ids.items ≡ all
collected result ids left all is ran same =
    subst (λ r. IfOk r (λ w. w.items ≡ all)) is (items_from_collect result ran (YieldsList-from_first (λ x. x) (λ rest. rest) all same))

pub tenfold_all-requires-2 : goal.tenfold_all-requires-2
tenfold_all-requires-2 g c =
    subst (AllByRecursion IsNear) (sym c.refined.ensures)
    (near_right (corners_of_rows c.args.self.now.rows) c.args.self.now.refined c.requires.near)

pub tenfold_shapes-requires : goal.tenfold_shapes-requires
tenfold_shapes-requires g c =
    subst (λ rows. AllByRecursion IsNear (corners_of_rows rows)) (sym c.shapes.ensures)
    (near_left (corners_of_rows c.args.self.now.rows) c.args.self.now.refined c.requires.near)

pub replace_all-requires-clause-same_length : goal.replace_all-requires-clause-same_length
replace_all-requires-clause-same_length g c =
    let rows = c.args.self.now.rows in
    let ids =
    collected c.collect.result c.in_ok-ids.ids c.ids.result (numbers rows) c.in_ok-ids.was c.collect.ensures.ran c.ids.ensures.ids in
    ap length (c.deref.ensures.value ∙ ids)
    ∙ as_many_shapes rows c.in_ok-shapes.shapes.items
    (subst (λ rows. AllZip IsTenShape rows c.in_ok-shapes.shapes.items) c.shapes.ensures c.in_ok-shapes.ensures)

pub replace_all-requires-clause-here : goal.replace_all-requires-clause-here
replace_all-requires-clause-here g c =
    let rows = c.args.self.now.rows in
    let ids =
    collected c.collect.result c.in_ok-ids.ids c.ids.result (numbers rows) c.in_ok-ids.was c.collect.ensures.ran c.ids.ensures.ids in
    let parcels = c.self.inside.parcels.parcels in let copies = c.in_ok-parcels.parcels.parcels in
    subst (AllByRecursion (HasId copies))
    (ap numbers (same_rows parcels copies c.in_ok-parcels.ensures.cases.parcels ∙ ap (λ (t : Kept). t.rows) c.self.view_is)
    ∙ sym (c.deref.ensures.value ∙ ids))
    (all_here copies)

pub invariant_of-result : goal.invariant_of-result
invariant_of-result g c =
    let rows = c.args.self.now.rows in
    let ids =
    collected c.collect.result c.in_ok-ids.ids c.ids.result (numbers rows) c.in_ok-ids.was c.collect.ensures.ran c.ids.ensures.ids in
    let parcels = c.self.inside.parcels.parcels in let copies = c.in_ok-parcels.parcels.parcels in
    let here = ap (λ (t : Kept). t.rows) c.self.view_is in
    let after : rows_of_keyed c.replace_all.new.parcels.parcels ≡ ten_rows rows =
    ap (λ table. rows_of_keyed table.parcels) c.replace_all.ensures
    ∙ rows_of_copies parcels copies rows c.deref.result.now c.in_ok-shapes.shapes.items here
    (same_rows parcels copies c.in_ok-parcels.ensures.cases.parcels) c.self.invariant.ids_rise (c.deref.ensures.value ∙ ids)
    (subst (λ rows. AllZip IsTenShape rows c.in_ok-shapes.shapes.items) c.shapes.ensures c.in_ok-shapes.ensures) in
    let near : AreNearRows rows =
    near_rows rows (near_left (corners_of_rows rows) c.args.self.now.refined c.requires.near) in
    kept_ten parcels c.replace_all.new.parcels.parcels c.self.inside.city c.self.inside.refined c.in_ok-city.city c.in_ok-refined.refined
    c.self.inside.index c.in_ok-index.index
    (subst (λ (t : Kept). AllByRecursion IsNear t.city) (sym c.self.view_is) c.requires.near_city)
    (subst (λ (t : Kept). AllByRecursion IsNear t.refined) (sym c.self.view_is)
    (near_right (corners_of_rows rows) c.args.self.now.refined c.requires.near))
    (subst AreNearRows (sym here) near)
    c.self.invariant
    (after ∙ sym (ap ten_rows here))
    (tens_of c.city.result.now c.in_ok-city.city c.in_ok-city.ensures
    ∙ ap (map ten) (c.city.ensures ∙ sym (ap (λ (t : Kept). t.city) c.self.view_is)))
    (tens_of c.refined.result.now c.in_ok-refined.refined c.in_ok-refined.ensures
    ∙ ap (map ten) (c.refined.ensures ∙ sym (ap (λ (t : Kept). t.refined) c.self.view_is)))
    (subst (λ box. IsLeastBox box c.in_ok-city.city) (sym c.in_ok-index.ensures.area)
    (subst (IsLeastBox c.least_box-area.result) c.as_slice.ensures c.least_box-area.ensures))
    c.in_ok-index.ensures.indexed

pub returns-clause-now : goal.returns-clause-now
returns-clause-now g c =
    let rows = c.args.self.now.rows in
    let ids =
    collected c.collect.result c.in_ok-ids.ids c.ids.result (numbers rows) c.in_ok-ids.was c.collect.ensures.ran c.ids.ensures.ids in
    let parcels = c.self.inside.parcels.parcels in let copies = c.in_ok-parcels.parcels.parcels in
    let after : rows_of_keyed c.replace_all.new.parcels.parcels ≡ ten_rows rows =
    ap (λ table. rows_of_keyed table.parcels) c.replace_all.ensures
    ∙ rows_of_copies parcels copies rows c.deref.result.now c.in_ok-shapes.shapes.items (ap (λ (t : Kept). t.rows) c.self.view_is)
    (same_rows parcels copies c.in_ok-parcels.ensures.cases.parcels) c.self.invariant.ids_rise (c.deref.ensures.value ∙ ids)
    (subst (λ rows. AllZip IsTenShape rows c.in_ok-shapes.shapes.items) c.shapes.ensures c.in_ok-shapes.ensures) in
    let near : AreNearRows rows =
    near_rows rows (near_left (corners_of_rows rows) c.args.self.now.refined c.requires.near) in record {
      rows = subst (AllZip IsTenfoldRow rows) (sym after) (are_tens_of rows near);
      refined = subst (λ ring. AreTenTimes ring c.in_ok-refined.refined) c.refined.ensures c.in_ok-refined.ensures;
      next = ap (λ table. table.next) c.replace_all.ensures ∙ c.in_ok-parcels.ensures.cases.next
          ∙ ap (λ (t : Kept). t.next) c.self.view_is;
    }
