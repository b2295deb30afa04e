use Rattle.std.proofs.Common.{◌≡◌, ◌≤◌, sym, ◌∙◌, ap, subst}
use Rattle.geo_exact.specs.declared.limits.TheConstants.{LAYER_RECORDS}
use Rattle.shp_files.specs.Written.{corner_lists as lists_of_rings, written_main, written_index}
use Rattle.fabric_core.specs.Tiling.{corner_lists}
use Rattle.geo_exact.proofs.PassedOn.{ok_more}
use Rattle.parcel_runs.proofs.RowLimits.{as_many, lists_of_shapes, each_short, few_corners}
use Rattle.parcel_runs.proofs.export.written.Goals as goal

pub rings_to_write-requires-clause-count : goal.rings_to_write-requires-clause-count
rings_to_write-requires-clause-count g c =
    let rows = c.args.sheet.now.now.rows in
    subst (λ n. n ≤ LAYER_RECORDS)
    (sym (as_many (λ shape. shape.1.ring.corners) c.shapes.result rows (lists_of_shapes c.shapes.result rows c.shapes.ensures)))
    c.requires

pub rings_to_write-requires-clause-short : goal.rings_to_write-requires-clause-short
rings_to_write-requires-clause-short g c =
    let rows = c.args.sheet.now.now.rows in
    each_short (λ shape. shape.1.ring.corners) c.shapes.result rows
    (lists_of_shapes c.shapes.result rows c.shapes.ensures) c.use_invariant.ensures.within.each

pub write_layer-requires-clause-rings : goal.write_layer-requires-clause-rings
write_layer-requires-clause-rings g c =
    let rows = c.args.sheet.now.now.rows in
    let lists : lists_of_rings c.deref.result.now ≡ corner_lists rows =
    ap lists_of_rings c.deref.ensures.value ∙ c.in_ok-rings.ensures ∙ lists_of_shapes c.shapes.result rows c.shapes.ensures in
    subst (λ n. n ≤ LAYER_RECORDS) (sym (as_many (λ ring. ring.corners) c.deref.result.now rows lists)) c.requires

pub write_layer-requires-clause-corners : goal.write_layer-requires-clause-corners
write_layer-requires-clause-corners g c =
    let rows = c.args.sheet.now.now.rows in
    let lists : lists_of_rings c.deref.result.now ≡ corner_lists rows =
    ap lists_of_rings c.deref.ensures.value ∙ c.in_ok-rings.ensures ∙ lists_of_shapes c.shapes.result rows c.shapes.ensures in
    few_corners c.deref.result.now rows lists c.use_invariant.ensures.within

pub returns-clause-main : goal.returns-clause-main
returns-clause-main g c =
    let rows = c.args.sheet.now.now.rows in
    let lists : lists_of_rings c.deref.result.now ≡ corner_lists rows =
    ap lists_of_rings c.deref.ensures.value ∙ c.in_ok-rings.ensures ∙ lists_of_shapes c.shapes.result rows c.shapes.ensures in
    ok_more _ _ c.write_layer.result (λ files h. h ∙ ap written_main lists) c.write_layer.ensures.main

pub returns-clause-index : goal.returns-clause-index
returns-clause-index g c =
    let rows = c.args.sheet.now.now.rows in
    let lists : lists_of_rings c.deref.result.now ≡ corner_lists rows =
    ap lists_of_rings c.deref.ensures.value ∙ c.in_ok-rings.ensures ∙ lists_of_shapes c.shapes.result rows c.shapes.ensures in
    ok_more _ _ c.write_layer.result (λ files h. h ∙ ap written_index lists) c.write_layer.ensures.index
