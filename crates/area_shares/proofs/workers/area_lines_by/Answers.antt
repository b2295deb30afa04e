use Rattle.std.proofs.Common.{rules, ◌≡◌, ◌∙◌, ap, sym, subst, IfOk, get_or}
use Rattle.std.proofs.lemmas.Result.{IfOk-weaker}
use Rattle.geo_exact.specs.Layers.{NumberedRing}
use Rattle.fabric_core.specs.Tiling.{IsTiling}
use Rattle.fabric_core.proofs.rows.RowLists.{Contains-mapped}
use Rattle.area_shares.specs.AreaTable.{ArePairsOfParcels, AreAreaLines, IsAreaTable}
use Rattle.area_shares.proofs.Tables.{of_table, whole_table}
use Rattle.area_shares.proofs.SlicePairs.{of_slices, each_slice}
use denote.Param.Send.{sendable}
use Rattle.fabric_core.proofs.Crossing.{fabric_sync, layer_sync}
use Rattle.area_shares.proofs.workers.area_lines_by.Goals as goal

pub map_vec-requires-sync-F : goal.map_vec-requires-sync-F
map_vec-requires-sync-F g c κs within =
    let sync = c.type_bounds.sync-H in
    let alloc = c.type_bounds.sync-A in
    search (fabric_sync, layer_sync, sendable) depth 20

pub cut-requires : goal.cut-requires
cut-requires g c = c.requires.table.ascend

pub map_vec-requires-after_bounds : goal.map_vec-requires-after_bounds
map_vec-requires-after_bounds g c κs within i x l e =
    let rows = c.args.parcels.now.now.rows in let zones = c.args.zones.now.rows in let pairs = c.args.pairs.now in
    let w = each_slice rows zones (λ here slice. slice.now ≡ here) pairs c.in_ok-slices.slices.items
    (of_table rows zones pairs c.requires.table)
    c.in_ok-slices.ensures i x l in
    (c.requires.city, subst (ArePairsOfParcels rows zones) (sym w.1 ∙ ap (λ slice. slice.now) (sym e)) w.2)

pub joined-requires : goal.joined-requires
joined-requires g c =
    let rows = c.args.parcels.now.now.rows in let zones = c.args.zones.now.rows in let pairs = c.args.pairs.now in
    let slices = c.in_ok-slices.slices.items in let results = c.in_ok-lines.lines.items in
    of_slices (λ here slice. slice.now ≡ here) (λ here result. IfOk result (λ lines. AreAreaLines rows zones here lines.items))
    pairs slices results
    (sym c.in_ok-lines.lines.ok.0 ∙ c.in_ok-lines.ensures.len ∙ c.in_ok-slices.slices.ok.0) c.in_ok-slices.ensures
    (λ i j d l here same. let given = (c.in_ok-lines.ensures.each i d l).1 in
    let fact : IfOk (get_or results i d) (λ lines. AreAreaLines rows zones given.job.now lines.items) =
    let call = given.call in search rules in
    subst (λ ps. IfOk (get_or results i d) (λ lines. AreAreaLines rows zones ps lines.items))
    (sym (ap (λ job. job.now) (given.job_is j)) ∙ same) fact)

pub returns : goal.returns
returns g c =
    let rows = c.args.parcels.now.now.rows in let zones = c.args.zones.now.rows in let pairs = c.args.pairs.now in
    IfOk-weaker c.joined.result (λ lines. AreAreaLines rows zones pairs lines.items) (λ lines. IsAreaTable rows zones pairs lines.items)
    (λ lines h. whole_table rows zones pairs lines.items h
    (λ row is.
    let w = c.each_parcel_overlaps_a_zone.ensures rows zones c.args.parcels.now.city row.number c.use_invariant.ensures.simple
    c.use_invariant.ensures.tiling (subst (IsTiling zones) c.requires.city c.use_invariant-2.ensures.tiling)
    (Contains-mapped (λ (r : NumberedRing). r.number) rows row is) in
    (w.0, (c.requires.table.exactly row.number w.0).1 w.1)))
    c.joined.ensures
