use Rattle.std.proofs.Common.{subst}
use Rattle.geo_exact.specs.Layers.{NumberedRing}
use Rattle.fabric_core.specs.Tiling.{IsTiling}
use Rattle.fabric_core.proofs.rows.RowLists.{Contains-mapped}
use Rattle.area_shares.proofs.Tables.{of_table, whole_table, from_none}
use Rattle.area_shares.proofs.areas.area_lines.Goals as goal

pub push_area_lines-requires-clause-pairs : goal.push_area_lines-requires-clause-pairs
push_area_lines-requires-clause-pairs g c = of_table c.args.parcels.now.now.rows c.args.zones.now.rows c.args.pairs.now c.requires.table

pub returns : goal.returns
returns g c =
    let rows = c.args.parcels.now.now.rows in let zones = c.args.zones.now.rows in let pairs = c.args.pairs.now in
    whole_table rows zones pairs c.push_area_lines.new.lines.items
    (from_none rows zones pairs c.in_ok-lines.lines.items c.push_area_lines.new.lines.items c.in_ok-lines.ensures.items
    c.in_ok-push_area_lines.ensures)
    (λ row is.
    let w = c.each_parcel_overlaps_a_zone.ensures rows zones c.args.parcels.now.city row.number c.use_invariant.ensures.simple
    c.use_invariant.ensures.tiling (subst (IsTiling zones) c.requires.city c.use_invariant-2.ensures.tiling)
    (Contains-mapped (λ (r : NumberedRing). r.number) rows row is) in
    (w.0, (c.requires.table.exactly row.number w.0).1 w.1))
