use Rattle.std.proofs.Common.{◌≤◌, sym, subst}
use Rattle.std.specs.List.{AllByRecursion}
use Rattle.zone_tables.specs.Overlap.{AreInPairOrder}
use Rattle.area_shares.proofs.Tables.{from_first, pairs_here, pairs_behind, joined_behind}
use Rattle.area_shares.proofs.areas.push_area_lines.Goals as goal

pub split_parcel-requires-clause-from : goal.split_parcel-requires-clause-from
split_parcel-requires-clause-from g c =
    let first = c.in-Some.first.now in let e = c.in-Some.ensures.cases.0 in
    subst (AllByRecursion (λ pair. first.0 ≤ pair.0)) (sym e)
    (from_first c.args.parcels.now.now.rows c.args.zones.now.rows first.0 first.1 c.in-Some.field-0-1.now
    (subst AreInPairOrder e c.loop-first.invariant.pairs.ascend))

pub push_parcel-requires-clause-pairs : goal.push_parcel-requires-clause-pairs
push_parcel-requires-clause-pairs g c =
    let first = c.in-Some.first.now in
    pairs_here c.args.parcels.now.now.rows c.args.zones.now.rows first.0 first.1 c.loop-first.rest.now c.in-Some.field-0-1.now
    c.split_parcel.result.0.now c.split_parcel.result.1.now c.loop-first.invariant.pairs c.in-Some.ensures.cases.0 c.split_parcel.ensures

pub loop-first-preserved : goal.loop-first-preserved
loop-first-preserved g c =
    let rows = c.args.parcels.now.now.rows in let zones = c.args.zones.now.rows in let first = c.in-Some.first.now in
    let here = c.split_parcel.result.0.now in let behind = c.split_parcel.result.1.now in let rest = c.loop-first.rest.now in
    record {
      pairs =
          pairs_behind rows zones first.0 first.1 rest c.in-Some.field-0-1.now here behind c.loop-first.invariant.pairs
          c.in-Some.ensures.cases.0 c.split_parcel.ensures;
      so_far = λ new later. c.loop-first.invariant.so_far new
          (joined_behind rows zones first.0 rest here behind c.loop-first.lines.items c.push_parcel.new.lines.items new
          c.split_parcel.ensures
          c.in_ok-push_parcel.ensures later);
    }
