use Rattle.std.proofs.Common.{◌≤◌, [], sym, subst, arith}
use Rattle.std.specs.List.{AllByRecursion}
use Rattle.zone_tables.specs.Overlap.{AreInPairOrder}
use Rattle.area_shares.proofs.Tables.{from_first}
use Rattle.area_shares.proofs.SlicePairs.{order_back, split_behind}
use Rattle.area_shares.proofs.workers.split_parcels.Goals as goal

pub split_parcel-requires-clause-ascend : goal.split_parcel-requires-clause-ascend
split_parcel-requires-clause-ascend c = order_back c.args.pairs.now c.split_at.result.1.now _ c.requires c.split_at.ensures.back

pub split_parcel-requires-clause-from : goal.split_parcel-requires-clause-from
split_parcel-requires-clause-from c =
    let first = c.in-Some.first.now in let e = c.in-Some.ensures.cases.0 in
    subst (AllByRecursion (λ pair. first.0 ≤ pair.0)) (sym e)
    (from_first [] [] first.0 first.1 c.in-Some.field-0-1.now
    (subst AreInPairOrder e (order_back c.args.pairs.now c.split_at.result.1.now _ c.requires c.split_at.ensures.back)))

pub returns : goal.returns
returns c =
    split_behind c.args.pairs.now c.split_at.result.0.now c.split_at.result.1.now c.split_parcel.result.0.now c.split_parcel.result.1.now
    c.split_at-2.result.0.now c.split_at-2.result.1.now c.in-Some.first.now c.in-Some.field-0-1.now _ _ c.requires c.split_at.ensures.front
    c.split_at.ensures.back c.in-Some.ensures.cases.0 c.split_parcel.ensures
    (omega arith) c.split_at-2.ensures.front c.split_at-2.ensures.back
