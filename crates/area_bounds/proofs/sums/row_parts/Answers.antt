use Rattle.std.proofs.Common.{◌≤◌, subst, arith}
use Rattle.std.proofs.lemmas.Int.{ints}
use Rattle.geo_exact.specs.Rings.{Edge, edges}
use Rattle.common_areas.specs.Between.{between}
use Rattle.common_areas.specs.Common.{sum_shares}
use Rattle.area_bounds.specs.Parts.{IsCounted}
use Rattle.area_bounds.specs.Rounded.{count_over, loss_of}
use Rattle.area_bounds.proofs.Gaps.{level_sum}
use Rattle.area_bounds.proofs.sums.row_parts.Goals as goal

pub returns-in-None-clause-counted : goal.returns-in-None-clause-counted
returns-in-None-clause-counted c =
    level_sum (record { from = c.args.from; to = c.args.to }) c.in-None.ensures (edges c.args.ring.now)

pub returns-in-Some-clause-counted : goal.returns-in-Some-clause-counted
returns-in-Some-clause-counted c =
    let P : Edge → Type 0 =
    λ e. IsCounted c.ring_parts.result.low c.ring_parts.result.lost (sum_shares (between e) (edges c.args.ring.now)) in
    subst P c.in-Some.ensures c.ring_parts.ensures.counted

pub returns-in-Some-clause-bound : goal.returns-in-Some-clause-bound
returns-in-Some-clause-bound c = record {
  low = omega (arith, ints, c.ring_parts.ensures.bound.low);
  high = omega (arith, ints, c.ring_parts.ensures.bound.high);
}

pub returns-in-Some-clause-rounded : goal.returns-in-Some-clause-rounded
returns-in-Some-clause-rounded c =
    let P : Edge → Type 0 = λ e. c.ring_parts.result.lost ≤ count_over (λ f. loss_of (between e f)) (edges c.args.ring.now) in
    subst P c.in-Some.ensures c.ring_parts.ensures.rounded
