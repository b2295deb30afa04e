use Rattle.std.proofs.Common.{length, arith}
use Rattle.std.proofs.lemmas.Int.{ints}
use Rattle.std.proofs.lemmas.Nat.{mul-le}
use Rattle.geo_exact.specs.declared.limits.TheConstants.{RING_CORNERS}
use Rattle.common_areas.specs.Common.{common_area2}
use Rattle.area_bounds.specs.Rounded.{pairs_rounded}
use Rattle.area_bounds.proofs.Counts.{rounded}
use Rattle.area_bounds.proofs.Losses.{near_parts, both_whole}
use Rattle.area_bounds.proofs.sums.common_area2.Goals as goal

pub returns-clause-between : goal.returns-clause-between
returns-clause-between c =
    rounded c.bounds_of.result.low c.bounds_of.result.high c.common_parts.result.low c.common_parts.result.lost
    (common_area2 c.args.one.now c.args.other.now) c.common_parts.ensures.counted c.bounds_of.ensures.low c.bounds_of.ensures.high

pub bounds_of-requires-clause-lost : goal.bounds_of-requires-clause-lost
bounds_of-requires-clause-lost c =
    omega (
      arith,
      c.common_parts.ensures.lost,
      mul-le (length c.args.one.now) (length c.args.other.now) RING_CORNERS RING_CORNERS c.requires.one c.requires.other,
    )

pub bounds_of-requires-clause-bound : goal.bounds_of-requires-clause-bound
bounds_of-requires-clause-bound c = record {
  low = omega (arith, ints, c.common_parts.ensures.bound.low, c.requires.one);
  high = omega (arith, ints, c.common_parts.ensures.bound.high, c.requires.one);
}

pub returns-clause-near : goal.returns-clause-near
returns-clause-near c =
    near_parts c.bounds_of.result.low c.bounds_of.result.high c.common_parts.result.low c.common_parts.result.lost
    (pairs_rounded c.args.one.now c.args.other.now) (common_area2 c.args.one.now c.args.other.now) c.common_parts.ensures.counted
    c.bounds_of.ensures.greatest c.bounds_of.ensures.least c.common_parts.ensures.rounded

pub returns-clause-whole : goal.returns-clause-whole
returns-clause-whole c = λ n is none.
    let area = common_area2 c.args.one.now c.args.other.now in
    let pairs = pairs_rounded c.args.one.now c.args.other.now in
    both_whole c.bounds_of.result.low c.bounds_of.result.high n pairs area
    (rounded c.bounds_of.result.low c.bounds_of.result.high c.common_parts.result.low c.common_parts.result.lost area
    c.common_parts.ensures.counted c.bounds_of.ensures.low c.bounds_of.ensures.high)
    (near_parts c.bounds_of.result.low c.bounds_of.result.high c.common_parts.result.low c.common_parts.result.lost pairs area
    c.common_parts.ensures.counted c.bounds_of.ensures.greatest c.bounds_of.ensures.least c.common_parts.ensures.rounded)
    is none
