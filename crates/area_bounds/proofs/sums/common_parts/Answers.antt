use Rattle.std.proofs.Common.{◌≡◌, ◌+◌, ℕ, List, length, arith}
use Rattle.std.proofs.lemmas.Int.{ints}
use lib.IntN.{◌+ℤ◌}
use Rattle.geo_exact.specs.declared.corner.Corner.{Corner}
use Rattle.geo_exact.specs.Rings.{Edge, edges}
use Rattle.common_areas.specs.Between.{between}
use Rattle.common_areas.specs.Common.{sum_shares}
use Rattle.area_bounds.specs.Rounded.{count_over, loss_of}
use Rattle.area_bounds.proofs.Counts.{leads_start, leads_on, leads_home}
use Rattle.area_bounds.proofs.Losses.{losses-start, losses-drop, losses-end}
use Rattle.area_bounds.proofs.sums.common_parts.Goals as goal

-- for how many edges of a ring the area between them and an edge is rounded
abbrev lossy : List Corner → Edge → ℕ
lossy ring e = count_over (λ f. loss_of (between e f)) (edges ring)

pub loop-to-init : goal.loop-to-init
loop-to-init c = record {
  so_far = leads_start (λ e. sum_shares (between e) (edges c.args.other.now)) c.in-Some.first.now c.args.one.now c.in-Some.rest.now
      c.in-Some.ensures.cases.0;
  bound = record { low = omega (arith, ints); high = omega (arith, ints) };
  lost = omega arith;
  rounded = omega (
    arith,
    losses-start (lossy c.args.other.now) c.in-Some.first.now c.args.one.now c.in-Some.rest.now
        c.in-Some.ensures.cases.0,
  );
}

pub plus-sum-requires-clause-low : goal.plus-sum-requires-clause-low
plus-sum-requires-clause-low c = record {
  low = omega (arith, ints, c.in-Some.ensures.cases.1, c.loop-to.invariant.bound.low, c.row_parts-row.ensures.bound.low);
  high = omega (arith, ints, c.in-Some.ensures.cases.1, c.loop-to.invariant.bound.high, c.row_parts-row.ensures.bound.high);
}

pub loop-to-preserved : goal.loop-to-preserved
loop-to-preserved c =
    let e : c.plus-sum.result.low ≡ c.loop-to.sum.low +ℤ c.row_parts-row.result.low = omega (arith, ints, c.plus-sum.ensures.low) in
    let f : c.plus-sum.result.lost ≡ c.loop-to.sum.lost + c.row_parts-row.result.lost = c.plus-sum.ensures.lost in
    record {
      so_far =
          rw (e, f) (leads_on (λ e. sum_shares (between e) (edges c.args.other.now)) c.loop-to.from c.to-item.result c.in-Some.first.now
          c.in-Some.rest.now
          c.loop-to.to-index c.loop-to.sum.low c.row_parts-row.result.low c.loop-to.sum.lost c.row_parts-row.result.lost
          (sum_shares (λ e. sum_shares (between e) (edges c.args.other.now)) (edges c.args.one.now))
          c.loop-to-test.true c.to-item.is c.loop-to.invariant.so_far c.row_parts-row.ensures.counted);
      bound = record {
        low = omega (arith, ints, e, c.loop-to.invariant.bound.low, c.row_parts-row.ensures.bound.low);
        high = omega (arith, ints, e, c.loop-to.invariant.bound.high, c.row_parts-row.ensures.bound.high);
      };
      lost = omega (arith, f, c.loop-to.invariant.lost, c.row_parts-row.ensures.lost);
      rounded = omega (
        arith,
        f,
        c.loop-to.invariant.rounded,
        c.row_parts-row.ensures.rounded,
        losses-drop (lossy c.args.other.now) c.loop-to.from c.to-item.result c.in-Some.first.now
            c.in-Some.rest.now c.loop-to.to-index c.loop-to-test.true c.to-item.is,
      );
    }

pub plus-requires-clause-low : goal.plus-requires-clause-low
plus-requires-clause-low c = record {
  low = omega (arith, ints, c.in-Some.ensures.cases.1, c.loop-to.invariant.bound.low, c.row_parts.ensures.bound.low);
  high = omega (arith, ints, c.in-Some.ensures.cases.1, c.loop-to.invariant.bound.high, c.row_parts.ensures.bound.high);
}

pub returns-clause-counted : goal.returns-clause-counted
returns-clause-counted c =
    let e : c.plus.result.low ≡ c.loop-to.sum.low +ℤ c.row_parts.result.low = omega (arith, ints, c.plus.ensures.low) in
    let f : c.plus.result.lost ≡ c.loop-to.sum.lost + c.row_parts.result.lost = c.plus.ensures.lost in
    rw (e, f) (leads_home (λ e. sum_shares (between e) (edges c.args.other.now)) c.loop-to.from c.in-Some.first.now c.in-Some.rest.now
    c.loop-to.to-index c.loop-to.sum.low c.row_parts.result.low c.loop-to.sum.lost c.row_parts.result.lost
    (sum_shares (λ e. sum_shares (between e) (edges c.args.other.now)) (edges c.args.one.now))
    c.loop-to-test.false c.loop-to.invariant.so_far c.row_parts.ensures.counted)

pub returns-clause-bound : goal.returns-clause-bound
returns-clause-bound c = record {
  low = omega (arith, ints, c.in-Some.ensures.cases.1, c.plus.ensures.low, c.loop-to.invariant.bound.low, c.row_parts.ensures.bound.low);
  high = omega (arith, ints, c.in-Some.ensures.cases.1, c.plus.ensures.low, c.loop-to.invariant.bound.high, c.row_parts.ensures.bound.high);
}

pub returns-clause-lost : goal.returns-clause-lost
returns-clause-lost c =
    let n : length c.args.one.now ≡ c.loop-to.to-index + 1 =
    omega (arith, c.in-Some.ensures.cases.1, c.loop-to-test.false, c.loop-to.auto.to-index-end) in
    rw n (omega (arith, c.plus.ensures.lost, c.loop-to.invariant.lost, c.row_parts.ensures.lost))

pub returns-clause-rounded : goal.returns-clause-rounded
returns-clause-rounded c =
    omega (
      arith,
      c.plus.ensures.lost,
      c.loop-to.invariant.rounded,
      c.row_parts.ensures.rounded,
      losses-end (lossy c.args.other.now) c.loop-to.from c.in-Some.first.now c.in-Some.rest.now
          c.loop-to.to-index c.loop-to-test.false,
    )
