use Rattle.std.proofs.Common.{◌≡◌, ◌+◌, arith}
use Rattle.std.proofs.lemmas.Int.{ints}
use lib.IntN.{◌+ℤ◌}
use Rattle.geo_exact.specs.Rings.{edges}
use Rattle.common_areas.specs.Between.{between}
use Rattle.common_areas.specs.Common.{sum_shares}
use Rattle.area_bounds.specs.Edges.{edge_of}
use Rattle.area_bounds.specs.Rounded.{loss_of}
use Rattle.area_bounds.proofs.Counts.{leads_start, leads_on, leads_home}
use Rattle.area_bounds.proofs.Losses.{losses-start, losses-drop, losses-end}
use Rattle.area_bounds.proofs.sums.ring_parts.Goals as goal

pub loop-to-init : goal.loop-to-init
loop-to-init c = record {
  so_far = leads_start (between (edge_of c.args.one)) c.in-Some.first.now c.args.ring.now c.in-Some.rest.now c.in-Some.ensures.cases.0;
  bound = record { low = omega (arith, ints); high = omega (arith, ints) };
  lost = omega arith;
  rounded = omega (
    arith,
    losses-start (λ edge. loss_of (between (edge_of c.args.one) edge)) c.in-Some.first.now c.args.ring.now c.in-Some.rest.now
        c.in-Some.ensures.cases.0,
  );
}

pub plus-sum-requires-clause-low : goal.plus-sum-requires-clause-low
plus-sum-requires-clause-low c = record {
  low = omega (arith, ints, c.in-Some.ensures.cases.1, c.loop-to.invariant.bound.low, c.edge_parts.ensures.bound.low);
  high = omega (arith, ints, c.in-Some.ensures.cases.1, c.loop-to.invariant.bound.high, c.edge_parts.ensures.bound.high);
}

pub loop-to-preserved : goal.loop-to-preserved
loop-to-preserved c =
    let e : c.plus-sum.result.low ≡ c.loop-to.sum.low +ℤ c.edge_parts.result.low = omega (arith, ints, c.plus-sum.ensures.low) in
    let f : c.plus-sum.result.lost ≡ c.loop-to.sum.lost + c.edge_parts.result.lost = c.plus-sum.ensures.lost in
    record {
      so_far = rw (e, f) (leads_on (between (edge_of c.args.one)) c.loop-to.from c.to-item.result c.in-Some.first.now c.in-Some.rest.now
          c.loop-to.to-index c.loop-to.sum.low c.edge_parts.result.low c.loop-to.sum.lost c.edge_parts.result.lost
          (sum_shares (between (edge_of c.args.one)) (edges c.args.ring.now))
          c.loop-to-test.true c.to-item.is c.loop-to.invariant.so_far c.edge_parts.ensures.counted);
      bound = record {
        low = omega (arith, ints, e, c.loop-to.invariant.bound.low, c.edge_parts.ensures.bound.low);
        high = omega (arith, ints, e, c.loop-to.invariant.bound.high, c.edge_parts.ensures.bound.high);
      };
      lost = omega (arith, f, c.loop-to.invariant.lost, c.edge_parts.ensures.lost);
      rounded = omega (
        arith,
        f,
        c.loop-to.invariant.rounded,
        c.edge_parts.ensures.rounded,
        losses-drop (λ edge. loss_of (between (edge_of c.args.one) edge)) c.loop-to.from c.to-item.result c.in-Some.first.now
            c.in-Some.rest.now c.loop-to.to-index c.loop-to-test.true c.to-item.is,
      );
    }

pub plus-requires-clause-low : goal.plus-requires-clause-low
plus-requires-clause-low c = record {
  low = omega (arith, ints, c.in-Some.ensures.cases.1, c.loop-to.invariant.bound.low, c.edge_parts-2.ensures.bound.low);
  high = omega (arith, ints, c.in-Some.ensures.cases.1, c.loop-to.invariant.bound.high, c.edge_parts-2.ensures.bound.high);
}

pub returns-clause-counted : goal.returns-clause-counted
returns-clause-counted c =
    let e : c.plus.result.low ≡ c.loop-to.sum.low +ℤ c.edge_parts-2.result.low = omega (arith, ints, c.plus.ensures.low) in
    let f : c.plus.result.lost ≡ c.loop-to.sum.lost + c.edge_parts-2.result.lost = c.plus.ensures.lost in
    rw (e, f) (leads_home (between (edge_of c.args.one)) c.loop-to.from c.in-Some.first.now c.in-Some.rest.now
    c.loop-to.to-index c.loop-to.sum.low c.edge_parts-2.result.low c.loop-to.sum.lost c.edge_parts-2.result.lost
    (sum_shares (between (edge_of c.args.one)) (edges c.args.ring.now))
    c.loop-to-test.false c.loop-to.invariant.so_far c.edge_parts-2.ensures.counted)

pub returns-clause-bound : goal.returns-clause-bound
returns-clause-bound c = record {
  low = omega (arith, ints, c.in-Some.ensures.cases.1, c.plus.ensures.low, c.loop-to.invariant.bound.low, c.edge_parts-2.ensures.bound.low);
  high = omega (
    arith,
    ints,
    c.in-Some.ensures.cases.1,
    c.plus.ensures.low,
    c.loop-to.invariant.bound.high,
    c.edge_parts-2.ensures.bound.high,
  );
}

pub returns-clause-rounded : goal.returns-clause-rounded
returns-clause-rounded c =
    omega (
      arith,
      c.plus.ensures.lost,
      c.loop-to.invariant.rounded,
      c.edge_parts-2.ensures.rounded,
      losses-end (λ edge. loss_of (between (edge_of c.args.one) edge)) c.loop-to.from c.in-Some.first.now c.in-Some.rest.now
          c.loop-to.to-index c.loop-to-test.false,
    )
