use Rattle.std.proofs.Common.{sym, ◌∙◌, arith, FitsSigned}
use Rattle.std.specs.Int.{w64}
use Rattle.std.proofs.lemmas.Int.{ints}
use Rattle.std.proofs.lemmas.Bool.{false≢true}
use Rattle.geo_exact.specs.Limit.{IsWithin}
use Rattle.geo_exact.specs.Point.{corner_point}
use Rattle.geo_exact.specs.Turn.{IsOnRing}
use Rattle.geo_exact.specs.Winding.{crossing}
use Rattle.geo_exact.proofs.rings.Paths.{path_sum-drop, path_sum-end}
use Rattle.ring_core.proofs.searches.Sides.{path-drop, path-end, not_first}
use Rattle.ring_core.proofs.side.side_of.Goals as goal

pub loop-to-preserved-then-is_passed : goal.loop-to-preserved-then-is_passed
loop-to-preserved-then-is_passed c =
    let p = corner_point c.args.place in
    let last = c.in-Some.first.now in
    let step = path-drop c.loop-to.from c.to-item.result last c.in-Some.rest.now c.loop-to.to-index c.loop-to-test.true c.to-item.is in
    let summed = path_sum-drop (λ edge. crossing p edge.from edge.to) c.loop-to.from c.to-item.result last c.in-Some.rest.now
    c.loop-to.to-index
    c.loop-to-test.true c.to-item.is in
    let passed = c.is_passed.ensures c.if-is_passed.true in
    record {
      so_far = omega (arith, ints, c.loop-to.invariant.so_far, passed.1, summed);
      left = not_first p _ _ _ (IsOnRing p c.args.ring.now) step passed.0 c.loop-to.invariant.left;
      bound = record { low = omega (arith, ints, c.loop-to.invariant.bound); high = omega (arith, ints, c.loop-to.invariant.bound) };
    }

pub loop-to-preserved : goal.loop-to-preserved
loop-to-preserved c =
    let p = corner_point c.args.place in
    let last = c.in-Some.first.now in
    let step = path-drop c.loop-to.from c.to-item.result last c.in-Some.rest.now c.loop-to.to-index c.loop-to-test.true c.to-item.is in
    let one : IsWithin 1 c.crossing-sum.result = c.crossing-sum.ensures.bound in
    let fit_one : FitsSigned w64 c.crossing-sum.result = omega (arith, ints, one) in
    let summed = path_sum-drop (λ edge. crossing p edge.from edge.to) c.loop-to.from c.to-item.result last c.in-Some.rest.now
    c.loop-to.to-index
    c.loop-to-test.true c.to-item.is in
    record {
      so_far = omega (
        arith,
        ints,
        c.in-Some.ensures.cases.1,
        c.loop-to.invariant.so_far,
        c.crossing-sum.ensures.value,
        c.loop-to.invariant.bound,
        one,
        summed,
      );
      left = not_first p _ _ _ (IsOnRing p c.args.ring.now) step
          (λ on. false≢true (sym c.if-on_segment.false ∙ c.on_segment.ensures.1 on)) c.loop-to.invariant.left;
      bound = record {
        low = omega (arith, ints, c.in-Some.ensures.cases.1, one, c.loop-to.invariant.bound);
        high = omega
            (arith, ints, c.in-Some.ensures.cases.1, one, c.loop-to.invariant.bound);
      };
    }

pub returns-then-sum-crossing-ge1 : goal.returns-then-sum-crossing-ge1
returns-then-sum-crossing-ge1 c =
    let p = corner_point c.args.place in
    let one : IsWithin 1 c.crossing.result = c.crossing.ensures.bound in
    let fit_one : FitsSigned w64 c.crossing.result = omega (arith, ints, one) in
    let last = c.in-Some.first.now in
    let summed = path_sum-end (λ edge. crossing p edge.from edge.to) c.loop-to.from last c.in-Some.rest.now c.loop-to.to-index
    c.loop-to-test.false in
    let left = not_first p _ _ _ (IsOnRing p c.args.ring.now)
    (path-end c.loop-to.from last c.in-Some.rest.now c.loop-to.to-index c.loop-to-test.false)
    (λ on. false≢true (sym c.if-on_segment-2.false ∙ c.on_segment-2.ensures.1 on)) c.loop-to.invariant.left in
    record {
      off_edges = λ on. left.1 on;
      is_wound = omega (
        arith,
        ints,
        c.in-Some.ensures.cases.1,
        c.loop-to.invariant.so_far,
        c.loop-to.invariant.bound,
        one,
        summed,
        c.crossing.ensures.value,
        c.if-sum-crossing-ge1.true,
      );
    }

pub returns-else-sum-crossing-ge1 : goal.returns-else-sum-crossing-ge1
returns-else-sum-crossing-ge1 c =
    let p = corner_point c.args.place in
    let one : IsWithin 1 c.crossing.result = c.crossing.ensures.bound in
    let fit_one : FitsSigned w64 c.crossing.result = omega (arith, ints, one) in
    let last = c.in-Some.first.now in
    let summed = path_sum-end (λ edge. crossing p edge.from edge.to) c.loop-to.from last c.in-Some.rest.now c.loop-to.to-index
    c.loop-to-test.false in
    let left = not_first p _ _ _ (IsOnRing p c.args.ring.now)
    (path-end c.loop-to.from last c.in-Some.rest.now c.loop-to.to-index c.loop-to-test.false)
    (λ on. false≢true (sym c.if-on_segment-2.false ∙ c.on_segment-2.ensures.1 on)) c.loop-to.invariant.left in (
      λ on. left.1 on,
      λ inside. omega (
        arith,
        ints,
        c.in-Some.ensures.cases.1,
        c.loop-to.invariant.so_far,
        c.loop-to.invariant.bound,
        one,
        summed,
        c.crossing.ensures.value,
        c.if-sum-crossing-ge1.false,
        inside.is_wound,
      ),
    )
