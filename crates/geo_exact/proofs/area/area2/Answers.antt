use Rattle.std.proofs.Common.{arith}
use Rattle.std.proofs.lemmas.Int.{ints}
use Rattle.geo_exact.specs.Area.{edge_area2}
use Rattle.geo_exact.proofs.rings.Paths.{path_sum-drop, path_sum-end}
use Rattle.geo_exact.proofs.area.area2.Goals as goal

pub overflow_add-sum : goal.overflow_add-sum
overflow_add-sum c = omega (arith, ints, c.in-Some.ensures.cases.1)

pub loop-to-preserved : goal.loop-to-preserved
loop-to-preserved c = record {
  so_far = omega (
    arith,
    ints,
    c.in-Some.ensures.cases.1,
    c.loop-to.invariant.so_far,
    c.edge_area2-sum.ensures.value,
    path_sum-drop edge_area2 c.loop-to.from c.to-item.result c.in-Some.first.now c.in-Some.rest.now
        c.loop-to.to-index c.loop-to-test.true c.to-item.is,
  );
  bound = record { low = omega (arith, ints, c.in-Some.ensures.cases.1); high = omega (arith, ints, c.in-Some.ensures.cases.1) };
}

pub returns-clause-value : goal.returns-clause-value
returns-clause-value c =
    omega (
      arith,
      ints,
      c.in-Some.ensures.cases.1,
      c.edge_area2.ensures.value,
      path_sum-end edge_area2 c.loop-to.from c.in-Some.first.now c.in-Some.rest.now c.loop-to.to-index c.loop-to-test.false,
    )

pub returns-clause-bound : goal.returns-clause-bound
returns-clause-bound c = record {
  low = omega (arith, ints, c.in-Some.ensures.cases.1);
  high =
      omega (arith, ints, c.in-Some.ensures.cases.1);
}
