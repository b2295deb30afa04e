use Rattle.std.proofs.Common.{◌+◌, arith, ◌*◌}
use Rattle.edge_chains.specs.Counts.{net_at}
use Rattle.edge_chains.specs.Net.{net_of_edges}
use Rattle.geo_exact.specs.Rings.{path}
use Rattle.geo_exact.specs.declared.limits.TheConstants.{COUNTED_EDGES}
use Rattle.std.proofs.Common.{◌+ℤ◌}
use Rattle.edge_chains.specs.own.Sides.{signed}
use Rattle.edge_chains.proofs.nets.Changes.{counted_more, AreCounts-upto}
use Rattle.edge_chains.proofs.edge_sum.count_ring.Goals as goal

pub count_edge-requires-clause-kept : goal.count_edge-requires-clause-kept
count_edge-requires-clause-kept g c =
    AreCounts-upto c.loop-to.numbers.entries (COUNTED_EDGES + c.loop-to.to-index) (2 * COUNTED_EDGES)
    (omega (arith, c.in-Some.ensures.cases))
    (c.loop-to.invariant.kept COUNTED_EDGES c.requires.kept)

pub count_edge-requires-in-Some-clause-kept : goal.count_edge-requires-in-Some-clause-kept
count_edge-requires-in-Some-clause-kept g c =
    AreCounts-upto c.loop-to.numbers.entries (COUNTED_EDGES + c.loop-to.to-index) (2 * COUNTED_EDGES)
    (omega (arith, c.in-Some.ensures.cases))
    (c.loop-to.invariant.kept COUNTED_EDGES c.requires.kept)

pub loop-to-preserved : goal.loop-to-preserved
loop-to-preserved g c = record {
  so_far = λ a b. counted_more c.args.side (net_at c.loop-to.numbers.entries a b) (net_at c.count_edge.new.numbers.entries a b)
      (net_at c.args.numbers.now.entries a b +ℤ signed c.args.side
      (net_of_edges (path c.in-Some.first.now c.in-Some.rest.now c.in-Some.first.now) a b))
      c.loop-to.from c.to-item.result c.in-Some.first.now c.in-Some.rest.now c.loop-to.to-index a b
      c.loop-to-test.true c.to-item.is (c.count_edge.ensures.net a b) (c.loop-to.invariant.so_far a b);
  kept = λ n k. AreCounts-upto c.count_edge.new.numbers.entries (n + c.loop-to.to-index + 1) (n + (c.loop-to.to-index + 1)) (omega arith)
      (c.count_edge.ensures.kept (n + c.loop-to.to-index) (c.loop-to.invariant.kept n k));
  room = omega arith;
}
