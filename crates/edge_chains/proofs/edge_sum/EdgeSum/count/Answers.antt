use Rattle.std.proofs.Common.{◌≡◌, ◌∙◌, ap, ◌+ℤ◌, arith}
use Rattle.edge_chains.specs.Net.{net_of_edges}
use Rattle.geo_exact.specs.Rings.{edges}
use Rattle.geo_exact.specs.declared.limits.TheConstants.{COUNTED_EDGES}
use Rattle.edge_chains.specs.Counts.{Counts}
use Rattle.edge_chains.specs.own.Sides.{signed}
use Rattle.edge_chains.proofs.nets.Changes.{AreCounts-alike, AreCounts-upto, net_at_alike}
use Rattle.edge_chains.proofs.edge_sum.EdgeSum.count.Goals as goal

pub count_ring-requires-clause-kept : goal.count_ring-requires-clause-kept
count_ring-requires-clause-kept g c =
    AreCounts-upto c.reserve.new.self.entries c.self.inside.edges COUNTED_EDGES (let e : c.self.inside.edges ≡ c.args.self.now.edges =
    ap (λ (sum : Counts). sum.edges) c.self.view_is in omega arith)
    (AreCounts-alike c.self.inside.numbers.entries c.reserve.new.self.entries c.self.inside.edges
    c.in_ok-reserve.ensures.entries.2 c.self.invariant)

pub invariant_of-self-2 : goal.invariant_of-self-2
invariant_of-self-2 g c =
    c.count_ring.ensures.kept c.self.inside.edges
    (AreCounts-alike c.self.inside.numbers.entries c.reserve.new.self.entries c.self.inside.edges
    c.in_ok-reserve.ensures.entries.2 c.self.invariant)

pub returns-clause-net : goal.returns-clause-net
returns-clause-net g c = rw (← c.self.view_is) (λ a b. c.count_ring.ensures.net a b
    ∙ ap (λ z. z +ℤ signed c.args.side (net_of_edges (edges c.args.ring.now) a b))
    (net_at_alike c.self.inside.numbers.entries c.reserve.new.self.entries c.in_ok-reserve.ensures.entries.2 a b))
