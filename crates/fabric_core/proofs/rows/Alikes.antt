-- Rings that go alike: those with equal net numbers do.
use Rattle.std.proofs.Common.{◌≡◌, sym, ◌∙◌, ℤ, neg_ℤ, ◌+ℤ◌, List, [], ◌∷◌}
use Rattle.geo_exact.specs.declared.corner.Corner.{Corner}
use Rattle.geo_exact.specs.Area.{edge_area2}
use Rattle.geo_exact.specs.Point.{Point}
use Rattle.geo_exact.specs.Rings.{Edge, edges, sum_over}
use Rattle.geo_exact.specs.Segments.{IsStrictlyInside}
use Rattle.geo_exact.specs.Winding.{crossing}
use Rattle.geo_exact.proofs.rings.Crossings.{crossing_back, crossing_cut, edge_area2_back, edge_area2_cut}
use Rattle.geo_exact.proofs.rings.EdgeSums.{edge_of, turned_edge}
use Rattle.edge_chains.specs.Net.{all_edges, net_count, sum_of_rings}
use Rattle.edge_chains.proofs.nets.Balance.{sum_over-balanced, sum_of_rings-edges}
use Rattle.fabric_core.specs.own.Alike.{GoAlike}
use Rattle.fabric_core.specs.own.Checks.{HaveEqualNets}

-- the measure of an edge changes its sign with the direction, and is the sum of its parts' where a corner lies strictly inside the edge
pub record AddsUp (measure : Edge → ℤ) : Type 0 where
  pub turns : (edge : Edge) → measure (turned_edge edge) ≡ neg_ℤ (measure edge)
  pub cuts : (a b at : Corner) → IsStrictlyInside at a b → measure (edge_of a at) +ℤ measure (edge_of at b) ≡ measure (edge_of a b)

-- the measure of all edges of a ring, and of rings
abbrev pub measured : (Edge → ℤ) → List Corner → ℤ
measured measure ring = sum_over measure (edges ring)

abbrev pub all_measured : (Edge → ℤ) → List (List Corner) → ℤ
all_measured measure rings = sum_of_rings (measured measure) rings

-- rings with the same net numbers have the same measures
pub balanced_alike : (rings others : List (List Corner)) → ((a b : Corner) → net_count rings a b ≡ net_count others a b)
    → (measure : Edge → ℤ) → AddsUp measure → all_measured measure rings ≡ all_measured measure others
balanced_alike rings others h measure adds =
    sum_of_rings-edges measure rings
    ∙ sum_over-balanced measure adds.turns (all_edges rings) (all_edges others) h
    ∙ sym (sum_of_rings-edges measure others)

-- how an edge crosses the ray from a point is such a measure, and so is the area beside it
abbrev pub crossing_of : Point → Edge → ℤ
crossing_of p edge = crossing p edge.from edge.to

pub crossings_add : (p : Point) → AddsUp (crossing_of p)
crossings_add p = record {
  turns = λ edge. crossing_back p edge.from edge.to;
  cuts = λ a b at inside. crossing_cut p a b at inside.on_edge;
}

pub areas_add : AddsUp edge_area2
areas_add = record {
  turns = λ edge. edge_area2_back edge.from edge.to;
  cuts = λ a b at inside. edge_area2_cut a b at inside.on_edge;
}

pub alike_from_nets : (rings : List (List Corner)) (refined : List Corner) → HaveEqualNets rings refined → GoAlike rings refined
alike_from_nets rings refined h = record {
  windings = λ p. balanced_alike rings (refined ∷ []) h (crossing_of p) (crossings_add p);
  areas = balanced_alike rings (refined ∷ []) h edge_area2 areas_add;
}
