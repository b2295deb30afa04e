-- Winding numbers and areas of rings: begun at the second corner, turned round, and with a corner more on an edge.
use Rattle.std.proofs.Common.{◌≡◌, ℕ, ◌≤◌, List, ◌∷◌, ◌++◌, length}
use lib.IntN.{ℤ, neg_ℤ}
use Rattle.geo_exact.specs.declared.corner.Corner.{Corner}
use Rattle.geo_exact.specs.Point.{Point}
use Rattle.geo_exact.specs.Rings.{Edge, begun_at, turned_round}
use Rattle.geo_exact.specs.Turn.{IsOnEdge}
use Rattle.geo_exact.specs.Winding.{crossing, winding}
use Rattle.geo_exact.specs.Area.{edge_area2, area2}
use Rattle.geo_exact.proofs.rings.EdgeSums.{sum_over-turned_sign, sum_over-inserts}
use Rattle.geo_exact.proofs.rings.Begun.{sum_over-begun}
use Rattle.geo_exact.proofs.corners_and_turns.TurnLaws.{corner_point}
use Rattle.geo_exact.proofs.rings.Crossings.{crossing_back, crossing_cut, edge_area2_back, edge_area2_cut}

-- the measure that `crossings` sums
abbrev pub crossing_of : Point → Edge → ℤ
crossing_of p edge = crossing p edge.from edge.to

pub winding_begun : (k : ℕ) (p : Point) (ring : List Corner) → k ≤ length ring → winding p (begun_at k ring) ≡ winding p ring
winding_begun k p = sum_over-begun (crossing_of p) k

pub area2_begun : (k : ℕ) (ring : List Corner) → k ≤ length ring → area2 (begun_at k ring) ≡ area2 ring
area2_begun = sum_over-begun edge_area2

pub winding_turned_round : (p : Point) (ring : List Corner) → winding p (turned_round ring) ≡ neg_ℤ (winding p ring)
winding_turned_round p ring = sum_over-turned_sign (crossing_of p) ring (λ edge. crossing_back p edge.from edge.to)

pub area2_turned_round : (ring : List Corner) → area2 (turned_round ring) ≡ neg_ℤ (area2 ring)
area2_turned_round ring = sum_over-turned_sign edge_area2 ring (λ edge. edge_area2_back edge.from edge.to)

-- m on the edge from a to b, anywhere in the ring
pub winding_inserts : (p : Point) (front back : List Corner) (a b m : Corner) → IsOnEdge (corner_point m) a b
    → winding p (front ++ a ∷ m ∷ b ∷ back) ≡ winding p (front ++ a ∷ b ∷ back)
winding_inserts p front back a b m h = sum_over-inserts (crossing_of p) front back a b m (crossing_cut p a b m h)

pub area2_inserts : (front back : List Corner) (a b m : Corner) → IsOnEdge (corner_point m) a b
    → area2 (front ++ a ∷ m ∷ b ∷ back) ≡ area2 (front ++ a ∷ b ∷ back)
area2_inserts front back a b m h = sum_over-inserts edge_area2 front back a b m (edge_area2_cut a b m h)
