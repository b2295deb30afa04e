-- What a turn and an edge say at the place of a corner.
use Rattle.std.proofs.Common.{◌≡◌, ◌∙◌}
use Rattle.std.specs.Int.{int_min, int_max}
use lib.IntN.{pos}
use lib.Signed.{◌≤ℤ◌}
use Rattle.geo_exact.specs.declared.corner.Corner.{Corner}
use Rattle.geo_exact.specs.Point.{corner_point}
use Rattle.geo_exact.specs.Turn.{turn, IsOnEdge}
use Rattle.geo_exact.proofs.numbers.Differences.{times_one}
use Rattle.geo_exact.proofs.corners_and_turns.TurnLaws.{turn_at_corner}

-- a corner is on an edge exactly where it is on its line and in its box
pub on_edge_from_box : (a b p : Corner) → turn a b p ≡ pos 0
    → (int_min a.x b.x ≤ℤ p.x) × (p.x ≤ℤ int_max a.x b.x) → (int_min a.y b.y ≤ℤ p.y) × (p.y ≤ℤ int_max a.y b.y)
    → IsOnEdge (corner_point p) a b
on_edge_from_box a b p h x y = record {
  on_line = turn_at_corner a b p ∙ h;
  from_x = rw times_one x.0;
  to_x = rw times_one x.1;
  from_y = rw times_one y.0;
  to_y = rw times_one y.1;
}

pub box_from_on_edge : (a b p : Corner) → IsOnEdge (corner_point p) a b
    → ((int_min a.x b.x ≤ℤ p.x) × (p.x ≤ℤ int_max a.x b.x)) × ((int_min a.y b.y ≤ℤ p.y) × (p.y ≤ℤ int_max a.y b.y))
box_from_on_edge a b p h =
    ((rw times_one at h.from_x, rw times_one at h.to_x), (rw times_one at h.from_y, rw times_one at h.to_y))
