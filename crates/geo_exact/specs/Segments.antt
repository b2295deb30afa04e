-- Inside of an edge, and segments between rational points (OGC 06-103r4, 6.1.7, Line; 6.1.15.1: a line's interior is
-- what is left without its ends).
use Rattle.std.specs.Prelude.{◌≡◌, ◌≢◌, ℤ, pos, ◌+ℤ◌, ◌*ℤ◌, ◌<ℤ◌, ◌≤ℤ◌}
use Rattle.geo_exact.specs.declared.corner.Corner.{Corner}
use Rattle.geo_exact.specs.Point.{Point, IsPlaceOf, corner_point}
use Rattle.geo_exact.specs.Turn.{IsOnEdge}

-- c lies on the edge from a to b, and is neither of its ends
pub record IsStrictlyInside (c a b : Corner) : Type 0 where
  pub on_edge : IsOnEdge (corner_point c) a b
  pub not_start : c ≢ a
  pub not_end : c ≢ b

-- p lies on the edge from a to b, and at neither of its ends
pub record IsInsideEdge (p : Point) (a b : Corner) : Type 0 where
  pub on_edge : IsOnEdge p a b
  pub not_start : ¬ IsPlaceOf p a
  pub not_end : ¬ IsPlaceOf p b

-- m is halfway from p to q; both points have the denominator of m
pub record IsHalfway (m p q : Point) : Type 0 where
  pub same_d : (p.d ≡ m.d) × (q.d ≡ m.d)
  pub in_x : p.x +ℤ q.x ≡ pos 2 *ℤ m.x
  pub in_y : p.y +ℤ q.y ≡ pos 2 *ℤ m.y

-- q lies on the segment from p to r, its ends included: in homogeneous coordinates (x, y,
-- d), k times q is m times p and n times r
pub record IsOnSegment (q p r : Point) : Type 0 where
  pub k : ℤ
  pub m : ℤ
  pub n : ℤ
  pub k_positive : pos 0 <ℤ k
  pub m_not_negative : pos 0 ≤ℤ m
  pub n_not_negative : pos 0 ≤ℤ n
  pub in_x : k *ℤ q.x ≡ m *ℤ p.x +ℤ n *ℤ r.x
  pub in_y : k *ℤ q.y ≡ m *ℤ p.y +ℤ n *ℤ r.y
  pub in_d : k *ℤ q.d ≡ m *ℤ p.d +ℤ n *ℤ r.d
