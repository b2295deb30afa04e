-- Two edges by their ends: what the code tests of a pair before it is said of edges by
-- number. Public contracts do not speak of it.
use Rattle.std.specs.Prelude.{◌≡◌}
use Rattle.std.specs.Int.{int_min, int_max}
use Rattle.geo_exact.specs.declared.bounds.Bounds.{Bounds}
use Rattle.geo_exact.specs.declared.corner.Corner.{Corner}
use Rattle.geo_exact.specs.Point.{Point, IsPlaceOf}
use Rattle.geo_exact.specs.Turn.{IsOnEdge}

-- some point lies on the edge from a to b and on the edge from c to d
abbrev pub HaveCommonPoint : Corner → Corner → Corner → Corner → Type 0
HaveCommonPoint a b c d = (p : Point) × IsOnEdge p a b × IsOnEdge p c d

-- some point other than b lies on the edge from a to b and on the edge from b to c
abbrev pub DoublesBack : Corner → Corner → Corner → Type 0
DoublesBack a b c = (p : Point) × IsOnEdge p a b × IsOnEdge p b c × (¬ IsPlaceOf p b)

-- the box is the least that holds the edge from a to b
pub record IsEdgeBox (box : Bounds) (a b : Corner) : Type 0 where
  pub west : box.low.x ≡ int_min a.x b.x
  pub east : box.high.x ≡ int_max a.x b.x
  pub south : box.low.y ≡ int_min a.y b.y
  pub north : box.high.y ≡ int_max a.y b.y
