-- Boxes with sides along the axes: what the code tests before it looks at edges (OGC 06-103r4, 6.1.2.2, Envelope, is
-- the least such box; here any box that holds what it is of). Public contracts do not speak of it.
use Rattle.std.specs.Prelude.{◌⊎◌, pos, ◌≤ℤ◌, List, [], ◌∷◌}
use Rattle.geo_exact.specs.declared.corner.Corner.{Corner}
use Rattle.geo_exact.specs.Point.{Point}
use Rattle.geo_exact.specs.Turn.{turn_at}
use Rattle.geo_exact.specs.Winding.{IsInterior}
use Rattle.ring_core.specs.declared.triangle.Tri.{Tri}
use Rattle.ring_core.specs.Sums.{triangle_ring}
use Rattle.geo_exact.specs.declared.bounds.Bounds.{Bounds}
use Rattle.geo_exact.specs.Bounds.{IsInsideBox}

-- nothing inside the box is left of the way from g to h
abbrev pub IsRightOf : Bounds → Corner → Corner → Type 0
IsRightOf box g h = (p : Point) → IsInsideBox p box → turn_at g h p ≤ℤ pos 0

-- nothing inside the box is left of some edge of the triangle
abbrev pub IsRightOfSome : Bounds → Tri → Type 0
IsRightOfSome box t = IsRightOf box t.a t.b ⊎ IsRightOf box t.b t.c ⊎ IsRightOf box t.c t.a

-- p is interior to some triangle of the list
abbrev pub InSome : Point → List Tri → Type 0
InSome p [] = ⊥
InSome p (t ∷ ts) = IsInterior p (triangle_ring t) ⊎ InSome p ts

-- the box has each point that is interior to both triangles
abbrev pub HoldsMeeting : Bounds → Tri → Tri → Type 0
HoldsMeeting box t u = (p : Point) → IsInterior p (triangle_ring t) → IsInterior p (triangle_ring u) → IsInsideBox p box

-- the box has each point that is interior to the triangle and to one of the list
abbrev pub HoldsMeetings : Bounds → Tri → List Tri → Type 0
HoldsMeetings box t us = (p : Point) → IsInterior p (triangle_ring t) → InSome p us → IsInsideBox p box

-- the box has each point that is interior to a triangle of the one list and to one of the other
abbrev pub HoldsCommon : Bounds → List Tri → List Tri → Type 0
HoldsCommon box ts us = (p : Point) → InSome p ts → InSome p us → IsInsideBox p box
