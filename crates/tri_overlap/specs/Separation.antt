-- Separating edges: two triangles are apart exactly where an edge of one of them separates it from the other (E.
-- Helly's theorem, 1923, for half planes).
use Rattle.std.specs.Prelude.{◌⊎◌, pos, ◌≤ℤ◌}
use Rattle.geo_exact.specs.declared.corner.Corner.{Corner}
use Rattle.geo_exact.specs.Turn.{turn}
use Rattle.ring_core.specs.declared.triangle.Tri.{Tri}

-- each corner of the triangle is right of the way from g to h, or on its line
abbrev pub IsBeyond : Corner → Corner → Tri → Type 0
IsBeyond g h t = (turn g h t.a ≤ℤ pos 0) × (turn g h t.b ≤ℤ pos 0) × (turn g h t.c ≤ℤ pos 0)

-- some edge of the first triangle has all corners of the second on its right or on its line: it separates the two
abbrev pub SomeEdgeSeparates : Tri → Tri → Type 0
SomeEdgeSeparates first second =
    IsBeyond first.a first.b second ⊎ IsBeyond first.b first.c second ⊎ IsBeyond first.c first.a second
