-- Pairs of triangles: what the code tests edge by edge and triangle by triangle. Public contracts do not speak of it.
use Rattle.std.specs.Prelude.{◌⊎◌, pos, ◌<ℤ◌, List, [], ◌∷◌}
use Rattle.geo_exact.specs.declared.corner.Corner.{Corner}
use Rattle.geo_exact.specs.Turn.{turn}
use Rattle.geo_exact.specs.Interiors.{InteriorsMeet}
use Rattle.ring_core.specs.declared.triangle.Tri.{Tri}
use Rattle.ring_core.specs.Sums.{triangle_ring}

-- some corner of the triangle a b c is left of the way from g to h; else that way
-- separates it from what is left of the way
abbrev pub SeesSome : (g h a b c : Corner) → Type 0
SeesSome g h a b c = (pos 0 <ℤ turn g h a) ⊎ (pos 0 <ℤ turn g h b) ⊎ (pos 0 <ℤ turn g h c)

-- each edge of the first triangle has some corner of the second on its left (the
-- interiors meet where this holds both ways)
abbrev pub NoEdgeSeparates : Tri → Tri → Type 0
NoEdgeSeparates first second =
    SeesSome first.a first.b second.a second.b second.c
    × SeesSome first.b first.c second.a second.b second.c
    × SeesSome first.c first.a second.a second.b second.c

-- the triangle's interior meets that of some triangle of the list
abbrev pub MeetsSome : Tri → List Tri → Type 0
MeetsSome t [] = ⊥
MeetsSome t (u ∷ us) = InteriorsMeet (triangle_ring t) (triangle_ring u) ⊎ MeetsSome t us

-- some triangle of the first list has an interior that meets that of some triangle of the second
abbrev pub SomePairMeets : List Tri → List Tri → Type 0
SomePairMeets [] us = ⊥
SomePairMeets (t ∷ ts) us = MeetsSome t us ⊎ SomePairMeets ts us
