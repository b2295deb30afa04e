-- Noding: rings with corners inserted where they lie strictly inside an edge (OGC 06-103r4, 6.1.15.1: a line's
-- interior is what is left without its ends).
use Rattle.std.specs.Prelude.{◌≡◌, ◌↔◌, List, [], ◌∷◌, ◌++◌, ⊤}
use Rattle.std.specs.List.{Contains}
use Rattle.geo_exact.specs.declared.corner.Corner.{Corner}
use Rattle.geo_exact.specs.Rings.{Edge, edges}
use Rattle.geo_exact.specs.Segments.{IsStrictlyInside}
use Rattle.edge_chains.specs.Net.{all_edges}

-- corners in order along the edge from a to b, each once: the first strictly inside it,
-- the others so inside what is left of it
abbrev pub AreAlong : Corner → List Corner → Corner → Type 0
AreAlong a [] b = ⊤
AreAlong a (c ∷ rest) b = IsStrictlyInside c a b × AreAlong c rest b

-- `inserted` are exactly those of the corners that lie strictly inside the edge, in order along it
pub record IsNodedEdge (corners : List Corner) (edge : Edge) (inserted : List Corner) : Type 0 where
  pub exactly : (c : Corner) → Contains inserted c ↔ (Contains corners c × IsStrictlyInside c edge.from edge.to)
  pub in_order : AreAlong edge.from inserted edge.to

-- each edge gives its start and the corners inserted into it
abbrev pub AreNodedEdges : List Corner → List Edge → List Corner → Type 0
AreNodedEdges corners [] out = out ≡ []
AreNodedEdges corners (edge ∷ rest) out =
    (inserted : List Corner) × (others : List Corner) × IsNodedEdge corners edge inserted
    × AreNodedEdges corners rest others
    × (out ≡ edge.from ∷ inserted ++ others)

-- `noded` is the ring with exactly those of the corners inserted that lie strictly inside an edge, in order along it
abbrev pub IsNoded : List Corner → List Corner → List Corner → Type 0
IsNoded ring corners noded = AreNodedEdges corners (edges ring) noded

-- the corners of all the rings
abbrev pub all_corners : List (List Corner) → List Corner
all_corners [] = []
all_corners (ring ∷ rings) = ring ++ all_corners rings

-- no corner of the rings lies strictly inside an edge of them
abbrev pub AreFullyNoded : List (List Corner) → Type 0
AreFullyNoded rings =
    (c : Corner) (edge : Edge) → Contains (all_corners rings) c → Contains (all_edges rings) edge
    → ¬ IsStrictlyInside c edge.from edge.to
