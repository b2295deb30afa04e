-- Rings as lists of corners, and their edges (OGC 06-103r4, 6.1.7, LinearRing; Technical Description, July 1998,
-- "Polygon"). Both write the first corner once more at the end, and here it is not repeated; a list need not be simple,
-- nor have three corners.
use Rattle.std.specs.Prelude.{◌≢◌, ℕ, ℤ, pos, ◌+ℤ◌, List, [], ◌∷◌, ◌++◌, reverse, take, drop}
use Rattle.std.specs.List.{AllByRecursion, position_or_len}
use Rattle.geo_exact.specs.declared.corner.Corner.{Corner}
use Rattle.geo_exact.specs.Order.{is_least}

-- the directed edge from one corner to another
pub record Edge : Type 0 where
  pub from : Corner
  pub to : Corner

-- the edges of the path from a corner through the next ones to a last one
abbrev pub path : Corner → List Corner → Corner → List Edge
path from [] to = record { from = from; to = to } ∷ []
path from (next ∷ rest) to = record { from = from; to = next } ∷ path next rest to

-- the edges of a ring: each corner to the next, and the last to the first
abbrev pub edges : List Corner → List Edge
edges [] = []
edges (first ∷ rest) = path first rest first

-- the sum of a measure over edges
abbrev pub sum_over : (Edge → ℤ) → List Edge → ℤ
sum_over measure [] = pos 0
sum_over measure (edge ∷ rest) = measure edge +ℤ sum_over measure rest

-- the same round list, begun at its item k, from 0: the items before it come last
abbrev pub begun_at : {X : Type 0} → ℕ → List X → List X
begun_at k items = drop k items ++ take k items

-- the same ring, begun at its least corner, by x and then by y: where it comes more than once, at its first place
abbrev pub begun_at_least : List Corner → List Corner
begun_at_least ring = begun_at (position_or_len (is_least ring) ring) ring

-- the ring turned round, with its first corner kept first
abbrev pub turned_round : List Corner → List Corner
turned_round [] = []
turned_round (first ∷ rest) = first ∷ reverse rest

-- no two neighbours of the ring are equal
abbrev pub HasNoRepeats : List Corner → Type 0
HasNoRepeats ring = AllByRecursion (λ edge. edge.from ≢ edge.to) (edges ring)
