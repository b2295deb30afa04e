-- Net numbers of directed edges over lists of rings (this product's own; OGC 06-103r4, 6.1.6, Curve: a line runs from
-- a start point to an end point).
use Rattle.std.specs.Prelude.{ℕ, ◌+◌, ℤ, pos, ◌+ℤ◌, ◌-ℤ◌, Bool, ◌&&◌, if◌then◌else◌, List, [], ◌∷◌}
use Rattle.std.specs.Prelude.{◌++◌}
use Rattle.geo_exact.specs.declared.corner.Corner.{Corner}
use Rattle.geo_exact.specs.Order.{is_same}
use Rattle.geo_exact.specs.Point.{Point}
use Rattle.geo_exact.specs.Rings.{Edge, edges}
use Rattle.geo_exact.specs.Winding.{winding}
use Rattle.geo_exact.specs.Area.{area2}

-- the edge runs from a to b
abbrev pub runs_from_to : Corner → Corner → Edge → Bool
runs_from_to a b edge = is_same edge.from a && is_same edge.to b

-- how many of the directed edges run from a to b
abbrev pub edge_count : List Edge → Corner → Corner → ℕ
edge_count [] a b = 0
edge_count (edge ∷ rest) a b = (if runs_from_to a b edge then 1 else 0) + edge_count rest a b

-- the directed edges of all the rings
abbrev pub all_edges : List (List Corner) → List Edge
all_edges [] = []
all_edges (ring ∷ rings) = edges ring ++ all_edges rings

-- the number of directed edges from a to b minus the number from b to a
abbrev pub net_of_edges : List Edge → Corner → Corner → ℤ
net_of_edges es a b = pos (edge_count es a b) -ℤ pos (edge_count es b a)

-- the same over all the rings
abbrev pub net_count : List (List Corner) → Corner → Corner → ℤ
net_count rings a b = net_of_edges (all_edges rings) a b

-- the sum of a number over the rings
abbrev pub sum_of_rings : (List Corner → ℤ) → List (List Corner) → ℤ
sum_of_rings number [] = pos 0
sum_of_rings number (ring ∷ rings) = number ring +ℤ sum_of_rings number rings

-- how often all the rings together go round p, and twice their area
abbrev pub winding_of_rings : Point → List (List Corner) → ℤ
winding_of_rings p rings = sum_of_rings (winding p) rings

abbrev pub area2_of_rings : List (List Corner) → ℤ
area2_of_rings rings = sum_of_rings area2 rings
