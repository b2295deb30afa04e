-- Corners in order across a direction and along it: where the code looks for corners on one line. Public contracts do
-- not speak of it.
use Rattle.std.specs.Prelude.{◌≡◌, ◌↔◌, Bool, IfSome, IsTrue, Option, ℕ, ◌<◌, ℤ, ◌-ℤ◌, ◌*ℤ◌, List, length}
use Rattle.std.specs.Prelude.{map, slice_index_or}
use Rattle.std.specs.List.{All, Contains}
use Rattle.geo_exact.specs.Segments.{IsStrictlyInside}
use Rattle.std.specs.declared.cmp.Ordering.{Ordering}
use Rattle.std.specs.Ordering.{int_cmp, ordering_then, is_lt}
use Rattle.std.specs.List.Sorted.{IsSorted}
use Rattle.geo_exact.specs.declared.corner.Corner.{Corner}
use Rattle.geo_exact.specs.own.Sorted.{corner_cmp}
use Rattle.edge_chains.specs.declared.lines.Ranked.{Ranked}

-- how far a corner lies across the direction, times the direction's length: corners on one line along it have one rank
abbrev pub rank_of : ℤ → ℤ → Corner → ℤ
rank_of across up c = across *ℤ c.y -ℤ up *ℤ c.x

-- the order by rank, then by corner
abbrev pub rank_cmp : Ranked → Ranked → Ordering
rank_cmp p q = ordering_then (int_cmp p.rank q.rank) (corner_cmp p.corner q.corner)

abbrev pub is_ranked_before : Ranked → Ranked → Bool
is_ranked_before p q = is_lt (rank_cmp p q)

-- one stands behind low and before high
abbrev pub IsBetweenRanks : Ranked → Ranked → Ranked → Type 0
IsBetweenRanks low high it = IsTrue (is_ranked_before low it) × IsTrue (is_ranked_before it high)

-- each corner has its rank, and they are in order
pub record AreRanked (across up : ℤ) (ranked : List Ranked) : Type 0 where
  pub ranks : All (λ it. it.rank ≡ rank_of across up it.corner) ranked
  pub in_order : IsSorted rank_cmp ranked

-- the found corners are those of the list that lie strictly inside the edge from low's corner to high's,
-- as far as they stand between low and high
pub record AreBetween (low high : Ranked) (ranked : List Ranked) (found : List Corner) : Type 0 where
  pub only : (c : Corner) → Contains found c → Contains (map (λ it. it.corner) ranked) c
      × IsStrictlyInside c low.corner high.corner
  pub all : (k : ℕ) (d : Ranked) → k < length ranked → IsBetweenRanks low high (slice_index_or ranked k d)
      → IsStrictlyInside (slice_index_or ranked k d).corner low.corner high.corner
      → Contains found (slice_index_or ranked k d).corner

-- a direction, and the corners that are in order across it
pub record Ranks : Type 0 where
  pub across : ℤ
  pub up : ℤ
  pub corners : List Corner

-- what is kept beside the corners has exactly them: the set and the tree, where
-- they are made, and each direction's list
pub record HaveAll (corners : List Corner) (points : Option (List Corner)) (directions : List Ranks)
    (tree : Option (List Corner)) : Type 0 where
  pub points_have : IfSome points (λ kept. (c : Corner) → Contains kept c ↔ Contains corners c)
  pub tree_has : IfSome tree (λ kept. (c : Corner) → Contains kept c ↔ Contains corners c)
  pub directions_have : All (λ ranks. (c : Corner) → Contains ranks.corners c ↔ Contains corners c) directions
