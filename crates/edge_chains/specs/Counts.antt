-- What an `EdgeSum` shows: undirected edges with their net numbers (this product's own).
use Rattle.std.specs.Prelude.{◌≡◌, ◌≢◌, ℕ, ℤ, pos, ◌-ℤ◌, neg_ℤ, Bool, ◌&&◌, ◌||◌, if◌then◌else◌}
use Rattle.std.specs.Prelude.{IsTrue, IsSome, Some, List}
use Rattle.std.specs.Option.{unwrap_or}
use Rattle.std.specs.Map.{lookup}
use Rattle.geo_exact.specs.Limit.{IsWithin}
use Rattle.geo_exact.specs.declared.corner.Corner.{Corner}
use Rattle.edge_chains.specs.Net.{net_count}
use Rattle.geo_exact.specs.Order.{is_same, is_before}

-- the order of undirected edges: by the first corner, then by the second
abbrev pub is_edge_before : Corner × Corner → Corner × Corner → Bool
is_edge_before p q = is_before p.0 q.0 || (is_same p.0 q.0 && is_before p.1 q.1)

-- the two are one edge
abbrev pub is_same_edge : Corner × Corner → Corner × Corner → Bool
is_same_edge p q = is_same p.0 q.0 && is_same p.1 q.1

-- the edges a, b with a before b whose number is not 0, with that number; and how
-- many edges were added and taken so far
pub record Counts : Type 0 where
  pub counts : List ((Corner × Corner) × ℤ)
  pub edges : ℕ

-- the number of an edge a, b with a before b: 0 where it has none
abbrev pub number_at : List ((Corner × Corner) × ℤ) → Corner → Corner → ℤ
number_at counts a b = unwrap_or (lookup (is_same_edge (a, b)) counts) (pos 0)

-- the number of directed edges from a to b minus the number from b to a
abbrev pub net_at : List ((Corner × Corner) × ℤ) → Corner → Corner → ℤ
net_at counts a b =
    if is_before a b
    then number_at counts a b
    else (if is_before b a then neg_ℤ (number_at counts b a) else pos 0)

-- the counts as an `EdgeSum` keeps them, a map without repeated edges: each edge has its lesser corner first, and a
-- number other than 0 of size n at most
pub record AreCounts (counts : List ((Corner × Corner) × ℤ)) (n : ℕ) : Type 0 where
  pub in_order : (edge : Corner × Corner) → IsSome (lookup (is_same_edge edge) counts)
      → IsTrue (is_before edge.0 edge.1)
  pub no_zero : (edge : Corner × Corner) → lookup (is_same_edge edge) counts ≢ Some (pos 0)
  pub small : (edge : Corner × Corner) → IsWithin n (number_at counts edge.0 edge.1)

-- the counts are those of the added rings less those of the taken ones
abbrev pub AreNetOf : Counts → List (List Corner) → List (List Corner) → Type 0
AreNetOf sum added taken = (a b : Corner) → net_at sum.counts a b ≡ net_count added a b -ℤ net_count taken a b

-- (a, b) is the least edge with a number other than 0, by a and then by b, and n is its number
pub record IsFirstUnbalanced (sum : Counts) (a b : Corner) (n : ℤ) : Type 0 where
  pub in_order : IsTrue (is_before a b)
  pub number : net_at sum.counts a b ≡ n
  pub is_unbalanced : n ≢ pos 0
  pub is_least : (c d : Corner) → IsTrue (is_before c d) → net_at sum.counts c d ≢ pos 0
      → ¬ IsTrue (is_edge_before (c, d) (a, b))
