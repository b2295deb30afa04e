-- All edges whose numbers are not 0, in order (this product's own).
use Rattle.std.specs.Prelude.{◌≡◌, ◌≢◌, ◌↔◌, ℤ, pos, IsTrue, List, [], ◌∷◌, ⊤}
use Rattle.std.specs.List.{AllByRecursion, Contains}
use Rattle.geo_exact.specs.declared.corner.Corner.{Corner}
use Rattle.geo_exact.specs.Order.{is_before}
use Rattle.edge_chains.specs.Counts.{Counts, net_at, is_edge_before}

-- each edge comes before those behind it, by its first corner and then by its second
abbrev pub AreInEdgeOrder : List (Corner × Corner × ℤ) → Type 0
AreInEdgeOrder [] = ⊤
AreInEdgeOrder (edge ∷ rest) = AllByRecursion (λ later. IsTrue (is_edge_before (edge.0, edge.1) (later.0, later.1)))
    rest × AreInEdgeOrder rest

-- the list has exactly the edges a, b with a before b whose number is not 0, with that number, in order and each once
pub record AreUnbalanced (sum : Counts) (edges : List (Corner × Corner × ℤ)) : Type 0 where
  pub ascend : AreInEdgeOrder edges
  pub exactly : (a b : Corner) (n : ℤ) → Contains edges (a, b, n)
      ↔ (IsTrue (is_before a b) × (net_at sum.counts a b ≡ n) × (n ≢ pos 0))
