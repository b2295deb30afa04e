-- Corners in order, each once.
use Rattle.std.proofs.Common.{List, [], ◌∷◌}
use Rattle.std.specs.List.Sorted.{IsStrictlySortedBy}
use Rattle.std.proofs.lemmas.Map.Keys.{sorted_head, sorted_tail}
use Rattle.geo_exact.specs.declared.corner.Corner.{Corner}
use Rattle.geo_exact.specs.own.Sorted.{corner_cmp}
use Rattle.geo_exact.proofs.corners_and_turns.CornerOrder.{IsBefore, before_from_less}
use Rattle.edge_chains.proofs.edges.Along.{Chain, IsChain}

Chain-from_sorted : (p : Corner) (xs : List Corner) → IsStrictlySortedBy corner_cmp (p ∷ xs) → Chain IsBefore p xs
Chain-from_sorted p [] h = tt
Chain-from_sorted p (c ∷ rest) h = (
  before_from_less p c (sorted_head corner_cmp p (c ∷ rest) h).0,
  Chain-from_sorted c rest
      (sorted_tail corner_cmp p (c ∷ rest) h),
)

pub IsChain-from_sorted : (xs : List Corner) → IsStrictlySortedBy corner_cmp xs → IsChain IsBefore xs
IsChain-from_sorted [] h = tt
IsChain-from_sorted (c ∷ rest) h = Chain-from_sorted c rest h
