-- The measure of a path, one corner after another.
use Rattle.std.proofs.Common.{◌≡◌, ℕ, ◌+◌, ◌<◌, ◌≤◌, List, length, drop, get_or, ℤ, pos, ◌+ℤ◌, ap}
use Rattle.std.proofs.lemmas.List.{drop_all}
use Rattle.geo_exact.specs.declared.corner.Corner.{Corner}
use Rattle.geo_exact.specs.Rings.{Edge, path, sum_over}
use Rattle.geo_exact.proofs.numbers.Dropped.{drop_item}

-- the edge to the corner at index i, and the path from there
pub path_sum-drop : (measure : Edge → ℤ) (from item to : Corner) (rest : List Corner) (i : ℕ) → i < length rest
    → item ≡ get_or rest i item
    → sum_over measure (path from (drop i rest) to) ≡ measure (record { from = from; to = item }) +ℤ sum_over measure
    (path item (drop (i + 1) rest) to)
path_sum-drop measure from item to rest i h e =
    ap (λ corners. sum_over measure (path from corners to)) (drop_item rest i item h e)

-- the closing edge alone
pub path_sum-end : (measure : Edge → ℤ) (from to : Corner) (rest : List Corner) (i : ℕ) → length rest ≤ i
    → sum_over measure (path from (drop i rest) to) ≡ measure (record { from = from; to = to }) +ℤ pos 0
path_sum-end measure from to rest i h = ap (λ corners. sum_over measure (path from corners to)) (drop_all i rest h)
