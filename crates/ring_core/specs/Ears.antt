-- Ears that do not overlap (G. H. Meisters, Polygons have ears, 1975): those of two corners that are no neighbours.
use Rattle.std.specs.Prelude.{◌≢◌, ℕ, ◌<◌}
use Rattle.geo_exact.specs.Places.{after}

-- j and k are two corners of a ring of n, and neither follows the other round it
pub record AreNoNeighbours (n j k : ℕ) : Type 0 where
  pub first_below : j < n
  pub second_below : k < n
  pub not_same : j ≢ k
  pub not_after_first : k ≢ after n j
  pub not_after_second : j ≢ after n k
