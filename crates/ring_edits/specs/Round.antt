-- Going round a ring (OGC 06-103r4, 6.1.7, LinearRing: closed, so that where its list
-- of corners begins says nothing of it).
use Rattle.std.specs.Prelude.{◌≡◌, ◌≢◌, ℕ, ◌<◌, ◌≤◌, List, ◌∷◌, ◌++◌, length}
use Rattle.geo_exact.specs.declared.corner.Corner.{Corner}
use Rattle.geo_exact.specs.Rings.{begun_at}
use Rattle.geo_exact.specs.Places.{corner_at, after}

-- round the ring come u, then the corners `onward`, then v, then the corners `back`, and then u again:
-- the ring's run from u on to v is u, `onward`, v; its run from v on to u is v, `back`, u
pub record GoesRound (ring : List Corner) (u : Corner) (onward : List Corner) (v : Corner)
    (back : List Corner) : Type 0 where
  pub start : ℕ
  pub within : start < length ring
  pub round : begun_at start ring ≡ u ∷ onward ++ v ∷ back

-- edge k of the ring, which goes from corner k to the next, goes from u to v
pub record HasEdgeAt (ring : List Corner) (u v : Corner) (k : ℕ) : Type 0 where
  pub in_ring : k < length ring
  pub from : corner_at ring k ≡ u
  pub to : corner_at ring (after (length ring) k) ≡ v

-- the ring has an edge from u to v, in this direction
abbrev pub HasEdge : List Corner → Corner → Corner → Type 0
HasEdge ring u v = (k : ℕ) × HasEdgeAt ring u v k

-- the ring has at least three corners, and no two of them are one place
pub record HasApartCorners (ring : List Corner) : Type 0 where
  pub three : 3 ≤ length ring
  pub apart : (i j : ℕ) → i < length ring → j < length ring → i ≢ j → corner_at ring i ≢ corner_at ring j
