-- The rings of a layer under their records' numbers (Technical Description, July 1998, "Record Headers": records are
-- numbered from 1).
use Rattle.std.specs.Prelude.{ℕ, ◌+◌, ◌<◌, ◌≤◌, List, [], ◌∷◌, length, map}
use Rattle.geo_exact.specs.declared.corner.Corner.{Corner}
use Rattle.geo_exact.specs.declared.raw_ring.RawRing.{RawRing}

-- a record's number, from 1, and the corners of its ring
pub record NumberedRing : Type 0 where
  pub number : ℕ
  pub corners : List Corner

abbrev pub numbered : ℕ → List Corner → NumberedRing
numbered number corners = record { number = number; corners = corners }

-- the rings that a reader answers
abbrev pub rings_of : {A : Type 0} → List (RawRing A) → List NumberedRing
rings_of rings = map (λ ring. numbered ring.number ring.corners) rings

-- how many corners the rings have together
abbrev pub corner_count : List NumberedRing → ℕ
corner_count [] = 0
corner_count (ring ∷ rings) = length ring.corners + corner_count rings

-- the rings' numbers rise from ring to ring, each above the one and none above the last
abbrev pub NumbersRise : ℕ → ℕ → List NumberedRing → Type 0
NumbersRise above last [] = Unit {0}
NumbersRise above last (ring ∷ rings) =
    (above < ring.number) × (ring.number ≤ last) × NumbersRise ring.number last rings
