-- The least box of corners, one after another.
use Rattle.std.proofs.Common.{◌≡◌, ℕ, ◌+◌, ◌<◌, arith, List, length, take, get_or}
use Rattle.std.specs.List.{All}
use Rattle.std.specs.Int.{int_min, int_max}
use Rattle.std.proofs.lemmas.Int.{ints, clamps}
use Rattle.std.proofs.lemmas.List.Elements.{All-more}
use lib.IntN.{ℤ}
use lib.Signed.{◌≤ℤ◌}
use Rattle.geo_exact.specs.declared.bounds.Bounds.{Bounds}
use Rattle.geo_exact.specs.declared.corner.Corner.{Corner}
use Rattle.geo_exact.specs.Bounds.{HoldsCorner, IsWider}
use Rattle.geo_exact.proofs.boxes.InBoxes.{holds_own, holds_wider}

-- a box that is wider than that of the first corners and that of the next holds these all
pub holds_more : (corners : List Corner) (i : ℕ) (c : Corner) (old own new : Bounds) → i < length corners → c ≡ get_or corners i c
    → IsWider old new → IsWider own new → own.low ≡ c → own.high ≡ c
    → All (HoldsCorner old) (take i corners) → All (HoldsCorner new) (take (i + 1) corners)
holds_more corners i c old own new b read first second low high all =
    All-more (HoldsCorner new) corners i c b
    (λ k d h. holds_wider old new first (get_or (take i corners) k d) (all k d h))
    (rw (← read) (holds_wider own new second c (holds_own own c low high)))

-- the box of one corner is the least that holds it
pub least_of_one : (own other : Bounds) (c : Corner) → own.low ≡ c → own.high ≡ c → HoldsCorner other c → IsWider own other
least_of_one own other c low high h = rw (low, high) ((h.west, h.east), (h.south, h.north))

at_most_both : (l m u v : ℤ) → m ≡ int_min u v → l ≤ℤ u → l ≤ℤ v → l ≤ℤ m
at_most_both l m u v e h k = omega (arith, ints, clamps, e)

at_least_both : (l m u v : ℤ) → m ≡ int_max u v → u ≤ℤ l → v ≤ℤ l → m ≤ℤ l
at_least_both l m u v e h k = omega (arith, ints, clamps, e)

-- a box that is wider than two boxes is wider than the least that is
pub least_of_two : (old own new other : Bounds)
    → new.low.x ≡ int_min old.low.x own.low.x → new.low.y ≡ int_min old.low.y own.low.y
    → new.high.x ≡ int_max old.high.x own.high.x → new.high.y ≡ int_max old.high.y own.high.y
    → IsWider old other → IsWider own other → IsWider new other
least_of_two old own new other west south east north h k = (
  (at_most_both _ _ _ _ west h.0.0 k.0.0, at_least_both _ _ _ _ east h.0.1 k.0.1),
  (at_most_both _ _ _ _ south h.1.0 k.1.0, at_least_both _ _ _ _ north h.1.1 k.1.1),
)
