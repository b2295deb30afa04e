-- A ring that turns left at its least corner, with a corner in the closed triangle there, has a flat corner or an ear off each edge,
-- where rings of fewer corners have them: it is one of the part that the edge is not in (G. H. Meisters, Polygons have ears, 1975).
use Rattle.std.proofs.Common.{◌≡◌, ◌≢◌, ⊎_elim, ℕ, zero, suc, ◌+◌, ◌<◌, ◌≤◌, ◌∙◌, sym, refl, arith}
use Rattle.std.proofs.Common.{List, length}
use Rattle.std.specs.List.{remove}
use Rattle.std.proofs.lemmas.Bool.{cases_lt}
use Rattle.std.proofs.lemmas.Bool.Decides.{nat_tests}
use lib.IntN.{pos}
use lib.Signed.{◌≤ℤ◌}
use Rattle.geo_exact.specs.declared.corner.Corner.{Corner}
use Rattle.geo_exact.specs.Point.{Point}
use Rattle.geo_exact.specs.Winding.{winding}
use Rattle.geo_exact.specs.Places.{after, before}
use Rattle.ring_core.specs.Simple.{MeetOnlyAsNeighbours}
use Rattle.ring_core.specs.Clipping.{Blocks}
use Rattle.ring_core.specs.Diagonals.{IsDiagonal}
use Rattle.ring_core.proofs.clipping.ClipSteps.{one_less}
use Rattle.ring_core.proofs.ears.DiagonalParts.{first_part, first_cut, first_left, first_not_round}
use Rattle.ring_core.proofs.ears.DiagonalParts.{second_part, second_cut, second_left, second_not_round}
use Rattle.ring_core.proofs.ears.Diagonals.{four_numbers, diagonal_of_blocked}
use Rattle.ring_core.proofs.ears.EarWords.{IsLeftAtLeast, IsFlatOrEar, HaveEarsOff}
use Rattle.ring_core.proofs.ears.LeftSimple.{clipped_simple}
use Rattle.ring_core.proofs.ears.NoNegativeWinding.{winds_forward}
use Rattle.ring_core.proofs.ears.PartEars.{is_of_ring}
use Rattle.ring_core.proofs.ears.PartsOfRings.{parts_simple, first_length, closes, second_number, second_length}
use Rattle.ring_core.proofs.ears.PartsOfRings.{number_of_later, after_zero}
use Rattle.ring_core.proofs.ears.LeastCorners.{stays_left}
use Rattle.ring_core.proofs.ears.WithoutCorner.{number_left}

-- ---- numbers
not_beside_first : (n z : ℕ) → z < n → 2 < n → z ≢ before n 0 → z ≢ 0 → z ≢ after n 0 → (1 < z) × (z + 1 < n)
not_beside_first n z h k a b c = (grind (arith, nat_tests), grind (arith, nat_tests))

not_after : (n z k i : ℕ) → k < z → k ≢ 0 → z ≤ i → k ≢ after n i
not_after n z k i h a b e = grind (arith, nat_tests)

not_after_low : (n z j i : ℕ) → z < j → i < z → j ≢ after n i
not_after_low n z j i h a e = grind (arith, nat_tests)

number_past : (z k : ℕ) → k ≢ 0 → k ≢ 1 → z < second_number z k
number_past z zero a b = absurd (a refl)
number_past z (suc zero) a b = absurd (b refl)
number_past z (suc (suc i)) a b = let e = number_of_later z (suc i) in omega arith

-- without a flat corner or an ear that is not its first corner, the least, a ring goes round nothing clockwise
without_ear : (n : ℕ) → ((m : ℕ) → 2 < m → m < n → HaveEarsOff m) → (part : List Corner) → length part ≤ n
    → MeetOnlyAsNeighbours part
    → IsLeftAtLeast part 0 → (k : ℕ) → k < length part → k ≢ 0 → IsFlatOrEar part k → 3 < length part
    → (q : Point) → pos 0 ≤ℤ winding q (remove part k)
without_ear n ears part few simple left k below off which big =
    let fewer = one_less part (remove part k) k below refl in
    (winds_forward (length (remove part k)) (omega arith) (λ m a b. ears m a (omega arith)) (remove part k) (number_left k 0) refl
    (clipped_simple part k big below simple which)
    (stays_left part 0 k big simple left below off which)).windings

module _ (n : ℕ) (ears : (m : ℕ) → 2 < m → m < n → HaveEarsOff m) (ring : List Corner) (z : ℕ) (l : length ring ≡ n)
    (late : 1 < z) (within : z + 1 < length ring) (simple : MeetOnlyAsNeighbours ring) (left : IsLeftAtLeast ring 0)
    (blocks : Blocks ring 0 z) (diagonal : IsDiagonal ring 0 z) where
  -- off an edge of the second part, one of the first
  of_first : (i : ℕ) → i < n → z ≤ i → (k : ℕ) × (k < n) × (k ≢ i) × (k ≢ after n i) × IsFlatOrEar ring k
  of_first i b past =
      let m = first_length ring z within simple diagonal in
      let part_simple = (parts_simple ring z late within simple diagonal).0 in
      let part_left = first_left ring z late within simple left blocks diagonal in
      let closing = closes (length (first_part ring z)) z m in
      let k = ears (length (first_part ring z)) (omega arith) (omega arith) (first_part ring z) 0 refl
      part_simple part_left z (omega arith) in
      let not_first : k.0 ≢ 0 = (λ e. k.3 (e ∙ sym closing)) in
      let short : k.0 < z = (let c = k.1 in let d = k.2 in omega arith) in (
        k.0,
        omega arith,
        λ e. omega arith,
        not_after n z k.0 i short not_first past,
        is_of_ring (first_part ring z) ring (λ j. j) z z (omega arith) simple
            (first_cut ring z late within simple left blocks diagonal) (omega arith) part_simple
            (first_not_round ring z late within simple left blocks diagonal) k.0 k.1 k.2 k.3 k.4
            (λ ear. without_ear n ears (first_part ring z) (omega arith) part_simple part_left k.0 k.1 not_first k.4),
      )

  -- off an edge of the first part, one of the second
  of_second : (i : ℕ) → i < n → i < z → (k : ℕ) × (k < n) × (k ≢ i) × (k ≢ after n i) × IsFlatOrEar ring k
  of_second i b short =
      let m = second_length ring z late within simple diagonal in
      let part_simple = (parts_simple ring z late within simple diagonal).1 in
      let part_left = second_left ring z late within simple left blocks diagonal in
      let cut = second_cut ring z late within simple left blocks diagonal in
      let opening = after_zero (length (second_part ring z)) (omega arith) in
      let k = ears (length (second_part ring z)) (omega arith) (omega arith) (second_part ring z) 0 refl
      part_simple part_left 0 (omega arith) in
      let past : z < second_number z k.0 = number_past z k.0 k.2 (λ e. k.3 (e ∙ sym opening)) in
      let inside : second_number z k.0 < length ring = cut.is_part.inside k.0 k.1 in (
        second_number z k.0,
        omega arith,
        λ e. omega arith,
        not_after_low n z (second_number z k.0) i past short,
        is_of_ring (second_part ring z) ring (second_number z) 0 z (omega arith) simple cut (omega arith) part_simple
            (second_not_round ring z late within simple left blocks diagonal) k.0 k.1 k.2 k.3 k.4
            (λ ear. without_ear n ears (second_part ring z) (omega arith) part_simple part_left k.0 k.1 k.2 k.4),
      )

-- corner 0 is the least, and corner j is in the closed triangle there
pub ears_of_parts : (n : ℕ) → ((m : ℕ) → 2 < m → m < n → HaveEarsOff m) → (ring : List Corner) (j : ℕ)
    → length ring ≡ n → j < length ring
    → MeetOnlyAsNeighbours ring → IsLeftAtLeast ring 0 → Blocks ring 0 j
    → (i : ℕ) → i < n → (k : ℕ) × (k < n) × (k ≢ i) × (k ≢ after n i) × IsFlatOrEar ring k
ears_of_parts n ears ring j l below simple left blocking i b =
    let z = diagonal_of_blocked ring 0 j left.below below simple left.turns_left blocking in
    let blocks = z.2 in
    let big = four_numbers (length ring) 0 z.0 z.1 left.below blocks.not_before blocks.not_same blocks.not_after in
    let far = not_beside_first (length ring) z.0 z.1 (omega arith) blocks.not_before blocks.not_same blocks.not_after in
    ⊎_elim
    (λ short. of_second n ears ring z.0 l far.0 far.1 simple left blocks z.3 i b short)
    (λ past. of_first n ears ring z.0 l far.0 far.1 simple left blocks z.3 i b past)
    (cases_lt i z.0)
