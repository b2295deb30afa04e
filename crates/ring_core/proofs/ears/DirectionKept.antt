-- A ring that turns left at its least corner does so without it too, where that corner is an ear.
use Rattle.std.proofs.Common.{◌≡◌, ◌≢◌, inl, inr, ⊎_elim, ℕ, ◌-◌, ◌<◌, ◌∙◌, sym, ap, subst, refl, arith}
use Rattle.std.proofs.Common.{List, length}
use Rattle.std.specs.List.{remove}
use Rattle.std.proofs.lemmas.Bool.{cases_lt}
use lib.IntN.{pos, neg_ℤ}
use lib.Signed.{◌<ℤ◌}
use Rattle.geo_exact.specs.declared.corner.Corner.{Corner}
use Rattle.geo_exact.specs.Rings.{turned_round}
use Rattle.geo_exact.specs.Turn.{turn}
use Rattle.geo_exact.specs.Places.{corner_at, after, before}
use Rattle.geo_exact.proofs.numbers.Orders.{positive_not_zero}
use Rattle.geo_exact.proofs.corners_and_turns.TurnLaws.{corner_on_line}
use Rattle.ring_core.specs.Simple.{MeetOnlyAsNeighbours}
use Rattle.ring_core.specs.Clipping.{previous, next, IsEar}
use Rattle.ring_core.specs.own.Kinds.{number_before}
use Rattle.ring_core.proofs.edges.RoundNumbers.{before_in, after_in}
use Rattle.ring_core.proofs.ears.LeftSimple.{same_or, after_before, before_of_after, clipped_simple}
use Rattle.ring_core.proofs.ears.EarWords.{IsLeftAtLeast, IsFlatOrEar, HaveEarsOff, KeepTheirDirection}
use Rattle.ring_core.proofs.ears.Renumbered.{IsLeast, same_back, same_number, is_least_there}
use Rattle.ring_core.proofs.ears.WithoutCorner.{number_left, one_fewer, remove_twice}
use Rattle.ring_core.proofs.ears.TurnedRound.{IsTurnedRound, turned_back, turns_back, simple_here, left_turned, to_left, back_left}
use Rattle.ring_core.proofs.ears.TurnedRound.{turned_clipped_simple, is_turned_round, number_round, round_in, round_round}
use Rattle.ring_core.proofs.ears.LeastCorners.{AreApart, are_apart, apart_without, has_least, left_or_right, least_of_left, least_left}
use Rattle.ring_core.proofs.ears.LeastCorners.{not_both_left, right_turned, stays_left}
use Rattle.ring_core.proofs.ears.PutBack.{IsFarEar, far_ear, left_left, ear_left}
use Rattle.ring_core.proofs.ears.EarOffEdge.{ear_off_gap}
use Rattle.ring_core.proofs.ears.FourCorners.{turn_ends, not_right_of_four}

-- ---- where any corner is clipped
at_least : (ring : List Corner) (v : ℕ) → KeepTheirDirection (length ring) → MeetOnlyAsNeighbours ring → IsLeftAtLeast ring v
    → IsFlatOrEar ring v → (u : ℕ) × IsLeftAtLeast (remove ring v) u
at_least ring v keep simple l (inl flat) =
    absurd (positive_not_zero (turn (previous ring v) (corner_at ring v) (next ring v)) l.turns_left
    (turn_ends (previous ring v) (next ring v) (corner_at ring v)
    ∙ ap neg_ℤ (corner_on_line (previous ring v) (next ring v) (corner_at ring v) flat)))
at_least ring v keep simple l (inr ear) = keep ring v refl simple l ear

pub clipped_left : (ring : List Corner) (v k : ℕ) → 3 < length ring → KeepTheirDirection (length ring) → MeetOnlyAsNeighbours ring
    → IsLeftAtLeast ring v → k < length ring → IsFlatOrEar ring k → (u : ℕ) × IsLeftAtLeast (remove ring k) u
clipped_left ring v k big keep simple l b x =
    ⊎_elim
    (λ e. subst (λ z. (u : ℕ) × IsLeftAtLeast (remove ring z) u) (sym e)
    (at_least ring v keep simple l (subst (IsFlatOrEar ring) e x)))
    (λ off. (number_left k v, stays_left ring v k big simple l b off x))
    (same_or k v)

-- ---- a ring of more than four corners, and the same turned round, `other`: w is the least corner's number there
module _ (other ring : List Corner) (to back : ℕ → ℕ) (h : IsTurnedRound other ring to back) (w : ℕ) (below : w < length ring)
    (big : 4 < length ring) (simple : MeetOnlyAsNeighbours ring) (l : IsLeftAtLeast ring (to w)) (ear : IsEar ring (to w))
    (ears : HaveEarsOff (length ring - 1)) (keep : KeepTheirDirection (length ring - 1))
    (r : ℕ) (turned : IsLeftAtLeast (remove other w) r) where
  other_below : w < length other
  other_below = subst (λ n. w < n) (sym h.same.as_many) below

  other_least : IsLeast other w
  other_least =
      subst (IsLeast other) (h.same.and_back w below)
      (is_least_there ring other back to (same_back other ring to back h.same) (to w) (least_of_left ring (to w) l))

  -- without the least corner the two are turned round still
  still_turned : IsTurnedRound (remove other w) (remove ring (to w)) (to_left other ring to back h w below (omega arith))
      (back_left other ring to back h w below (omega arith))
  still_turned = left_turned other ring to back h w below (omega arith)

  rest_simple : MeetOnlyAsNeighbours (remove other w)
  rest_simple =
      simple_here (remove other w) (remove ring (to w)) (to_left other ring to back h w below (omega arith))
      (back_left other ring to back h w below (omega arith)) still_turned
      (clipped_simple ring (to w) (omega arith) l.below simple (inr ear))

  rest_length : length (remove other w) ≡ length ring - 1
  rest_length = omega (arith, one_fewer other w other_below, h.same.as_many)

  some_ear : (k : ℕ) × (k < length (remove other w)) × (k ≢ number_left w (before (length other) w))
      × (k ≢ after (length (remove other w)) (number_left w (before (length other) w))) × IsFlatOrEar (remove other w) k
  some_ear = ear_off_gap (length ring - 1) ears other w r other_below (omega (arith, h.same.as_many)) rest_length rest_simple turned

  -- corner k of the rest may be clipped, and is no neighbour of the least corner
  module _ (k : ℕ) (b : k < length (remove other w)) (x : IsFlatOrEar (remove other w) k)
      (far : IsFarEar other w (number_before w k)) where
    -- its number in the ring
    abbrev there : ℕ
    there = to (number_before w k)

    was_below : number_before w k < length ring
    was_below = subst (λ n. number_before w k < n) h.same.as_many far.below

    there_below : there < length ring
    there_below = h.same.inside (number_before w k) was_below

    not_least : there ≢ to w
    not_least e = far.not_same (same_number other ring to back h.same (number_before w k) w was_below below e)

    not_following : to w ≢ before (length ring) there
    not_following e =
        far.not_before (
        same_number other ring to back h.same (number_before w k) (before (length ring) w) was_below (before_in (length ring) w below)
        (sym (after_before (length ring) there there_below) ∙ ap (after (length ring)) (sym e)
        ∙ sym (turns_back other ring to back h w below))
        ∙ ap (λ n. before n w) (sym h.same.as_many))

    not_preceding : to w ≢ after (length ring) there
    not_preceding e =
        far.not_after (
        same_number other ring to back h.same (number_before w k) (after (length ring) w) was_below (after_in (length ring) w below)
        (before_of_after (length ring) (to w) there there_below e ∙ sym (h.turns w below))
        ∙ ap (λ n. after n w) (sym h.same.as_many))

    -- the ring without it turns left at its least corner, an ear still
    left_there : IsLeftAtLeast (remove ring there) (number_left there (to w))
    left_there =
        let m : IsLeast (remove ring there) (number_left there (to w)) =
        least_left ring (to w) there (least_of_left ring (to w) l) there_below not_least in
        record {
          below = m.below;
          least = m.least;
          turns_left = left_left ring there (to w) there_below l.below (λ e. not_least (sym e)) not_following not_preceding l.turns_left;
        }

    -- so it keeps its direction where both are taken out
    both_out : (u : ℕ) × IsLeftAtLeast (remove (remove ring (to w)) (number_left (to w) there)) u
    both_out =
        subst (λ rest. (u : ℕ) × IsLeftAtLeast rest u)
        (remove_twice ring there (to w) there_below l.below not_least)
        (keep (remove ring there) (number_left there (to w)) (omega (arith, one_fewer ring there there_below))
        (turned_clipped_simple other ring to back h (number_before w k) (omega arith) was_below simple far.flat_or_ear)
        left_there
        (ear_left ring there (to w) there_below l.below (λ e. not_least (sym e)) not_following not_preceding ear))

    -- but turned round it keeps its direction too
    turned_out : (u : ℕ) × IsLeftAtLeast (remove (remove other w) k) u
    turned_out =
        clipped_left (remove other w) r k (omega (arith, rest_length)) (subst KeepTheirDirection (sym rest_length) keep) rest_simple turned
        b x

    not_both_turned : ⊥
    not_both_turned =
        let c : k < length (remove ring (to w)) = subst (λ n. k < n) still_turned.same.as_many b in
        let many : 2 < length (remove ring (to w)) = omega (arith, one_fewer ring (to w) l.below) in
        not_both_left (remove (remove other w) k) (remove (remove ring (to w)) (number_left (to w) there))
        (to_left (remove other w) (remove ring (to w)) (to_left other ring to back h w below (omega arith))
        (back_left other ring to back h w below (omega arith)) still_turned k c many)
        (back_left (remove other w) (remove ring (to w)) (to_left other ring to back h w below (omega arith))
        (back_left other ring to back h w below (omega arith)) still_turned k c many)
        (left_turned (remove other w) (remove ring (to w)) (to_left other ring to back h w below (omega arith))
        (back_left other ring to back h w below (omega arith)) still_turned k c many)
        turned_out.0 both_out.0 turned_out.1 both_out.1

  pub not_turned : ⊥
  not_turned =
      not_both_turned some_ear.0 some_ear.1 some_ear.4
      (far_ear other w some_ear.0 (omega (arith, h.same.as_many)) other_least some_ear.1 some_ear.2 some_ear.3 some_ear.4)

-- ---- so it does not turn right at its least corner without the one that was
module _ (ring : List Corner) (v : ℕ) (big : 3 < length ring) (simple : MeetOnlyAsNeighbours ring) (ears : HaveEarsOff (length ring - 1))
    (keep : 4 < length ring → KeepTheirDirection (length ring - 1)) where
  -- by the number in the ring turned round
  at_turned : 4 < length ring → (w : ℕ) → w < length ring → IsLeftAtLeast ring (number_round (length ring) w)
      → IsEar ring (number_round (length ring) w) → (u : ℕ) → IsLeast (remove ring (number_round (length ring) w)) u
      → turn (previous (remove ring (number_round (length ring) w)) u) (corner_at (remove ring (number_round (length ring) w)) u)
      (next (remove ring (number_round (length ring) w)) u) <ℤ pos 0 → ⊥
  at_turned more w below l ear u least right =
      let to : ℕ → ℕ = number_round (length ring) in
      let h : IsTurnedRound (turned_round ring) ring to to = is_turned_round ring in
      let many : 2 < length ring = omega arith in
      let back : IsTurnedRound (remove ring (to w)) (remove (turned_round ring) w) (back_left (turned_round ring) ring to to h w below many)
      (to_left (turned_round ring) ring to to h w below many) =
      turned_back (remove (turned_round ring) w) (remove ring (to w)) (to_left (turned_round ring) ring to to h w below many)
      (back_left (turned_round ring) ring to to h w below many) (left_turned (turned_round ring) ring to to h w below many) in
      not_turned (turned_round ring) ring to to h w below more simple l ear ears (keep more)
      (back_left (turned_round ring) ring to to h w below many u)
      (right_turned (remove ring (to w)) (remove (turned_round ring) w) (back_left (turned_round ring) ring to to h w below many)
      (to_left (turned_round ring) ring to to h w below many) back u least right)

  never_right : IsLeftAtLeast ring v → IsEar ring v → (u : ℕ) → IsLeast (remove ring v) u
      → turn (previous (remove ring v) u) (corner_at (remove ring v) u) (next (remove ring v) u) <ℤ pos 0 → ⊥
  never_right l =
      ⊎_elim
      (λ more. subst (λ z. IsLeftAtLeast ring z → IsEar ring z → (u : ℕ) → IsLeast (remove ring z) u
      → turn (previous (remove ring z) u) (corner_at (remove ring z) u) (next (remove ring z) u) <ℤ pos 0 → ⊥)
      (round_round (length ring) v l.below)
      (at_turned more (number_round (length ring) v) (round_in (length ring) v l.below)) l)
      (λ no_more. λ ear u least right. not_right_of_four ring v (omega arith) simple l ear u least.below right)
      (cases_lt 4 (length ring))

  kept : IsLeftAtLeast ring v → IsEar ring v → (u : ℕ) × IsLeftAtLeast (remove ring v) u
  kept l ear =
      let apart : AreApart (remove ring v) = apart_without ring v l.below (are_apart ring big simple) in
      let many : 2 < length (remove ring v) = omega (arith, one_fewer ring v l.below) in
      let u : (u : ℕ) × IsLeast (remove ring v) u = has_least (remove ring v) apart (omega arith) in
      ⊎_elim
      (λ left. (u.0, left))
      (λ right. absurd (never_right l ear u.0 u.1 right))
      (left_or_right (remove ring v) u.0 many (clipped_simple ring v big l.below simple (inr ear)) apart u.1)

pub direction_kept : (n : ℕ) → 3 < n → HaveEarsOff (n - 1) → (4 < n → KeepTheirDirection (n - 1)) → KeepTheirDirection n
direction_kept n big ears keep ring v e simple l ear =
    kept ring v (omega arith) simple (subst (λ m. HaveEarsOff (m - 1)) (sym e) ears)
    (subst (λ m. 4 < m → KeepTheirDirection (m - 1)) (sym e) keep) l ear
