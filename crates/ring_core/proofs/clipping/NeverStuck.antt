-- The clipping of a simple ring does not stop before two corners are left.
use Rattle.std.proofs.Common.{◌≡◌, inl, inr, ⊎_elim, ℕ, zero, suc, ◌<◌, ◌∙◌, sym, ap, subst, refl, arith, List, []}
use Rattle.std.proofs.Common.{◌∷◌, length}
use Rattle.std.specs.List.{remove}
use Rattle.std.proofs.lemmas.Bool.{cases_lt}
use lib.IntN.{pos}
use lib.Signed.{◌<ℤ◌}
use Rattle.geo_exact.specs.declared.corner.Corner.{Corner}
use Rattle.geo_exact.specs.Turn.{turn}
use Rattle.geo_exact.specs.Area.{area2}
use Rattle.geo_exact.specs.Rings.{turned_round}
use Rattle.geo_exact.specs.Places.{corner_at}
use Rattle.geo_exact.specs.First.{HasNone}
use Rattle.geo_exact.proofs.numbers.Orders.{positive_not_zero}
use Rattle.geo_exact.proofs.corners_and_turns.OnEdge.{starts_on, ends_on}
use Rattle.geo_exact.proofs.corners_and_turns.TurnLaws.{turn_cycle}
use Rattle.geo_exact.proofs.rings.Windings.{area2_turned_round}
use Rattle.ring_core.specs.declared.triangle.Tri.{Tri}
use Rattle.ring_core.specs.Simple.{MeetOnlyAsNeighbours, IsSimpleRing}
use Rattle.ring_core.specs.Clipping.{previous, next, IsFlat, IsEar, Clips, untouched, flat, ear}
use Rattle.ring_core.proofs.ears.LeftSimple.{clipped_simple}
use Rattle.ring_core.proofs.ears.EarWords.{IsLeftAtLeast, IsFlatOrEar}
use Rattle.ring_core.proofs.ears.Renumbered.{IsLeast}
use Rattle.ring_core.proofs.ears.WithoutCorner.{one_fewer}
use Rattle.ring_core.proofs.ears.TurnedRound.{turned_back, is_turned_round, turned_length, simple_here, number_round}
use Rattle.ring_core.proofs.ears.LeastCorners.{AreApart, are_apart, has_least, left_or_right, both_signs, right_turned}
use Rattle.ring_core.proofs.ears.NoNegativeWinding.{triangle_area, winds_forward}
use Rattle.ring_core.proofs.ears.DirectionKept.{clipped_left}
use Rattle.ring_core.proofs.ears.HaveEars.{have_ears_off, keep_their_direction}

-- ---- a triangle with an area has three corners
module _ (a b c : Corner) (left : pos 0 <ℤ turn a b c) where
  not_ab : a ≡ b → ⊥
  not_ab e = positive_not_zero (turn a b c) left (sym (turn_cycle a b c) ∙ ap (turn b c) e ∙ starts_on b c)

  not_ac : a ≡ c → ⊥
  not_ac e = positive_not_zero (turn a b c) left (ap (turn a b) (sym e) ∙ starts_on a b)

  not_bc : b ≡ c → ⊥
  not_bc e = positive_not_zero (turn a b c) left (ap (turn a b) (sym e) ∙ ends_on a b)

  three_apart : AreApart (a ∷ b ∷ c ∷ [])
  three_apart zero zero bi bj off = λ _. off refl
  three_apart zero (suc zero) bi bj off = not_ab
  three_apart zero (suc (suc zero)) bi bj off = not_ac
  three_apart (suc zero) zero bi bj off = λ e. not_ab (sym e)
  three_apart (suc zero) (suc zero) bi bj off = λ _. off refl
  three_apart (suc zero) (suc (suc zero)) bi bj off = not_bc
  three_apart (suc (suc zero)) zero bi bj off = λ e. not_ac (sym e)
  three_apart (suc (suc zero)) (suc zero) bi bj off = λ e. not_bc (sym e)
  three_apart (suc (suc zero)) (suc (suc zero)) bi bj off = λ _. off refl
  three_apart (suc (suc (suc i))) j bi bj off = absurd (omega arith)
  three_apart i (suc (suc (suc j))) bi bj off = absurd (omega arith)

triangle_apart : (ring : List Corner) → length ring ≡ 3 → pos 0 <ℤ area2 ring → AreApart ring
triangle_apart [] e h = absurd (omega arith)
triangle_apart (a ∷ []) e h = absurd (omega arith)
triangle_apart (a ∷ b ∷ []) e h = absurd (omega arith)
triangle_apart (a ∷ b ∷ c ∷ []) e h = three_apart a b c (subst (λ z. pos 0 <ℤ z) (triangle_area a b c) h)
triangle_apart (a ∷ b ∷ c ∷ d ∷ rest) e h = absurd (omega arith)

-- ---- a simple ring turns left at its least corner
module _ (ring : List Corner) (big : 2 < length ring) (simple : IsSimpleRing ring) where
  corners_apart : AreApart ring
  corners_apart =
      ⊎_elim
      (λ more. are_apart ring more simple.simple)
      (λ no_more. triangle_apart ring (omega arith) simple.counterclockwise)
      (cases_lt 3 (length ring))

  -- turned round it would have a positive area too
  not_right : (v : ℕ) → IsLeast ring v → turn (previous ring v) (corner_at ring v) (next ring v) <ℤ pos 0 → ⊥
  not_right v l right =
      let to : ℕ → ℕ = number_round (length ring) in
      both_signs (area2 (turned_round ring)) (area2 ring) (area2_turned_round ring)
      (winds_forward (length (turned_round ring)) (omega (arith, turned_length ring)) (λ m h b. have_ears_off m h)
      (turned_round ring) (to v) refl
      (simple_here (turned_round ring) ring to to (is_turned_round ring) simple.simple)
      (right_turned ring (turned_round ring) to to (turned_back (turned_round ring) ring to to (is_turned_round ring)) v l right)).area
      simple.counterclockwise

  pub left_at_least : (v : ℕ) × IsLeftAtLeast ring v
  left_at_least =
      let v : (v : ℕ) × IsLeast ring v = has_least ring corners_apart (omega arith) in
      ⊎_elim
      (λ left. (v.0, left))
      (λ right. absurd (not_right v.0 v.1 right))
      (left_or_right ring v.0 big simple.simple corners_apart v.1)

-- ---- and so does what is left of it, as long as three corners are
module _ (ring : List Corner) (simple : IsSimpleRing ring) where
  abbrev IsStillLeft : List Corner → Type 0
  IsStillLeft rest = MeetOnlyAsNeighbours rest × ((v : ℕ) × IsLeftAtLeast rest v)

  one_more : (rest : List Corner) (k : ℕ) → (2 < length rest → IsStillLeft rest) → k < length rest → IsFlatOrEar rest k
      → 2 < length (remove rest k) → IsStillLeft (remove rest k)
  one_more rest k so_far b x big =
      let more : 3 < length rest = omega (arith, one_fewer rest k b) in
      let s : IsStillLeft rest = so_far (omega arith) in (
        clipped_simple rest k more b s.0 x,
        clipped_left rest s.1.0 k more (keep_their_direction (length rest) more) s.0 s.1.1 b x,
      )

  pub still_left : (ts : List Tri) (rest : List Corner) → Clips ring ts rest → 2 < length rest → IsStillLeft rest
  still_left ts _ untouched big = (simple.simple, left_at_least ring big simple)
  still_left ts _ (flat {rest = rest} k c l f) big = one_more rest k (still_left ts rest c) f.below (inl f.has) big
  still_left _ _ (ear {ts = ts} {rest = rest} k t c l none f s) big = one_more rest k (still_left ts rest c) f.below (inr f.has) big

-- no rest of a simple ring has neither a flat corner nor an ear
pub never_stuck : (ring : List Corner) → IsSimpleRing ring → (ts : List Tri) (rest : List Corner) → Clips ring ts rest
    → 2 < length rest
    → HasNone (IsFlat rest) (length rest) → HasNone (IsEar rest) (length rest) → ⊥
never_stuck ring simple ts rest clipped big no_flat no_ear =
    let s = still_left ring simple ts rest clipped big in
    let k = have_ears_off (length rest) big rest s.1.0 refl s.0 s.1.1 0 (omega arith) in
    ⊎_elim (λ f. no_flat k.0 k.1 f) (λ e. no_ear k.0 k.1 e) k.4
