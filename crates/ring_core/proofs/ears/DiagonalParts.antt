-- A ring that turns left at corner 0, its least, and a diagonal from there into the closed triangle of that turn:
-- both parts turn left there too, and neither goes round a corner of the other.
use Rattle.std.proofs.Common.{◌≡◌, ◌≢◌, inl, inr, ⊎_elim, ℕ, zero, suc, ◌+◌, ◌-◌, ◌<◌, ◌≤◌, ◌∙◌}
use Rattle.std.proofs.Common.{sym, ap, subst, refl, arith}
use Rattle.std.proofs.Common.{List, ◌∷◌, length, take, drop}
use Rattle.std.specs.Prelude.{IsTrue}
use Rattle.std.proofs.lemmas.Bool.{cases_lt}
use Rattle.std.proofs.lemmas.Bool.Decides.{nat_tests}
use Rattle.std.proofs.lemmas.Int.{ints}
use lib.IntN.{ℤ, pos, neg_ℤ}
use lib.Signed.{◌<ℤ◌}
use Rattle.geo_exact.specs.declared.corner.Corner.{Corner}
use Rattle.geo_exact.specs.Point.{corner_point}
use Rattle.geo_exact.specs.Order.{IsBefore, is_before}
use Rattle.geo_exact.specs.Segments.{IsOnSegment}
use Rattle.geo_exact.specs.Turn.{turn, IsOnEdge}
use Rattle.geo_exact.specs.Winding.{winding}
use Rattle.geo_exact.specs.Places.{corner_at, after, before}
use Rattle.geo_exact.proofs.corners_and_turns.Means.{edge_of_segment}
use Rattle.geo_exact.proofs.corners_and_turns.OnEdge.{on_edge_back}
use Rattle.geo_exact.proofs.corners_and_turns.TurnLaws.{turn_cycle, turn_swap}
use Rattle.ring_core.specs.Simple.{MeetOnlyAsNeighbours}
use Rattle.ring_core.specs.Clipping.{previous, next, Blocks}
use Rattle.ring_core.specs.Diagonals.{IsDiagonal}
use Rattle.ring_core.proofs.ears.CutOff.{IsBeyond, IsCutOff, winding_beyond}
use Rattle.ring_core.proofs.ears.Diagonals.{off_first, off_second}
use Rattle.ring_core.proofs.ears.EarWords.{IsLeftAtLeast}
use Rattle.ring_core.proofs.ears.LeastCorners.{is_before_of}
use Rattle.ring_core.proofs.ears.LeftSimple.{apart_meet, after_before, before_of_after}
use Rattle.ring_core.proofs.ears.PartsOfRings.{IsPart, first_length, first_corner, first_is_part, closes}
use Rattle.ring_core.proofs.ears.PartsOfRings.{second_number, second_length, second_corner, second_is_part}
use Rattle.ring_core.proofs.ears.PartsOfRings.{number_of_first, number_of_later}
use Rattle.ring_core.proofs.ears.PartsOfRings.{after_zero, last_follows, not_to_last, ring_edge}
use Rattle.ring_core.proofs.edges.RoundNumbers.{before_in, before_other, before_first, after_inner}
use Rattle.ring_core.proofs.ears.SeenOutside.{seen_outside}

-- the part from corner 0 to corner z, and that from corner z on round to corner 0
abbrev pub first_part : List Corner → ℕ → List Corner
first_part ring z = take (z + 1) ring

abbrev pub second_part : List Corner → ℕ → List Corner
second_part ring z = corner_at ring 0 ∷ drop z ring

-- ---- numbers and signs
not_to_first : (n j : ℕ) → j + 1 < n → 0 ≡ after n j → ⊥
not_to_first n j h e = grind (arith, nat_tests)

right_of : (x y : ℤ) → y ≡ neg_ℤ x → pos 0 <ℤ x → y <ℤ pos 0
right_of x y e h = omega (arith, ints)

-- the numbers of the second part's corners
number_high : (z i : ℕ) → 0 < i → z ≤ second_number z i
number_high z zero h = absurd (omega arith)
number_high z (suc i) h = let e = number_of_later z i in omega arith

number_low : (n m z i : ℕ) → m + z ≡ n + 1 → 0 < i → i + 1 < m → second_number z i + 1 < n
number_low n m z zero e h k = absurd (omega arith)
number_low n m z (suc i) e h k = let f = number_of_later z i in omega arith

module _ (ring : List Corner) (z : ℕ) (late : 1 < z) (within : z + 1 < length ring) (simple : MeetOnlyAsNeighbours ring)
    (left : IsLeftAtLeast ring 0) (blocks : Blocks ring 0 z) (diagonal : IsDiagonal ring 0 z) where
  z_below : z < length ring
  z_below = omega arith

  later : (i : ℕ) → i < length ring → i ≢ 0 → IsBefore (corner_at ring 0) (corner_at ring i)
  later i b off = is_before_of (corner_at ring 0) (corner_at ring i) (left.least i b off)

  sees_first : pos 0 <ℤ turn (previous ring 0) (corner_at ring 0) (corner_at ring z)
  sees_first = off_first ring 0 z left.below simple left.turns_left z_below blocks

  sees_second : pos 0 <ℤ turn (corner_at ring 0) (next ring 0) (corner_at ring z)
  sees_second = off_second ring 0 z left.below simple left.turns_left z_below blocks

  next_is : next ring 0 ≡ corner_at ring 1
  next_is = ap (corner_at ring) (after_inner (length ring) 0 (omega arith))

  previous_is : previous ring 0 ≡ corner_at ring (length ring - 1)
  previous_is = ap (corner_at ring) (before_first (length ring) (length ring - 1) (omega arith))

  -- ---- the first part
  first_above : z < length (first_part ring z)
  first_above = omega (arith, first_length ring z within simple diagonal)

  pub first_cut : IsCutOff (first_part ring z) ring (λ i. i) z z
  first_cut = record {
    is_part = first_is_part ring z within simple diagonal;
    has_gap = first_above;
    gap = inl (refl, closes (length (first_part ring z)) z (first_length ring z within simple diagonal));
    diagonal = diagonal;
  }

  first_at : (i : ℕ) → i < length (first_part ring z) → corner_at (first_part ring z) i ≡ corner_at ring i
  first_at = first_corner ring z within simple diagonal

  first_previous : previous (first_part ring z) 0 ≡ corner_at ring z
  first_previous =
      ap (corner_at (first_part ring z))
      (before_first (length (first_part ring z)) z (omega (arith, first_length ring z within simple diagonal)))
      ∙ first_at z first_above

  first_next : next (first_part ring z) 0 ≡ next ring 0
  first_next =
      ap (corner_at (first_part ring z)) (after_inner (length (first_part ring z)) 0 (omega (arith, first_above)))
      ∙ first_at 1 (omega (arith, first_above)) ∙ sym next_is

  pub first_left : IsLeftAtLeast (first_part ring z) 0
  first_left = record {
    below = omega (arith, first_above);
    least = λ i b off.
        subst (λ c. IsTrue (is_before c (corner_at (first_part ring z) i))) (sym (first_at 0 (omega (arith, first_above))))
        (subst (λ c. IsTrue (is_before (corner_at ring 0) c)) (sym (first_at i b))
        (left.least i (omega (arith, first_length ring z within simple diagonal)) off));
    turns_left =
        subst (λ c. pos 0 <ℤ turn c (corner_at (first_part ring z) 0) (next (first_part ring z) 0)) (sym first_previous)
        (subst (λ c. pos 0 <ℤ turn (corner_at ring z) c (next (first_part ring z) 0)) (sym (first_at 0 (omega (arith, first_above))))
        (subst (λ c. pos 0 <ℤ turn (corner_at ring z) (corner_at ring 0) c) (sym first_next)
        (subst (λ t. pos 0 <ℤ t) (turn_cycle (corner_at ring z) (corner_at ring 0) (next ring 0)) sees_second)));
  }

  right_of_last : turn (corner_at ring z) (corner_at ring 0) (corner_at ring (length ring - 1)) <ℤ pos 0
  right_of_last =
      right_of (turn (corner_at ring 0) (corner_at ring z) (corner_at ring (length ring - 1)))
      (turn (corner_at ring z) (corner_at ring 0) (corner_at ring (length ring - 1)))
      (turn_swap (corner_at ring 0) (corner_at ring z) (corner_at ring (length ring - 1)))
      (subst (λ t. pos 0 <ℤ t) (sym (turn_cycle (corner_at ring (length ring - 1)) (corner_at ring 0) (corner_at ring z)))
      (subst (λ c. pos 0 <ℤ turn c (corner_at ring 0) (corner_at ring z)) previous_is sees_first))

  -- it does not go round the last corner
  first_not_last : winding (corner_point (corner_at ring (length ring - 1))) (first_part ring z) ≡ pos 0
  first_not_last =
      seen_outside (first_part ring z) (corner_at ring (length ring - 1)) (omega (arith, first_above)) (record {
        least = λ i a b. is_before_of (corner_at (first_part ring z) 0) (corner_at (first_part ring z) i)
            (first_left.least i b (omega arith));
        comes_later = subst (λ c. IsBefore c (corner_at ring (length ring - 1))) (sym (first_at 0 (omega (arith, first_above))))
            (later (length ring - 1) (omega arith) (omega arith));
        clear = λ q way i a b on.
            apart_meet ring simple i (length ring - 1) (omega (arith, first_length ring z within simple diagonal)) (omega arith)
            (λ e. omega (arith, first_length ring z within simple diagonal)) q
            (ring_edge (first_part ring z) ring (λ j. j) z first_cut.is_part q i (omega arith)
            (λ e. omega (arith, first_length ring z within simple diagonal)) on)
            (subst (λ j. IsOnEdge q (corner_at ring (length ring - 1)) (corner_at ring j)) (sym (last_follows (length ring) (omega arith)))
            (on_edge_back (corner_at ring 0) (corner_at ring (length ring - 1)) q
            (edge_of_segment (corner_at ring 0) (corner_at ring (length ring - 1)) q
            (subst (λ c. IsOnSegment q (corner_point c) (corner_point (corner_at ring (length ring - 1))))
            (first_at 0 (omega (arith, first_above))) way))))
            (λ s. ⊎_elim
            (λ x. not_to_last (length ring) (length (first_part ring z)) z i (first_length ring z within simple diagonal) within
            (omega arith) (λ e. omega (arith, first_length ring z within simple diagonal)) x.0)
            (λ x. let e = x.0 ∙ last_follows (length ring) (omega arith) in omega arith) s);
        left = first_left.turns_left;
        outside = inr
            (subst (λ c. turn c (corner_at (first_part ring z) 0) (corner_at ring (length ring - 1)) <ℤ pos 0) (sym first_previous)
            (subst (λ c. turn (corner_at ring z) c (corner_at ring (length ring - 1)) <ℤ pos 0)
            (sym (first_at 0 (omega (arith, first_above)))) right_of_last));
      })

  past_first : (d : ℕ) → z < d → IsBeyond (first_part ring z) (λ i. i) d
  past_first d h i b e = omega (arith, first_length ring z within simple diagonal)

  -- nor round the corners before it
  first_from_last : (e d : ℕ) → d + e + 1 ≡ length ring → z < d
      → winding (corner_point (corner_at ring d)) (first_part ring z) ≡ pos 0
  first_from_last zero d h past =
      subst (λ j. winding (corner_point (corner_at ring j)) (first_part ring z) ≡ pos 0) (omega arith) first_not_last
  first_from_last (suc e) d h past =
      let follows : after (length ring) d ≡ suc d = after_inner (length ring) d (omega arith) in
      winding_beyond (first_part ring z) ring (λ i. i) z z (omega arith) simple first_cut d (omega arith) (past_first d past)
      (subst (IsBeyond (first_part ring z) (λ i. i)) (sym follows) (past_first (suc d) (omega arith)))
      ∙ ap (λ j. winding (corner_point (corner_at ring j)) (first_part ring z)) follows
      ∙ first_from_last e (suc d) (omega arith) (omega arith)

  pub first_not_round : (d : ℕ) → d < length ring → IsBeyond (first_part ring z) (λ i. i) d
      → winding (corner_point (corner_at ring d)) (first_part ring z) ≡ pos 0
  first_not_round d b beyond =
      ⊎_elim
      (λ past. first_from_last (length ring - 1 - d) d (omega arith) past)
      (λ not. absurd (beyond d (omega (arith, first_length ring z within simple diagonal)) refl))
      (cases_lt z d)

  -- ---- the second part
  second_long : 2 < length (second_part ring z)
  second_long = omega (arith, second_length ring z late within simple diagonal)

  second_of : IsPart (second_part ring z) ring (second_number z) 0
  second_of = second_is_part ring z late within simple diagonal

  second_at : (i : ℕ) → corner_at (second_part ring z) i ≡ corner_at ring (second_number z i)
  second_at = second_corner ring z late within simple diagonal

  number_of_z : second_number z 1 ≡ z
  number_of_z = let e = number_of_later z 0 in omega arith

  second_opens : after (length (second_part ring z)) 0 ≡ 1
  second_opens = after_zero (length (second_part ring z)) (omega (arith, second_long))

  pub second_cut : IsCutOff (second_part ring z) ring (second_number z) 0 z
  second_cut = record {
    is_part = second_of;
    has_gap = omega (arith, second_long);
    gap = inr (number_of_first z, ap (second_number z) second_opens ∙ number_of_z);
    diagonal = diagonal;
  }

  number_of_last : second_number z (before (length (second_part ring z)) 0) ≡ before (length ring) 0
  number_of_last =
      before_of_after (length ring) 0 (second_number z (before (length (second_part ring z)) 0))
      (second_of.inside (before (length (second_part ring z)) 0) (before_in (length (second_part ring z)) 0 (omega (arith, second_long))))
      (sym (number_of_first z)
      ∙ sym (ap (second_number z) (after_before (length (second_part ring z)) 0 (omega (arith, second_long))))
      ∙ second_of.follows (before (length (second_part ring z)) 0) (before_in (length (second_part ring z)) 0
      (omega (arith, second_long)))
      (λ e. before_other (length (second_part ring z)) 0 second_long (omega (arith, second_long)) (sym e)))

  second_previous : previous (second_part ring z) 0 ≡ previous ring 0
  second_previous = second_at (before (length (second_part ring z)) 0) ∙ ap (corner_at ring) number_of_last

  second_next : next (second_part ring z) 0 ≡ corner_at ring z
  second_next =
      ap (corner_at (second_part ring z)) second_opens ∙ second_at 1 ∙ ap (corner_at ring) number_of_z

  not_number_of_first : (i : ℕ) → i < length (second_part ring z) → i ≢ 0 → second_number z i ≢ 0
  not_number_of_first i b off e = off (second_of.apart i 0 b (omega (arith, second_long)) (e ∙ sym (number_of_first z)))

  pub second_left : IsLeftAtLeast (second_part ring z) 0
  second_left = record {
    below = omega (arith, second_long);
    least = λ i b off.
        subst (λ c. IsTrue (is_before (corner_at ring 0) c)) (sym (second_at i))
        (left.least (second_number z i) (second_of.inside i b) (not_number_of_first i b off));
    turns_left =
        subst (λ c. pos 0 <ℤ turn c (corner_at ring 0) (next (second_part ring z) 0)) (sym second_previous)
        (subst (λ c. pos 0 <ℤ turn (previous ring 0) (corner_at ring 0) c) (sym second_next) sees_first);
  }

  right_of_next : turn (corner_at ring 0) (corner_at ring z) (corner_at ring 1) <ℤ pos 0
  right_of_next =
      right_of (turn (corner_at ring z) (corner_at ring 0) (corner_at ring 1))
      (turn (corner_at ring 0) (corner_at ring z) (corner_at ring 1))
      (turn_swap (corner_at ring z) (corner_at ring 0) (corner_at ring 1))
      (subst (λ t. pos 0 <ℤ t) (turn_cycle (corner_at ring z) (corner_at ring 0) (corner_at ring 1))
      (subst (λ c. pos 0 <ℤ turn (corner_at ring 0) c (corner_at ring z)) next_is sees_second))

  -- it does not go round corner 1
  second_not_next : winding (corner_point (corner_at ring 1)) (second_part ring z) ≡ pos 0
  second_not_next =
      seen_outside (second_part ring z) (corner_at ring 1) second_long (record {
        least = λ i a b. is_before_of (corner_at (second_part ring z) 0) (corner_at (second_part ring z) i)
            (second_left.least i b (omega arith));
        comes_later = later 1 (omega arith) (omega arith);
        clear = λ q way i a b on.
            apart_meet ring simple (second_number z i) 0 (second_of.inside i (omega arith)) left.below
            (not_number_of_first i (omega arith) (omega arith)) q
            (ring_edge (second_part ring z) ring (second_number z) 0 second_of q i (omega arith) (omega arith) on)
            (subst (λ c. IsOnEdge q (corner_at ring 0) c) (sym next_is)
            (edge_of_segment (corner_at ring 0) (corner_at ring 1) q way))
            (λ s. ⊎_elim
            (λ x. not_to_first (length ring) (second_number z i)
            (number_low (length ring) (length (second_part ring z)) z i (second_length ring z late within simple diagonal) a b) x.0)
            (λ x. let e = x.0 ∙ after_inner (length ring) 0 (omega arith) in let f = number_high z i a in omega arith) s);
        left = second_left.turns_left;
        outside = inl (subst (λ c. turn (corner_at ring 0) c (corner_at ring 1) <ℤ pos 0) (sym second_next) right_of_next);
      })

  short_of_z : (d : ℕ) → 0 < d → d < z → IsBeyond (second_part ring z) (second_number z) d
  short_of_z d h k zero b e = let f = number_of_first z in omega arith
  short_of_z d h k (suc i) b e = let f = number_of_later z i in omega arith

  -- nor round the corners after it
  second_from_next : (e : ℕ) → suc e < z → winding (corner_point (corner_at ring (suc e))) (second_part ring z) ≡ pos 0
  second_from_next zero h = second_not_next
  second_from_next (suc e) h =
      let follows : after (length ring) (suc e) ≡ suc (suc e) = after_inner (length ring) (suc e) (omega arith) in
      sym (ap (λ j. winding (corner_point (corner_at ring j)) (second_part ring z)) follows)
      ∙ sym (winding_beyond (second_part ring z) ring (second_number z) 0 z (omega arith) simple second_cut (suc e) (omega arith)
      (short_of_z (suc e) (omega arith) (omega arith))
      (subst (IsBeyond (second_part ring z) (second_number z)) (sym follows) (short_of_z (suc (suc e)) (omega arith) h)))
      ∙ second_from_next e (omega arith)

  pub second_not_round : (d : ℕ) → d < length ring → IsBeyond (second_part ring z) (second_number z) d
      → winding (corner_point (corner_at ring d)) (second_part ring z) ≡ pos 0
  second_not_round zero b beyond = absurd (beyond 0 (omega (arith, second_long)) (number_of_first z))
  second_not_round (suc e) b beyond =
      ⊎_elim
      (λ short. second_from_next e short)
      (λ not. absurd (beyond (suc (suc e - z)) (omega (arith, second_length ring z late within simple diagonal))
      (number_of_later z (suc e - z) ∙ omega arith)))
      (cases_lt (suc e) z)
