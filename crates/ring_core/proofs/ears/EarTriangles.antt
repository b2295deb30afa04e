-- A ring that goes round nothing clockwise without its ear goes round what is in the ear's closed triangle and off the ring.
use Rattle.std.proofs.Common.{◌≡◌, ⊎_elim, ℕ, ◌<◌, ◌≤◌, ◌∙◌, sym, ap, subst, refl, arith, List, [], ◌∷◌}
use Rattle.std.proofs.Common.{length}
use Rattle.std.specs.List.{remove}
use Rattle.std.proofs.lemmas.Bool.{cases_lt}
use Rattle.std.proofs.lemmas.Bool.Decides.{nat_tests}
use Rattle.std.proofs.lemmas.Int.{ints}
use lib.IntN.{ℤ, pos, ◌+ℤ◌, ◌*ℤ◌}
use lib.Signed.{◌<ℤ◌, ◌≤ℤ◌}
use Rattle.geo_exact.specs.declared.corner.Corner.{Corner}
use Rattle.geo_exact.specs.Point.{Point, corner_point}
use Rattle.geo_exact.specs.Segments.{IsOnSegment}
use Rattle.geo_exact.specs.Turn.{turn, turn_at, IsOnEdge, IsOnRing}
use Rattle.geo_exact.specs.Winding.{winding}
use Rattle.geo_exact.specs.Places.{corner_at, after, before}
use Rattle.geo_exact.proofs.numbers.Orders.{le_of_lt, positive_not_zero}
use Rattle.geo_exact.proofs.numbers.Signs.{mul_not_neg, convex, pos_of_mul, not_neg_of_mul}
use Rattle.geo_exact.proofs.rings.Crossings.{crossing_back}
use Rattle.geo_exact.proofs.rings.Windings.{crossing_of}
use Rattle.geo_exact.proofs.corners_and_turns.TurnLaws.{turn_at_corner}
use Rattle.geo_exact.proofs.corners_and_turns.OnEdge.{starts_on, ends_on}
use Rattle.geo_exact.proofs.corners_and_turns.Sides.{mixed, turn_mixed}
use Rattle.geo_exact.proofs.corners_and_turns.Means.{turn_mean, some_part}
use Rattle.geo_exact.proofs.rings.Triangles.{triangle_winds_inside}
use Rattle.geo_exact.proofs.rings.Ways.{winding_along}
use Rattle.ring_core.specs.Simple.{IsOnEdgeAt, MeetOnlyAsNeighbours}
use Rattle.ring_core.specs.Clipping.{IsInTriangle, previous, next, IsEar}
use Rattle.ring_core.proofs.clipping.ClipSteps.{one_less}
use Rattle.ring_core.proofs.clipping.Clipped.{triangle_out, two_left}
use Rattle.ring_core.proofs.ears.Diagonals.{inside_off, left_round}
use Rattle.ring_core.proofs.edges.EdgeNumbers.{on_ring_by_number}
use Rattle.ring_core.proofs.clipping.Gaps.{both, ear_meets}
use Rattle.ring_core.proofs.ears.LeftSimple.{same_or, after_before, beside, outside}
use Rattle.ring_core.proofs.ears.PartsOfRings.{on_place_start, on_place_end}
use Rattle.ring_core.proofs.edges.RoundNumbers.{before_in, after_in}

-- ---- halfway between two corners
halfway : Corner → Corner → Point
halfway a b = mixed (pos 1) (pos 1) (corner_point a) (corner_point b) (record { lt = tt })

turn_halfway : (u w a b : Corner) → turn_at u w (halfway a b) ≡ turn u w a +ℤ turn u w b
unfolding halfway
turn_halfway u w a b =
    turn_mixed (pos 1) (pos 1) (corner_point a) (corner_point b) (record { lt = tt }) u w
    ∙ ap (λ z. pos 1 *ℤ z +ℤ pos 1 *ℤ turn_at u w (corner_point b)) (turn_at_corner u w a)
    ∙ ap (λ z. pos 1 *ℤ turn u w a +ℤ pos 1 *ℤ z) (turn_at_corner u w b)
    ∙ ones (turn u w a) (turn u w b)
  where
    ones : (x y : ℤ) → pos 1 *ℤ x +ℤ pos 1 *ℤ y ≡ x +ℤ y
    ones x y = omega (arith, ints)

-- ---- a point of a segment whose ends are left of a line, or not right of it
left_between : (a b : Corner) (q p r : Point) → IsOnSegment q p r → pos 0 <ℤ turn_at a b p → pos 0 <ℤ turn_at a b r
    → pos 0 <ℤ turn_at a b q
left_between a b q p r s h i =
    pos_of_mul s.k (turn_at a b q) s.k_positive
    (subst (λ z. pos 0 <ℤ z) (sym (turn_mean a b q p r s))
    (convex s.m s.n (turn_at a b p) (turn_at a b r) s.m_not_negative s.n_not_negative (some_part q p r s) h i))

not_right_between : (a b : Corner) (q p r : Point) → IsOnSegment q p r → pos 0 ≤ℤ turn_at a b p → pos 0 ≤ℤ turn_at a b r
    → pos 0 ≤ℤ turn_at a b q
not_right_between a b q p r s h i =
    not_neg_of_mul s.k (turn_at a b q) s.k_positive
    (subst (λ z. pos 0 ≤ℤ z) (sym (turn_mean a b q p r s))
    (both (s.m *ℤ turn_at a b p) (s.n *ℤ turn_at a b r) (mul_not_neg s.m (turn_at a b p) s.m_not_negative h)
    (mul_not_neg s.n (turn_at a b r) s.n_not_negative i)))

-- ---- numbers and signs
closes_three : (n k : ℕ) → 2 < n → n ≤ 3 → k < n → after n (after n k) ≡ before n k
closes_three n k h i j = grind (arith, nat_tests)

left_and_level : (x y z : ℤ) → z ≡ x +ℤ y → pos 0 <ℤ x → y ≡ pos 0 → pos 0 <ℤ z
left_and_level x y z e h i = omega (arith, ints)

not_right_and_left : (x y z : ℤ) → z ≡ x +ℤ y → pos 0 ≤ℤ x → pos 0 <ℤ y → pos 0 <ℤ z
not_right_and_left x y z e h i = omega (arith, ints)

at_least_one : (w x y : ℤ) → w ≡ x +ℤ y → pos 0 ≤ℤ x → y ≡ pos 1 → pos 1 ≤ℤ w
at_least_one w x y e h i = omega (arith, ints)

at_least_none : (x : ℤ) → x ≡ pos 0 → pos 0 ≤ℤ x
at_least_none x e = omega (arith, ints)

module _ (ring : List Corner) (k : ℕ) (big : 2 < length ring) (below : k < length ring) (simple : MeetOnlyAsNeighbours ring)
    (ear : IsEar ring k) (t : Corner) (off : ¬ IsOnRing (corner_point t) ring)
    (inside : IsInTriangle t (previous ring k) (corner_at ring k) (next ring k)) where
  off_edge : (i : ℕ) → i < length ring → ¬ IsOnEdgeAt (corner_point t) ring i
  off_edge i b on = off ((on_ring_by_number (corner_point t) ring).1 (i, b, on))

  -- ---- left of the sides at k
  left_first : pos 0 <ℤ turn (previous ring k) (corner_at ring k) t
  left_first =
      inside_off (previous ring k) (corner_at ring k) (next ring k) t ear.turns_left inside
      (λ on. off_edge (before (length ring) k) (before_in (length ring) k below)
      (subst (λ j. IsOnEdge (corner_point t) (previous ring k) (corner_at ring j)) (sym (after_before (length ring) k below)) on))

  left_second : pos 0 <ℤ turn (corner_at ring k) (next ring k) t
  left_second =
      inside_off (corner_at ring k) (next ring k) (previous ring k) t
      (left_round (previous ring k) (corner_at ring k) (next ring k) ear.turns_left)
      (record { along_ab = inside.along_bc; along_bc = inside.along_ca; along_ca = inside.along_ab })
      (off_edge k below)

  -- ---- what the ear's triangle adds
  goes_round : (q : Point) → pos 0 <ℤ turn_at (previous ring k) (corner_at ring k) q
      → pos 0 <ℤ turn_at (corner_at ring k) (next ring k) q
      → pos 0 <ℤ turn_at (next ring k) (previous ring k) q → pos 0 ≤ℤ winding q (remove ring k) → pos 1 ≤ℤ winding q ring
  goes_round q a b c rest =
      at_least_one (winding q ring) (winding q (remove ring k)) (winding q (previous ring k ∷ corner_at ring k ∷ next ring k ∷ []))
      (triangle_out (crossing_of q) (crossing_back q) ring k big below) rest
      (triangle_winds_inside (previous ring k) (corner_at ring k) (next ring k) q ear.turns_left a b c)

  -- ---- a ring of three corners is the triangle
  of_three : length ring ≤ 3 → pos 1 ≤ℤ winding (corner_point t) ring
  of_three three =
      goes_round (corner_point t)
      (subst (λ z. pos 0 <ℤ z) (sym (turn_at_corner (previous ring k) (corner_at ring k) t)) left_first)
      (subst (λ z. pos 0 <ℤ z) (sym (turn_at_corner (corner_at ring k) (next ring k) t)) left_second)
      (subst (λ z. pos 0 <ℤ z) (sym (turn_at_corner (next ring k) (previous ring k) t)) left_third)
      (at_least_none (winding (corner_point t) (remove ring k))
      (two_left (crossing_of (corner_point t)) (crossing_back (corner_point t)) (remove ring k)
      (let f = one_less ring (remove ring k) k below refl in omega arith)))
    where
      left_third : pos 0 <ℤ turn (next ring k) (previous ring k) t
      left_third =
          inside_off (next ring k) (previous ring k) (corner_at ring k) t
          (left_round (corner_at ring k) (next ring k) (previous ring k)
          (left_round (previous ring k) (corner_at ring k) (next ring k) ear.turns_left))
          (record { along_ab = inside.along_ca; along_bc = inside.along_ab; along_ca = inside.along_bc })
          (λ on. off_edge (after (length ring) k) (after_in (length ring) k below)
          (subst (λ j. IsOnEdge (corner_point t) (next ring k) (corner_at ring j))
          (sym (closes_three (length ring) k big three below)) on))

  -- ---- in others, the way from t to the middle between t and corner k is off the ring
  module _ (four : 3 < length ring) where
    middle_first : pos 0 <ℤ turn_at (previous ring k) (corner_at ring k) (halfway t (corner_at ring k))
    middle_first =
        left_and_level (turn (previous ring k) (corner_at ring k) t) (turn (previous ring k) (corner_at ring k) (corner_at ring k))
        (turn_at (previous ring k) (corner_at ring k) (halfway t (corner_at ring k)))
        (turn_halfway (previous ring k) (corner_at ring k) t (corner_at ring k)) left_first
        (ends_on (previous ring k) (corner_at ring k))

    middle_second : pos 0 <ℤ turn_at (corner_at ring k) (next ring k) (halfway t (corner_at ring k))
    middle_second =
        left_and_level (turn (corner_at ring k) (next ring k) t) (turn (corner_at ring k) (next ring k) (corner_at ring k))
        (turn_at (corner_at ring k) (next ring k) (halfway t (corner_at ring k)))
        (turn_halfway (corner_at ring k) (next ring k) t (corner_at ring k)) left_second (starts_on (corner_at ring k) (next ring k))

    middle_third : pos 0 <ℤ turn_at (next ring k) (previous ring k) (halfway t (corner_at ring k))
    middle_third =
        not_right_and_left (turn (next ring k) (previous ring k) t) (turn (next ring k) (previous ring k) (corner_at ring k))
        (turn_at (next ring k) (previous ring k) (halfway t (corner_at ring k)))
        (turn_halfway (next ring k) (previous ring k) t (corner_at ring k)) inside.along_ca
        (left_round (corner_at ring k) (next ring k) (previous ring k)
        (left_round (previous ring k) (corner_at ring k) (next ring k) ear.turns_left))

    not_on_first : (r : Point) → pos 0 <ℤ turn_at (previous ring k) (corner_at ring k) r
        → ¬ IsOnEdge r (previous ring k) (corner_at ring k)
    not_on_first r h on = positive_not_zero (turn_at (previous ring k) (corner_at ring k) r) h on.on_line

    not_on_second : (r : Point) → pos 0 <ℤ turn_at (corner_at ring k) (next ring k) r → ¬ IsOnEdge r (corner_at ring k) (next ring k)
    not_on_second r h on = positive_not_zero (turn_at (corner_at ring k) (next ring k) r) h on.on_line

    -- a point in the triangle, off the sides at k, is on no edge
    clear_edge : (r : Point) → pos 0 <ℤ turn_at (previous ring k) (corner_at ring k) r
        → pos 0 <ℤ turn_at (corner_at ring k) (next ring k) r
        → pos 0 ≤ℤ turn_at (next ring k) (previous ring k) r → (f : ℕ) → f < length ring → ¬ IsOnEdgeAt r ring f
    clear_edge r a b c f bf on =
        ⊎_elim
        (λ e. not_on_first r a (subst (λ j. IsOnEdge r (previous ring k) (corner_at ring j)) (after_before (length ring) k below)
        (subst (λ j. IsOnEdgeAt r ring j) e on)))
        (λ not_before. ⊎_elim
        (λ e. not_on_second r b (subst (λ j. IsOnEdgeAt r ring j) e on))
        (λ not_k. ear_meets (previous ring k) (corner_at ring k) (next ring k) (corner_at ring f) (corner_at ring (after (length ring) f))
        (f ≡ after (length ring) k) (after (length ring) f ≡ before (length ring) k) ear.turns_left
        (beside ring k four below simple f bf not_before not_k) r on (outside ring k four below simple ear.is_empty f bf not_before not_k)
        (le_of_lt (pos 0) (turn_at (previous ring k) (corner_at ring k) r) a)
        (le_of_lt (pos 0) (turn_at (corner_at ring k) (next ring k) r) b) c
        (λ x. not_on_second r b (on_place_end (corner_at ring k) (next ring k) r x.1))
        (λ x. not_on_first r a (on_place_start (previous ring k) (corner_at ring k) r x.1)))
        (same_or f k))
        (same_or f (before (length ring) k))

    clear_way : (r : Point) → IsOnSegment r (corner_point t) (halfway t (corner_at ring k)) → ¬ IsOnRing r ring
    clear_way r way on =
        let i = (on_ring_by_number r ring).0 on in
        clear_edge r
        (left_between (previous ring k) (corner_at ring k) r (corner_point t) (halfway t (corner_at ring k)) way
        (subst (λ z. pos 0 <ℤ z) (sym (turn_at_corner (previous ring k) (corner_at ring k) t)) left_first) middle_first)
        (left_between (corner_at ring k) (next ring k) r (corner_point t) (halfway t (corner_at ring k)) way
        (subst (λ z. pos 0 <ℤ z) (sym (turn_at_corner (corner_at ring k) (next ring k) t)) left_second) middle_second)
        (not_right_between (next ring k) (previous ring k) r (corner_point t) (halfway t (corner_at ring k)) way
        (subst (λ z. pos 0 ≤ℤ z) (sym (turn_at_corner (next ring k) (previous ring k) t)) inside.along_ca)
        (le_of_lt (pos 0) (turn_at (next ring k) (previous ring k) (halfway t (corner_at ring k))) middle_third))
        i.0 i.1 i.2

    of_more : ((q : Point) → pos 0 ≤ℤ winding q (remove ring k)) → pos 1 ≤ℤ winding (corner_point t) ring
    of_more rest =
        subst (λ z. pos 1 ≤ℤ z) (sym (winding_along (corner_point t) (halfway t (corner_at ring k)) ring clear_way))
        (goes_round (halfway t (corner_at ring k)) middle_first middle_second middle_third (rest (halfway t (corner_at ring k))))

-- t is in the ear's closed triangle and off the ring, which goes round it
pub goes_round_ear : (ring : List Corner) (k : ℕ) → 2 < length ring → k < length ring → MeetOnlyAsNeighbours ring → IsEar ring k
    → (3 < length ring → (q : Point) → pos 0 ≤ℤ winding q (remove ring k))
    → (t : Corner) → ¬ IsOnRing (corner_point t) ring → IsInTriangle t (previous ring k) (corner_at ring k) (next ring k)
    → pos 1 ≤ℤ winding (corner_point t) ring
goes_round_ear ring k big below simple ear rest t off inside =
    ⊎_elim
    (λ four. of_more ring k big below simple ear t off inside four (rest four))
    (λ three. of_three ring k big below simple ear t off inside three)
    (cases_lt 3 (length ring))
