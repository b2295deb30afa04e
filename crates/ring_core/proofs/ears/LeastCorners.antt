-- The least corner of a ring whose edges meet only as neighbours: there is one, and the ring turns there, to the left or to the right.
use Rattle.std.proofs.Common.{◌≡◌, ◌≢◌, ◌⊎◌, inl, inr, ⊎_elim, ℕ, zero, suc, ◌-◌, ◌<◌, ◌≤◌, ◌∙◌}
use Rattle.std.proofs.Common.{sym, ap, subst, arith}
use Rattle.std.proofs.Common.{IsTrue, List, length}
use Rattle.std.specs.List.{remove}
use Rattle.std.proofs.lemmas.Bool.Decides.{nat_tests}
use Rattle.std.proofs.lemmas.Int.{ints, by_lt_z}
use lib.IntN.{ℤ, pos, ◌*ℤ◌, neg_ℤ}
use lib.Signed.{◌<ℤ◌, ◌≤ℤ◌}
use Rattle.geo_exact.specs.declared.corner.Corner.{Corner}
use Rattle.geo_exact.specs.Point.{IsPlaceOf, corner_point}
use Rattle.geo_exact.specs.Turn.{turn, IsOnEdge}
use Rattle.geo_exact.specs.Order.{IsBefore, is_before}
use Rattle.geo_exact.specs.Places.{corner_at, after, before}
use Rattle.geo_exact.proofs.numbers.Orders.{le_of_lt, le_both}
use Rattle.geo_exact.proofs.corners_and_turns.CornerOrder.{Decides-is_before, before_asymmetric, before_transitive}
use Rattle.geo_exact.proofs.corners_and_turns.CornerOrder.{same_unless_before, cases_of}
use Rattle.geo_exact.proofs.corners_and_turns.SameCorner.{corner_same}
use Rattle.geo_exact.proofs.corners_and_turns.OnEdge.{on_edge_back, on_edge_start, on_edge_end}
use Rattle.geo_exact.proofs.corners_and_turns.TurnLaws.{turn_cycle, turn_swap}
use Rattle.ring_core.specs.Simple.{IsOnEdgeAt, IsSharedCorner, MeetOnlyAsNeighbours}
use Rattle.ring_core.specs.Clipping.{previous, next}
use Rattle.ring_core.specs.own.Kinds.{number_before}
use Rattle.ring_core.proofs.edges.CommonPoints.{on_edge_by_x, on_edge_by_y}
use Rattle.ring_core.proofs.edges.RoundNumbers.{before_in, after_in, after_other, before_other, neighbours_apart}
use Rattle.ring_core.proofs.ears.LeftSimple.{same_or, apart_meet, after_before, number_same}
use Rattle.ring_core.proofs.ears.StillLeft.{before_after, still_left_at_previous, still_left_at_next}
use Rattle.ring_core.proofs.clipping.TakenOut.{corner_kept}
use Rattle.ring_core.proofs.ears.EarWords.{IsLeftAtLeast, IsFlatOrEar}
use Rattle.ring_core.proofs.ears.Renumbered.{IsLeast, is_least_there, left_like}
use Rattle.ring_core.proofs.ears.TurnedRound.{IsTurnedRound, turn_there}
use Rattle.ring_core.proofs.ears.WithoutCorner.{number_left, left_before, number_within, left_within, corner_left}
use Rattle.ring_core.proofs.ears.WithoutCorner.{next_kept, next_over, previous_kept, previous_over}

-- no two corners of the ring are one place
abbrev pub AreApart : List Corner → Type 0
AreApart ring = (i j : ℕ) → i < length ring → j < length ring → i ≢ j → corner_at ring i ≢ corner_at ring j

-- ---- simple rings of more than three corners have no corner twice
pub place_of : (c d : Corner) → IsPlaceOf (corner_point c) d → c ≡ d
place_of c d h = corner_same c d (one c.x d.x h.same_x) (one c.y d.y h.same_y)
  where
    one : (x y : ℤ) → x ≡ y *ℤ pos 1 → x ≡ y
    one x y e = omega (arith, ints)

not_around : (n i j : ℕ) → 3 < n → i < n → j ≡ after n i → before n i ≡ after n j → ⊥
not_around n i j h b e f = grind (arith, nat_tests)

module _ (ring : List Corner) (big : 3 < length ring) (simple : MeetOnlyAsNeighbours ring) where
  -- the place of corner i is on the edge to it too
  on_edge_to : (i : ℕ) → i < length ring → IsOnEdgeAt (corner_point (corner_at ring i)) ring (before (length ring) i)
  on_edge_to i b =
      subst (λ z. IsOnEdge (corner_point (corner_at ring i)) (previous ring i) (corner_at ring z)) (sym (after_before (length ring) i b))
      (on_edge_end (previous ring i) (corner_at ring i))

  on_edge_from : (i : ℕ) → i < length ring → IsOnEdgeAt (corner_point (corner_at ring i)) ring i
  on_edge_from i b = on_edge_start (corner_at ring i) (next ring i)

  not_next : (i j : ℕ) → i < length ring → j < length ring → corner_at ring i ≡ corner_at ring j
      → j ≡ after (length ring) i → ⊥
  not_next i j bi bj e f =
      apart_meet ring simple (before (length ring) i) j (before_in (length ring) i bi) bj
      (λ g. neighbours_apart (length ring) i (omega arith) bi (sym f ∙ sym g)) (corner_point (corner_at ring i))
      (on_edge_to i bi) (subst (λ c. IsOnEdgeAt (corner_point c) ring j) (sym e) (on_edge_from j bj))
      (λ s. ⊎_elim
      (λ x. after_other (length ring) i (omega arith) bi (sym f ∙ x.0 ∙ after_before (length ring) i bi))
      (λ x. not_around (length ring) i j big bi f x.0) s)

  pub are_apart : AreApart ring
  are_apart i j bi bj off e =
      apart_meet ring simple i j bi bj off (corner_point (corner_at ring i)) (on_edge_from i bi)
      (subst (λ c. IsOnEdgeAt (corner_point c) ring j) (sym e) (on_edge_from j bj))
      (λ s. ⊎_elim (λ x. not_next i j bi bj e x.0) (λ x. not_next j i bj bi (sym e) x.0) s)

-- nor have they without one of their corners
pub apart_without : (ring : List Corner) (k : ℕ) → k < length ring → AreApart ring → AreApart (remove ring k)
apart_without ring k below h i j bi bj off e =
    h (number_before k i) (number_before k j) (number_within ring k below i bi) (number_within ring k below j bj)
    (λ f. off (number_same k i j f))
    (sym (corner_kept ring k i below) ∙ e ∙ corner_kept ring k j below)

-- ---- the least corner
before_true : (a b : Corner) → IsBefore a b → IsTrue (is_before a b)
before_true a b h = (Decides-is_before a b).1 h

pub is_before_of : (a b : Corner) → IsTrue (is_before a b) → IsBefore a b
is_before_of a b h = (Decides-is_before a b).0 h

least_among : (ring : List Corner) → AreApart ring → (m : ℕ) → m < length ring
    → (v : ℕ) × (v ≤ m) × ((i : ℕ) → i ≤ m → i ≢ v → IsBefore (corner_at ring v) (corner_at ring i))
least_among ring h zero b = (0, omega arith, λ i c off. absurd (off (omega arith)))
least_among ring h (suc m) b =
    let x : (v : ℕ) × (v ≤ m) × ((i : ℕ) → i ≤ m → i ≢ v → IsBefore (corner_at ring v) (corner_at ring i)) =
    least_among ring h m (omega arith) in
    ⊎_elim
    (λ l. (
      x.0,
      omega (arith, x.1),
      λ i c off. ⊎_elim
          (λ e. subst (λ z. IsBefore (corner_at ring x.0) (corner_at ring z)) (sym e) l)
          (λ o. x.2 i (omega arith) off)
          (same_or i (suc m)),
    ))
    (λ no. ⊎_elim
    (λ l. (
      suc m,
      omega arith,
      λ i c off. ⊎_elim
          (λ e. subst (λ z. IsBefore (corner_at ring (suc m)) (corner_at ring z)) (sym e) l)
          (λ o. before_transitive (corner_at ring (suc m)) (corner_at ring x.0) (corner_at ring i) l (x.2 i (omega arith) o))
          (same_or i x.0),
    ))
    (λ nor. absurd (h x.0 (suc m) (omega (arith, x.1)) b (λ e. omega (arith, x.1))
    (same_unless_before (corner_at ring x.0) (corner_at ring (suc m)) no nor)))
    (cases_of (is_before (corner_at ring (suc m)) (corner_at ring x.0))
    (Decides-is_before (corner_at ring (suc m)) (corner_at ring x.0))))
    (cases_of (is_before (corner_at ring x.0) (corner_at ring (suc m))) (Decides-is_before (corner_at ring x.0) (corner_at ring (suc m))))

pub has_least : (ring : List Corner) → AreApart ring → 0 < length ring → (v : ℕ) × IsLeast ring v
has_least ring h b =
    let x : (v : ℕ) × (v ≤ length ring - 1) × ((i : ℕ) → i ≤ length ring - 1 → i ≢ v
    → IsBefore (corner_at ring v) (corner_at ring i)) =
    least_among ring h (length ring - 1) (omega arith) in (
      x.0,
      record {
        below = omega (arith, x.1);
        least = λ i c off. before_true (corner_at ring x.0) (corner_at ring i) (x.2 i (omega arith) off);
      },
    )

-- there is one alone
pub one_least : (ring : List Corner) (v w : ℕ) → IsLeast ring v → IsLeast ring w → v ≡ w
one_least ring v w h k =
    ⊎_elim (λ e. e)
    (λ off. absurd (before_asymmetric (corner_at ring v) (corner_at ring w)
    (is_before_of (corner_at ring v) (corner_at ring w) (h.least w k.below (λ e. off (sym e))))
    (is_before_of (corner_at ring w) (corner_at ring v) (k.least v h.below off))))
    (same_or v w)

-- ---- two corners behind the least one, on one line with it: one of them is between it and the other
one_between : (v p a : Corner) → IsBefore v p → IsBefore v a → turn p v a ≡ pos 0
    → IsOnEdge (corner_point a) v p ⊎ IsOnEdge (corner_point p) v a
one_between v p a h k e =
    by_lt_z v.x a.x
    (λ right. by_lt_z a.x p.x
    (λ l. inl (on_edge_by_x v p a (omega (arith, ints)) (le_of_lt v.x a.x right) (le_of_lt a.x p.x l) line))
    (λ l. inr (on_edge_by_x v a p right (not_left v p h) l back)))
    (λ not_right. by_lt_z v.x p.x
    (λ right. inl (on_edge_by_x v p a right (not_left v a k) (omega (arith, ints)) line))
    (λ nor. by_lt_z a.y p.y
    (λ l. inl (on_edge_by_y v p a (up v p h nor) (le_of_lt v.y a.y (up v a k not_right)) (le_of_lt a.y p.y l) line))
    (λ l. inr (on_edge_by_y v a p (up v a k not_right) (le_of_lt v.y p.y (up v p h nor)) l back))))
  where
    line : turn v p a ≡ pos 0
    line = turn_swap p v a ∙ ap neg_ℤ e

    back : turn v a p ≡ pos 0
    back = turn_cycle p v a ∙ e

    not_left : (c d : Corner) → IsBefore c d → c.x ≤ℤ d.x
    not_left c d (inl l) = le_of_lt c.x d.x l
    not_left c d (inr l) = omega (arith, ints, l.0)

    up : (c d : Corner) → IsBefore c d → d.x ≤ℤ c.x → c.y <ℤ d.y
    up c d (inl l) n = absurd (omega (arith, ints))
    up c d (inr l) n = l.1

module _ (ring : List Corner) (v : ℕ) (three : 2 < length ring) (simple : MeetOnlyAsNeighbours ring) (apart : AreApart ring)
    (l : IsLeast ring v) where
  not_shared : (c : ℕ) → c < length ring → c ≢ v
      → IsSharedCorner (corner_point (corner_at ring c)) ring (before (length ring) v) v → ⊥
  not_shared c b off (inl s) = apart c v b l.below off (place_of (corner_at ring c) (corner_at ring v) s.1)
  not_shared c b off (inr s) = neighbours_apart (length ring) v three l.below (sym s.0)

  -- no corner lies on both edges at the least corner
  not_both : (c : ℕ) → c < length ring → c ≢ v → IsOnEdge (corner_point (corner_at ring c)) (previous ring v) (corner_at ring v)
      → IsOnEdge (corner_point (corner_at ring c)) (corner_at ring v) (next ring v) → ⊥
  not_both c b off h k =
      apart_meet ring simple (before (length ring) v) v (before_in (length ring) v l.below) l.below
      (λ e. before_other (length ring) v three l.below (sym e)) (corner_point (corner_at ring c))
      (subst (λ z. IsOnEdge (corner_point (corner_at ring c)) (previous ring v) (corner_at ring z))
      (sym (after_before (length ring) v l.below)) h)
      k (not_shared c b off)

  pub not_straight : turn (previous ring v) (corner_at ring v) (next ring v) ≡ pos 0 → ⊥
  not_straight e =
      ⊎_elim
      (λ on. not_both (after (length ring) v) (after_in (length ring) v l.below) (after_other (length ring) v three l.below)
      (on_edge_back (corner_at ring v) (previous ring v) (corner_point (next ring v)) on) (on_edge_end (corner_at ring v) (next ring v)))
      (λ on. not_both (before (length ring) v) (before_in (length ring) v l.below)
      (λ f. before_other (length ring) v three l.below (sym f)) (on_edge_start (previous ring v) (corner_at ring v)) on)
      (one_between (corner_at ring v) (previous ring v) (next ring v)
      (is_before_of (corner_at ring v) (previous ring v) (l.least (before (length ring) v) (before_in (length ring) v l.below)
      (λ f. before_other (length ring) v three l.below (sym f))))
      (is_before_of (corner_at ring v) (next ring v) (l.least (after (length ring) v) (after_in (length ring) v l.below)
      (after_other (length ring) v three l.below))) e)

  -- so the ring turns there to the left, or to the right
  pub left_or_right : IsLeftAtLeast ring v ⊎ (turn (previous ring v) (corner_at ring v) (next ring v) <ℤ pos 0)
  left_or_right =
      by_lt_z (pos 0) (turn (previous ring v) (corner_at ring v) (next ring v))
      (λ left. inl (record { below = l.below; least = l.least; turns_left = left }))
      (λ no. by_lt_z (turn (previous ring v) (corner_at ring v) (next ring v)) (pos 0)
      (λ right. inr right)
      (λ nor. absurd (not_straight (le_both (turn (previous ring v) (corner_at ring v) (next ring v)) (pos 0) no nor))))

pub least_of_left : (ring : List Corner) (v : ℕ) → IsLeftAtLeast ring v → IsLeast ring v
least_of_left ring v l = record { below = l.below; least = l.least }

-- ---- the ring turned round
pub both_signs : (x y : ℤ) → x ≡ neg_ℤ y → pos 0 <ℤ x → pos 0 <ℤ y → ⊥
both_signs x y e i j = omega (arith, ints)

turned_sign : (x y : ℤ) → x ≡ neg_ℤ y → x <ℤ pos 0 → pos 0 <ℤ y
turned_sign x y e i = omega (arith, ints)

module _ (other ring : List Corner) (to back : ℕ → ℕ) (h : IsTurnedRound other ring to back) where
  -- both do not turn left at their least corner
  pub not_both_left : (v w : ℕ) → IsLeftAtLeast other v → IsLeftAtLeast ring w → ⊥
  not_both_left v w l m =
      let b : v < length ring = subst (λ n. v < n) h.same.as_many l.below in
      let e : to v ≡ w =
      one_least ring (to v) w (is_least_there other ring to back h.same v (least_of_left other v l)) (least_of_left ring w m) in
      both_signs (turn (previous other v) (corner_at other v) (next other v))
      (turn (previous ring w) (corner_at ring w) (next ring w))
      (subst (λ z. turn (previous other v) (corner_at other v) (next other v)
      ≡ neg_ℤ (turn (previous ring z) (corner_at ring z) (next ring z)))
      e (turn_there other ring to back h v b))
      l.turns_left m.turns_left

  -- where the one turns right there, the other turns left
  pub right_turned : (v : ℕ) → IsLeast other v → turn (previous other v) (corner_at other v) (next other v) <ℤ pos 0
      → IsLeftAtLeast ring (to v)
  right_turned v l right =
      let b : v < length ring = subst (λ n. v < n) h.same.as_many l.below in
      let m : IsLeast ring (to v) = is_least_there other ring to back h.same v l in
      record {
        below = m.below;
        least = m.least;
        turns_left = turned_sign (turn (previous other v) (corner_at other v) (next other v))
            (turn (previous ring (to v)) (corner_at ring (to v)) (next ring (to v))) (turn_there other ring to back h v b) right;
      }

-- ---- where another corner is taken out
module _ (ring : List Corner) (v k : ℕ) (l : IsLeast ring v) (below : k < length ring) (off : k ≢ v) where
  pub least_left : IsLeast (remove ring k) (number_left k v)
  least_left = record {
    below = left_within ring k below v l.below (λ e. off (sym e));
    least = λ i b far.
        subst (λ c. IsTrue (is_before c (corner_at (remove ring k) i))) (sym (corner_left ring k below v (λ e. off (sym e))))
        (subst (λ c. IsTrue (is_before (corner_at ring v) c)) (sym (corner_kept ring k i below))
        (l.least (number_before k i) (number_within ring k below i b)
        (λ e. far (sym (left_before k i) ∙ ap (number_left k) e))));
  }

module _ (ring : List Corner) (v k : ℕ) (big : 3 < length ring) (simple : MeetOnlyAsNeighbours ring) (l : IsLeftAtLeast ring v)
    (below : k < length ring) (off : k ≢ v) (x : IsFlatOrEar ring k) where
  v_off : v ≢ k
  v_off e = off (sym e)

  left_after : v ≡ before (length ring) k → pos 0 <ℤ turn (previous ring v) (corner_at ring v) (next ring k)
  left_after e =
      let f : after (length ring) v ≡ k = ap (after (length ring)) e ∙ after_before (length ring) k below in
      subst (λ z. pos 0 <ℤ turn (previous ring v) (corner_at ring v) (next ring z)) f
      (still_left_at_previous ring v big l.below simple l.turns_left (subst (IsFlatOrEar ring) (sym f) x))

  left_before_it : v ≡ after (length ring) k → pos 0 <ℤ turn (previous ring k) (corner_at ring v) (next ring v)
  left_before_it e =
      let f : before (length ring) v ≡ k = ap (before (length ring)) e ∙ before_after (length ring) k below in
      subst (λ z. pos 0 <ℤ turn (previous ring z) (corner_at ring v) (next ring v)) f
      (still_left_at_next ring v big l.below simple l.turns_left (subst (IsFlatOrEar ring) (sym f) x))

  still_left : pos 0 <ℤ turn (previous (remove ring k) (number_left k v)) (corner_at (remove ring k) (number_left k v))
      (next (remove ring k) (number_left k v))
  still_left =
      ⊎_elim
      (λ e. left_like (previous ring v) (corner_at ring v) (next ring k) (previous (remove ring k) (number_left k v))
      (corner_at (remove ring k) (number_left k v)) (next (remove ring k) (number_left k v))
      (previous_kept ring k below v l.below v_off (λ f. neighbours_apart (length ring) k (omega arith) below (sym f ∙ e)))
      (corner_left ring k below v v_off) (next_over ring k below v (omega arith) l.below v_off e) (left_after e))
      (λ not_before. ⊎_elim
      (λ e. left_like (previous ring k) (corner_at ring v) (next ring v) (previous (remove ring k) (number_left k v))
      (corner_at (remove ring k) (number_left k v)) (next (remove ring k) (number_left k v))
      (previous_over ring k below v (omega arith) l.below v_off e)
      (corner_left ring k below v v_off) (next_kept ring k below v l.below v_off not_before) (left_before_it e))
      (λ not_after. left_like (previous ring v) (corner_at ring v) (next ring v) (previous (remove ring k) (number_left k v))
      (corner_at (remove ring k) (number_left k v)) (next (remove ring k) (number_left k v))
      (previous_kept ring k below v l.below v_off not_after)
      (corner_left ring k below v v_off) (next_kept ring k below v l.below v_off not_before) l.turns_left)
      (same_or v (after (length ring) k)))
      (same_or v (before (length ring) k))

  stays : IsLeftAtLeast (remove ring k) (number_left k v)
  stays =
      let m : IsLeast (remove ring k) (number_left k v) = least_left ring v k (least_of_left ring v l) below off in
      record { below = m.below; least = m.least; turns_left = still_left }

-- a ring stays left at its least corner where another corner is clipped
pub stays_left : (ring : List Corner) (v k : ℕ) → 3 < length ring → MeetOnlyAsNeighbours ring → IsLeftAtLeast ring v
    → k < length ring
    → k ≢ v → IsFlatOrEar ring k → IsLeftAtLeast (remove ring k) (number_left k v)
stays_left = stays
