-- A left turn stays one where a neighbour of it, a flat corner or an ear, is taken out.
use Rattle.std.proofs.Common.{◌≡◌, ◌≢◌, ◌⊎◌, inl, inr, ⊎_elim, ℕ, ◌<◌, ◌∙◌, sym, ap, subst, arith, List}
use Rattle.std.proofs.Common.{length}
use Rattle.std.proofs.lemmas.Bool.Decides.{nat_tests}
use Rattle.std.proofs.lemmas.Int.{ints, by_lt_z}
use lib.IntN.{ℤ, pos, ◌+ℤ◌, ◌*ℤ◌, neg_ℤ}
use lib.Signed.{◌<ℤ◌, ◌≤ℤ◌}
use Rattle.geo_exact.specs.declared.corner.Corner.{Corner}
use Rattle.geo_exact.specs.Point.{Point, corner_point}
use Rattle.geo_exact.specs.Turn.{turn, turn_at, IsOnEdge}
use Rattle.geo_exact.specs.Places.{corner_at, after, before}
use Rattle.geo_exact.proofs.numbers.Orders.{le_of_lt}
use Rattle.geo_exact.proofs.numbers.Signs.{mul_pos, mul_not_pos, mul_zero}
use Rattle.geo_exact.proofs.corners_and_turns.TurnLaws.{turn_at_corner, turn_cycle, turn_swap}
use Rattle.geo_exact.proofs.corners_and_turns.OnEdge.{on_edge_back, starts_on, ends_on}
use Rattle.geo_exact.proofs.corners_and_turns.Sides.{meets_rising}
use Rattle.geo_exact.proofs.rings.Wedges.{side_at}
use Rattle.geo_exact.proofs.corners_and_turns.Means.{segment_of_edge, edge_of_segment}
use Rattle.ring_core.specs.Simple.{MeetOnlyAsNeighbours}
use Rattle.ring_core.specs.Clipping.{IsInTriangle, previous, next, IsFlat, IsEar}
use Rattle.ring_core.proofs.edges.RoundNumbers.{before_in, after_in}
use Rattle.ring_core.proofs.clipping.Gaps.{corner_mean}
use Rattle.ring_core.proofs.ears.LeftSimple.{apart_meet, after_before}

-- ---- signs, over plain numbers
pub opposite : (x y : ℤ) → y ≡ neg_ℤ x → pos 0 <ℤ x → y ≤ℤ pos 0
opposite x y e h = omega (arith, ints)

pub opposite_up : (x y : ℤ) → y ≡ neg_ℤ x → x ≤ℤ pos 0 → pos 0 ≤ℤ y
opposite_up x y e h = omega (arith, ints)

-- a mean of 0 and t that is positive
mean_of_zero : (k m n t z : ℤ) → pos 0 <ℤ k → pos 0 ≤ℤ n → k *ℤ z ≡ m *ℤ pos 0 +ℤ n *ℤ t → pos 0 <ℤ z
    → pos 0 <ℤ t
mean_of_zero k m n t z hk hn e hz =
    by_lt_z (pos 0) t (λ h. h) (λ h. absurd (omega (arith, ints, e, mul_pos k z hk hz, mul_not_pos n t hn h, mul_zero m)))

-- ---- what a way from v to q crosses: the edge from u to w, where v is left of it and q right, and the ends are on both sides of the way
pub crosses : (v q u w : Corner) → pos 0 <ℤ turn u w v → turn u w q <ℤ pos 0 → turn v q u ≤ℤ pos 0 → pos 0 ≤ℤ turn v q w
    → ((m : Point) → IsOnEdge m v q → IsOnEdge m u w → ⊥) → ⊥
crosses v q u w a b c d none =
    let m = meets_rising (corner_point v) (corner_point q) u w
    (subst (λ z. pos 0 ≤ℤ z) (sym (turn_at_corner u w v)) (le_of_lt (pos 0) (turn u w v) a))
    (subst (λ z. z ≤ℤ pos 0) (sym (turn_at_corner u w q)) (le_of_lt (turn u w q) (pos 0) b))
    (inr (subst (λ z. pos 0 <ℤ z) (sym (turn_at_corner u w v)) a))
    (subst (λ z. z ≤ℤ pos 0) (sym (side_at v q u)) c)
    (subst (λ z. pos 0 ≤ℤ z) (sym (side_at v q w)) d) in
    none m.0 (edge_of_segment v q m.0 m.1) m.2

-- ---- the left turn a v b, and d behind b
ear_behind : (a v b d : Corner) → pos 0 <ℤ turn a v b → pos 0 <ℤ turn v b d → ¬ IsInTriangle a v b d
    → ((m : Point) → IsOnEdge m a v → IsOnEdge m b d → ⊥) → pos 0 <ℤ turn a v d
ear_behind a v b d left ear out none =
    by_lt_z (pos 0) (turn a v d) (λ h. h)
    (λ h. let back : turn v a d ≡ neg_ℤ (turn a v d) = turn_swap a v d in
    let ahead : pos 0 ≤ℤ turn v a d = opposite_up (turn a v d) (turn v a d) back h in
    absurd (by_lt_z (turn b d a) (pos 0)
    (λ r. crosses v a b d (subst (λ z. pos 0 <ℤ z) (sym (turn_cycle v b d)) ear) r
    (opposite (turn a v b) (turn v a b) (turn_swap a v b) left) ahead (λ m i j. none m (on_edge_back v a m i) j))
    (λ r. out (record {
      along_ab = le_of_lt (pos 0) (turn v b a) (subst (λ z. pos 0 <ℤ z) (sym (turn_cycle a v b)) left);
      along_bc = r;
      along_ca = subst (λ z. pos 0 ≤ℤ z) (turn_cycle d v a) ahead;
    }))))

flat_behind : (a v b d : Corner) → pos 0 <ℤ turn a v b → IsOnEdge (corner_point b) v d → pos 0 <ℤ turn a v d
flat_behind a v b d left on =
    let s = segment_of_edge v d (corner_point b) on in
    mean_of_zero s.k s.m s.n (turn a v d) (turn_at a v (corner_point b)) s.k_positive s.n_not_negative
    (corner_mean a v v d (corner_point b) s ∙ ap (λ z. s.m *ℤ z +ℤ s.n *ℤ turn a v d) (ends_on a v))
    (subst (λ z. pos 0 <ℤ z) (sym (turn_at_corner a v b)) left)

-- and d ahead of a
ear_ahead : (d a v b : Corner) → pos 0 <ℤ turn a v b → pos 0 <ℤ turn d a v → ¬ IsInTriangle b d a v
    → ((m : Point) → IsOnEdge m v b → IsOnEdge m d a → ⊥) → pos 0 <ℤ turn d v b
ear_ahead d a v b left ear out none =
    by_lt_z (pos 0) (turn d v b) (λ h. h)
    (λ h. absurd (by_lt_z (turn d a b) (pos 0)
    (λ r. crosses v b d a ear r (subst (λ z. z ≤ℤ pos 0) (sym (turn_cycle d v b)) h)
    (le_of_lt (pos 0) (turn v b a) (subst (λ z. pos 0 <ℤ z) (sym (turn_cycle a v b)) left)) none)
    (λ r. out (record {
      along_ab = r;
      along_bc = le_of_lt (pos 0) (turn a v b) left;
      along_ca = opposite_up (turn d v b) (turn v d b) (turn_swap d v b) h;
    }))))

flat_ahead : (d a v b : Corner) → pos 0 <ℤ turn a v b → IsOnEdge (corner_point a) d v → pos 0 <ℤ turn d v b
flat_ahead d a v b left on =
    let s = segment_of_edge v d (corner_point a) (on_edge_back d v (corner_point a) on) in
    subst (λ z. pos 0 <ℤ z) (turn_cycle d v b)
    (mean_of_zero s.k s.m s.n (turn v b d) (turn_at v b (corner_point a)) s.k_positive s.n_not_negative
    (corner_mean v b v d (corner_point a) s ∙ ap (λ z. s.m *ℤ z +ℤ s.n *ℤ turn v b d) (starts_on v b))
    (subst (λ z. pos 0 <ℤ z) (sym (turn_at_corner v b a)) (subst (λ z. pos 0 <ℤ z) (sym (turn_cycle a v b)) left)))

-- ---- by the numbers of the corners
pub before_after : (n v : ℕ) → v < n → before n (after n v) ≡ v
before_after n v h = grind (arith, nat_tests)

pub apart_after : (n v : ℕ) → 3 < n → v < n → before n v ≢ after n v
apart_after n v h i = grind (arith, nat_tests)

not_following : (n v : ℕ) → 3 < n → v < n → after n (after n v) ≢ before n v
not_following n v h i = grind (arith, nat_tests)

after_not : (n v : ℕ) → 3 < n → v < n → after n v ≢ v
after_not n v h i = grind (arith, nat_tests)

before_not : (n v : ℕ) → 3 < n → v < n → before n v ≢ v
before_not n v h i = grind (arith, nat_tests)

not_preceding : (n v : ℕ) → 3 < n → v < n → before n (before n v) ≢ after n v
not_preceding n v h i = grind (arith, nat_tests)

before_before_not : (n v : ℕ) → 3 < n → v < n → before n (before n v) ≢ v
before_before_not n v h i = grind (arith, nat_tests)

module _ (ring : List Corner) (v : ℕ) (big : 3 < length ring) (below : v < length ring) (simple : MeetOnlyAsNeighbours ring)
    (left : pos 0 <ℤ turn (previous ring v) (corner_at ring v) (next ring v)) where
  -- the edge to v and the edge behind the next corner have no common point
  pub sides_apart : (m : Point) → IsOnEdge m (previous ring v) (corner_at ring v) → IsOnEdge m (next ring v)
      (next ring (after (length ring) v)) → ⊥
  sides_apart m i j =
      apart_meet ring simple (before (length ring) v) (after (length ring) v) (before_in (length ring) v below)
      (after_in (length ring) v below)
      (apart_after (length ring) v big below) m
      (subst (λ z. IsOnEdge m (previous ring v) (corner_at ring z)) (sym (after_before (length ring) v below)) i) j
      (λ s. ⊎_elim (λ e. after_not (length ring) v big below (e.0 ∙ after_before (length ring) v below))
      (λ e. not_following (length ring) v big below (sym e.0)) s)

  still_left_after : IsFlat ring (after (length ring) v) ⊎ IsEar ring (after (length ring) v)
      → pos 0 <ℤ turn (previous ring v) (corner_at ring v) (next ring (after (length ring) v))
  still_left_after (inl flat) =
      flat_behind (previous ring v) (corner_at ring v) (next ring v) (next ring (after (length ring) v)) left
      (subst (λ z. IsOnEdge (corner_point (next ring v)) (corner_at ring z) (next ring (after (length ring) v)))
      (before_after (length ring) v below) flat)
  still_left_after (inr ear) =
      ear_behind (previous ring v) (corner_at ring v) (next ring v) (next ring (after (length ring) v)) left
      (subst (λ z. pos 0 <ℤ turn (corner_at ring z) (next ring v) (next ring (after (length ring) v)))
      (before_after (length ring) v below) ear.turns_left)
      (λ i. ear.is_empty (before (length ring) v) (before_in (length ring) v below) (record {
        not_before = λ e. before_not (length ring) v big below (e ∙ before_after (length ring) v below);
        not_same = apart_after (length ring) v big below;
        not_after = λ e. not_following (length ring) v big below (sym e);
        is_inside = subst (λ z. IsInTriangle (previous ring v) (corner_at ring z) (next ring v) (next ring (after (length ring) v)))
            (sym (before_after (length ring) v below)) i;
      }))
      sides_apart

  -- nor have the edge from v and the edge to the corner before
  pub sides_apart_before : (m : Point) → IsOnEdge m (corner_at ring v) (next ring v)
      → IsOnEdge m (previous ring (before (length ring) v)) (previous ring v) → ⊥
  sides_apart_before m i j =
      apart_meet ring simple v (before (length ring) (before (length ring) v)) below
      (before_in (length ring) (before (length ring) v) (before_in (length ring) v below))
      (λ e. before_before_not (length ring) v big below (sym e)) m i
      (subst (λ z. IsOnEdge m (previous ring (before (length ring) v)) (corner_at ring z))
      (sym (after_before (length ring) (before (length ring) v) (before_in (length ring) v below))) j)
      (λ s. ⊎_elim (λ e. not_preceding (length ring) v big below e.0)
      (λ e. before_not (length ring) v big below (sym (e.0 ∙ after_before (length ring) (before (length ring) v)
      (before_in (length ring) v below)))) s)

  still_left_before : IsFlat ring (before (length ring) v) ⊎ IsEar ring (before (length ring) v)
      → pos 0 <ℤ turn (previous ring (before (length ring) v)) (corner_at ring v) (next ring v)
  still_left_before (inl flat) =
      flat_ahead (previous ring (before (length ring) v)) (previous ring v) (corner_at ring v) (next ring v) left
      (subst (λ z. IsOnEdge (corner_point (previous ring v)) (previous ring (before (length ring) v)) (corner_at ring z))
      (after_before (length ring) v below) flat)
  still_left_before (inr ear) =
      ear_ahead (previous ring (before (length ring) v)) (previous ring v) (corner_at ring v) (next ring v) left
      (subst (λ z. pos 0 <ℤ turn (previous ring (before (length ring) v)) (previous ring v) (corner_at ring z))
      (after_before (length ring) v below)
      ear.turns_left)
      (λ i. ear.is_empty (after (length ring) v) (after_in (length ring) v below) (record {
        not_before = λ e. not_preceding (length ring) v big below (sym e);
        not_same = λ e. apart_after (length ring) v big below (sym e);
        not_after = λ e. after_not (length ring) v big below (e ∙ after_before (length ring) v below);
        is_inside = subst (λ z. IsInTriangle (next ring v) (previous ring (before (length ring) v)) (previous ring v) (corner_at ring z))
            (sym (after_before (length ring) v below)) i;
      }))
      sides_apart_before

-- at the corner before the one taken out, and at the one after it
pub still_left_at_previous : (ring : List Corner) (v : ℕ) → 3 < length ring → v < length ring → MeetOnlyAsNeighbours ring
    → pos 0 <ℤ turn (previous ring v) (corner_at ring v) (next ring v)
    → IsFlat ring (after (length ring) v) ⊎ IsEar ring (after (length ring) v)
    → pos 0 <ℤ turn (previous ring v) (corner_at ring v) (next ring (after (length ring) v))
still_left_at_previous = still_left_after

pub still_left_at_next : (ring : List Corner) (v : ℕ) → 3 < length ring → v < length ring → MeetOnlyAsNeighbours ring
    → pos 0 <ℤ turn (previous ring v) (corner_at ring v) (next ring v)
    → IsFlat ring (before (length ring) v) ⊎ IsEar ring (before (length ring) v)
    → pos 0 <ℤ turn (previous ring (before (length ring) v)) (corner_at ring v) (next ring v)
still_left_at_next = still_left_before
