-- A ring of four corners that turns left at its least corner, an ear, does not turn right without it.
use Rattle.std.proofs.Common.{◌≡◌, ◌≢◌, ℕ, zero, suc, ◌<◌, ◌∙◌, sym, ap, subst, refl, arith}
use Rattle.std.proofs.Common.{List, [], ◌∷◌, length}
use Rattle.std.specs.List.{remove}
use Rattle.std.proofs.lemmas.Bool.Decides.{nat_tests}
use Rattle.std.proofs.lemmas.Int.{ints, by_lt_z}
use lib.IntN.{ℤ, pos, neg_ℤ}
use lib.Signed.{◌<ℤ◌, ◌≤ℤ◌}
use Rattle.geo_exact.specs.declared.corner.Corner.{Corner}
use Rattle.geo_exact.specs.Point.{Point}
use Rattle.geo_exact.specs.Turn.{turn, IsOnEdge}
use Rattle.geo_exact.specs.Order.{IsBefore}
use Rattle.geo_exact.specs.Places.{corner_at, after, before}
use Rattle.geo_exact.proofs.numbers.Orders.{le_of_lt}
use Rattle.geo_exact.proofs.corners_and_turns.OnEdge.{on_edge_back}
use Rattle.geo_exact.proofs.corners_and_turns.TurnLaws.{turn_cycle, turn_swap}
use Rattle.ring_core.specs.Simple.{MeetOnlyAsNeighbours}
use Rattle.ring_core.specs.Clipping.{IsInTriangle, previous, next, IsEar}
use Rattle.ring_core.proofs.edges.RoundNumbers.{before_in, after_in, before_other, after_other}
use Rattle.ring_core.proofs.ears.StillLeft.{opposite, opposite_up, crosses, before_after, sides_apart, sides_apart_before}
use Rattle.ring_core.proofs.ears.EarWords.{IsLeftAtLeast}
use Rattle.ring_core.proofs.ears.WithoutCorner.{number_left, one_fewer, left_within, corner_left, next_kept, previous_kept}
use Rattle.ring_core.proofs.ears.TurnedRound.{turn_back}
use Rattle.ring_core.proofs.ears.LeastCorners.{is_before_of}
use Rattle.ring_core.proofs.ears.PutBack.{before_is_outside}

-- ---- four corners
pub turn_ends : (a b c : Corner) → turn a c b ≡ neg_ℤ (turn a b c)
turn_ends a b c = sym (turn_cycle a c b) ∙ turn_swap b c a ∙ ap neg_ℤ (turn_cycle a b c)

opposite_above : (x y : ℤ) → y ≡ neg_ℤ x → x <ℤ pos 0 → pos 0 <ℤ y
opposite_above x y e h = omega (arith, ints)

-- v is before the three others, and o is not in its left turn: where a o p is a right turn, two of the four edges cross
module _ (v a o p : Corner) (left : pos 0 <ℤ turn p v a) (right : turn a o p <ℤ pos 0) (first : IsBefore v a) (second : IsBefore v o)
    (third : IsBefore v p) (out : ¬ IsInTriangle o p v a) (none_to : (m : Point) → IsOnEdge m v p → IsOnEdge m a o → ⊥)
    (none_from : (m : Point) → IsOnEdge m v a → IsOnEdge m o p → ⊥) where
  around : pos 0 <ℤ turn a p o
  around = opposite_above (turn a o p) (turn a p o) (turn_ends a o p) right

  beyond_from : pos 0 <ℤ turn p v o → turn v a o <ℤ pos 0 → ⊥
  beyond_from h k =
      crosses v a o p (subst (λ z. pos 0 <ℤ z) (turn_cycle o p v) h) (subst (λ z. z <ℤ pos 0) (sym (turn_cycle a o p)) right)
      (le_of_lt (turn v a o) (pos 0) k) (le_of_lt (pos 0) (turn v a p) (subst (λ z. pos 0 <ℤ z) (sym (turn_cycle p v a)) left)) none_from

  beyond_to : turn p v o ≤ℤ pos 0 → pos 0 <ℤ turn v a o → ⊥
  beyond_to h k =
      crosses v p a o (subst (λ z. pos 0 <ℤ z) (sym (turn_cycle v a o)) k) right
      (opposite (turn p v a) (turn v p a) (turn_swap p v a) left) (opposite_up (turn p v o) (turn v p o) (turn_swap p v o) h) none_to

  before_all : turn p v o ≤ℤ pos 0 → turn v a o ≤ℤ pos 0 → ⊥
  before_all h k =
      before_is_outside v a p o first third second around (record {
        along_ab = le_of_lt (pos 0) (turn a p v) (subst (λ z. pos 0 <ℤ z) (turn_cycle a p v) left);
        along_bc = opposite_up (turn p v o) (turn p o v) (turn_ends p v o) h;
        along_ca = opposite_up (turn v a o) (turn o a v) (turn_back v a o) k;
      })

  pub four_cross : ⊥
  four_cross =
      by_lt_z (pos 0) (turn p v o)
      (λ h. by_lt_z (turn v a o) (pos 0)
      (λ k. beyond_from h k)
      (λ k. out (record { along_ab = le_of_lt (pos 0) (turn p v o) h; along_bc = k; along_ca = le_of_lt (pos 0) (turn a p o) around })))
      (λ h. by_lt_z (pos 0) (turn v a o) (λ k. beyond_to h k) (λ k. before_all h k))

-- ---- a ring of four corners
-- a triangle turns alike at its three corners
pub turns_alike : (ring : List Corner) (i : ℕ) → length ring ≡ 3 → i < 3
    → turn (previous ring i) (corner_at ring i) (next ring i) ≡ turn (previous ring 0) (corner_at ring 0) (next ring 0)
turns_alike [] i e b = absurd (omega arith)
turns_alike (a ∷ []) i e b = absurd (omega arith)
turns_alike (a ∷ b ∷ []) i e b' = absurd (omega arith)
turns_alike (a ∷ b ∷ c ∷ d ∷ rest) i e b' = absurd (omega arith)
turns_alike (a ∷ b ∷ c ∷ []) zero e b' = refl
turns_alike (a ∷ b ∷ c ∷ []) (suc zero) e b' = turn_cycle c a b
turns_alike (a ∷ b ∷ c ∷ []) (suc (suc zero)) e b' = sym (turn_cycle b c a)
turns_alike (a ∷ b ∷ c ∷ []) (suc (suc (suc i))) e b' = absurd (omega arith)

opposite_after : (n v : ℕ) → n ≡ 4 → v < n → after n (after n (after n v)) ≡ before n v
opposite_after n v e b = grind (arith, nat_tests)

opposite_before : (n v : ℕ) → n ≡ 4 → v < n → before n (before n v) ≡ after n (after n v)
opposite_before n v e b = grind (arith, nat_tests)

opposite_not : (n v : ℕ) → n ≡ 4 → v < n → after n (after n v) ≢ v
opposite_not n v e b = grind (arith, nat_tests)

opposite_not_before : (n v : ℕ) → n ≡ 4 → v < n → after n (after n v) ≢ before n v
opposite_not_before n v e b = grind (arith, nat_tests)

opposite_not_after : (n v : ℕ) → n ≡ 4 → v < n → after n (after n v) ≢ after n v
opposite_not_after n v e b = grind (arith, nat_tests)

module _ (ring : List Corner) (v : ℕ) (four : length ring ≡ 4) (simple : MeetOnlyAsNeighbours ring) (l : IsLeftAtLeast ring v)
    (ear : IsEar ring v) (u : ℕ) (below : u < length (remove ring v))
    (right : turn (previous (remove ring v) u) (corner_at (remove ring v) u) (next (remove ring v) u) <ℤ pos 0) where
  -- the corner opposite the least one
  abbrev far : ℕ
  far = after (length ring) (after (length ring) v)

  far_below : far < length ring
  far_below = after_in (length ring) (after (length ring) v) (after_in (length ring) v l.below)

  three_left : length (remove ring v) ≡ 3
  three_left = omega (arith, one_fewer ring v l.below)

  right_at_far : turn (next ring v) (corner_at ring far) (previous ring v) <ℤ pos 0
  right_at_far =
      let off : far ≢ v = opposite_not (length ring) v four l.below in
      subst (λ z. z <ℤ pos 0)
      (turns_alike (remove ring v) u three_left (subst (λ n. u < n) three_left below)
      ∙ sym (turns_alike (remove ring v) (number_left v far) three_left
      (subst (λ n. number_left v far < n) three_left (left_within ring v l.below far far_below off)))
      ∙ ap (λ c. turn c (corner_at (remove ring v) (number_left v far)) (next (remove ring v) (number_left v far)))
      (previous_kept ring v l.below far far_below off (opposite_not_after (length ring) v four l.below)
      ∙ ap (corner_at ring) (before_after (length ring) (after (length ring) v) (after_in (length ring) v l.below)))
      ∙ ap (λ c. turn (next ring v) c (next (remove ring v) (number_left v far))) (corner_left ring v l.below far off)
      ∙ ap (λ c. turn (next ring v) (corner_at ring far) c)
      (next_kept ring v l.below far far_below off (opposite_not_before (length ring) v four l.below)
      ∙ ap (corner_at ring) (opposite_after (length ring) v four l.below)))
      right

  after_least : (i : ℕ) → i < length ring → i ≢ v → IsBefore (corner_at ring v) (corner_at ring i)
  after_least i b off = is_before_of (corner_at ring v) (corner_at ring i) (l.least i b off)

  pub not_right_of_four : ⊥
  not_right_of_four =
      four_cross (corner_at ring v) (next ring v) (corner_at ring far) (previous ring v) l.turns_left right_at_far
      (after_least (after (length ring) v) (after_in (length ring) v l.below) (after_other (length ring) v (omega arith) l.below))
      (after_least far far_below (opposite_not (length ring) v four l.below))
      (after_least (before (length ring) v) (before_in (length ring) v l.below)
      (λ e. before_other (length ring) v (omega arith) l.below (sym e)))
      (λ i. ear.is_empty far far_below (record {
        not_before = opposite_not_before (length ring) v four l.below;
        not_same = opposite_not (length ring) v four l.below;
        not_after = opposite_not_after (length ring) v four l.below;
        is_inside = i;
      }))
      (λ m h k. sides_apart ring v (omega arith) l.below simple l.turns_left m
      (on_edge_back (corner_at ring v) (previous ring v) m h) k)
      (λ m h k. sides_apart_before ring v (omega arith) l.below simple l.turns_left m h
      (subst (λ z. IsOnEdge m (corner_at ring z) (previous ring v)) (sym (opposite_before (length ring) v four l.below)) k))
