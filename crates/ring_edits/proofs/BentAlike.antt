-- A simple ring that goes round each point as often as other rings together does not bend at a corner where none of these bends.
use Rattle.std.proofs.Common.{◌≡◌, ◌≢◌, ◌⊎◌, inl, inr, ⊎_elim, sym, ◌∙◌, ap, subst, arith, ℕ, suc, ◌-◌, ◌<◌, ◌≤◌}
use Rattle.std.proofs.Common.{ℤ, pos, neg_ℤ, ◌+ℤ◌, ◌-ℤ◌, List, [], ◌∷◌, length, get_or}
use Rattle.std.specs.List.{AllByRecursion, Contains}
use Rattle.std.proofs.lemmas.Bool.Decides.{nat_tests}
use Rattle.std.proofs.lemmas.Int.{ints, by_lt_z}
use lib.Signed.{◌<ℤ◌, ◌≤ℤ◌}
use Rattle.geo_exact.specs.declared.corner.Corner.{Corner}
use Rattle.geo_exact.specs.Places.{corner_at, origin, after, before}
use Rattle.geo_exact.specs.Point.{Point, corner_point}
use Rattle.geo_exact.specs.Rings.{edges, sum_over, begun_at}
use Rattle.geo_exact.specs.Segments.{IsStrictlyInside}
use Rattle.geo_exact.specs.Turn.{turn, IsOnEdge}
use Rattle.geo_exact.specs.Winding.{winding}
use Rattle.geo_exact.proofs.corners_and_turns.OnEdge.{ends_on, on_edge_back, on_edge_start, on_edge_end}
use Rattle.geo_exact.proofs.corners_and_turns.SameCorner.{corner_same}
use Rattle.geo_exact.proofs.corners_and_turns.TurnLaws.{turn_cycle, turn_swap}
use Rattle.geo_exact.proofs.numbers.Orders.{le_of_lt}
use Rattle.geo_exact.proofs.rings.Begun.{sum_over-begun}
use Rattle.geo_exact.proofs.rings.EdgeSums.{sum_over-append}
use Rattle.ring_core.specs.Clipping.{previous, next}
use Rattle.ring_core.specs.Simple.{IsSimpleRing}
use Rattle.ring_core.proofs.edges.CommonPoints.{on_edge_by_x, on_edge_by_y}
use Rattle.ring_core.proofs.edges.Corners.{three_corners}
use Rattle.ring_core.proofs.edges.RoundNumbers.{before_in, after_in, before_other, after_other, neighbours_apart}
use Rattle.ring_core.proofs.ears.BegunElsewhere.{number_from, is_begun, begun_length}
use Rattle.ring_core.proofs.ears.LeastCorners.{AreApart, place_of}
use Rattle.ring_core.proofs.ears.LeftSimple.{after_before, apart_meet}
use Rattle.edge_chains.specs.Net.{all_edges, winding_of_rings}
use Rattle.edge_chains.proofs.jumps.Alike.{sums_alike}
use Rattle.ring_edits.specs.Edits.{BendsAt}
use Rattle.ring_edits.proofs.Apart.{simple_apart}
use Rattle.ring_edits.proofs.Passing.{passing, on_line, passing_turns, passing_adds, all_straight, path_round, flag_of_zero, zero_of_flag}
use Rattle.ring_edits.proofs.SameRuns.{begun_apart, split_apart}

-- ---- three corners on one line: one of them is on the edge between the other two
abbrev OneBetween : (p c n : Corner) → Type 0
OneBetween p c n = IsOnEdge (corner_point c) p n ⊎ (IsOnEdge (corner_point p) c n ⊎ IsOnEdge (corner_point n) p c)

exchanged : (p c n : Corner) → OneBetween c p n → OneBetween p c n
exchanged p c n (inl h) = inr (inl h)
exchanged p c n (inr (inl h)) = inl h
exchanged p c n (inr (inr h)) = inr (inr (on_edge_back c p (corner_point n) h))

-- by a number that rises along the line, from p to c
between_by : (h : Corner → ℤ)
    → ((a b d : Corner) → h a <ℤ h b → h a ≤ℤ h d → h d ≤ℤ h b → turn a b d ≡ pos 0 → IsOnEdge (corner_point d) a b)
    → (p c n : Corner) → turn p c n ≡ pos 0 → h p <ℤ h c → OneBetween p c n
between_by h on p c n e up =
    by_lt_z (h n) (h c)
    (λ low. by_lt_z (h n) (h p)
    (λ lower. inr (inl (on_edge_back n c (corner_point p) (on n c p low (le_of_lt (h n) (h p) lower) (le_of_lt (h p) (h c) up) back))))
    (λ high. inr (inr (on p c n up high (le_of_lt (h n) (h c) low) e))))
    (λ high. inl (on p n c (above up high) (le_of_lt (h p) (h c) up) high over))
  where
    above : h p <ℤ h c → h c ≤ℤ h n → h p <ℤ h n
    above x y = omega (arith, ints)

    -- turn n c p
    back : turn n c p ≡ pos 0
    back = turn_swap c n p ∙ ap neg_ℤ (turn_cycle p c n ∙ e)

    -- turn p n c
    over : turn p n c ≡ pos 0
    over = sym (turn_cycle p n c) ∙ back

one_between : (p c n : Corner) → p ≢ c → turn p c n ≡ pos 0 → OneBetween p c n
one_between p c n apart e =
    by_lt_z p.x c.x (λ l. between_by (λ a. a.x) on_edge_by_x p c n e l)
    (λ g. by_lt_z c.x p.x (λ l. exchanged p c n (between_by (λ a. a.x) on_edge_by_x c p n turned l))
    (λ g'. by_lt_z p.y c.y (λ l. between_by (λ a. a.y) on_edge_by_y p c n e l)
    (λ k. by_lt_z c.y p.y (λ l. exchanged p c n (between_by (λ a. a.y) on_edge_by_y c p n turned l))
    (λ k'. absurd (apart (corner_same p c (omega (arith, ints)) (omega (arith, ints))))))))
  where
    turned : turn c p n ≡ pos 0
    turned = turn_swap p c n ∙ ap neg_ℤ e

-- ---- numbers round a ring
from_first : (n k : ℕ) → k < n → number_from n k 0 ≡ k
from_first n k h = grind (arith, nat_tests)

from_second : (n k : ℕ) → k < n → 1 < n → number_from n k 1 ≡ after n k
from_second n k h l = grind (arith, nat_tests)

from_last : (n k m : ℕ) → k < n → n ≡ suc m → number_from n k m ≡ before n k
from_last n k m h e = grind (arith, nat_tests)

-- a list of two and more by its first two
two_first : (xs : List Corner) (at : Corner) → 2 ≤ length xs → corner_at xs 0 ≡ at
    → (x : Corner) × (rest : List Corner) × (xs ≡ at ∷ x ∷ rest)
two_first [] at h e = absurd (omega (arith, h))
two_first (a ∷ []) at h e = absurd (omega (arith, h))
two_first (a ∷ x ∷ rest) at h e = (x, rest, ap (λ c. c ∷ x ∷ rest) e)

-- ---- corner k of a simple ring
module _ (ring : List Corner) (k : ℕ) (simple : IsSimpleRing ring) (below : k < length ring) where
  abbrev n : ℕ
  n = length ring

  three : 3 ≤ n
  three = three_corners ring simple.counterclockwise

  apart : AreApart ring
  apart = simple_apart ring simple

  -- where it has its neighbours on one line with it, it is strictly between them
  not_both : (c : Corner) → c ≢ corner_at ring k → IsOnEdge (corner_point c) (previous ring k) (corner_at ring k)
      → IsOnEdge (corner_point c) (corner_at ring k) (next ring k) → ⊥
  not_both c off h i =
      apart_meet ring simple.simple (before n k) k (before_in n k below) below
      (λ e. before_other n k (omega (arith, three)) below (sym e)) (corner_point c)
      (subst (λ j. IsOnEdge (corner_point c) (previous ring k) (corner_at ring j)) (sym (after_before n k below)) h) i
      (λ s. ⊎_elim (λ z. off (place_of c (corner_at ring k) z.1))
      (λ z. neighbours_apart n k (omega (arith, three)) below (sym z.0)) s)

  off_previous : corner_at ring k ≢ previous ring k
  off_previous = apart k (before n k) below (before_in n k below) (before_other n k (omega (arith, three)) below)

  off_next : corner_at ring k ≢ next ring k
  off_next = apart k (after n k) below (after_in n k below) (λ e. after_other n k (omega (arith, three)) below (sym e))

  strictly_between : turn (corner_at ring k) (previous ring k) (next ring k) ≡ pos 0
      → IsStrictlyInside (corner_at ring k) (previous ring k) (next ring k)
  strictly_between e =
      ⊎_elim (λ on. record { on_edge = on; not_start = off_previous; not_end = off_next })
      (⊎_elim
      (λ on. absurd (not_both (previous ring k) (λ s. off_previous (sym s)) (on_edge_start (previous ring k) (corner_at ring k)) on))
      (λ on. absurd (not_both (next ring k) (λ s. off_next (sym s)) on (on_edge_end (corner_at ring k) (next ring k)))))
      (one_between (previous ring k) (corner_at ring k) (next ring k) (λ s. off_previous (sym s))
      (turn_swap (corner_at ring k) (previous ring k) (next ring k) ∙ ap neg_ℤ e))

  -- what passes through it
  passes : sum_over (passing (corner_at ring k) (previous ring k)) (edges ring)
      ≡ on_line (corner_at ring k) (previous ring k) (next ring k) -ℤ on_line (corner_at ring k) (previous ring k) (previous ring k)
  passes =
      let at = corner_at ring k in
      let d = previous ring k in
      let begun = is_begun ring k below in
      let w = two_first (begun_at k ring) at (omega (arith, three, begun_length ring k below))
      (begun.same.corners 0 (omega (arith, three)) ∙ ap (corner_at ring) (from_first n k below)) in
      let m : suc (suc (length w.1)) ≡ n = sym (ap length w.2) ∙ begun_length ring k below in
      let second : w.0 ≡ next ring k =
      ap (λ xs. corner_at xs 1) (sym w.2) ∙ begun.same.corners 1 (omega (arith, three))
      ∙ ap (corner_at ring) (from_second n k below (omega (arith, three))) in
      let last : get_or (w.0 ∷ w.1) (length w.1) origin ≡ d =
      ap (λ xs. corner_at xs (suc (length w.1))) (sym w.2) ∙ begun.same.corners (suc (length w.1)) (omega (arith, m))
      ∙ ap (corner_at ring) (from_last n k (suc (length w.1)) below (sym m)) in
      let alone : Contains (w.0 ∷ w.1) at → ⊥ = (split_apart at [] (w.0 ∷ w.1) (subst AreApart w.2 (begun_apart ring k below apart))).1 in
      sym (sum_over-begun (passing at d) k ring (omega (arith, below)))
      ∙ ap (λ xs. sum_over (passing at d) (edges xs)) w.2
      ∙ path_round at d w.0 w.1 alone
      ∙ ap (λ x. on_line at d x -ℤ on_line at d (get_or (w.0 ∷ w.1) (length w.1) origin)) second
      ∙ ap (λ x. on_line at d (next ring k) -ℤ on_line at d x) last

  -- where nothing does, it is strictly between its neighbours
  passed_by : sum_over (passing (corner_at ring k) (previous ring k)) (edges ring) ≡ pos 0
      → IsStrictlyInside (corner_at ring k) (previous ring k) (next ring k)
  passed_by h =
      let at = corner_at ring k in
      let d = previous ring k in
      strictly_between (zero_of_flag (turn at d (next ring k))
      (one (on_line at d (next ring k)) (on_line at d d) (sym passes ∙ h) (flag_of_zero (turn at d d) (ends_on at d))))
    where
      one : (x y : ℤ) → x -ℤ y ≡ pos 0 → y ≡ pos 1 → x ≡ pos 1
      one x y e f = omega (arith, ints)

-- ---- the rings together
pub bends_alike : (at : Corner) (rings : List (List Corner)) (city : List Corner) → IsSimpleRing city
    → ((p : Point) → winding_of_rings p rings ≡ winding p city)
    → AllByRecursion (λ ring. ¬ BendsAt at ring) rings → ¬ BendsAt at city
bends_alike at rings city simple alike straight bends =
    bends.is_not_flat
    (subst (λ c. IsStrictlyInside c (previous city bends.place) (next city bends.place)) bends.is_there
    (passed_by city bends.place simple bends.in_ring
    (subst (λ c. sum_over (passing c d) (edges city) ≡ pos 0) (sym bends.is_there) none)))
  where
    d : Corner
    d = previous city bends.place

    alone : (z : ℤ) → z ≡ z +ℤ pos 0
    alone z = omega (arith, ints)

    none : sum_over (passing at d) (edges city) ≡ pos 0
    none =
        one (sum_over (passing at d) (edges city)) (sum_over (passing at d) (all_edges (city ∷ [])))
        (sum_over-append (passing at d) (edges city) [])
        (sym (sums_alike (passing at d) (passing_turns at d) (passing_adds at d) rings (city ∷ []) (λ p. alike p ∙ alone (winding p city)))
        ∙ all_straight at d rings straight)
      where
        one : (x y : ℤ) → y ≡ x +ℤ pos 0 → y ≡ pos 0 → x ≡ pos 0
        one x y e f = omega (arith, ints)
