-- A ring turned round: its corners the other way round. It is as simple and as flat, and turns left where the ring turns right; and without
-- a corner it is the ring without that corner, turned round.
use Rattle.std.proofs.Common.{◌≡◌, ◌≢◌, inl, inr, ⊎_elim, ℕ, ◌+◌, ◌-◌, ◌<◌, ◌∙◌, sym, ap, subst, refl}
use Rattle.std.proofs.Common.{arith, if◌then◌else◌}
use Rattle.std.proofs.Common.{List, [], ◌∷◌, length, zero, suc, ◌==◌}
use Rattle.std.proofs.lemmas.List.{length-reverse, get_or-reverse}
use Rattle.geo_exact.specs.Rings.{turned_round}
use Rattle.std.specs.List.{remove}
use Rattle.std.proofs.lemmas.Bool.Decides.{nat_tests}
use lib.IntN.{neg_ℤ}
use Rattle.geo_exact.specs.declared.corner.Corner.{Corner}
use Rattle.geo_exact.specs.Point.{Point, IsPlaceOf, corner_point}
use Rattle.geo_exact.specs.Turn.{turn, IsOnEdge}
use Rattle.geo_exact.specs.Places.{origin, corner_at, after, before}
use Rattle.geo_exact.proofs.corners_and_turns.OnEdge.{on_edge_back}
use Rattle.geo_exact.proofs.corners_and_turns.TurnLaws.{turn_cycle, turn_swap}
use Rattle.ring_core.specs.Simple.{IsOnEdgeAt, MeetOnlyAsNeighbours}
use Rattle.ring_core.specs.Clipping.{previous, next, IsFlat}
use Rattle.ring_core.specs.own.Kinds.{number_before}
use Rattle.ring_core.proofs.edges.RoundNumbers.{before_in, after_in}
use Rattle.ring_core.proofs.clipping.TakenOut.{corner_kept}
use Rattle.ring_core.proofs.ears.LeftSimple.{same_or, apart_meet, after_before, number_kept, number_over, number_not, clipped_simple}
use Rattle.ring_core.proofs.ears.EarWords.{IsFlatOrEar}
use Rattle.ring_core.proofs.ears.Renumbered.{AreSameCorners, same_back, same_number, flat_like}
use Rattle.ring_core.proofs.ears.WithoutCorner.{number_left, left_before, before_left, number_back, number_back_over}
use Rattle.ring_core.proofs.ears.WithoutCorner.{one_fewer, number_within, left_within}

-- `other` has the same corners, the other way round
pub record IsTurnedRound (other ring : List Corner) (to back : ℕ → ℕ) : Type 0 where
  pub same : AreSameCorners other ring to back
  pub turns : (i : ℕ) → i < length ring → to (after (length ring) i) ≡ before (length ring) (to i)

module _ (other ring : List Corner) (to back : ℕ → ℕ) (h : IsTurnedRound other ring to back) where
  pub turns_back : (i : ℕ) → i < length ring → to (before (length ring) i) ≡ after (length ring) (to i)
  turns_back i b =
      sym (after_before (length ring) (to (before (length ring) i)) (h.same.inside (before (length ring) i) (before_in (length ring) i b)))
      ∙ ap (after (length ring))
      (sym (h.turns (before (length ring) i) (before_in (length ring) i b)) ∙ ap to (after_before (length ring) i b))

  pub next_is : (i : ℕ) → i < length ring → next other i ≡ previous ring (to i)
  next_is i b =
      ap (λ n. corner_at other (after n i)) h.same.as_many
      ∙ h.same.corners (after (length ring) i) (after_in (length ring) i b)
      ∙ ap (corner_at ring) (h.turns i b)

  pub previous_is : (i : ℕ) → i < length ring → previous other i ≡ next ring (to i)
  previous_is i b =
      ap (λ n. corner_at other (before n i)) h.same.as_many
      ∙ h.same.corners (before (length ring) i) (before_in (length ring) i b)
      ∙ ap (corner_at ring) (turns_back i b)

-- turned round twice it is the ring
pub turned_back : (other ring : List Corner) (to back : ℕ → ℕ) → IsTurnedRound other ring to back
    → IsTurnedRound ring other back to
turned_back other ring to back h = record {
  same = same_back other ring to back h.same;
  turns = λ i b. subst (λ n. back (after n i) ≡ before n (back i)) (sym h.same.as_many)
      (let c : i < length ring = subst (λ n. i < n) h.same.as_many b in
      let d : back i < length ring = h.same.back_inside i c in
      ap (λ z. back (after (length ring) z)) (sym (h.same.and_forth i c))
      ∙ ap back (sym (turns_back other ring to back h (back i) d))
      ∙ h.same.and_back (before (length ring) (back i)) (before_in (length ring) (back i) d));
}

pub turn_back : (a b c : Corner) → turn c b a ≡ neg_ℤ (turn a b c)
turn_back a b c = turn_cycle a c b ∙ turn_cycle b a c ∙ turn_swap a b c

module _ (other ring : List Corner) (to back : ℕ → ℕ) (h : IsTurnedRound other ring to back) where
  -- a left turn of `other` is a right turn of the ring
  pub turn_there : (i : ℕ) → i < length ring
      → turn (previous other i) (corner_at other i) (next other i)
      ≡ neg_ℤ (turn (previous ring (to i)) (corner_at ring (to i)) (next ring (to i)))
  turn_there i b =
      ap (λ c. turn c (corner_at other i) (next other i)) (previous_is other ring to back h i b)
      ∙ ap (λ c. turn (next ring (to i)) c (next other i)) (h.same.corners i b)
      ∙ ap (λ c. turn (next ring (to i)) (corner_at ring (to i)) c) (next_is other ring to back h i b)
      ∙ turn_back (previous ring (to i)) (corner_at ring (to i)) (next ring (to i))

  pub flat_there : (i : ℕ) → i < length ring → IsFlat other i → IsFlat ring (to i)
  flat_there i b f =
      on_edge_back (next ring (to i)) (previous ring (to i)) (corner_point (corner_at ring (to i)))
      (flat_like (previous other i) (corner_at other i) (next other i) (next ring (to i)) (corner_at ring (to i)) (previous ring (to i))
      (sym (previous_is other ring to back h i b)) (sym (h.same.corners i b)) (sym (next_is other ring to back h i b)) f)

  -- edge i of `other` is the edge of the ring to corner `to i`
  edge_turned : (q : Point) (i : ℕ) → i < length ring → IsOnEdgeAt q other i → IsOnEdgeAt q ring (before (length ring) (to i))
  edge_turned q i b on =
      on_edge_back (corner_at ring (after (length ring) (before (length ring) (to i)))) (previous ring (to i)) q
      (subst (λ z. IsOnEdge q (corner_at ring z) (previous ring (to i))) (sym (after_before (length ring) (to i) (h.same.inside i b)))
      (subst (λ z. IsOnEdge q z (previous ring (to i))) (h.same.corners i b)
      (subst (λ z. IsOnEdge q (corner_at other i) z) (next_is other ring to back h i b) on)))

  shared_turned : (q : Point) (i j : ℕ) → i < length ring → j < length ring
      → before (length ring) (to j) ≡ after (length ring) (before (length ring) (to i))
      → IsPlaceOf q (corner_at ring (before (length ring) (to j)))
      → (i ≡ after (length other) j) × IsPlaceOf q (corner_at other i)
  shared_turned q i j bi bj e at =
      let f : before (length ring) (to j) ≡ to i = e ∙ after_before (length ring) (to i) (h.same.inside i bi) in (
        subst (λ n. i ≡ after n j) (sym h.same.as_many)
            (same_number other ring to back h.same i (after (length ring) j) bi (after_in (length ring) j bj)
            (sym f ∙ sym (h.turns j bj))),
        subst (IsPlaceOf q) (ap (corner_at ring) f ∙ sym (h.same.corners i bi)) at,
      )

  same_before : (i j : ℕ) → i < length ring → j < length ring → before (length ring) (to i)
      ≡ before (length ring) (to j) → i ≡ j
  same_before i j bi bj e =
      same_number other ring to back h.same i j bi bj
      (sym (after_before (length ring) (to i) (h.same.inside i bi)) ∙ ap (after (length ring)) e
      ∙ after_before (length ring) (to j) (h.same.inside j bj))

  pub simple_here : MeetOnlyAsNeighbours ring → MeetOnlyAsNeighbours other
  simple_here simple i j o b m =
      let bj : j < length ring = subst (λ n. j < n) h.same.as_many b in
      let bi : i < length ring = omega arith in
      apart_meet ring simple (before (length ring) (to i)) (before (length ring) (to j))
      (before_in (length ring) (to i) (h.same.inside i bi)) (before_in (length ring) (to j) (h.same.inside j bj))
      (λ e. let f : i ≡ j = same_before i j bi bj e in omega arith) m.0
      (edge_turned m.0 i bi m.1) (edge_turned m.0 j bj m.2)
      (λ s. m.3 (⊎_elim
      (λ x. inr (shared_turned m.0 i j bi bj x.0 x.1))
      (λ x. inl (shared_turned m.0 j i bj bi x.0 x.1)) s))

-- ---- without a corner
module _ (other ring : List Corner) (to back : ℕ → ℕ) (h : IsTurnedRound other ring to back) (k : ℕ) (below : k < length ring)
    (big : 2 < length ring) where
  -- the number that corner j of what is left of `other` has in what is left of the ring
  abbrev pub to_left : ℕ → ℕ
  to_left j = number_left (to k) (to (number_before k j))

  abbrev pub back_left : ℕ → ℕ
  back_left j = number_left k (back (number_before (to k) j))

  other_below : k < length other
  other_below = subst (λ n. k < n) (sym h.same.as_many) below

  as_many_left : length (remove other k) ≡ length (remove ring (to k))
  as_many_left =
      omega (arith, one_fewer other k other_below, one_fewer ring (to k) (h.same.inside k below), h.same.as_many)

  was_in : (j : ℕ) → j < length (remove ring (to k)) → number_before k j < length ring
  was_in j b = subst (λ n. number_before k j < n) h.same.as_many
      (number_within other k other_below j (subst (λ n. j < n) (sym as_many_left) b))

  was_not : (j : ℕ) → j < length (remove ring (to k)) → to (number_before k j) ≢ to k
  was_not j b e = number_not k j (same_number other ring to back h.same (number_before k j) k (was_in j b) below e)

  back_in : (j : ℕ) → j < length (remove ring (to k)) → number_before (to k) j < length ring
  back_in j b = number_within ring (to k) (h.same.inside k below) j b

  back_not : (j : ℕ) → j < length (remove ring (to k)) → back (number_before (to k) j) ≢ k
  back_not j b e = number_not (to k) j (sym (h.same.and_forth (number_before (to k) j) (back_in j b)) ∙ ap to e)

  -- the corner there, by its number in the ring
  whole_number : (j : ℕ) → j < length (remove ring (to k)) → number_before (to k) (to_left j) ≡ to (number_before k j)
  whole_number j b = before_left (to k) (to (number_before k j)) (was_not j b)

  pub left_same : AreSameCorners (remove other k) (remove ring (to k)) to_left back_left
  left_same = record {
    as_many = as_many_left;
    inside = λ j b. left_within ring (to k) (h.same.inside k below) (to (number_before k j))
        (h.same.inside (number_before k j) (was_in j b)) (was_not j b);
    back_inside = λ j b. subst (λ n. back_left j < n) as_many_left
        (left_within other k other_below (back (number_before (to k) j))
        (subst (λ n. back (number_before (to k) j) < n) (sym h.same.as_many) (h.same.back_inside (number_before (to k) j) (back_in j b)))
        (back_not j b));
    corners = λ j b.
        corner_kept other k j other_below
        ∙ h.same.corners (number_before k j) (was_in j b)
        ∙ ap (corner_at ring) (sym (whole_number j b))
        ∙ sym (corner_kept ring (to k) (to_left j) (h.same.inside k below));
    and_back = λ j b.
        ap (λ z. number_left k (back z)) (whole_number j b)
        ∙ ap (number_left k) (h.same.and_back (number_before k j) (was_in j b))
        ∙ left_before k j;
    and_forth = λ j b.
        ap (λ z. number_left (to k) (to z)) (before_left k (back (number_before (to k) j)) (back_not j b))
        ∙ ap (number_left (to k)) (h.same.and_forth (number_before (to k) j) (back_in j b))
        ∙ left_before (to k) j;
  }

  -- what follows corner j in what is left of `other` precedes its corner in what is left of the ring: by the numbers in the ring
  after_there : (j : ℕ) → j < length (remove ring (to k))
      → to (number_before k (after (length (remove ring (to k))) j))
      ≡ number_before (to k) (before (length (remove ring (to k))) (to_left j))
  after_there j b =
      let fewer : length (remove ring (to k)) + 1 ≡ length ring = one_fewer ring (to k) (h.same.inside k below) in
      let c : to_left j < length (remove ring (to k)) = left_same.inside j b in
      ⊎_elim
      (λ on. ap to (number_over (length (remove ring (to k))) (length ring) k j fewer b below (omega (arith, fewer)) on)
      ∙ h.turns k below
      ∙ sym (number_back_over (length (remove ring (to k))) (length ring) (to k) (to_left j) fewer c (h.same.inside k below)
      (omega (arith, fewer)) (whole_number j b ∙ ap to on ∙ turns_back other ring to back h k below)))
      (λ off. ap to (number_kept (length (remove ring (to k))) (length ring) k j fewer b below off)
      ∙ h.turns (number_before k j) (was_in j b)
      ∙ ap (before (length ring)) (sym (whole_number j b))
      ∙ sym (number_back (length (remove ring (to k))) (length ring) (to k) (to_left j) fewer c (h.same.inside k below)
      (λ e. off (same_number other ring to back h.same (number_before k j) (before (length ring) k) (was_in j b)
      (before_in (length ring) k below) (sym (whole_number j b) ∙ e ∙ sym (turns_back other ring to back h k below))))))
      (same_or (number_before k j) (before (length ring) k))

  -- without a corner, `other` is the ring without that corner, turned round
  pub left_turned : IsTurnedRound (remove other k) (remove ring (to k)) to_left back_left
  left_turned = record {
    same = left_same;
    turns = λ j b.
        ap (number_left (to k)) (after_there j b) ∙ left_before (to k) (before (length (remove ring (to k))) (to_left j));
  }

-- what is flat, or an ear, in the ring turned round, leaves the ring simple where it is taken out
pub turned_clipped_simple : (other ring : List Corner) (to back : ℕ → ℕ) → IsTurnedRound other ring to back → (k : ℕ)
    → 3 < length ring
    → k < length ring → MeetOnlyAsNeighbours ring → IsFlatOrEar other k → MeetOnlyAsNeighbours (remove ring (to k))
turned_clipped_simple other ring to back h k big below simple x =
    simple_here (remove ring (to k)) (remove other k) (back_left other ring to back h k below (omega arith))
    (to_left other ring to back h k below (omega arith))
    (turned_back (remove other k) (remove ring (to k)) (to_left other ring to back h k below (omega arith))
    (back_left other ring to back h k below (omega arith)) (left_turned other ring to back h k below (omega arith)))
    (clipped_simple other k (omega (arith, h.same.as_many)) (omega (arith, h.same.as_many))
    (simple_here other ring to back h simple) x)

-- ---- the ring turned round, with its first corner first
abbrev pub number_round : ℕ → ℕ → ℕ
number_round n i = if i == 0 then 0 else n - i

pub round_in : (n i : ℕ) → i < n → number_round n i < n
round_in n i b = grind (arith, nat_tests)

pub round_round : (n i : ℕ) → i < n → number_round n (number_round n i) ≡ i
round_round n i b = grind (arith, nat_tests)

round_after : (n i : ℕ) → i < n → number_round n (after n i) ≡ before n (number_round n i)
round_after n i b = grind (arith, nat_tests)

round_next : (m i : ℕ) → i < m → suc (m - 1 - i) ≡ number_round (suc m) (suc i)
round_next m i h = grind (arith, nat_tests)

pub turned_length : (ring : List Corner) → length (turned_round ring) ≡ length ring
turned_length [] = refl
turned_length (first ∷ rest) = ap suc (length-reverse rest)

turned_corner : (ring : List Corner) (i : ℕ) → i < length ring
    → corner_at (turned_round ring) i ≡ corner_at ring (number_round (length ring) i)
turned_corner [] i b = absurd (omega arith)
turned_corner (first ∷ rest) zero b = refl
turned_corner (first ∷ rest) (suc i) b =
    get_or-reverse rest i origin (omega arith) ∙ ap (corner_at (first ∷ rest)) (round_next (length rest) i (omega arith))

pub is_turned_round : (ring : List Corner)
    → IsTurnedRound (turned_round ring) ring (number_round (length ring)) (number_round (length ring))
is_turned_round ring = record {
  same = record {
    as_many = turned_length ring;
    inside = λ i b. round_in (length ring) i b;
    back_inside = λ i b. round_in (length ring) i b;
    corners = λ i b. turned_corner ring i b;
    and_back = λ i b. round_round (length ring) i b;
    and_forth = λ i b. round_round (length ring) i b;
  };
  turns = λ i b. round_after (length ring) i b;
}
