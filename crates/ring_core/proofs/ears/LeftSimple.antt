-- A simple ring stays simple where a flat corner, or an ear of either turn, is taken out.
use Rattle.std.proofs.Common.{◌≡◌, ◌≢◌, ◌⊎◌, inl, inr, ⊎_elim, ℕ, ◌+◌, ◌<◌, ◌∙◌, sym, ap, subst, refl}
use Rattle.std.proofs.Common.{arith, List, length}
use Rattle.std.specs.List.{remove}
use Rattle.std.proofs.lemmas.Bool.{cases_lt}
use Rattle.std.proofs.lemmas.Bool.Decides.{nat_tests}
use Rattle.geo_exact.specs.declared.corner.Corner.{Corner}
use Rattle.geo_exact.specs.Point.{Point, IsPlaceOf}
use Rattle.geo_exact.specs.Turn.{IsOnEdge}
use Rattle.geo_exact.specs.Places.{corner_at, after, before}
use Rattle.ring_core.specs.Simple.{IsOnEdgeAt, IsSharedCorner, MeetOnlyAsNeighbours}
use Rattle.ring_core.specs.Clipping.{previous, next, IsFlat, IsEar, Blocks}
use Rattle.ring_core.specs.own.Kinds.{number_before}
use Rattle.ring_core.proofs.edges.RoundNumbers.{before_in, after_in}
use Rattle.ring_core.proofs.clipping.TakenOut.{corner_kept}
use Rattle.ring_core.proofs.clipping.ClipSteps.{one_less}
use Rattle.ring_core.proofs.clipping.Gaps.{IsBeside, IsOutside, ear_gap, flat_gap}

-- ---- numbers round a ring of n corners, and of m without corner k
pub number_kept : (m n k j : ℕ) → m + 1 ≡ n → j < m → k < n → number_before k j ≢ before n k
    → number_before k (after m j) ≡ after n
    (number_before k j)
number_kept m n k j e h i off = grind (arith, nat_tests)

pub number_over : (m n k j : ℕ) → m + 1 ≡ n → j < m → k < n → 1 < m → number_before k j ≡ before n k
    → number_before k (after m j) ≡ after n k
number_over m n k j e h i l on = grind (arith, nat_tests)

pub number_same : (k i j : ℕ) → number_before k i ≡ number_before k j → i ≡ j
number_same k i j e = grind (arith, nat_tests)

pub number_in : (m n k j : ℕ) → m + 1 ≡ n → j < m → number_before k j < n
number_in m n k j e h = grind (arith, nat_tests)

pub number_not : (k j : ℕ) → number_before k j ≢ k
number_not k j = grind (arith, nat_tests)

pub after_before : (n k : ℕ) → k < n → after n (before n k) ≡ k
after_before n k h = grind (arith, nat_tests)

pub before_of_after : (n k f : ℕ) → f < n → k ≡ after n f → f ≡ before n k
before_of_after n k f h e = grind (arith, nat_tests)

pub after_same : (n k f : ℕ) → f < n → k < n → after n f ≡ after n k → f ≡ k
after_same n k f h i e = grind (arith, nat_tests)

not_three : (n k f : ℕ) → 3 < n → k < n → f ≡ after n k → after n f ≡ before n k → ⊥
not_three n k f h i e g = grind (arith, nat_tests)

pub same_or : (i j : ℕ) → (i ≡ j) ⊎ (i ≢ j)
same_or i j = ⊎_elim (λ h. inr (λ e. omega arith)) (λ h. ⊎_elim (λ g. inr (λ e. omega arith)) (λ g. inl (omega arith))
    (cases_lt j i)) (cases_lt i j)

-- ---- the edges of a ring meet only as neighbours: in whichever order two of them are named
shared_back : (q : Point) (ring : List Corner) (i j : ℕ) → IsSharedCorner q ring i j → IsSharedCorner q ring j i
shared_back q ring i j (inl h) = inr h
shared_back q ring i j (inr h) = inl h

pub apart_meet : (ring : List Corner) → MeetOnlyAsNeighbours ring → (i j : ℕ) → i < length ring → j < length ring → i ≢ j
    → (q : Point) → IsOnEdgeAt q ring i → IsOnEdgeAt q ring j → ¬ IsSharedCorner q ring i j → ⊥
apart_meet ring h i j bi bj off q on_i on_j not =
    ⊎_elim
    (λ o. h i j o bj (q, on_i, on_j, not))
    (λ o. h j i (omega arith) bi (q, on_j, on_i, λ s. not (shared_back q ring j i s)))
    (cases_lt i j)

-- what edge f of the ring, beside corner k, may have in common with the edge across the gap at k
abbrev GapIsFree : List Corner → ℕ → Type 0
GapIsFree ring k = (f : ℕ) → f < length ring → f ≢ before (length ring) k → f ≢ k
    → (q : Point) → IsOnEdgeAt q ring f → IsOnEdge q (previous ring k) (next ring k)
    → ¬ ((f ≡ after (length ring) k) × IsPlaceOf q (next ring k))
    → ¬ ((after (length ring) f ≡ before (length ring) k) × IsPlaceOf q (previous ring k)) → ⊥

module _ (ring : List Corner) (k : ℕ) (big : 3 < length ring) (below : k < length ring) (simple : MeetOnlyAsNeighbours ring) where
  -- ---- the gap is free
  pub beside : (f : ℕ) → f < length ring → f ≢ before (length ring) k → f ≢ k
      → IsBeside (previous ring k) (corner_at ring k) (next ring k) (corner_at ring f) (corner_at ring (after (length ring) f))
      (f ≡ after (length ring) k) (after (length ring) f ≡ before (length ring) k)
  beside f b not_before not_k = record {
    first = λ q i j not.
        apart_meet ring simple (before (length ring) k) f (before_in (length ring) k below) b (λ e. not_before (sym e)) q
        (subst (λ z. IsOnEdge q (previous ring k) (corner_at ring z)) (sym (after_before (length ring) k below)) i) j
        (λ s. ⊎_elim (λ z. not_k (z.0 ∙ after_before (length ring) k below)) (λ z. not (sym z.0, z.1)) s);
    second = λ q i j not.
        apart_meet ring simple k f below b (λ e. not_k (sym e)) q i j
        (λ s. ⊎_elim (λ z. not (z.0, subst (λ x. IsPlaceOf q (corner_at ring x)) z.0 z.1))
        (λ z. not_before (before_of_after (length ring) k f b z.0)) s);
    starts = λ e. ap (corner_at ring) e;
    ends = λ e. ap (corner_at ring) e;
    starts_or = same_or f (after (length ring) k);
    ends_or = same_or (after (length ring) f) (before (length ring) k);
    not_both = not_three (length ring) k f big below;
  }

  flat_is_free : IsFlat ring k → GapIsFree ring k
  flat_is_free flat f b not_before not_k =
      flat_gap (previous ring k) (corner_at ring k) (next ring k) (corner_at ring f) (corner_at ring (after (length ring) f))
      (f ≡ after (length ring) k) (after (length ring) f ≡ before (length ring) k) flat (beside f b not_before not_k)

  pub outside : ((j : ℕ) → j < length ring → ¬ Blocks ring k j) → (f : ℕ) → f < length ring
      → f ≢ before (length ring) k → f ≢ k
      → IsOutside (previous ring k) (corner_at ring k) (next ring k) (corner_at ring f) (corner_at ring (after (length ring) f))
      (f ≡ after (length ring) k) (after (length ring) f ≡ before (length ring) k)
  outside none f b not_before not_k = record {
    start = λ not i. none f b (record { not_before = not_before; not_same = not_k; not_after = not; is_inside = i });
    end = λ not i. none (after (length ring) f) (after_in (length ring) f b) (record {
      not_before = not;
      not_same = λ e. not_before (before_of_after (length ring) k f b (sym e));
      not_after = λ e. not_k (after_same (length ring) k f b below e);
      is_inside = i;
    });
  }

  ear_is_free : IsEar ring k → GapIsFree ring k
  ear_is_free ear f b not_before not_k =
      ear_gap (previous ring k) (corner_at ring k) (next ring k) (corner_at ring f) (corner_at ring (after (length ring) f))
      (f ≡ after (length ring) k) (after (length ring) f ≡ before (length ring) k) ear.turns_left (beside f b not_before not_k)
      (outside ear.is_empty f b not_before not_k)

  -- ---- the ring without corner k
  module _ (free : GapIsFree ring k) where
    fewer : length (remove ring k) + 1 ≡ length ring
    fewer = one_less ring (remove ring k) k below refl

    -- an edge that was there
    old_edge : (q : Point) (j : ℕ) → j < length (remove ring k) → number_before k j ≢ before (length ring) k
        → IsOnEdgeAt q (remove ring k) j → IsOnEdgeAt q ring (number_before k j)
    old_edge q j b off on =
        subst (λ z. IsOnEdge q (corner_at ring (number_before k j)) (corner_at ring z))
        (number_kept (length (remove ring k)) (length ring) k j fewer b below off)
        (subst (λ z. IsOnEdge q (corner_at ring (number_before k j)) z) (corner_kept ring k (after (length (remove ring k)) j) below)
        (subst (λ z. IsOnEdge q z (corner_at (remove ring k) (after (length (remove ring k)) j))) (corner_kept ring k j below) on))

    -- the edge across the gap
    new_edge : (q : Point) (j : ℕ) → j < length (remove ring k) → number_before k j ≡ before (length ring) k
        → IsOnEdgeAt q (remove ring k) j → IsOnEdge q (previous ring k) (next ring k)
    new_edge q j b e on =
        subst (λ z. IsOnEdge q (corner_at ring z) (next ring k)) e
        (subst (λ z. IsOnEdge q (corner_at ring (number_before k j)) (corner_at ring z))
        (number_over (length (remove ring k)) (length ring) k j fewer b below (omega (arith, fewer)) e)
        (subst (λ z. IsOnEdge q (corner_at ring (number_before k j)) z) (corner_kept ring k (after (length (remove ring k)) j) below)
        (subst (λ z. IsOnEdge q z (corner_at (remove ring k) (after (length (remove ring k)) j))) (corner_kept ring k j below) on)))

    place_kept : (q : Point) (i j : ℕ) → number_before k j ≡ i → IsPlaceOf q (corner_at ring i) → IsPlaceOf q
        (corner_at (remove ring k) j)
    place_kept q i j e h = subst (IsPlaceOf q) (sym (corner_kept ring k j below ∙ ap (corner_at ring) e)) h

    -- edge i crosses the gap, and edge j was there
    over_and_old : (i j : ℕ) → i < length (remove ring k) → j < length (remove ring k) → number_before k i
        ≡ before (length ring) k
        → number_before k j ≢ before (length ring) k → (q : Point) → IsOnEdgeAt q (remove ring k) i
        → IsOnEdgeAt q (remove ring k) j
        → ¬ IsSharedCorner q (remove ring k) i j → ⊥
    over_and_old i j bi bj e off q on_i on_j not =
        free (number_before k j) (number_in (length (remove ring k)) (length ring) k j fewer bj) off (number_not k j) q
        (old_edge q j bj off on_j) (new_edge q i bi e on_i)
        (λ z. not (inl (
          number_same k j (after (length (remove ring k)) i)
              (z.0 ∙ sym (number_over (length (remove ring k)) (length ring) k i fewer bi below (omega (arith, fewer)) e)),
          place_kept q (after (length ring) k) j z.0 z.1,
        )))
        (λ z. not (inr (
          number_same k i (after (length (remove ring k)) j)
              (e ∙ sym z.0 ∙ sym (number_kept (length (remove ring k)) (length ring) k j fewer bj below off)),
          place_kept q (before (length ring) k) i e z.1,
        )))

    -- both were there
    both_old : (i j : ℕ) → i < length (remove ring k) → j < length (remove ring k) → i ≢ j
        → number_before k i ≢ before (length ring) k
        → number_before k j ≢ before (length ring) k → (q : Point) → IsOnEdgeAt q (remove ring k) i
        → IsOnEdgeAt q (remove ring k) j
        → ¬ IsSharedCorner q (remove ring k) i j → ⊥
    both_old i j bi bj apart off_i off_j q on_i on_j not =
        apart_meet ring simple (number_before k i) (number_before k j)
        (number_in (length (remove ring k)) (length ring) k i fewer bi) (number_in (length (remove ring k)) (length ring) k j fewer bj)
        (λ e. apart (number_same k i j e)) q (old_edge q i bi off_i on_i) (old_edge q j bj off_j on_j)
        (λ s. ⊎_elim
        (λ z. not (inl (
          number_same k j (after (length (remove ring k)) i)
              (z.0 ∙ sym (number_kept (length (remove ring k)) (length ring) k i fewer bi below off_i)),
          place_kept q
              (number_before k j) j refl z.1,
        )))
        (λ z. not (inr (
          number_same k i (after (length (remove ring k)) j)
              (z.0 ∙ sym (number_kept (length (remove ring k)) (length ring) k j fewer bj below off_j)),
          place_kept q
              (number_before k i) i refl z.1,
        )))
        s)

    left_simple : MeetOnlyAsNeighbours (remove ring k)
    left_simple i j o b m =
        ⊎_elim
        (λ e. ⊎_elim
        (λ f. absurd (let s : i ≡ j = number_same k i j (e ∙ sym f) in omega arith))
        (λ off. over_and_old i j (omega arith) b e off m.0 m.1 m.2 m.3)
        (same_or (number_before k j) (before (length ring) k)))
        (λ off. ⊎_elim
        (λ f. over_and_old j i b (omega arith) f off m.0 m.2 m.1 (λ s. m.3 (shared_back m.0 (remove ring k) j i s)))
        (λ off_j. both_old i j (omega arith) b (λ e. omega arith) off off_j m.0 m.1 m.2 m.3)
        (same_or (number_before k j) (before (length ring) k)))
        (same_or (number_before k i) (before (length ring) k))

-- what clipping takes out leaves a simple ring
pub clipped_simple : (ring : List Corner) (k : ℕ) → 3 < length ring → k < length ring → MeetOnlyAsNeighbours ring
    → IsFlat ring k ⊎ IsEar ring k → MeetOnlyAsNeighbours (remove ring k)
clipped_simple ring k big below simple (inl h) = left_simple ring k big below simple (flat_is_free ring k big below simple h)
clipped_simple ring k big below simple (inr h) = left_simple ring k big below simple (ear_is_free ring k big below simple h)
