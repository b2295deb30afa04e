-- Flat corners and ears of the part that a diagonal cuts off a ring are the ring's, where the part goes round no corner beyond it.
use Rattle.std.proofs.Common.{◌≡◌, ◌≢◌, ◌⊎◌, inl, inr, ⊎_elim, ℕ, zero, suc, ◌<◌, ◌≤◌, ◌∙◌, sym, ap}
use Rattle.std.proofs.Common.{subst, arith, List, length}
use Rattle.std.specs.List.{remove}
use Rattle.std.proofs.lemmas.Bool.{cases_lt}
use Rattle.std.proofs.lemmas.Int.{ints}
use lib.IntN.{ℤ, pos}
use lib.Signed.{◌<ℤ◌, ◌≤ℤ◌}
use Rattle.geo_exact.specs.declared.corner.Corner.{Corner}
use Rattle.geo_exact.specs.Point.{Point, corner_point}
use Rattle.geo_exact.specs.Turn.{turn, IsOnEdge}
use Rattle.geo_exact.specs.Winding.{winding}
use Rattle.geo_exact.specs.Places.{corner_at, after, before}
use Rattle.ring_core.specs.Simple.{MeetOnlyAsNeighbours}
use Rattle.ring_core.specs.Clipping.{IsInTriangle, previous, next, Blocks, IsEar}
use Rattle.ring_core.proofs.ears.CutOff.{IsBeyond, IsCutOff, corner_beyond}
use Rattle.ring_core.proofs.ears.EarTriangles.{goes_round_ear}
use Rattle.ring_core.proofs.ears.EarWords.{IsFlatOrEar}
use Rattle.ring_core.proofs.ears.LeftSimple.{same_or, after_before, before_of_after}
use Rattle.ring_core.proofs.edges.RoundNumbers.{before_in, after_in}

-- ---- which corners are the part's
found_or : (number : ℕ → ℕ) (j m : ℕ) → ((i : ℕ) × (i < m) × (number i ≡ j)) ⊎ ((i : ℕ) → i < m → number i ≢ j)
found_or number j zero = inr (λ i b. absurd (omega arith))
found_or number j (suc m) =
    ⊎_elim
    (λ r. inl (r.0, (let b = r.1 in omega arith), r.2))
    (λ none. ⊎_elim
    (λ e. inl (m, omega arith, e))
    (λ not. inr (λ i b. ⊎_elim (λ c. none i c) (λ c e. not (ap number (last i m b c) ∙ e)) (cases_lt i m)))
    (same_or (number m) j))
    (found_or number j m)
  where
    last : (i m : ℕ) → i < suc m → m ≤ i → m ≡ i
    last i m h k = omega arith

never : (w : ℤ) → pos 1 ≤ℤ w → w ≡ pos 0 → ⊥
never w h e = omega (arith, ints)

module _ (part ring : List Corner) (number : ℕ → ℕ) (g z : ℕ) (big : 3 < length ring) (simple : MeetOnlyAsNeighbours ring)
    (h : IsCutOff part ring number g z) (three : 2 < length part) (part_simple : MeetOnlyAsNeighbours part)
    (not_round : (d : ℕ) → d < length ring → IsBeyond part number d → winding (corner_point (corner_at ring d)) part ≡ pos 0)
    (k : ℕ) (below : k < length part) (not_start : k ≢ g) (not_end : k ≢ after (length part) g) where
  -- ---- the neighbours of corner k are the ring's
  before_below : before (length part) k < length part
  before_below = before_in (length part) k below

  number_after : number (after (length part) k) ≡ after (length ring) (number k)
  number_after = h.is_part.follows k below not_start

  number_before_k : number (before (length part) k) ≡ before (length ring) (number k)
  number_before_k =
      before_of_after (length ring) (number k) (number (before (length part) k)) (h.is_part.inside (before (length part) k) before_below)
      (sym (ap number (after_before (length part) k below))
      ∙ h.is_part.follows (before (length part) k) before_below
      (λ e. not_end (sym (after_before (length part) k below) ∙ ap (after (length part)) e)))

  same_corner : corner_at part k ≡ corner_at ring (number k)
  same_corner = h.is_part.corners k below

  same_previous : previous part k ≡ previous ring (number k)
  same_previous = h.is_part.corners (before (length part) k) before_below ∙ ap (corner_at ring) number_before_k

  same_next : next part k ≡ next ring (number k)
  same_next = h.is_part.corners (after (length part) k) (after_in (length part) k below) ∙ ap (corner_at ring) number_after

  -- ---- a fact of the three corners
  of_ring : (P : Corner → Corner → Corner → Type 0) → P (previous part k) (corner_at part k) (next part k)
      → P (previous ring (number k)) (corner_at ring (number k)) (next ring (number k))
  of_ring P f =
      subst (λ c. P c (corner_at ring (number k)) (next ring (number k))) same_previous
      (subst (λ c. P (previous part k) c (next ring (number k))) same_corner
      (subst (λ c. P (previous part k) (corner_at part k) c) same_next f))

  of_part : (P : Corner → Corner → Corner → Type 0) → P (previous ring (number k)) (corner_at ring (number k))
      (next ring (number k))
      → P (previous part k) (corner_at part k) (next part k)
  of_part P f =
      subst (λ c. P c (corner_at part k) (next part k)) (sym same_previous)
      (subst (λ c. P (previous ring (number k)) c (next part k)) (sym same_corner)
      (subst (λ c. P (previous ring (number k)) (corner_at ring (number k)) c) (sym same_next) f))

  -- ---- an ear of the part
  module _ (ear : IsEar part k) (rest : 3 < length part → (q : Point) → pos 0 ≤ℤ winding q (remove part k)) where
    none_beyond : (d : ℕ) → d < length ring → IsBeyond part number d → ¬ Blocks ring (number k) d
    none_beyond d b beyond blocks =
        never (winding (corner_point (corner_at ring d)) part)
        (goes_round_ear part k three below part_simple ear rest (corner_at ring d)
        (corner_beyond part ring number g z big simple h d b beyond)
        (of_part (IsInTriangle (corner_at ring d)) blocks.is_inside))
        (not_round d b beyond)

    none_within : (i : ℕ) → i < length part → ¬ Blocks ring (number k) (number i)
    none_within i b blocks =
        ear.is_empty i b (record {
          not_before = λ e. blocks.not_before (ap number e ∙ number_before_k);
          not_same = λ e. blocks.not_same (ap number e);
          not_after = λ e. blocks.not_after (ap number e ∙ number_after);
          is_inside = subst (λ c. IsInTriangle c (previous part k) (corner_at part k) (next part k)) (sym (h.is_part.corners i b))
              (of_part (IsInTriangle (corner_at ring (number i))) blocks.is_inside);
        })

    ear_of_ring : IsEar ring (number k)
    ear_of_ring = record {
      turns_left = of_ring (λ a b c. pos 0 <ℤ turn a b c) ear.turns_left;
      is_empty = λ j b blocks. ⊎_elim
          (λ r. none_within r.0 r.1 (subst (Blocks ring (number k)) (sym r.2) blocks))
          (λ beyond. none_beyond j b beyond blocks)
          (found_or number j (length part));
    }

  -- corner k of the part, off the diagonal
  pub is_of_ring : IsFlatOrEar part k → (IsEar part k → 3 < length part → (q : Point) → pos 0 ≤ℤ winding q (remove part k))
      → IsFlatOrEar ring (number k)
  is_of_ring (inl flat) rest = inl (of_ring (λ a b c. IsOnEdge (corner_point b) a c) flat)
  is_of_ring (inr ear) rest = inr (ear_of_ring ear (rest ear))
