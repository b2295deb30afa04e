-- Where the least corner is an ear, there is a flat corner or an ear off each edge.
use Rattle.std.proofs.Common.{◌≡◌, ◌≢◌, inr, ⊎_elim, ℕ, ◌-◌, ◌<◌, ◌∙◌, sym, ap, subst, refl, arith, List}
use Rattle.std.proofs.Common.{length}
use Rattle.std.specs.List.{remove}
use Rattle.geo_exact.specs.declared.corner.Corner.{Corner}
use Rattle.geo_exact.specs.Places.{after, before}
use Rattle.ring_core.specs.Simple.{MeetOnlyAsNeighbours}
use Rattle.ring_core.specs.Clipping.{IsEar}
use Rattle.ring_core.proofs.edges.RoundNumbers.{before_in, before_other}
use Rattle.ring_core.proofs.ears.LeftSimple.{same_or, before_of_after, clipped_simple}
use Rattle.ring_core.proofs.ears.EarWords.{IsLeftAtLeast, IsFlatOrEar, HaveEarsOff, KeepTheirDirection}
use Rattle.ring_core.proofs.ears.WithoutCorner.{number_left, one_fewer, left_within}
use Rattle.ring_core.proofs.ears.LeastCorners.{least_of_left}
use Rattle.ring_core.proofs.ears.PutBack.{IsFarEar, far_ear}
use Rattle.ring_core.specs.own.Kinds.{number_before}

-- rings of m corners that have ears off each edge have one off the edge that closes the gap
pub ear_off_gap : (m : ℕ) → HaveEarsOff m → (ring : List Corner) (g u : ℕ) → g < length ring → 2 < length ring
    → length (remove ring g) ≡ m
    → MeetOnlyAsNeighbours (remove ring g) → IsLeftAtLeast (remove ring g) u
    → (k : ℕ) × (k < length (remove ring g)) × (k ≢ number_left g (before (length ring) g))
    × (k ≢ after (length (remove ring g)) (number_left g (before (length ring) g))) × IsFlatOrEar (remove ring g) k
ear_off_gap m ears ring g u below big e simple l =
    let b : number_left g (before (length ring) g) < length (remove ring g) =
    left_within ring g below (before (length ring) g) (before_in (length ring) g below)
    (λ f. before_other (length ring) g big below (sym f)) in
    subst (λ n. (k : ℕ) × (k < n) × (k ≢ number_left g (before (length ring) g))
    × (k ≢ after n (number_left g (before (length ring) g))) × IsFlatOrEar (remove ring g) k) (sym e)
    (ears (remove ring g) u e simple l (number_left g (before (length ring) g))
    (subst (λ n. number_left g (before (length ring) g) < n) e b))

module _ (ring : List Corner) (v : ℕ) (big : 3 < length ring) (simple : MeetOnlyAsNeighbours ring) (l : IsLeftAtLeast ring v)
    (ear : IsEar ring v) (keep : KeepTheirDirection (length ring)) (ears : HaveEarsOff (length ring - 1)) where
  -- one that is neither the least corner nor a neighbour of it
  some_far_ear : (k : ℕ) × IsFarEar ring v k
  some_far_ear =
      let u = keep ring v refl simple l ear in
      let x =
      ear_off_gap (length ring - 1) ears ring v u.0 l.below (omega arith) (omega (arith, one_fewer ring v l.below))
      (clipped_simple ring v big l.below simple (inr ear)) u.1 in
      (number_before v x.0, far_ear ring v x.0 (omega arith) (least_of_left ring v l) x.1 x.2 x.3 x.4)

  off_edge : (i : ℕ) → i < length ring
      → (k : ℕ) × (k < length ring) × (k ≢ i) × (k ≢ after (length ring) i) × IsFlatOrEar ring k
  off_edge i b =
      let k : ℕ = some_far_ear.0 in
      let far : IsFarEar ring v k = some_far_ear.1 in
      ⊎_elim
      (λ e. (
        k,
        far.below,
        λ f. far.not_same (f ∙ sym e),
        λ f. far.not_after (f ∙ ap (after (length ring)) (sym e)),
        far.flat_or_ear,
      ))
      (λ not_from. ⊎_elim
      (λ e. (
        k,
        far.below,
        λ f. far.not_before (f ∙ before_of_after (length ring) v i b e),
        λ f. far.not_same (f ∙ sym e),
        far.flat_or_ear,
      ))
      (λ not_to. (v, l.below, not_from, not_to, inr ear))
      (same_or v (after (length ring) i)))
      (same_or v i)

-- where the least corner is an ear
pub ear_beside_ear : (n : ℕ) → 3 < n → HaveEarsOff (n - 1) → KeepTheirDirection n → (ring : List Corner) (v : ℕ)
    → length ring ≡ n
    → MeetOnlyAsNeighbours ring → IsLeftAtLeast ring v → IsEar ring v
    → (i : ℕ) → i < n → (k : ℕ) × (k < n) × (k ≢ i) × (k ≢ after n i) × IsFlatOrEar ring k
ear_beside_ear n big ears keep ring v e simple l ear i b =
    subst (λ m. (k : ℕ) × (k < m) × (k ≢ i) × (k ≢ after m i) × IsFlatOrEar ring k) e
    (off_edge ring v (omega arith) simple l ear (subst KeepTheirDirection (sym e) keep)
    (subst (λ m. HaveEarsOff (m - 1)) (sym e) ears) i (omega arith))
