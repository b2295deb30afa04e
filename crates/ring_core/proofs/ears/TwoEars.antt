-- A simple ring has two flat corners or ears that are no neighbours, since it has one off each edge
-- (G. H. Meisters, Polygons have ears, 1975).
use Rattle.std.proofs.Common.{◌≡◌, ◌≢◌, ◌⊎◌, ⊎_elim, ℕ, ◌<◌, ◌∙◌, sym, subst, refl, arith, List, length}
use Rattle.std.proofs.lemmas.Bool.Decides.{nat_tests}
use Rattle.geo_exact.specs.declared.corner.Corner.{Corner}
use Rattle.geo_exact.specs.First.{HasNone}
use Rattle.geo_exact.specs.Places.{after}
use Rattle.ring_core.specs.Simple.{IsSimpleRing}
use Rattle.ring_core.specs.Clipping.{IsFlat, IsEar}
use Rattle.ring_core.specs.Ears.{AreNoNeighbours}
use Rattle.ring_core.proofs.ears.LeftSimple.{same_or, after_same}
use Rattle.ring_core.proofs.ears.EarWords.{IsLeftAtLeast, IsFlatOrEar}
use Rattle.ring_core.proofs.ears.HaveEars.{have_ears_off}
use Rattle.ring_core.proofs.clipping.NeverStuck.{left_at_least}

-- ---- numbers round a ring
three_on : (n i : ℕ) → 3 < n → i < n → i ≡ after n (after n (after n i)) → ⊥
three_on n i big b e = grind (arith, nat_tests)

-- a number with the property that is off edge i
abbrev IsOff : (ℕ → Type 0) → ℕ → ℕ → Type 0
IsOff P n i = (k : ℕ) × (k < n) × (k ≢ i) × (k ≢ after n i) × P k

abbrev HasTwo : (ℕ → Type 0) → ℕ → Type 0
HasTwo P n = (j k : ℕ) × AreNoNeighbours n j k × P j × P k

module _ (P : ℕ → Type 0) (n : ℕ) (big : 3 < n) where
  -- j off the edge that begins at i, where j is before i: of i, j, and one off the edge from j to i, two are no neighbours
  on_both_sides : (i j : ℕ) → i < n → j < n → P i → P j → j ≢ i → i ≡ after n j → IsOff P n j → HasTwo P n
  on_both_sides i j bi bj pi pj off e z =
      ⊎_elim
      (λ f. (
        j,
        z.0,
        record {
          first_below = bj;
          second_below = z.1;
          not_same = λ g. z.2 (sym g);
          not_after_first = z.3;
          not_after_second = λ g. three_on n j big bj (subst (λ m. j ≡ after n (after n m)) e (subst (λ m. j ≡ after n m) f g));
        },
        pj,
        z.4,
      ))
      (λ not_next. (
        i,
        z.0,
        record {
          first_below = bi;
          second_below = z.1;
          not_same = λ g. z.3 (sym g ∙ e);
          not_after_first = not_next;
          not_after_second = λ g. z.2 (after_same n j z.0 z.1 bj (sym g ∙ e));
        },
        pi,
        z.4,
      ))
      (same_or z.0 (after n i))

  two_off : ((i : ℕ) → i < n → IsOff P n i) → HasTwo P n
  two_off off =
      let x : IsOff P n 0 = off 0 (omega arith) in
      let y : IsOff P n x.0 = off x.0 x.1 in
      ⊎_elim
      (λ e. on_both_sides x.0 y.0 x.1 y.1 x.4 y.4 y.2 e (off y.0 y.1))
      (λ not_next. (
        x.0,
        y.0,
        record {
          first_below = x.1;
          second_below = y.1;
          not_same = λ g. y.2 (sym g);
          not_after_first = y.3;
          not_after_second = not_next;
        },
        x.4,
        y.4,
      ))
      (same_or x.0 (after n y.0))

-- ---- the corners of a ring
pub two_flat_or_ears : (ring : List Corner) → IsSimpleRing ring → 3 < length ring
    → (j k : ℕ) × AreNoNeighbours (length ring) j k × (IsFlat ring j ⊎ IsEar ring j) × (IsFlat ring k ⊎ IsEar ring k)
two_flat_or_ears ring simple big =
    let v : (v : ℕ) × IsLeftAtLeast ring v = left_at_least ring (omega arith) simple in
    two_off (IsFlatOrEar ring) (length ring) big (have_ears_off (length ring) (omega arith) ring v.0 refl simple.simple v.1)

pub two_ears : (ring : List Corner) → IsSimpleRing ring → 3 < length ring → HasNone (IsFlat ring) (length ring)
    → (j k : ℕ) × AreNoNeighbours (length ring) j k × IsEar ring j × IsEar ring k
two_ears ring simple big none =
    let two = two_flat_or_ears ring simple big in
    let an_ear : (i : ℕ) → i < length ring → IsFlatOrEar ring i → IsEar ring i =
    λ i b. ⊎_elim (λ f. absurd (none i b f)) (λ e. e) in
    (two.0, two.1, two.2, an_ear two.0 two.2.first_below two.3, an_ear two.1 two.2.second_below two.4)
