-- Rings whose edges meet only as neighbours, and that turn left at their least corner, have a flat corner or an ear off each edge
-- (G. H. Meisters, Polygons have ears, 1975): by induction on the number of corners.
use Rattle.std.proofs.Common.{◌≡◌, ◌≢◌, inr, ⊎_elim, ℕ, zero, suc, ◌-◌, ◌<◌, ◌≤◌, ◌∙◌, sym, subst}
use Rattle.std.proofs.Common.{arith, List, length}
use Rattle.std.proofs.lemmas.Bool.{cases_lt}
use Rattle.std.proofs.lemmas.Bool.Decides.{nat_tests}
use lib.IntN.{pos}
use lib.Signed.{◌<ℤ◌}
use Rattle.geo_exact.specs.declared.corner.Corner.{Corner}
use Rattle.geo_exact.specs.Places.{after, before}
use Rattle.geo_exact.proofs.numbers.Firsts.{first_or_none}
use Rattle.ring_core.specs.Simple.{MeetOnlyAsNeighbours}
use Rattle.ring_core.specs.Clipping.{Blocks, IsEar}
use Rattle.ring_core.proofs.edges.RoundNumbers.{before_in}
use Rattle.ring_core.proofs.ears.Diagonals.{blocks_or}
use Rattle.ring_core.proofs.ears.EarWords.{IsLeftAtLeast, IsFlatOrEar, HaveEarsOff, KeepTheirDirection}
use Rattle.ring_core.proofs.ears.BegunElsewhere.{ears_off_by_first}
use Rattle.ring_core.proofs.ears.FourCorners.{turns_alike}
use Rattle.ring_core.proofs.ears.DirectionKept.{direction_kept}
use Rattle.ring_core.proofs.ears.EarOffEdge.{ear_beside_ear}
use Rattle.ring_core.proofs.ears.EarsOfParts.{ears_of_parts}

-- ---- three corners
third_not_from : (i : ℕ) → i < 3 → before 3 i ≢ i
third_not_from i b = grind (arith, nat_tests)

third_not_to : (i : ℕ) → i < 3 → before 3 i ≢ after 3 i
third_not_to i b = grind (arith, nat_tests)

none_else : (k j : ℕ) → k < 3 → j < 3 → j ≢ before 3 k → j ≢ k → j ≢ after 3 k → ⊥
none_else k j b c h i g = grind (arith, nat_tests)

ear_of_three : (ring : List Corner) (v k : ℕ) → length ring ≡ 3 → IsLeftAtLeast ring v → k < 3 → IsEar ring k
ear_of_three ring v k e l b = record {
  turns_left = subst (λ z. pos 0 <ℤ z)
      (turns_alike ring v e (subst (λ n. v < n) e l.below) ∙ sym (turns_alike ring k e b)) l.turns_left;
  is_empty = λ j c x. none_else k j b (subst (λ n. j < n) e c)
      (subst (λ n. j ≢ before n k) e x.not_before) x.not_same (subst (λ n. j ≢ after n k) e x.not_after);
}

three_have_ears : HaveEarsOff 3
three_have_ears ring v e simple l i b =
    (before 3 i, before_in 3 i b, third_not_from i b, third_not_to i b, inr (ear_of_three ring v (before 3 i) e l (before_in 3 i b)))

-- ---- more corners
by_first : (n : ℕ) → 3 < n → ((m : ℕ) → 2 < m → m < n → HaveEarsOff m) → KeepTheirDirection n
    → (ring : List Corner) → length ring ≡ n → MeetOnlyAsNeighbours ring → IsLeftAtLeast ring 0
    → (i : ℕ) → i < n → (k : ℕ) × (k < n) × (k ≢ i) × (k ≢ after n i) × IsFlatOrEar ring k
by_first n big smaller keep ring e simple l i b =
    ⊎_elim
    (λ x. ears_of_parts n smaller ring x.0 e x.1.below simple l x.1.has i b)
    (λ none. ear_beside_ear n big (smaller (n - 1) (omega arith) (omega arith)) keep ring 0 e simple l
    (record { turns_left = l.turns_left; is_empty = none }) i b)
    (first_or_none (Blocks ring 0) (blocks_or ring 0) (length ring))

-- both facts for up to n corners
up_to : (n m : ℕ) → m ≤ n → 2 < m → HaveEarsOff m × (3 < m → KeepTheirDirection m)
up_to zero m b big = absurd (omega arith)
up_to (suc n) m b big =
    ⊎_elim
    (λ less. up_to n m (omega arith) big)
    (λ not_less.
    let keep : 3 < m → KeepTheirDirection m = λ more.
    direction_kept m more (up_to n (m - 1) (omega arith) (omega arith)).0
    (λ still. (up_to n (m - 1) (omega arith) (omega arith)).1 (omega arith)) in (
      ⊎_elim
          (λ more. ears_off_by_first m (by_first m more (λ k h c. (up_to n k (omega arith) h).0) (keep more)))
          (λ no_more. subst HaveEarsOff (let e : 3 ≡ m = omega arith in e) three_have_ears)
          (cases_lt 3 m),
      keep,
    ))
    (cases_lt m (suc n))

pub have_ears_off : (n : ℕ) → 2 < n → HaveEarsOff n
have_ears_off n big = (up_to n n (omega arith) big).0

pub keep_their_direction : (n : ℕ) → 3 < n → KeepTheirDirection n
keep_their_direction n big = (up_to n n (omega arith) (omega arith)).1 big
