-- Edges that are counted ring by ring.
use Rattle.std.proofs.Common.{◌≡◌, refl, sym, ◌∙◌, ap, arith, ℕ, zero, suc, ◌+◌, ◌<◌, ◌≤◌, List, [], ◌∷◌}
use Rattle.std.proofs.Common.{◌++◌, length, get_or, take}
use Rattle.std.proofs.lemmas.List.{length-append}
use Rattle.ring_core.specs.declared.ring.Ring.{Ring}
use Rattle.edge_chains.specs.Noding.{all_corners}
use Rattle.fabric_core.specs.own.Lists.{corners_of_rings}

pub rings_more : {A : Type 0} (rings : List (Ring A)) (i : ℕ) (ring : Ring A) → i < length rings → ring ≡ get_or rings i ring
    → corners_of_rings (take (suc i) rings) ≡ corners_of_rings (take i rings) ++ ring.corners ∷ []
rings_more [] i ring h e = absurd (omega (arith, h))
rings_more {A = A} (r ∷ rings) zero ring h e = ap (λ (x : Ring A). x.corners ∷ []) (sym e)
rings_more (r ∷ rings) (suc i) ring h e = ap (λ xs. r.corners ∷ xs) (rings_more rings i ring (omega (arith, h)) e)

-- the corners of the rings up to a place, and of one more
pub count_more : {A : Type 0} (rings : List (Ring A)) (i : ℕ) (ring : Ring A) → i < length rings → ring ≡ get_or rings i ring
    → length (all_corners (corners_of_rings (take (suc i) rings)))
    ≡ length (all_corners (corners_of_rings (take i rings))) + length ring.corners
count_more [] i ring h e = absurd (omega (arith, h))
count_more {A = A} (r ∷ rings) zero ring h e =
    length-append r.corners [] ∙ ap (λ (x : Ring A). length x.corners + 0) (sym e) ∙ turn (length ring.corners)
  where
    turn : (n : ℕ) → n + 0 ≡ 0 + n
    turn n = omega arith
count_more (r ∷ rings) (suc i) ring h e = omega (
  arith,
  length-append r.corners (all_corners (corners_of_rings (take (suc i) rings))),
  length-append r.corners (all_corners (corners_of_rings (take i rings))),
  count_more rings i ring (omega (arith, h)) e,
)

pub count_so_far : {A : Type 0} (rings : List (Ring A)) (i : ℕ)
    → length (all_corners (corners_of_rings (take i rings))) ≤ length (all_corners (corners_of_rings rings))
count_so_far [] zero = omega arith
count_so_far [] (suc i) = omega arith
count_so_far (r ∷ rings) zero = omega arith
count_so_far (r ∷ rings) (suc i) = omega (
  arith,
  length-append r.corners (all_corners (corners_of_rings (take i rings))),
  length-append r.corners (all_corners (corners_of_rings rings)),
  count_so_far rings i,
)

pub take_all_rings : {A : Type 0} (rings : List A) (i : ℕ) → length rings ≤ i → take i rings ≡ rings
take_all_rings [] zero h = refl
take_all_rings [] (suc i) h = refl
take_all_rings (r ∷ rings) zero h = absurd (omega (arith, h))
take_all_rings (r ∷ rings) (suc i) h = ap (λ xs. r ∷ xs) (take_all_rings rings i (omega (arith, h)))
