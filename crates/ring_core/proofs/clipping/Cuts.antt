-- What a corner taken out of a ring changes in a sum over its edges.
use Rattle.std.proofs.Common.{◌≡◌, ℕ, zero, suc, ◌<◌, ◌∙◌, sym, ap, refl, arith, List, [], ◌∷◌, length, get_or, inl}
use Rattle.std.proofs.Common.{inr}
use Rattle.std.proofs.lemmas.List.{get_or_default, get_or_past}
use Rattle.std.proofs.lemmas.Bool.{cases_lt}
use Rattle.std.specs.List.{remove}
use Rattle.std.proofs.lemmas.Int.{ints}
use lib.IntN.{ℤ, ◌+ℤ◌}
use Rattle.geo_exact.specs.declared.corner.Corner.{Corner}
use Rattle.geo_exact.specs.Rings.{Edge, path, edges, sum_over}
use Rattle.geo_exact.proofs.rings.EdgeSums.{edge_of}
use Rattle.geo_exact.specs.Places.{origin, corner_at}
use Rattle.ring_core.specs.Clipping.{previous, next}
use Rattle.ring_core.proofs.edges.RoundNumbers.{after_inner, after_end, before_first, before_inner}

-- corner k of a path taken out; past the path comes its end
path_cut : (measure : Edge → ℤ) (from to : Corner) (xs : List Corner) (k : ℕ) → k < length xs
    → sum_over measure (path from xs to) +ℤ measure (edge_of (get_or (from ∷ xs) k origin) (get_or xs (suc k) to))
    ≡ sum_over measure (path from (remove xs k) to) +ℤ measure (edge_of (get_or (from ∷ xs) k origin) (get_or xs k origin))
    +ℤ measure (edge_of (get_or xs k origin) (get_or xs (suc k) to))
path_cut measure from to [] k h = absurd (omega arith)
path_cut measure from to (x ∷ []) zero h = omega (arith, ints)
path_cut measure from to (x ∷ y ∷ ys) zero h = omega (arith, ints)
path_cut measure from to (x ∷ xs) (suc k) h = omega (arith, ints, path_cut measure x to xs k (omega arith))

-- where a path leads from its last corner
path_end : (measure : Edge → ℤ) (from s t : Corner) (xs : List Corner)
    → sum_over measure (path from xs s) +ℤ measure (edge_of (get_or (from ∷ xs) (length xs) origin) t)
    ≡ sum_over measure (path from xs t) +ℤ measure (edge_of (get_or (from ∷ xs) (length xs) origin) s)
path_end measure from s t [] = omega (arith, ints)
path_end measure from s t (x ∷ xs) = omega (arith, ints, path_end measure x s t xs)

-- the corner after one that isn't the first
next_is : (first : Corner) (rest : List Corner) (k : ℕ) → k < length rest → next (first ∷ rest) (suc k)
    ≡ get_or rest (suc k) first
next_is first rest k h =
    elim (cases_lt (suc k) (length rest)) [
      | inl q ↦ ap (corner_at (first ∷ rest)) (after_inner (suc (length rest)) (suc k) (omega arith))
          ∙ get_or_default rest (suc k) origin first q
      | inr q ↦ ap (corner_at (first ∷ rest)) (after_end (suc (length rest)) (suc k) (omega arith))
          ∙ sym (get_or_past rest (suc k) first q)
    ]

-- a corner taken out of a ring
pub ring_cut : (measure : Edge → ℤ) (ring : List Corner) (k : ℕ) → 2 < length ring → k < length ring
    → sum_over measure (edges ring) +ℤ measure (edge_of (previous ring k) (next ring k))
    ≡ sum_over measure (edges (remove ring k)) +ℤ measure (edge_of (previous ring k) (corner_at ring k))
    +ℤ measure (edge_of (corner_at ring k) (next ring k))
ring_cut measure [] k l h = absurd (omega arith)
ring_cut measure (b ∷ []) k l h = absurd (omega arith)
ring_cut measure (b ∷ c ∷ rest) zero l h =
    let p : previous (b ∷ c ∷ rest) zero ≡ get_or (c ∷ rest) (length rest) origin =
    ap (corner_at (b ∷ c ∷ rest)) (before_first (suc (suc (length rest))) (suc (length rest)) refl) in
    let q : next (b ∷ c ∷ rest) zero ≡ c =
    ap (corner_at (b ∷ c ∷ rest)) (after_inner (suc (suc (length rest))) zero (omega arith)) in
    rw (p, q) (omega (arith, ints, path_end measure c b c rest))
ring_cut measure (first ∷ rest) (suc k) l h =
    let p : previous (first ∷ rest) (suc k) ≡ get_or (first ∷ rest) k origin =
    ap (corner_at (first ∷ rest)) (before_inner (suc (length rest)) k) in
    let q : next (first ∷ rest) (suc k) ≡ get_or rest (suc k) first = next_is first rest k (omega arith) in
    rw (p, q) (path_cut measure first first rest k (omega arith))
