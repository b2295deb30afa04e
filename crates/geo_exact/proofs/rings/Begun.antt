-- Rings begun at another corner: their edges are begun there too, so they are the same ring; and where the least corner is.
use Rattle.std.proofs.Common.{◌≡◌, refl, sym, ◌∙◌, ap, arith, true, false, subst, ℕ, zero, suc, ◌<◌, ◌≤◌, List, []}
use Rattle.std.proofs.Common.{◌∷◌, ◌++◌, length, get_or, take, drop, not}
use Rattle.std.specs.List.{IsFirstBest, position_or_len}
use Rattle.std.proofs.lemmas.List.{get_or_default, append-nil, length-append, append_assoc, take-append-drop}
use Rattle.std.proofs.lemmas.List.{take-append-le, drop-append-le}
use Rattle.std.proofs.lemmas.List.Folds.{list_any_at, list_any_none}
use Rattle.std.proofs.lemmas.List.Sums.{position_or_len_is, prefix_len-le-length}
use Rattle.std.proofs.lemmas.Int.{ints}
use lib.IntN.{ℤ}
use Rattle.geo_exact.specs.declared.corner.Corner.{Corner}
use Rattle.geo_exact.specs.Order.{is_before, is_least}
use Rattle.geo_exact.specs.Rings.{Edge, edges, path, sum_over, begun_at, begun_at_least}
use Rattle.geo_exact.proofs.rings.EdgeSums.{edge_of, path-join, sum_over-append}

pub path_count : (from to : Corner) (xs : List Corner) → length (path from xs to) ≡ suc (length xs)
path_count from to [] = refl
path_count from to (x ∷ xs) = ap suc (path_count x to xs)

-- a ring has as many edges as corners
pub ring_count : (ring : List Corner) → length (edges ring) ≡ length ring
ring_count [] = refl
ring_count (first ∷ rest) = path_count first first rest

-- begun one item later
begun_later : {X : Type 0} (k : ℕ) (x : X) (xs : List X) → k ≤ length xs → begun_at (suc k) (x ∷ xs)
    ≡ begun_at k (xs ++ x ∷ [])
begun_later k x xs h = sym (
    ap (λ back. back ++ take k (xs ++ x ∷ [])) (drop-append-le k xs (x ∷ []) h)
    ∙ ap (λ front. (drop k xs ++ x ∷ []) ++ front) (take-append-le k xs (x ∷ []) h)
    ∙ append_assoc (drop k xs) (x ∷ []) (take k xs)
    )

pub edges_begun : (k : ℕ) (ring : List Corner) → k ≤ length ring → edges (begun_at k ring) ≡ begun_at k (edges ring)
edges_begun zero ring h = ap edges (append-nil ring) ∙ sym (append-nil (edges ring))
edges_begun (suc k) [] h = absurd (omega arith)
edges_begun (suc k) (a ∷ []) h = let e : k ≡ 0 = omega arith in rw e refl
edges_begun (suc k) (a ∷ b ∷ rest) h =
    ap edges (begun_later k a (b ∷ rest) (omega arith))
    ∙ edges_begun k (b ∷ rest ++ a ∷ []) (omega (arith, length-append (b ∷ rest) (a ∷ [])))
    ∙ ap (begun_at k) (path-join b a b rest [])
    ∙ sym (begun_later k (edge_of a b) (path b rest a) (omega (arith, path_count b a rest)))

-- a ring has no first corner: each sum over its edges stays
pub sum_over-begun : (measure : Edge → ℤ) (k : ℕ) (ring : List Corner) → k ≤ length ring
    → sum_over measure (edges (begun_at k ring)) ≡ sum_over measure (edges ring)
sum_over-begun measure k ring h =
    let es = edges ring in
    ap (sum_over measure) (edges_begun k ring h) ∙ sum_over-append measure (drop k es) (take k es)
    ∙ omega (arith, ints, sum_over-append measure (take k es) (drop k es), ap (sum_over measure) (take-append-drop k es))

none_before : (ring : List Corner) (d : Corner) (k : ℕ) → IsFirstBest is_before ring (length ring) k
    → is_least ring (get_or ring k d) ≡ true
none_before ring d k h = ap not (list_any_none (λ other. is_before other (get_or ring k d)) ring (λ i e b.
    subst (λ y. is_before (get_or ring i e) y ≡ false) (get_or_default ring k e d h.0) (h.1 i e b)))

one_before : (ring : List Corner) (d : Corner) (k i : ℕ) → IsFirstBest is_before ring (length ring) k → i < k
    → is_least ring (get_or ring i d) ≡ false
one_before ring d k i h b = ap not (list_any_at (λ other. is_before other (get_or ring i d)) ring k d h.0 (h.2 i d b))

-- the first corner that none comes before is where the search stops
pub least_is_first : (ring : List Corner) (k : ℕ) → IsFirstBest is_before ring (length ring) k
    → position_or_len (is_least ring) ring ≡ k
least_is_first ring k h = not_empty ring k h refl
  where
    -- some corner is needed where a list is read
    not_empty : (whole : List Corner) (k : ℕ) → IsFirstBest is_before whole (length whole) k → whole ≡ ring
        → position_or_len (is_least ring) ring ≡ k
    not_empty [] k h e = absurd (omega (arith, h.0))
    not_empty (d ∷ rest) k h e =
        let f : IsFirstBest is_before ring (length ring) k = subst (λ xs. IsFirstBest is_before xs (length xs) k) e h in
        position_or_len_is (is_least ring) ring k d (omega (arith, f.0)) (λ i b. one_before ring d k i f b) (λ _. none_before ring d k f)

pub least_within : (ring : List Corner) → (k : ℕ) × (k ≤ length ring) × (begun_at_least ring ≡ begun_at k ring)
least_within ring = (position_or_len (is_least ring) ring, prefix_len-le-length (λ c. not (is_least ring c)) ring, refl)
