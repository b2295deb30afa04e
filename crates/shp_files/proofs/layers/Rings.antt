-- The rings of a layer, one after the other.
use Rattle.std.proofs.Common.{Bool, true, false, cond, pos, ◌≡◌, ℕ, zero, suc, ◌+◌, ◌*◌, ◌<◌, ◌≤◌, List, []}
use Rattle.std.proofs.Common.{◌∷◌, ◌++◌, length}
use Rattle.std.proofs.Common.{map, get_or, take, drop, sym, ap, ◌∙◌, arith, append_assoc, length-append}
use Rattle.std.proofs.lemmas.List.{map-append, take_more, append-nil, drop-map, drop_all, length-reverse, length-map}
use Rattle.std.proofs.lemmas.List.Concat.{flat_map-append}
use Rattle.geo_exact.specs.declared.corner.Corner.{Corner}
use Rattle.std.specs.Prelude.{int_lt}
use Rattle.geo_exact.specs.Area.{area2}
use Rattle.geo_exact.specs.Rings.{turned_round}
use Rattle.geo_exact.specs.declared.raw_ring.RawRing.{RawRing}
use Rattle.geo_exact.proofs.numbers.Dropped.{drop_item}
use Rattle.geo_exact.specs.declared.limits.TheConstants.{LAYER_CORNERS, LAYER_RECORDS}
use Rattle.shp_files.specs.LayerFile.{closed, joined}
use Rattle.shp_files.specs.Written.{big, words, points, content, record_bytes, records, all_corners, index_records}
use Rattle.shp_files.proofs.written.Puts.{more}
use Rattle.shp_files.proofs.numbers.Sizes.{length-content, words_of_content, length-record}

abbrev pub ring_corners : {A : Type 0} → RawRing A → List Corner
ring_corners ring = ring.corners

-- the rings from an index on
pub lists_drop : {X : Type 0} (f : X → List Corner) (xs : List X) (i : ℕ) (x : X) → i < length xs → x ≡ get_or xs i x
    → map f (drop i xs) ≡ f x ∷ map f (drop (i + 1) xs)
lists_drop f xs i x h e = ap (map f) (drop_item xs i x h e)

pub lists_end : {X : Type 0} (f : X → List Corner) (xs : List X) (i : ℕ) → length xs ≤ i → map f (drop i xs) ≡ []
lists_end f xs i h = ap (map f) (drop_all i xs h)

-- the corners of the rings below an index, and of one more
pub corners_push : {X : Type 0} (f : X → List Corner) (xs : List X) (i : ℕ) (x : X) → i < length xs → x ≡ get_or xs i x
    → all_corners (map f (take i xs)) ++ f x ≡ all_corners (map f (take (i + 1) xs))
corners_push f xs i x h e =
    sym (ap (λ ys. all_corners (map f ys)) (take_more xs i x h ∙ ap (λ y. take i xs ++ y ∷ []) (sym e))
    ∙ ap all_corners (map-append f (take i xs) (x ∷ []))
    ∙ flat_map-append (λ ring. ring) (map f (take i xs)) (f x ∷ [])
    ∙ ap (λ ring. all_corners (map f (take i xs)) ++ ring) (append-nil (f x)))

corners_left : (i : ℕ) (rings : List (List Corner)) → length (all_corners (drop i rings)) ≤ length (all_corners rings)
corners_left zero rings = omega arith
corners_left (suc i) [] = omega arith
corners_left (suc i) (ring ∷ rings) = simp length-append (omega (arith, corners_left i rings))

-- a ring has at most as many corners as all together
pub corners_of_one : {X : Type 0} (f : X → List Corner) (xs : List X) (i : ℕ) (x : X) → i < length xs → x ≡ get_or xs i x
    → length (f x) ≤ length (all_corners (map f xs))
corners_of_one f xs i x h e =
    let left = corners_left i (map f xs) in
    let here : length (all_corners (drop i (map f xs))) ≡ length (f x) + length (all_corners (map f (drop (i + 1) xs))) =
    ap (λ rings. length (all_corners rings)) (drop-map f i xs ∙ lists_drop f xs i x h e)
    ∙ length-append (f x) (all_corners (map f (drop (i + 1) xs))) in
    omega (arith, left, here)

-- ---- the bytes of the records
words_after : (bytes tail : List ℕ) (n : ℕ) → length bytes ≡ 56 + 16 * n → words (bytes ++ tail) ≡ 28 + 8 * n + words tail
words_after bytes tail n h = rw length-append (omega (arith, h))

-- one record more
pub words_of_records : (number : ℕ) (ring : List Corner) (rings : List (List Corner))
    → words (joined (records number (ring ∷ rings))) ≡ 4 + words (content ring) + words (joined (records (number + 1) rings))
words_of_records number ring rings =
    let size : length (record_bytes number ring) ≡ 56 + 16 * length (points ring) =
    omega (arith, length-record number ring, length-content ring) in
    let sized = words_after (record_bytes number ring) (joined (records (number + 1) rings)) (length (points ring)) size in
    omega (arith, sized, words_of_content ring)

-- each ring has at most one point more than it has corners
closed_few : (turned : Bool) (ring : List Corner) → length (closed (cond turned (turned_round ring) ring)) ≤ length ring + 1
closed_few true [] = omega arith
closed_few false [] = omega arith
closed_few true (first ∷ rest) = simp (length-append, length-reverse) (omega arith)
closed_few false (first ∷ rest) = simp length-append (omega arith)

pub points_few : (ring : List Corner) → length (points ring) ≤ length ring + 1
points_few ring = closed_few (int_lt (pos 0) (area2 ring)) ring

pub words_few : (number : ℕ) (rings : List (List Corner)) → words (joined (records number rings)) ≤ 36 * length rings
    + 8 * length (all_corners rings)
words_few number [] = omega arith
words_few number (ring ∷ rings) =
    rw (words_of_records number ring rings, length-append)
    (omega (arith, words_of_content ring, points_few ring, words_few (number + 1) rings))

-- ---- the records from an index on
pub ring_small : {X : Type 0} (f : X → List Corner) (xs : List X) (i : ℕ) (x : X) (ring : List Corner) → i < length xs
    → x ≡ get_or xs i x → ring ≡ f x
    → length (all_corners (map f xs)) ≤ LAYER_CORNERS → length ring ≤ LAYER_CORNERS
ring_small f xs i x ring h e is few = let small = corners_of_one f xs i x h e in rw is (omega (arith, small, few))

pub words_from : {X : Type 0} (f : X → List Corner) (xs : List X) (i n : ℕ) (x : X) (ring : List Corner)
    → i < length xs → x ≡ get_or xs i x → ring ≡ f x
    → n ≡ words (content ring)
    → words (joined (records (i + 1) (map f (drop i xs)))) ≡ 4 + n + words (joined (records (i + 1 + 1) (map f (drop (i + 1) xs))))
words_from f xs i n x ring h e is size =
    let here : map f (drop i xs) ≡ ring ∷ map f (drop (i + 1) xs) = lists_drop f xs i x h e
    ∙ ap (λ r. r ∷ map f (drop (i + 1) xs)) (sym is) in
    ap (λ rings. words (joined (records (i + 1) rings))) here ∙ words_of_records (i + 1) ring (map f (drop (i + 1) xs))
    ∙ ap (λ m. 4 + m + words (joined (records (i + 1 + 1) (map f (drop (i + 1) xs))))) (sym size)

pub words_all : {X : Type 0} (f : X → List Corner) (xs : List X) (number : ℕ) → length xs ≤ LAYER_RECORDS
    → length (all_corners (map f xs)) ≤ LAYER_CORNERS
    → words (joined (records number (map f xs))) ≤ 36 * LAYER_RECORDS + 8 * LAYER_CORNERS
words_all f xs number h k = let count : length (map f xs) ≡ length xs = simp length-map in
    omega (arith, words_few number (map f xs), count)

pub words_end : {X : Type 0} (f : X → List Corner) (xs : List X) (i number : ℕ) → length xs ≤ i
    → words (joined (records number (map f (drop i xs)))) ≡ 0
words_end f xs i number h = ap (λ rings. words (joined (records number rings))) (lists_end f xs i h)

-- what is written of the records so far, and what is left of them
pub records_step : {X : Type 0} (f : X → List Corner) (xs : List X) (i number : ℕ) (x : X) (ring : List Corner)
    (out new all : List ℕ) → i < length xs
    → x ≡ get_or xs i x → ring ≡ f x
    → number ≡ i + 1 → new ≡ out ++ record_bytes number ring → out ++ joined (records (i + 1) (map f (drop i xs))) ≡ all
    → new ++ joined (records (i + 1 + 1) (map f (drop (i + 1) xs))) ≡ all
records_step f xs i number x ring out new all h e is at wrote so_far =
    let here : map f (drop i xs) ≡ ring ∷ map f (drop (i + 1) xs) = lists_drop f xs i x h e
    ∙ ap (λ r. r ∷ map f (drop (i + 1) xs)) (sym is) in
    let rest : List ℕ = joined (records (i + 1 + 1) (map f (drop (i + 1) xs))) in
    ap (λ b. b ++ rest) (wrote ∙ ap (λ n. out ++ record_bytes n ring) at) ∙ append_assoc out (record_bytes (i + 1) ring) rest
    ∙ ap (λ rings. out ++ joined (records (i + 1) rings)) (sym here) ∙ so_far

pub records_end : {X : Type 0} (f : X → List Corner) (xs : List X) (i : ℕ) (out all : List ℕ) → length xs ≤ i
    → out ++ joined (records (i + 1) (map f (drop i xs))) ≡ all → out ≡ all
records_end f xs i out all h so_far =
    sym (append-nil out) ∙ ap (λ rings. out ++ joined (records (i + 1) rings)) (sym (lists_end f xs i h)) ∙ so_far

-- the same for the index records
pub index_step : {X : Type 0} (f : X → List Corner) (xs : List X) (i place n : ℕ) (x : X) (ring : List Corner)
    (out mid new all : List ℕ) → i < length xs
    → x ≡ get_or xs i x → ring ≡ f x
    → n ≡ words (content ring) → mid ≡ out ++ big place → new ≡ mid ++ big n
    → out ++ index_records place (map f (drop i xs)) ≡ all
    → new ++ index_records (place + (4 + n)) (map f (drop (i + 1) xs)) ≡ all
index_step f xs i place n x ring out mid new all h e is size first second so_far =
    let here : map f (drop i xs) ≡ ring ∷ map f (drop (i + 1) xs) = lists_drop f xs i x h e
    ∙ ap (λ r. r ∷ map f (drop (i + 1) xs)) (sym is) in
    let next : place + (4 + n) ≡ place + 4 + words (content ring) = omega (arith, size) in
    let rest : List ℕ = index_records (place + 4 + words (content ring)) (map f (drop (i + 1) xs)) in
    ap (λ p. new ++ index_records p (map f (drop (i + 1) xs))) next
    ∙ ap (λ b. b ++ rest) (more out (big place) (big n) mid new first second ∙ ap (λ m. out ++ (big place ++ big m)) size)
    ∙ append_assoc out (big place ++ big (words (content ring))) rest
    ∙ ap (λ rings. out ++ index_records place rings) (sym here) ∙ so_far

pub index_end : {X : Type 0} (f : X → List Corner) (xs : List X) (i place : ℕ) (out all : List ℕ) → length xs ≤ i
    → out ++ index_records place (map f (drop i xs)) ≡ all → out ≡ all
index_end f xs i place out all h so_far =
    sym (append-nil out) ∙ ap (λ rings. out ++ index_records place rings) (sym (lists_end f xs i h)) ∙ so_far
