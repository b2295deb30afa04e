-- Rows kept as two lists, their numbers and their rings, and loops that go through them.
use Rattle.std.proofs.Common.{◌≡◌, refl, sym, ◌∙◌, ap, arith, ℕ, zero, suc, ◌+◌, ◌<◌, List, [], ◌∷◌, ◌++◌}
use Rattle.std.proofs.Common.{length, get_or, take, drop, map, append_assoc, drop-cons}
use Rattle.std.proofs.lemmas.List.{length-append, take-append-drop}
use Rattle.std.specs.List.{AllByRecursion, slice_set}
use Rattle.geo_exact.specs.declared.corner.Corner.{Corner}
use Rattle.geo_exact.specs.Layers.{NumberedRing, numbered, corner_count}
use Rattle.edge_chains.specs.Noding.{all_corners}
use Rattle.fabric_core.specs.Tiling.{corner_lists}
use Rattle.fabric_core.specs.Rows.{numbers}
use Rattle.fabric_core.specs.own.Lists.{numbered_rows}

one_less : (m n : ℕ) → suc m ≡ suc n → m ≡ n
one_less m n h = omega (arith, h)

-- ---- numbers and rings
pub numbers_of_rows : (ids : List ℕ) (rings : List (List Corner)) → length ids ≡ length rings
    → numbers (numbered_rows ids rings) ≡ ids
numbers_of_rows [] rings h = refl
numbers_of_rows (id ∷ ids) [] h = absurd (omega (arith, h))
numbers_of_rows (id ∷ ids) (ring ∷ rings) h = ap (λ xs. id ∷ xs) (numbers_of_rows ids rings (one_less (length ids) (length rings) h))

pub lists_of_rows : (ids : List ℕ) (rings : List (List Corner)) → length ids ≡ length rings
    → corner_lists (numbered_rows ids rings) ≡ rings
lists_of_rows [] [] h = refl
lists_of_rows [] (ring ∷ rings) h = absurd (omega (arith, h))
lists_of_rows (id ∷ ids) [] h = absurd (omega (arith, h))
lists_of_rows (id ∷ ids) (ring ∷ rings) h = ap (λ xs. ring ∷ xs) (lists_of_rows ids rings (one_less (length ids) (length rings) h))

pub rows_of_parts : (rows : List NumberedRing) → numbered_rows (numbers rows) (corner_lists rows) ≡ rows
rows_of_parts [] = refl
rows_of_parts (row ∷ rows) = ap (λ xs. row ∷ xs) (rows_of_parts rows)

pub rows-append : (ms ns : List ℕ) (xs ys : List (List Corner)) → length ms ≡ length xs
    → numbered_rows (ms ++ ns) (xs ++ ys) ≡ numbered_rows ms xs ++ numbered_rows ns ys
rows-append [] ns [] ys h = refl
rows-append [] ns (x ∷ xs) ys h = absurd (omega (arith, h))
rows-append (m ∷ ms) ns [] ys h = absurd (omega (arith, h))
rows-append (m ∷ ms) ns (x ∷ xs) ys h =
    ap (λ rows. numbered m x ∷ rows) (rows-append ms ns xs ys (one_less (length ms) (length xs) h))

-- ---- corners
pub all_corners-append : (rings others : List (List Corner)) → all_corners (rings ++ others) ≡ all_corners rings ++ all_corners others
all_corners-append [] others = refl
all_corners-append (ring ∷ rings) others = ap (λ cs. ring ++ cs) (all_corners-append rings others)
    ∙ sym (append_assoc ring (all_corners rings) (all_corners others))

pub count_of_corners : (rows : List NumberedRing) → corner_count rows ≡ length (all_corners (corner_lists rows))
count_of_corners [] = refl
count_of_corners (row ∷ rows) =
    ap (λ n. length row.corners + n) (count_of_corners rows) ∙ sym (length-append row.corners (all_corners (corner_lists rows)))

pub corner_count-append : (rows others : List NumberedRing) → corner_count (rows ++ others) ≡ corner_count rows + corner_count others
corner_count-append [] others = omega arith
corner_count-append (row ∷ rows) others = omega (arith, corner_count-append rows others)

pub AllByRecursion-push : {X : Type 0} (P : X → Type 0) (xs : List X) (x : X) → AllByRecursion P xs → P x
    → AllByRecursion P (xs ++ x ∷ [])
AllByRecursion-push P [] x h k = (k, tt)
AllByRecursion-push P (y ∷ ys) x h k = (h.0, AllByRecursion-push P ys x h.1 k)

-- ---- places
pub split_at : {X : Type 0} (xs : List X) (i : ℕ) (d : X) → i < length xs → xs ≡ take i xs ++ get_or xs i d ∷ drop (suc i) xs
split_at xs i d h = sym (take-append-drop i xs) ∙ ap (λ rest. take i xs ++ rest) (drop-cons xs i d h)

-- the rows up to place i, and those behind
pub rows_split_at : (ids : List ℕ) (rings : List (List Corner)) (i n : ℕ) (ring : List Corner)
    → length ids ≡ length rings → i < length rings
    → n ≡ get_or ids i 0 → ring ≡ get_or rings i ring
    → numbered_rows ids rings ≡ numbered_rows (take i ids) (take i rings) ++ numbered n ring ∷ numbered_rows
    (drop (suc i) ids) (drop (suc i) rings)
rows_split_at [] rings i n ring e h k l = absurd (omega (arith, e))
rows_split_at (id ∷ ids) [] i n ring e h k l = absurd (omega (arith, h))
rows_split_at (id ∷ ids) (r ∷ rings) zero n ring e h k l =
    ap (λ x. numbered x r ∷ numbered_rows ids rings) (sym k) ∙ ap (λ x. numbered n x ∷ numbered_rows ids rings) (sym l)
rows_split_at (id ∷ ids) (r ∷ rings) (suc i) n ring e h k l =
    ap (λ rows. numbered id r ∷ rows) (rows_split_at ids rings i n ring (one_less (length ids) (length rings) e) (omega (arith, h)) k l)

-- the rows up to the place behind
pub rows_more : (ids : List ℕ) (rings : List (List Corner)) (i n : ℕ) (ring : List Corner) → length ids ≡ length rings
    → i < length rings
    → n ≡ get_or ids i 0 → ring ≡ get_or rings i ring
    → numbered_rows (take (suc i) ids) (take (suc i) rings) ≡ numbered_rows (take i ids) (take i rings) ++ numbered n ring ∷ []
rows_more [] rings i n ring e h k l = absurd (omega (arith, e))
rows_more (id ∷ ids) [] i n ring e h k l = absurd (omega (arith, h))
rows_more (id ∷ ids) (r ∷ rings) zero n ring e h k l =
    ap (λ x. numbered x r ∷ []) (sym k) ∙ ap (λ x. numbered n x ∷ []) (sym l)
rows_more (id ∷ ids) (r ∷ rings) (suc i) n ring e h k l =
    ap (λ rows. numbered id r ∷ rows) (rows_more ids rings i n ring (one_less (length ids) (length rings) e) (omega (arith, h)) k l)

-- ---- a loop that changes each item
pub changed_at : {X : Type 0} (f : X → X) (xs : List X) (i : ℕ) (d : X) → i < length xs
    → slice_set (map f (take i xs) ++ drop i xs) i (f (get_or (map f (take i xs) ++ drop i xs) i d))
    ≡ map f (take (suc i) xs) ++ drop (suc i) xs
changed_at f [] i d h = absurd (omega (arith, h))
changed_at f (x ∷ xs) zero d h = refl
changed_at f (x ∷ xs) (suc i) d h = ap (λ rest. f x ∷ rest) (changed_at f xs i d (omega (arith, h)))
