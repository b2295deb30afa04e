-- A ring that begins at its least corner is as it is when it is begun there; so is each row of a layer.
use Rattle.std.proofs.Common.{◌≡◌, refl, sym, ◌∙◌, ap, subst, arith, ⊎_elim, ℕ, suc, ◌<◌, ◌≤◌, Bool, true, false, ◌||◌, not, List}
use Rattle.std.proofs.Common.{[], ◌∷◌, ◌++◌, length, get_or, take, drop, append-nil, drop-cons, take_all}
use Rattle.std.specs.List.{AllByRecursion, AllZip, Contains, list_any, position_or_len}
use Rattle.std.proofs.lemmas.Bool.{cases_lt}
use Rattle.std.proofs.lemmas.List.{drop_all, take-append-drop}
use Rattle.std.proofs.lemmas.List.Folds.{list_any-append}
use Rattle.std.proofs.lemmas.List.Sums.{position_or_len_is, passes_at_first, prefix_len-le-length}
use Rattle.geo_exact.specs.declared.corner.Corner.{Corner}
use Rattle.geo_exact.specs.Order.{is_before, is_least}
use Rattle.geo_exact.specs.Rings.{begun_at, begun_at_least}
use Rattle.geo_exact.specs.Layers.{NumberedRing}
use Rattle.fabric_core.specs.Rows.{IsRowOf}
use Rattle.fabric_core.proofs.tilings.OneParcel.{of_each}

or_turned : (a b : Bool) → (a || b) ≡ (b || a)
or_turned true true = refl
or_turned true false = refl
or_turned false true = refl
or_turned false false = refl

-- wherever a list is begun, it has the same items
any_begun : {X : Type 0} (p : X → Bool) (k : ℕ) (xs : List X) → list_any p (begun_at k xs) ≡ list_any p xs
any_begun p k xs =
    list_any-append p (drop k xs) (take k xs) ∙ or_turned (list_any p (drop k xs)) (list_any p (take k xs))
    ∙ sym (list_any-append p (take k xs) (drop k xs)) ∙ ap (list_any p) (take-append-drop k xs)

-- a ring whose first corner is its least
first_least : (c : Corner) (rest : List Corner) → is_least (c ∷ rest) c ≡ true → begun_at_least (c ∷ rest) ≡ c ∷ rest
first_least c rest least =
    let first : position_or_len (is_least (c ∷ rest)) (c ∷ rest) ≡ 0 =
    position_or_len_is (is_least (c ∷ rest)) (c ∷ rest) 0 c (omega arith) (λ k h. absurd (omega (arith, h))) (λ h. least) in
    ap (λ k. begun_at k (c ∷ rest)) first ∙ append-nil (c ∷ rest)

-- begun at a corner that is the least
begun_there : (ring : List Corner) (k : ℕ) (d : Corner) → k < length ring → is_least ring (get_or ring k d) ≡ true
    → begun_at_least (begun_at k ring) ≡ begun_at k ring
begun_there ring k d below least =
    let c = get_or ring k d in
    let rest = drop (suc k) ring ++ take k ring in
    let begins : begun_at k ring ≡ c ∷ rest = ap (λ front. front ++ take k ring) (drop-cons ring k d below) in
    let still : is_least (c ∷ rest) c ≡ true =
    ap (λ corners. is_least corners c) (sym begins) ∙ ap not (any_begun (λ other. is_before other c) k ring) ∙ least in
    ap begun_at_least begins ∙ first_least c rest still ∙ sym begins

-- begun nowhere, which a ring is not that has corners
begun_nowhere : (ring : List Corner) (k : ℕ) → length ring ≤ k → k ≤ length ring → begun_at k ring ≡ ring
begun_nowhere ring k past within =
    let e : k ≡ length ring = omega (arith, past, within) in
    ap (λ n. begun_at n ring) e
    ∙ ap (λ front. front ++ take (length ring) ring) (drop_all (length ring) ring (omega arith)) ∙ take_all (length ring) ring (omega arith)

begun_place : (ring : List Corner) (d : Corner) (k : ℕ) → position_or_len (is_least ring) ring ≡ k → k ≤ length ring
    → begun_at_least (begun_at_least ring) ≡ begun_at_least ring
begun_place ring d k e within = ⊎_elim
    (λ below. ap begun_at_least (ap (λ n. begun_at n ring) e)
    ∙ begun_there ring k d below (ap (λ n. is_least ring (get_or ring n d)) (sym e)
    ∙ passes_at_first (is_least ring) ring d (subst (λ n. n < length ring) (sym e) below))
    ∙ ap (λ n. begun_at n ring) (sym e))
    (λ past. ap begun_at_least (ap (λ n. begun_at n ring) e ∙ begun_nowhere ring k past within))
    (cases_lt k (length ring))

begun_twice : (ring : List Corner) → begun_at_least (begun_at_least ring) ≡ begun_at_least ring
begun_twice [] = refl
begun_twice (c ∷ rest) =
    begun_place (c ∷ rest) c _ refl (prefix_len-le-length (λ corner. not (is_least (c ∷ rest) corner)) (c ∷ rest))

-- ---- the rows of records
each_begins : (corners : List Corner) (records rows : List NumberedRing) → AllZip (IsRowOf corners) records rows
    → AllByRecursion (λ row. row.corners ≡ begun_at_least row.corners) rows
each_begins corners [] [] h = tt
each_begins corners [] (row ∷ rows) h = absurd h
each_begins corners (r ∷ records) [] h = tt
each_begins corners (r ∷ records) (row ∷ rows) h =
    let noded = h.0.noded in
    let is : row.corners ≡ begun_at_least noded = h.0.is_begun in
    (is ∙ sym (begun_twice noded) ∙ ap begun_at_least (sym is), each_begins corners records rows h.1)

pub row_begins : (corners : List Corner) (records rows : List NumberedRing) → AllZip (IsRowOf corners) records rows
    → (row : NumberedRing) → Contains rows row
    → row.corners ≡ begun_at_least row.corners
row_begins corners records rows h row c =
    of_each (λ (r : NumberedRing). r.corners ≡ begun_at_least r.corners) rows row (each_begins corners records rows h) c
