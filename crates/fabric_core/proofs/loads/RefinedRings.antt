-- The rings of a layer after noding: one list of all rings, the city's last.
use Rattle.std.proofs.Common.{◌≡◌, refl, sym, ◌∙◌, ap, subst, ℕ, suc, List, [], ◌∷◌, ◌++◌, length, take, map}
use Rattle.std.specs.List.{AllZip}
use Rattle.std.proofs.lemmas.List.{append-nil}
use Rattle.geo_exact.specs.declared.corner.Corner.{Corner}
use Rattle.geo_exact.specs.Rings.{begun_at_least}
use Rattle.geo_exact.specs.Layers.{NumberedRing}
use Rattle.edge_chains.specs.Noding.{IsNoded, all_corners}
use Rattle.fabric_core.specs.Tiling.{corner_lists}
use Rattle.fabric_core.specs.Rows.{corners_of_layer, numbers, IsRowOf, AreRefined}
use Rattle.fabric_core.specs.own.Lists.{numbered_rows, AreNodedRings}
use Rattle.fabric_core.proofs.rows.Lists.{all_corners-append}

-- the last of each list stand together, and so do those before
AllZip-last : {X Y : Type 0} (R : X → Y → Type 0) (xs : List X) (x : X) (ys : List Y) (y : Y)
    → AllZip R (xs ++ x ∷ []) (ys ++ y ∷ []) → AllZip R xs ys × R x y
AllZip-last R [] x [] y h = (tt, h.0)
AllZip-last R [] x (z ∷ []) y h = absurd h.1
AllZip-last R [] x (z ∷ w ∷ ys) y h = absurd h.1
AllZip-last R (z ∷ []) x [] y h = absurd h.1
AllZip-last R (z ∷ w ∷ xs) x [] y h = absurd h.1
AllZip-last R (z ∷ xs) x (w ∷ ys) y h = let k = AllZip-last R xs x ys y h.1 in ((h.0, k.0), k.1)

AllZip-lists : (P : List Corner → List Corner → Type 0) (records : List NumberedRing) (outs : List (List Corner))
    → AllZip P (corner_lists records) outs
    → AllZip (λ record_ring out. P record_ring.corners out) records outs
AllZip-lists P [] [] h = tt
AllZip-lists P [] (out ∷ outs) h = absurd h
AllZip-lists P (record_ring ∷ records) [] h = absurd h
AllZip-lists P (record_ring ∷ records) (out ∷ outs) h = (h.0, AllZip-lists P records outs h.1)

pub whole_corners : (records : List NumberedRing) (city : List Corner)
    → all_corners (corner_lists records ++ city ∷ []) ≡ corners_of_layer records city
whole_corners records city = all_corners-append (corner_lists records) (city ∷ [])
    ∙ ap (λ cs. all_corners (corner_lists records) ++ cs) (append-nil city)

pub noded_rings : (records : List NumberedRing) (city : List Corner) (rings : List (List Corner))
    (corners : List Corner) (whole noded : List (List Corner))
    (refined : List Corner) (ids : List ℕ) (begun : List (List Corner))
    → ids ≡ numbers records → rings ≡ corner_lists records ++ city ∷ [] → corners ≡ all_corners rings
    → AllZip (λ ring out. IsNoded ring corners out) rings whole
    → whole ≡ noded ++ refined ∷ [] → begun ≡ map begun_at_least noded → AreNodedRings records city ids begun refined
noded_rings records city rings corners whole noded refined ids begun is_ids is_rings is_corners zip is_whole is_begun =
    let all : corners ≡ corners_of_layer records city = is_corners ∙ ap all_corners is_rings ∙ whole_corners records city in
    let P : List Corner → List Corner → Type 0 = λ ring out. IsNoded ring (corners_of_layer records city) out in
    let zipped : AllZip P (corner_lists records ++ city ∷ []) (noded ++ refined ∷ []) =
    subst (λ xs. AllZip P xs (noded ++ refined ∷ [])) is_rings (subst (AllZip P rings) is_whole
    (subst (λ cs. AllZip (λ ring out. IsNoded ring cs out) rings whole) all zip)) in
    let parts = AllZip-last P (corner_lists records) city noded refined zipped in
    record {
      noded = noded;
      are_numbers = is_ids;
      are_noded = AllZip-lists P records noded parts.0;
      are_begun = is_begun;
      is_refined = parts.1;
    }

-- what was written over a whole list is all of it
pub take_whole : {X : Type 0} (xs ys : List X) (n : ℕ) → n ≡ length xs → take n (xs ++ ys) ≡ xs
take_whole xs ys n e = ap (λ m. take m (xs ++ ys)) e ∙ whole xs ys
  where
    whole : {X : Type 0} (xs ys : List X) → take (length xs) (xs ++ ys) ≡ xs
    whole [] ys = refl
    whole (x ∷ xs) ys = ap (λ rest. x ∷ rest) (whole xs ys)

pub length_map : {X Y : Type 0} (f : X → Y) (xs : List X) → length (map f xs) ≡ length xs
length_map f [] = refl
length_map f (x ∷ xs) = ap suc (length_map f xs)

-- ---- the rows of the rings
rows_of : (corners : List Corner) (records : List NumberedRing) (noded : List (List Corner))
    → AllZip (λ record_ring out. IsNoded record_ring.corners corners out) records noded
    → AllZip (IsRowOf corners) records (numbered_rows (numbers records) (map begun_at_least noded))
rows_of corners [] [] h = tt
rows_of corners [] (out ∷ outs) h = absurd h
rows_of corners (record_ring ∷ records) [] h = absurd h
rows_of corners (record_ring ∷ records) (out ∷ outs) h =
    (record { same_number = refl; noded = out; is_noded = h.0; is_begun = refl }, rows_of corners records outs h.1)

pub refined_rows : (records : List NumberedRing) (city : List Corner) (ids : List ℕ) (rings : List (List Corner)) (refined : List Corner)
    → AreNodedRings records city ids rings refined → AreRefined records city (numbered_rows ids rings) refined
refined_rows records city ids rings refined h = record {
  are_rows = subst (λ xs. AllZip (IsRowOf (corners_of_layer records city)) records (numbered_rows xs rings)) (sym h.are_numbers)
      (subst (λ xs. AllZip (IsRowOf (corners_of_layer records city)) records (numbered_rows (numbers records) xs)) (sym h.are_begun)
      (rows_of (corners_of_layer records city) records h.noded h.are_noded));
  is_refined = h.is_refined;
}

-- as many numbers as rings
pub AllZip-length : {X Y : Type 0} (R : X → Y → Type 0) (xs : List X) (ys : List Y) → AllZip R xs ys → length xs ≡ length ys
AllZip-length R [] [] h = refl
AllZip-length R [] (y ∷ ys) h = absurd h
AllZip-length R (x ∷ xs) [] h = absurd h
AllZip-length R (x ∷ xs) (y ∷ ys) h = ap suc (AllZip-length R xs ys h.1)

pub as_many_numbers : (records : List NumberedRing) (city : List Corner) (ids : List ℕ) (rings : List (List Corner))
    (refined : List Corner)
    → AreNodedRings records city ids rings refined → length ids ≡ length rings
as_many_numbers records city ids rings refined h =
    ap length h.are_numbers ∙ length_map (λ row. row.number) records
    ∙ AllZip-length (λ record_ring out. IsNoded record_ring.corners (corners_of_layer records city) out) records h.noded h.are_noded
    ∙ sym (length_map begun_at_least h.noded) ∙ sym (ap length h.are_begun)
