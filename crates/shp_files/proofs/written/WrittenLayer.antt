-- The files that are written are a layer's.
use Rattle.std.proofs.Common.{◌≡◌, ℕ, zero, suc, ◌+◌, ◌*◌, ◌≤◌, Bool, true, false, cond, ℤ, pos, negsuc, neg_ℤ}
use Rattle.std.proofs.Common.{◌≤ℤ◌, List, [], ◌∷◌, ◌++◌, length, map, All, refl, sym, ap, ◌∙◌, inr, Option, Some}
use Rattle.std.proofs.Common.{None, arith, length-append}
use Rattle.std.specs.Prelude.{int_lt, if◌then◌else◌, IfSome}
use Rattle.std.proofs.lemmas.List.{append-nil, length-reverse, reverse-reverse}
use Rattle.std.proofs.lemmas.Bool.{le-ltb}
use Rattle.geo_exact.proofs.rings.Windings.{area2_turned_round}
use Rattle.geo_exact.specs.declared.corner.Corner.{Corner}
use Rattle.geo_exact.specs.declared.coord.Unit.TheVariants.{Mm}
use Rattle.geo_exact.specs.Area.{area2}
use Rattle.geo_exact.specs.Rings.{turned_round, HasNoRepeats}
use Rattle.geo_exact.specs.declared.limits.TheConstants.{LAYER_CORNERS, LAYER_RECORDS}
use Rattle.shp_files.specs.LayerFile.{IsIndexFile, IsLayerFile, AreRecords, NumberedRing, numbered, joined, corner_count, normal_rings}
use Rattle.shp_files.specs.NormalForm.{kept_once, counterclockwise, normal_form, IsNormal}
use Rattle.shp_files.proofs.rings.Turned.{turned_apart, kept_whole}
use Rattle.shp_files.specs.Written.{as_written, words, record_bytes, records, header, all_corners, numbered_from}
use Rattle.shp_files.specs.Written.{written_main, written_index}
use Rattle.shp_files.proofs.numbers.Sizes.{length-content, length-record, words_of_content}
use Rattle.shp_files.proofs.layers.Rings.{words_of_records, words_few}
use Rattle.shp_files.proofs.written.WrittenIndex.{index_is}
use Rattle.shp_files.proofs.written.WrittenFields.{header_is, header_whole, record_is}

length-turned : (turned : Bool) (ring : List Corner) → length (cond turned (turned_round ring) ring) ≡ length ring
length-turned true [] = refl
length-turned true (first ∷ rest) = simp length-reverse
length-turned false ring = refl

length-as_written : (ring : List Corner) → length (as_written ring) ≡ length ring
length-as_written ring = length-turned (int_lt (pos 0) (area2 ring)) ring

apart_where : (turned : Bool) (ring : List Corner) → HasNoRepeats ring → HasNoRepeats (cond turned (turned_round ring) ring)
apart_where true ring h = turned_apart ring h
apart_where false ring h = h

written_whole : (ring : List Corner) → HasNoRepeats ring → kept_once (as_written ring) ≡ as_written ring
written_whole ring h = kept_whole (as_written ring) (apart_where (int_lt (pos 0) (area2 ring)) ring h)

are_records : (number : ℕ) (rings : List (List Corner)) → All IsNormal rings
    → AreRecords Mm number (records number rings) (numbered_from number (map as_written rings))
are_records number [] each = tt
are_records number (ring ∷ rings) each =
    let fits : IsNormal ring = each 0 ring (omega arith) in
    inr (
      refl,
      record_is number ring fits.0 fits.1 (length-as_written ring) (written_whole ring fits.2),
      are_records (number + 1) rings (λ k d h. each (suc k) d (omega (arith, h))),
    )

length-records : (number : ℕ) (rings : List (List Corner)) → length (records number rings) ≡ length rings
length-records number [] = refl
length-records number (ring ∷ rings) = ap suc (length-records (number + 1) rings)

-- the records have an even number of bytes
whole_words : (number : ℕ) (rings : List (List Corner)) → length (joined (records number rings))
    ≡ 2 * words (joined (records number rings))
whole_words number [] = omega arith
whole_words number (ring ∷ rings) =
    let all : length (joined (records number (ring ∷ rings))) ≡ length (record_bytes number ring)
    + length (joined (records (number + 1) rings)) = simp length-append in
    omega (
      arith,
      all,
      words_of_records number ring rings,
      length-record number ring,
      length-content ring,
      words_of_content ring,
      whole_words (number + 1) rings,
    )

corners_counted : (number : ℕ) (rings : List (List Corner))
    → corner_count (numbered_from number (map as_written rings)) ≡ length (all_corners rings)
corners_counted number [] = refl
corners_counted number (ring ∷ rings) = simp length-append (omega (arith, length-as_written ring, corners_counted (number + 1) rings))

-- ---- a ring as it is written, turned back
turned_twice : (ring : List Corner) → turned_round (turned_round ring) ≡ ring
turned_twice [] = refl
turned_twice (first ∷ rest) = ap (λ corners. first ∷ corners) (reverse-reverse rest)

below_zero : (z : ℤ) → int_lt (pos 0) z ≡ true → int_lt (neg_ℤ z) (pos 0) ≡ true
below_zero (pos zero) h = absurd cc
below_zero (pos (suc n)) h = refl
below_zero (negsuc n) h = absurd cc

not_below_zero : (z : ℤ) → pos 0 ≤ℤ z → int_lt z (pos 0) ≡ false
not_below_zero (pos n) h = le-ltb n 0 (omega arith)
not_below_zero (negsuc n) h = absurd h.le

-- of a ring that was turned round where its area is positive, that with a negative area is turned round again
turned_back_where : (turned : Bool) (ring : List Corner) → int_lt (pos 0) (area2 ring) ≡ turned → pos 0 ≤ℤ area2 ring
    → cond (int_lt (area2 (cond turned (turned_round ring) ring)) (pos 0))
    (turned_round (cond turned (turned_round ring) ring)) (cond turned (turned_round ring) ring) ≡ ring
turned_back_where true ring positive not_negative =
    let negative : int_lt (area2 (turned_round ring)) (pos 0) ≡ true = rw (area2_turned_round ring) (below_zero (area2 ring) positive) in
    rw negative (turned_twice ring)
turned_back_where false ring positive not_negative = rw (not_below_zero (area2 ring) not_negative) refl

pub turned_back : (ring : List Corner) → pos 0 ≤ℤ area2 ring
    → (if int_lt (area2 (as_written ring)) (pos 0) then turned_round (as_written ring) else as_written ring) ≡ ring
turned_back ring h = turned_back_where (int_lt (pos 0) (area2 ring)) ring refl h

-- the rings that were written, in normal form, are the rings
normal_again : (ring : List Corner) → IsNormal ring → normal_form (as_written ring) ≡ ring
normal_again ring fits = ap counterclockwise (written_whole ring fits.2) ∙ turned_back ring fits.3

rings_again : (number : ℕ) (rings : List (List Corner)) → All IsNormal rings
    → numbered_from number rings ≡ normal_rings (numbered_from number (map as_written rings))
rings_again number [] each = refl
rings_again number (ring ∷ rings) each =
    let fits : IsNormal ring = each 0 ring (omega arith) in
    let here : normal_form (as_written ring) ≡ ring = normal_again ring fits in
    let others : numbered_from (number + 1) rings ≡ normal_rings (numbered_from (number + 1) (map as_written rings)) =
    rings_again (number + 1) rings (λ k d h. each (suc k) d (omega (arith, h))) in
    ap (λ (corners : List Corner). numbered number corners ∷ numbered_from (number + 1) rings) (sym here)
    ∙ ap (λ (later : List NumberedRing). numbered number (normal_form (as_written ring)) ∷ later) others

-- the main file that is written, with an index of its records or with none
layer_with : (index : Option (List ℕ)) (rings : List (List Corner)) → All IsNormal rings
    → length rings ≤ LAYER_RECORDS → length (all_corners rings) ≤ LAYER_CORNERS
    → IfSome index (λ bytes. IsIndexFile bytes (records 1 rings)) → IsLayerFile (written_main rings) index Mm (numbered_from 1 rings)
unfolding written_main
layer_with index rings each few total is_index =
    let n : ℕ = 50 + words (joined (records 1 rings)) in
    record {
      header = header n (all_corners rings);
      records = records 1 rings;
      ignored = [];
      drawn = numbered_from 1 (map as_written rings);
      is_text = sym (append-nil (header n (all_corners rings) ++ joined (records 1 rings)));
      has_header = header_is n _ (all_corners rings) (omega (arith, words_few 1 rings, few, total))
          (omega (arith, header_whole n (all_corners rings), whole_words 1 rings));
      has_records = are_records 1 rings each;
      records_within = omega (arith, length-records 1 rings, few);
      corners_within = omega (arith, corners_counted 1 rings, total);
      has_index = is_index;
      has_rings = rings_again 1 rings each;
    }

pub written_layer : (rings : List (List Corner)) → All IsNormal rings → length rings ≤ LAYER_RECORDS
    → length (all_corners rings) ≤ LAYER_CORNERS
    → IsLayerFile (written_main rings) None Mm (numbered_from 1 rings)
written_layer rings each few total = layer_with None rings each few total tt

pub written_with_index : (rings : List (List Corner)) → All IsNormal rings → length rings ≤ LAYER_RECORDS
    → length (all_corners rings) ≤ LAYER_CORNERS
    → IsLayerFile (written_main rings) (Some (written_index rings)) Mm (numbered_from 1 rings)
written_with_index rings each few total = layer_with (Some (written_index rings)) rings each few total (index_is rings few total)
