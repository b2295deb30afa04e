-- The index that is written is that of the records that are written.
use Rattle.std.proofs.Common.{◌≡◌, ℕ, ◌+◌, ◌*◌, ◌^◌, ◌<◌, ◌≤◌, List, [], ◌∷◌, ◌++◌, length, drop}
use Rattle.std.proofs.Common.{refl, sym, ap, ◌∙◌, arith, length-append}
use Rattle.std.proofs.lemmas.List.{append-nil}
use Rattle.geo_exact.specs.declared.corner.Corner.{Corner}
use Rattle.geo_exact.specs.declared.limits.TheConstants.{LAYER_CORNERS, LAYER_RECORDS}
use Rattle.shp_files.specs.LayerFile.{IsIndexRecord, AreIndexRecords, IsIndexFile, joined}
use Rattle.shp_files.specs.Written.{big, words, content, record_bytes, records, header, all_corners, index_records, written_index}
use Rattle.shp_files.proofs.numbers.Sizes.{length-big, length-content, length-record, words_of_content}
use Rattle.shp_files.proofs.layers.Rings.{words_of_records, words_few}
use Rattle.shp_files.proofs.written.WrittenFields.{big_read, header_whole, header_is, at_content_words}

-- the index record of a ring's record, and those of all
abbrev entry : ℕ → List Corner → List ℕ
entry place ring = big place ++ big (words (content ring))

abbrev entries : ℕ → List (List Corner) → List (List ℕ)
entries place [] = []
entries place (ring ∷ rings) = entry place ring ∷ entries (place + 4 + words (content ring)) rings

joined_entries : (place : ℕ) (rings : List (List Corner)) → joined (entries place rings) ≡ index_records place rings
joined_entries place [] = refl
joined_entries place (ring ∷ rings) = ap (λ rest. entry place ring ++ rest) (joined_entries (place + 4 + words (content ring)) rings)

length-entry : (place : ℕ) (ring : List Corner) → length (entry place ring) ≡ 8
length-entry place ring = simp length-append (omega (arith, length-big place, length-big (words (content ring))))

length-entries : (place : ℕ) (rings : List (List Corner)) → length (joined (entries place rings)) ≡ 8 * length rings
length-entries place [] = refl
length-entries place (ring ∷ rings) =
    simp length-append
    (omega (arith, length-big place, length-big (words (content ring)), length-entries (place + 4 + words (content ring)) rings))

at_entry_words : (place : ℕ) (ring : List Corner) → drop 4 (entry place ring) ≡ big (words (content ring)) ++ []
unfolding big
at_entry_words place ring = refl

entry_is : (place number start : ℕ) (ring : List Corner) → start ≡ 2 * place → place + words (content ring) < 2 ^ 31
    → IsIndexRecord (entry place ring) start (record_bytes number ring)
entry_is place number start ring is few =
    let size : ℕ = words (content ring) in
    record {
      is_whole = length-entry place ring;
      has_offset = rw (big_read place (entry place ring) (big size) 0 (omega (arith, few)) refl, is) refl;
      has_length = big_read size (entry place ring) [] 4 (omega (arith, few)) (at_entry_words place ring)
          ∙ sym (big_read size (record_bytes number ring) (content ring) 4 (omega (arith, few)) (at_content_words number ring));
    }

are_entries : (place number start : ℕ) (rings : List (List Corner)) → start ≡ 2 * place
    → place + words (joined (records number rings)) < 2 ^ 31
    → AreIndexRecords start (entries place rings) (records number rings)
are_entries place number start [] is few = tt
are_entries place number start (ring ∷ rings) is few =
    let more = words_of_records number ring rings in (
      entry_is place number start ring is (omega (arith, few, more)),
      are_entries (place + 4 + words (content ring)) (number + 1) (start + length (record_bytes number ring)) rings
          (omega (arith, is, length-record number ring, length-content ring, words_of_content ring)) (omega (arith, few, more)),
    )

pub index_is : (rings : List (List Corner)) → length rings ≤ LAYER_RECORDS
    → length (all_corners rings) ≤ LAYER_CORNERS → IsIndexFile (written_index rings) (records 1 rings)
unfolding written_index
index_is rings few total =
    let n : ℕ = 50 + 4 * length rings in
    let front : List ℕ = header n (all_corners rings) in
    record {
      header = front;
      entries = entries 50 rings;
      ignored = [];
      is_text = ap (λ t. front ++ t) (sym (joined_entries 50 rings)) ∙ sym (append-nil (front ++ joined (entries 50 rings)));
      has_header = header_is n _ (all_corners rings) (omega (arith, few))
          (omega (arith, header_whole n (all_corners rings), length-entries 50 rings));
      has_entries = are_entries 50 1 100 rings refl (omega (arith, words_few 1 rings, few, total));
    }
