-- The index of a layer, record by record.
use Rattle.std.proofs.Common.{◌≡◌, ◌≢◌, inl, inr, ℕ, ◌+◌, ◌/◌, ◌≤◌, not, pos, List, [], ◌∷◌, ◌++◌}
use Rattle.std.proofs.Common.{length, take, drop, Some, None, refl, sym, ap, subst, ◌∙◌, arith, append_assoc}
use Rattle.std.proofs.lemmas.Int.{ints}
use Rattle.std.proofs.lemmas.Bool.{cases_order, ltb-false, le-ltb, eqb-true, eq-eqb, ne_eqb, not-false}
use Rattle.std.proofs.lemmas.List.{length-append, length-drop, length-take-le, take-append-drop, drop-drop, drop_at}
use Rattle.geo_exact.specs.declared.coord.Unit.{Unit as LengthUnit}
use Rattle.shp_files.specs.declared.fault.FileName.TheVariants.{Index}
use Rattle.shp_files.specs.Layout.{big_at, content_words, offset_words}
use Rattle.shp_files.specs.LayerFile.{NumberedRing, numbered, AreRecords, joined, IsHeader, IsIndexRecord}
use Rattle.shp_files.specs.LayerFile.{AreIndexRecords, IsIndexFile, IsLayerFile}
use Rattle.shp_files.specs.Checks.{first_failure, declared_end, record_end}
use Rattle.shp_files.specs.IndexChecks.{entry_place, entry_checks, index_end_checks, index_record_checks}
use Rattle.shp_files.specs.FirstFault.{Reaches}
use Rattle.shp_files.specs.own.Reading.{Agrees}
use Rattle.shp_files.proofs.layers.Complete.{Stand, stand_null, stand_polygon, stand_of_file, behind}
use Rattle.shp_files.proofs.layers.Headers.{end_is, header_found, header_text}
use Rattle.shp_files.proofs.lines.Lines.{pass, pass_from, first_failure_none}
use Rattle.shp_files.proofs.numbers.Numbers.{same_from_is_not, is_not_same}
use Rattle.shp_files.proofs.lines.WhatPasses.{header_passes, header_passes_from}
use Rattle.shp_files.proofs.numbers.Places.{StandsAt, big_at_part}
use Rattle.shp_files.proofs.lines.ReachedRecords.{position_from_1, same_place, passed, not_past_end, begins_even}
use Rattle.shp_files.proofs.layers.Walk.{reached}

-- the bytes are the record at this position, which is reached and begins at this byte
record IsHere (main : List ℕ) (unit : LengthUnit) (position start : ℕ) (bytes : List ℕ) : Type 0 where
  corners : ℕ
  reaches : Reaches main unit position start corners
  apart : start ≢ declared_end main
  stands : StandsAt main start bytes
  long : 12 ≤ length bytes
  end : record_end main start ≡ start + length bytes

-- the main file is read to its end before this position
record EndsHere (main : List ℕ) (unit : LengthUnit) (position start : ℕ) : Type 0 where
  corners : ℕ
  reaches : Reaches main unit position start corners
  end : start ≡ declared_end main

-- the records from this position on, up to the main file's end
abbrev AreHere : (main : List ℕ) (unit : LengthUnit) → ℕ → ℕ → List (List ℕ) → Type 0
AreHere main unit position start [] = EndsHere main unit position start
AreHere main unit position start (bytes ∷ records) = IsHere main unit position start bytes
    × AreHere main unit (position + 1) (record_end main start) records

is_here : (main : List ℕ) (unit : LengthUnit) (number start : ℕ) (done : List NumberedRing) (bytes : List ℕ)
    (records : List (List ℕ))
    (rings : List NumberedRing) (ignored : List ℕ) (after : List NumberedRing) (left : List NumberedRing)
    → Stand main unit number start done (bytes ∷ records) rings ignored
    → Stand main unit (number + 1) (record_end main start) after records left ignored → 12 ≤ length bytes
    → IsHere main unit number start bytes
is_here main unit number start done bytes records rings ignored after left stand next long =
    let sizes = length-append bytes (joined records) in
    let here = stand.end in
    let there = next.end in
    record {
      corners = _;
      reaches = reached main unit number start done stand.reads;
      apart = λ e. omega (arith, e, here, sizes, long);
      stands = record { tail = joined records ++ ignored; is = stand.text ∙ append_assoc bytes (joined records) ignored };
      long = long;
      end = omega (arith, here, there, sizes);
    }

-- records that stand behind those that were read are reached
are_here : (main : List ℕ) (unit : LengthUnit) (number start : ℕ) (done : List NumberedRing) (records : List (List ℕ))
    (rings : List NumberedRing)
    (ignored : List ℕ) → Stand main unit number start done records rings ignored
    → AreRecords unit number records rings → AreHere main unit number start records
are_here main unit number start done [] [] ignored stand are =
    record { corners = _; reaches = reached main unit number start done stand.reads; end = omega (arith, stand.end) }
are_here main unit number start done [] (ring ∷ rings) ignored stand are = absurd are
are_here main unit number start done (bytes ∷ records) [] ignored stand are =
    let next = stand_null main unit number start done bytes records [] ignored stand are.0 in (
      is_here main unit number start done bytes records [] ignored done [] stand next (omega (arith, are.0.is_whole)),
      are_here main unit (number + 1) (record_end main start) done records [] ignored next are.1,
    )
are_here main unit number start done (bytes ∷ records) (ring ∷ rings) ignored stand are =
    elim are [
      | inl h ↦
          let next = stand_null main unit number start done bytes records (ring ∷ rings) ignored stand h.0 in (
            is_here main unit number start done bytes records (ring ∷ rings) ignored done (ring ∷ rings) stand next
                (omega (arith, h.0.is_whole)),
            are_here main unit (number + 1) (record_end main start) done records (ring ∷ rings) ignored next h.1,
          )
      | inr h ↦
          let next = stand_polygon main unit number start done bytes records ring rings ignored stand h.1 in
          let after : List NumberedRing = done ++ numbered number ring.corners ∷ [] in (
            is_here main unit number start done bytes records (ring ∷ rings) ignored after rings stand next
                (omega (arith, h.1.is_filled)),
            are_here main unit (number + 1) (record_end main start) after records rings ignored next h.2,
          )
    ]

-- the number at which a part of a file begins
big_at_start : (file : List ℕ) (start : ℕ) (bytes : List ℕ) → StandsAt file start bytes → 4 ≤ length bytes
    → big_at file start ≡ big_at bytes 0
big_at_start file start bytes h long =
    let here : start ≡ start + 0 = omega arith in
    ap (λ n. big_at file n) here ∙ big_at_part file start bytes 0 h (omega (arith, long))

-- an index record is that of a record exactly where it passes its checks
record_agrees : (main index : List ℕ) (position start : ℕ) (bytes entry : List ℕ) → StandsAt main start bytes
    → 12 ≤ length bytes
    → StandsAt index (entry_place position) entry → entry_place position + 8 ≤ declared_end index → IsIndexRecord entry start bytes
    → first_failure (index_record_checks main index position start) ≡ None
unfolding index_record_checks
record_agrees main index position start bytes entry stands long there fits is =
    let place : ℕ = entry_place position in
    let half : offset_words entry 0 ≡ pos (start / 2) = omega (arith, ints, is.has_offset) in
    let offset : offset_words index place ≡ pos (start / 2) =
    big_at_start index place entry there (omega (arith, is.is_whole)) ∙ half in
    let words : content_words index place ≡ content_words main start =
    big_at_part index place entry 4 there (omega (arith, is.is_whole)) ∙ is.has_length
    ∙ sym (big_at_part main start bytes 4 stands (omega (arith, long))) in
    pass_from _ _ _ (le-ltb _ _ fits)
    (pass_from _ _ _ (is_not_same _ _ offset)
    (pass_from _ _ _ (is_not_same _ _ words) first_failure_none))

-- an index record that passes its checks
record RecordAgrees (main index : List ℕ) (position start : ℕ) : Type 0 where
  fits : entry_place position + 8 ≤ declared_end index
  offset : offset_words index (entry_place position) ≡ pos (start / 2)
  words : content_words index (entry_place position) ≡ content_words main start

record_agrees_from : (main index : List ℕ) (position start : ℕ)
    → first_failure (index_record_checks main index position start) ≡ None
    → RecordAgrees main index position start
unfolding index_record_checks
record_agrees_from main index position start e =
    let p0 = pass _ _ _ e in
    let p1 = pass _ _ _ p0.1 in
    let p2 = pass _ _ _ p1.1 in
    record { fits = ltb-false _ _ p0.0; offset = same_from_is_not _ _ p1.0; words = same_from_is_not _ _ p2.0 }

index_record_of : (main index : List ℕ) (unit : LengthUnit) (position start : ℕ) (bytes entry : List ℕ)
    → (here : IsHere main unit position start bytes)
    → RecordAgrees main index position start
    → StandsAt index (entry_place position) entry → length entry ≡ 8 → IsIndexRecord entry start bytes
index_record_of main index unit position start bytes entry here agrees there whole =
    let even = begins_even main unit position start here.corners here.reaches in
    let offset : offset_words entry 0 ≡ pos (start / 2) =
    sym (big_at_start index (entry_place position) entry there (omega (arith, whole))) ∙ agrees.offset in
    record {
      is_whole = whole;
      has_offset = omega (arith, ints, offset, even);
      has_length = sym (big_at_part index (entry_place position) entry 4 there (omega (arith, whole))) ∙ agrees.words
          ∙ big_at_part main start bytes 4 here.stands (omega (arith, here.long));
    }

-- the checks at a position are those of its index record, or those of the end
pub checks_at_record : (main index : List ℕ) (position start : ℕ) → start ≢ declared_end main
    → entry_checks main index position start ≡ index_record_checks main index position start
unfolding entry_checks
checks_at_record main index position start apart = rw (ne_eqb _ _ apart) refl

pub checks_at_end : (main index : List ℕ) (position start : ℕ) → start ≡ declared_end main
    → entry_checks main index position start ≡ index_end_checks index position
unfolding entry_checks
checks_at_end main index position start is = rw (eq-eqb _ _ is) refl

end_agrees : (index : List ℕ) (position : ℕ) → declared_end index ≡ entry_place position
    → first_failure (index_end_checks index position) ≡ None
unfolding index_end_checks
end_agrees index position is = pass_from _ _ _ (ap not (eq-eqb _ _ is)) first_failure_none

end_agrees_from : (index : List ℕ) (position : ℕ) → first_failure (index_end_checks index position) ≡ None
    → declared_end index ≡ entry_place position
unfolding index_end_checks
end_agrees_from index position e = eqb-true _ _ (not-false _ (pass _ _ _ e).0)

next_place : (position : ℕ) → 1 ≤ position → entry_place (position + 1) ≡ entry_place position + 8
next_place position from = omega arith

-- where there are index records for the records from a position on, all checks from there on pass
entries_agree : (main index : List ℕ) (unit : LengthUnit) (position start : ℕ) (records entries : List (List ℕ))
    (ignored : List ℕ) → 1 ≤ position
    → AreHere main unit position start records → AreIndexRecords start entries records
    → drop (entry_place position) index ≡ joined entries ++ ignored
    → entry_place position + length (joined entries) ≡ declared_end index
    → (p s c : ℕ) → Reaches main unit p s c → position ≤ p → first_failure (entry_checks main index p s) ≡ None
entries_agree main index unit position start [] [] ignored from here are text end p s c r above =
    elim (cases_order p position) [
      | inl e ↦
          let is : s ≡ declared_end main = (same_place main unit p s c position start here.corners r here.reaches e).0 ∙ here.end in
          ap first_failure (checks_at_end main index p s is) ∙ end_agrees index p (omega (arith, end, e))
      | inr o ↦ elim o [
        | inl lt ↦ absurd (omega (arith, lt, above))
        | inr gt ↦ absurd (not_past_end main unit position start here.corners here.reaches here.end
            (passed main unit p s c position r gt from))
      ]
    ]
entries_agree main index unit position start [] (entry ∷ entries) ignored from here are text end p s c r above = absurd are
entries_agree main index unit position start (bytes ∷ records) [] ignored from here are text end p s c r above = absurd are
entries_agree main index unit position start (bytes ∷ records) (entry ∷ entries) ignored from here are text end p s c r above =
    let split : drop (entry_place position) index ≡ entry ++ (joined entries ++ ignored) = text
    ∙ append_assoc entry (joined entries) ignored in
    let there : StandsAt index (entry_place position) entry = record { tail = joined entries ++ ignored; is = split } in
    let sizes = length-append entry (joined entries) in
    elim (cases_order p position) [
      | inl e ↦
          let same : s ≡ start = (same_place main unit p s c position start here.0.corners r here.0.reaches e).0 in
          let passes : first_failure (entry_checks main index position start) ≡ None =
          ap first_failure (checks_at_record main index position start here.0.apart)
          ∙ record_agrees main index position start bytes entry here.0.stands here.0.long there
          (omega (arith, end, sizes, are.0.is_whole)) are.0 in
          rw (e, same) passes
      | inr o ↦ elim o [
        | inl lt ↦ absurd (omega (arith, lt, above))
        | inr gt ↦
            let place : entry_place (position + 1) ≡ entry_place position + length entry =
            omega (arith, next_place position from, are.0.is_whole) in
            entries_agree main index unit (position + 1) (record_end main start) records entries ignored (omega arith) here.1
            (subst (λ (n : ℕ). AreIndexRecords n entries records) (sym here.0.end) are.1)
            (behind index (entry_place position) (entry_place (position + 1)) entry (joined entries ++ ignored) split place)
            (omega (arith, place, end, sizes)) p s c r (omega (arith, gt))
      ]
    ]

-- the index records for the records from a position on, as text
record EntriesOf (index : List ℕ) (position start : ℕ) (records : List (List ℕ)) : Type 0 where
  entries : List (List ℕ)
  are : AreIndexRecords start entries records
  text : drop (entry_place position) index ≡ joined entries ++ drop (declared_end index) index
  end : entry_place position + length (joined entries) ≡ declared_end index

-- where all checks pass, they are there
entries_of : (main index : List ℕ) (unit : LengthUnit) (position start : ℕ) (records : List (List ℕ)) → 1 ≤ position
    → declared_end index ≤ length index
    → Agrees main index unit → AreHere main unit position start records → EntriesOf index position start records
entries_of main index unit position start [] from within agrees here =
    let passes = agrees.has_entries position start here.corners here.reaches in
    let is : declared_end index ≡ entry_place position =
    end_agrees_from index position (ap first_failure (sym (checks_at_end main index position start here.end)) ∙ passes) in
    record { entries = []; are = tt; text = ap (λ n. drop n index) (sym is); end = omega (arith, is) }
entries_of main index unit position start (bytes ∷ records) from within agrees here =
    let place : ℕ = entry_place position in
    let passes = agrees.has_entries position start here.0.corners here.0.reaches in
    let says = record_agrees_from main index position start
    (ap first_failure (sym (checks_at_record main index position start here.0.apart)) ∙ passes) in
    let entry : List ℕ = take 8 (drop place index) in
    let there : StandsAt index place entry = record {
      tail = drop 8 (drop place index);
      is =
          sym (take-append-drop 8 (drop place index));
    } in
    let whole : length entry ≡ 8 = length-take-le 8 (drop place index) (omega (arith, length-drop place index, says.fits, within)) in
    let rest = entries_of main index unit (position + 1) (record_end main start) records (omega arith) within agrees here.1 in
    let left : drop 8 (drop place index) ≡ drop (entry_place (position + 1)) index =
    drop-drop 8 place index ∙ ap (λ n. drop n index) (sym (next_place position from)) in
    record {
      entries = entry ∷ rest.entries;
      are = (
        index_record_of main index unit position start bytes entry here.0 says there whole,
        subst (λ (n : ℕ). AreIndexRecords n rest.entries records) here.0.end rest.are,
      );
      text = there.is ∙ ap (λ t. entry ++ t) (left ∙ rest.text)
          ∙ sym (append_assoc entry (joined rest.entries) (drop (declared_end index) index));
      end = omega (arith, length-append entry (joined rest.entries), whole, rest.end, next_place position from);
    }

-- all checks of the index of a layer pass
pub agrees_of_file : (main index : List ℕ) (unit : LengthUnit) (rings : List NumberedRing)
    → IsLayerFile main (Some index) unit rings → Agrees main index unit
agrees_of_file main index unit rings file =
    let is : IsIndexFile index file.records = file.has_index in
    let here = are_here main unit 1 100 [] file.records file.drawn file.ignored
    (stand_of_file main (Some index) unit rings file) file.has_records in
    let split : index ≡ is.header ++ (joined is.entries ++ is.ignored) = is.is_text
    ∙ append_assoc is.header (joined is.entries) is.ignored in
    let sizes : length index ≡ length is.header + (length (joined is.entries) + length is.ignored) =
    ap length split ∙ length-append is.header (joined is.entries ++ is.ignored)
    ∙ ap (λ n. length is.header + n) (length-append (joined is.entries) is.ignored) in
    let header = header_found index is.header (joined is.entries ++ is.ignored)
    (length is.header + length (joined is.entries)) split is.has_header
    (omega (arith, is.has_header.is_whole)) (omega (arith, sizes)) in
    let rest : drop 100 index ≡ joined is.entries ++ is.ignored =
    ap (λ xs. drop 100 xs) split ∙ drop_at is.header (joined is.entries ++ is.ignored) 100 is.has_header.is_whole in
    record {
      has_header = header_passes_from Index index header.passes;
      has_entries = λ p s c r. entries_agree main index unit 1 100 file.records is.entries is.ignored
          (omega arith) here is.has_entries rest
          (omega (arith, header.end, is.has_header.is_whole)) p s c r (position_from_1 main unit p s c r);
    }

-- and where all checks pass, it is the index of the layer
pub file_of_agrees : (main index : List ℕ) (unit : LengthUnit) (rings : List NumberedRing)
    → IsLayerFile main None unit rings → Agrees main index unit
    → IsLayerFile main (Some index) unit rings
file_of_agrees main index unit rings file agrees =
    let here = are_here main unit 1 100 [] file.records file.drawn file.ignored
    (stand_of_file main None unit rings file) file.has_records in
    let passes = header_passes Index index agrees.has_header in
    let found = entries_of main index unit 1 100 file.records (omega arith) (omega (arith, end_is index, passes.within)) agrees here in
    let header : List ℕ = take 100 index in
    let declared : declared_end index ≡ length header + length (joined found.entries) =
    omega (arith, found.end, length-take-le 100 index passes.whole) in
    record {
      header = file.header;
      records = file.records;
      ignored = file.ignored;
      drawn = file.drawn;
      is_text = file.is_text;
      has_header = file.has_header;
      has_records = file.has_records;
      records_within = file.records_within;
      corners_within = file.corners_within;
      has_index = record {
        header = header;
        entries = found.entries;
        ignored = drop (declared_end index) index;
        is_text = sym (take-append-drop 100 index) ∙ ap (λ t. header ++ t) found.text
            ∙ sym (append_assoc header (joined found.entries) (drop (declared_end index) index));
        has_header = subst (IsHeader header) declared (header_text index passes);
        has_entries = found.are;
      };
      has_rings = file.has_rings;
    }
