-- A file whose records are all read is a layer's main file with their rings.
use Rattle.std.proofs.Common.{◌≡◌, inl, inr, ℕ, ◌+◌, ◌-◌, ◌≤◌, List, [], ◌∷◌, ◌++◌, length, take, drop}
use Rattle.std.proofs.Common.{None, refl, sym, ap, subst, ◌∙◌, arith, append_assoc}
use Rattle.std.proofs.lemmas.List.{append-nil, length-append, length-drop, length-take-le, take-append-drop}
use Rattle.std.proofs.Math.Seq.{take-add}
use Rattle.geo_exact.specs.declared.corner.Corner.{Corner}
use Rattle.geo_exact.specs.declared.coord.Unit.{Unit as LengthUnit}
use Rattle.geo_exact.specs.declared.limits.TheConstants.{LAYER_CORNERS, LAYER_RECORDS}
use Rattle.shp_files.specs.declared.fault.FileName.TheVariants.{Main}
use Rattle.shp_files.specs.LayerFile.{NumberedRing, numbered, normal_rings, IsNullShape, IsPolygon, AreRecords}
use Rattle.shp_files.specs.LayerFile.{joined, corner_count, IsHeader, IsLayerFile}
use Rattle.shp_files.specs.Checks.{declared_end, record_end}
use Rattle.shp_files.proofs.layers.Headers.{end_is, header_text}
use Rattle.shp_files.proofs.lines.WhatPasses.{HeaderPasses, header_passes, FramePasses, record_passes, null_of, polygon_of}
use Rattle.shp_files.proofs.numbers.Places.{StandsAt}
use Rattle.shp_files.proofs.layers.Polygons.{null_from_passing, polygon_from_passing}
use Rattle.shp_files.proofs.layers.Walk.{Reads, corner_count-push}
use Rattle.shp_files.proofs.layers.Walk.Reads.{none, null, more}

joined-push : (pieces : List (List ℕ)) (piece : List ℕ) → joined (pieces ++ piece ∷ []) ≡ joined pieces ++ piece
joined-push [] piece = append-nil piece
joined-push (one ∷ pieces) piece = ap (λ rest. one ++ rest) (joined-push pieces piece) ∙ sym (append_assoc one (joined pieces) piece)

records_push_null : (unit : LengthUnit) (number : ℕ) (records : List (List ℕ)) (rings : List NumberedRing) (bytes : List ℕ)
    → AreRecords unit number records rings → IsNullShape bytes → AreRecords unit number (records ++ bytes ∷ []) rings
records_push_null unit number [] [] bytes are blank = (blank, tt)
records_push_null unit number [] (ring ∷ rings) bytes are blank = absurd are
records_push_null unit number (one ∷ records) [] bytes are blank =
    (are.0, records_push_null unit (number + 1) records [] bytes are.1 blank)
records_push_null unit number (one ∷ records) (ring ∷ rings) bytes are blank =
    elim are [
      | inl h ↦ inl (h.0, records_push_null unit (number + 1) records (ring ∷ rings) bytes h.1 blank)
      | inr h ↦ inr (h.0, h.1, records_push_null unit (number + 1) records rings bytes h.2 blank)
    ]

records_push : (unit : LengthUnit) (number : ℕ) (records : List (List ℕ)) (rings : List NumberedRing) (bytes : List ℕ)
    (position : ℕ) (corners : List Corner)
    → AreRecords unit number records rings → number + length records ≡ position → IsPolygon unit bytes corners
    → AreRecords unit number (records ++ bytes ∷ []) (rings ++ numbered position corners ∷ [])
records_push unit number [] [] bytes position corners are count polygon = inr (omega (arith, count), polygon, tt)
records_push unit number [] (ring ∷ rings) bytes position corners are count polygon = absurd are
records_push unit number (one ∷ records) [] bytes position corners are count polygon =
    inl (are.0, records_push unit (number + 1) records [] bytes position corners are.1 (omega (arith, count)) polygon)
records_push unit number (one ∷ records) (ring ∷ rings) bytes position corners are count polygon =
    elim are [
      | inl h ↦ inl
          (h.0, records_push unit (number + 1) records (ring ∷ rings) bytes position corners h.1 (omega (arith, count)) polygon)
      | inr h ↦ inr (h.0, h.1, records_push unit (number + 1) records rings bytes position corners h.2 (omega (arith, count)) polygon)
    ]

-- what was read up to a byte, as text
pub record Parsed (main : List ℕ) (unit : LengthUnit) (position start : ℕ) (rings : List NumberedRing) : Type 0 where
  pub records : List (List ℕ)
  pub text : take start main ≡ take 100 main ++ joined records
  pub are : AreRecords unit 1 records rings
  pub count : 1 + length records ≡ position
  pub long : 100 ≤ start
  pub within : start ≤ declared_end main
  pub few : position ≤ LAYER_RECORDS + 1
  pub few_together : corner_count rings ≤ LAYER_CORNERS
  pub header : HeaderPasses main

-- the next record as text
record IsNext (main : List ℕ) (start end : ℕ) (records : List (List ℕ)) : Type 0 where
  bytes : List ℕ
  stands : StandsAt main start bytes
  size : start + length bytes ≡ end
  text : take end main ≡ take 100 main ++ joined (records ++ bytes ∷ [])

piece_of : (main : List ℕ) (unit : LengthUnit) (p s : ℕ) (before : List NumberedRing)
    → (old : Parsed main unit p s before) → FramePasses main p s
    → IsNext main s (record_end main s) old.records
piece_of main unit p s before old frame =
    let end : ℕ = record_end main s in
    let size : ℕ = end - s in
    let piece : List ℕ = take size (drop s main) in
    let whole : declared_end main ≤ length main = omega (arith, end_is main, old.header.within) in
    let piece_length : length piece ≡ size = length-take-le size (drop s main) (omega (arith, length-drop s main, frame.within)) in
    let grows : s + size ≡ end = omega arith in
    record {
      bytes = piece;
      stands = record { tail = drop size (drop s main); is = sym (take-append-drop size (drop s main)) };
      size = omega (arith, piece_length);
      text = ap (λ n. take n main) (sym grows) ∙ take-add s size main ∙ ap (λ t. t ++ piece) old.text
          ∙ append_assoc (take 100 main) (joined old.records) piece
          ∙ ap (λ t. take 100 main ++ t) (sym (joined-push old.records piece));
    }

pub parsed : (main : List ℕ) (unit : LengthUnit) (position start : ℕ) (rings : List NumberedRing)
    → Reads main unit position start rings
    → Parsed main unit position start rings
parsed main unit position start rings (none h) =
    let header = header_passes Main main h in
    record {
      records = [];
      text = sym (append-nil (take 100 main));
      are = tt;
      count = refl;
      long = omega arith;
      within = omega (arith, end_is main, header.long);
      few = omega arith;
      few_together = omega arith;
      header = header;
    }
parsed main unit position start rings (null p s before reads apart passes type) =
    let old = parsed main unit p s before reads in
    let facts = null_of main unit p s (corner_count before) (record_passes main unit p s (corner_count before) passes) type in
    let piece = piece_of main unit p s before old facts.frame in
    record {
      records = old.records ++ piece.bytes ∷ [];
      text = piece.text;
      are = records_push_null unit 1 old.records before piece.bytes old.are
          (null_from_passing main p s piece.bytes facts piece.stands piece.size);
      count = omega (arith, old.count, length-append old.records (piece.bytes ∷ []));
      long = omega (arith, old.long);
      within = facts.frame.within;
      few = omega (arith, facts.frame.few_records);
      few_together = old.few_together;
      header = old.header;
    }
parsed main unit position start rings (more p s before corners reads apart passes type count are) =
    let old = parsed main unit p s before reads in
    let facts = polygon_of main unit p s (corner_count before) (record_passes main unit p s (corner_count before) passes) type in
    let piece = piece_of main unit p s before old facts.frame in
    let polygon = polygon_from_passing main unit p s (corner_count before) piece.bytes corners facts piece.stands piece.size count are in
    record {
      records = old.records ++ piece.bytes ∷ [];
      text = piece.text;
      are = records_push unit 1 old.records before piece.bytes p corners old.are old.count polygon;
      count = omega (arith, old.count, length-append old.records (piece.bytes ∷ []));
      long = omega (arith, old.long);
      within = facts.frame.within;
      few = omega (arith, facts.frame.few_records);
      few_together = omega (arith, corner_count-push before (numbered p corners), facts.counts.few_together, count);
      header = old.header;
    }

-- at the declared end the file is a layer's
pub layer_file : (main : List ℕ) (unit : LengthUnit) (position start : ℕ) (drawn rings : List NumberedRing)
    → Reads main unit position start drawn
    → start ≡ declared_end main
    → rings ≡ normal_rings drawn → IsLayerFile main None unit rings
layer_file main unit position start drawn rings reads is normal =
    let all = parsed main unit position start drawn reads in
    let header : List ℕ = take 100 main in
    let text_length : length (take start main) ≡ start = length-take-le start main (omega (arith, end_is main, all.header.within)) in
    let parts : length (take start main) ≡ length header + length (joined all.records) = ap length all.text
    ∙ length-append header (joined all.records) in
    let declared : declared_end main ≡ length header + length (joined all.records) = omega (arith, is, text_length, parts) in
    record {
      header = header;
      records = all.records;
      ignored = drop start main;
      drawn = drawn;
      is_text = sym (take-append-drop start main) ∙ ap (λ t. t ++ drop start main) all.text;
      has_header = subst (IsHeader header) declared (header_text main all.header);
      has_records = all.are;
      records_within = omega (arith, all.count, all.few);
      corners_within = all.few_together;
      has_index = tt;
      has_rings = normal;
    }
