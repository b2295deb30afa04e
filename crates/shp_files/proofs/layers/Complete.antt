-- The records of a layer's main file are all read, with its rings.
use Rattle.std.proofs.Common.{inl, inr, ◌≡◌, ◌≢◌, ℕ, suc, ◌+◌, ◌≤◌, List, [], ◌∷◌, ◌++◌, length, drop}
use Rattle.std.proofs.Common.{Option, refl, sym, ap, subst, ◌∙◌, arith, append_assoc}
use Rattle.std.proofs.lemmas.List.{append-nil, length-append, drop-drop, drop_at}
use Rattle.geo_exact.specs.declared.coord.Unit.{Unit as LengthUnit}
use Rattle.geo_exact.specs.declared.limits.TheConstants.{LAYER_CORNERS, LAYER_RECORDS}
use Rattle.shp_files.specs.declared.fault.FileName.TheVariants.{Main}
use Rattle.shp_files.specs.LayerFile.{NumberedRing, AreRecords, joined, corner_count, IsNullShape, IsPolygon, numbered, IsLayerFile}
use Rattle.shp_files.specs.Checks.{declared_end, record_end}
use Rattle.shp_files.proofs.lines.WhatPasses.{header_passes_from, record_passes_from, is_null_from, is_null_not}
use Rattle.shp_files.proofs.lines.WhatPasses.RecordPasses.{null as null_passes, polygon as polygon_passes}
use Rattle.shp_files.proofs.numbers.Places.{StandsAt}
use Rattle.shp_files.proofs.layers.Polygons.{read_from_null, read_from_polygon}
use Rattle.shp_files.proofs.layers.Headers.{header_found}
use Rattle.shp_files.proofs.layers.Walk.{Reads, corner_count-push}
use Rattle.shp_files.proofs.layers.Walk.Reads.{none, null, more}

at_place : (main : List ℕ) (unit : LengthUnit) (p q s t : ℕ) (a b : List NumberedRing) → Reads main unit p s a → p ≡ q
    → s ≡ t → a ≡ b → Reads main unit q t b
at_place main unit p q s t a b reads e f g =
    subst (λ (r : List NumberedRing). Reads main unit q t r) g (subst (λ (n : ℕ). Reads main unit q n a) f
    (subst (λ (n : ℕ). Reads main unit n s a) e reads))

-- what stands behind a record
pub behind : (main : List ℕ) (start end : ℕ) (bytes rest : List ℕ) → drop start main ≡ bytes ++ rest
    → end ≡ start + length bytes → drop end main ≡ rest
behind main start end bytes rest split is =
    ap (λ n. drop n main) is ∙ sym (drop-drop (length bytes) start main) ∙ ap (λ xs. drop (length bytes) xs) split
    ∙ drop_at bytes rest (length bytes) refl

-- where records stand behind those that were read, with these rings
pub record Stand (main : List ℕ) (unit : LengthUnit) (number start : ℕ) (done : List NumberedRing)
    (records : List (List ℕ)) (rings : List NumberedRing)
    (ignored : List ℕ) : Type 0 where
  pub reads : Reads main unit number start done
  pub text : drop start main ≡ joined records ++ ignored
  pub end : start + length (joined records) ≡ declared_end main
  pub few : number + length records ≤ LAYER_RECORDS + 1
  pub together : corner_count done + corner_count rings ≤ LAYER_CORNERS

-- a null shape is read
pub stand_null : (main : List ℕ) (unit : LengthUnit) (number start : ℕ) (done : List NumberedRing) (bytes : List ℕ)
    (records : List (List ℕ)) (rings : List NumberedRing) (ignored : List ℕ)
    → Stand main unit number start done (bytes ∷ records) rings ignored → IsNullShape bytes
    → Stand main unit (number + 1) (record_end main start) done records rings ignored
stand_null main unit number start done bytes records rings ignored stand blank =
    let split : drop start main ≡ bytes ++ (joined records ++ ignored) = stand.text ∙ append_assoc bytes (joined records) ignored in
    let stands : StandsAt main start bytes = record { tail = joined records ++ ignored; is = split } in
    let sizes = length-append bytes (joined records) in
    let end = stand.end in
    let read = read_from_null main number start bytes blank stands (omega (arith, stand.few)) (omega (arith, end, sizes)) in
    let apart : start ≢ declared_end main = λ e. omega (arith, e, end, sizes, blank.is_whole) in
    record {
      reads = null number start done stand.reads apart (record_passes_from main unit number start (corner_count done)
          (null_passes read.passes)) (is_null_from main start read.passes.type_is);
      text = behind main start (record_end main start) bytes (joined records ++ ignored) split read.end;
      end = omega (arith, read.end, end, sizes);
      few = omega (arith, stand.few);
      together = stand.together;
    }

-- a polygon is read
pub stand_polygon : (main : List ℕ) (unit : LengthUnit) (number start : ℕ) (done : List NumberedRing) (bytes : List ℕ)
    (records : List (List ℕ)) (ring : NumberedRing)
    (rings : List NumberedRing) (ignored : List ℕ) → Stand main unit number start done (bytes ∷ records)
    (ring ∷ rings) ignored → IsPolygon unit bytes ring.corners
    → Stand main unit (number + 1) (record_end main start) (done ++ numbered number ring.corners ∷ []) records rings ignored
stand_polygon main unit number start done bytes records ring rings ignored stand polygon =
    let split : drop start main ≡ bytes ++ (joined records ++ ignored) = stand.text ∙ append_assoc bytes (joined records) ignored in
    let stands : StandsAt main start bytes = record { tail = joined records ++ ignored; is = split } in
    let sizes = length-append bytes (joined records) in
    let end = stand.end in
    let together = stand.together in
    let read = read_from_polygon main unit number start (corner_count done) bytes ring.corners polygon stands
    (omega (arith, stand.few)) (omega (arith, end, sizes)) (omega (arith, together)) in
    let apart : start ≢ declared_end main = λ e. omega (arith, e, end, sizes, polygon.is_filled) in
    record {
      reads = more number start done ring.corners stand.reads apart (record_passes_from main unit number start
          (corner_count done) (polygon_passes read.passes))
          (is_null_not main start read.passes.type_is) read.count read.are;
      text = behind main start (record_end main start) bytes (joined records ++ ignored) split read.end;
      end = omega (arith, read.end, end, sizes);
      few = omega (arith, stand.few);
      together = omega (arith, together, corner_count-push done (numbered number ring.corners));
    }

pushed_back : (done : List NumberedRing) (number : ℕ) (ring : NumberedRing) (rings : List NumberedRing) → ring.number ≡ number
    → (done ++ numbered number ring.corners ∷ []) ++ rings ≡ done ++ (ring ∷ rings)
pushed_back done number ring rings e =
    append_assoc done (numbered number ring.corners ∷ []) rings ∙ ap (λ n. done ++ (numbered n ring.corners ∷ rings)) (sym e)

-- records that stand behind those that were read are read
reads_records : (main : List ℕ) (unit : LengthUnit) (number start : ℕ) (done : List NumberedRing)
    (records : List (List ℕ)) (rings : List NumberedRing) (ignored : List ℕ)
    → Stand main unit number start done records rings ignored → AreRecords unit number records rings
    → Reads main unit (number + length records) (declared_end main) (done ++ rings)
reads_records main unit number start done [] [] ignored stand are =
    at_place main unit number (number + 0) start (declared_end main) done (done ++ []) stand.reads (omega arith)
    (omega (arith, stand.end)) (sym (append-nil done))
reads_records main unit number start done [] (ring ∷ rings) ignored stand are = absurd are
reads_records main unit number start done (bytes ∷ records) [] ignored stand are =
    let all = reads_records main unit (number + 1) (record_end main start) done records [] ignored
    (stand_null main unit number start done bytes records [] ignored stand are.0) are.1 in
    at_place main unit (number + 1 + length records) (number + suc (length records)) (declared_end main)
    (declared_end main) (done ++ []) (done ++ []) all (omega arith) refl refl
reads_records main unit number start done (bytes ∷ records) (ring ∷ rings) ignored stand are =
    elim are [
      | inl h ↦
          let all = reads_records main unit (number + 1) (record_end main start) done records (ring ∷ rings) ignored
          (stand_null main unit number start done bytes records (ring ∷ rings) ignored stand h.0) h.1 in
          at_place main unit (number + 1 + length records) (number + suc (length records)) (declared_end main)
          (declared_end main) (done ++ (ring ∷ rings)) (done ++ (ring ∷ rings)) all (omega arith) refl refl
      | inr h ↦
          let all = reads_records main unit (number + 1) (record_end main start) (done ++ numbered number ring.corners
          ∷ []) records rings ignored
          (stand_polygon main unit number start done bytes records ring rings ignored stand h.1) h.2 in
          at_place main unit (number + 1 + length records) (number + suc (length records)) (declared_end main)
          (declared_end main) ((done ++ numbered number ring.corners ∷ []) ++ rings) (done ++ (ring ∷ rings))
          all (omega arith) refl (pushed_back done number ring rings h.0)
    ]

-- where the records of a layer's main file stand
pub stand_of_file : (main : List ℕ) (index : Option (List ℕ)) (unit : LengthUnit) (rings : List NumberedRing)
    → (file : IsLayerFile main index unit rings)
    → Stand main unit 1 100 [] file.records file.drawn file.ignored
stand_of_file main index unit rings file =
    let split : main ≡ file.header ++ (joined file.records ++ file.ignored) = file.is_text
    ∙ append_assoc file.header (joined file.records) file.ignored in
    let sizes : length main ≡ length file.header + (length (joined file.records) + length file.ignored) =
    ap length split ∙ length-append file.header (joined file.records ++ file.ignored)
    ∙ ap (λ n. length file.header + n) (length-append (joined file.records) file.ignored) in
    let header = header_found main file.header (joined file.records ++ file.ignored) (length file.header
    + length (joined file.records)) split file.has_header
    (omega (arith, file.has_header.is_whole)) (omega (arith, sizes)) in
    let rest : drop 100 main ≡ joined file.records ++ file.ignored =
    ap (λ xs. drop 100 xs) split ∙ drop_at file.header (joined file.records ++ file.ignored) 100 file.has_header.is_whole in
    record {
      reads = none (header_passes_from Main main header.passes);
      text = rest;
      end = omega (arith, header.end, file.has_header.is_whole);
      few = omega (arith, file.records_within);
      together = omega (arith, file.corners_within);
    }

-- a layer's main file is read to its declared end
pub reads_layer : (main : List ℕ) (index : Option (List ℕ)) (unit : LengthUnit) (rings : List NumberedRing)
    → (file : IsLayerFile main index unit rings)
    → Reads main unit (1 + length file.records) (declared_end main) file.drawn
reads_layer main index unit rings file =
    reads_records main unit 1 100 [] file.records file.drawn file.ignored (stand_of_file main index unit rings file) file.has_records
