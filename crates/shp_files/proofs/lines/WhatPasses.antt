-- What a header and a record say that pass their checks.
use Rattle.std.proofs.Common.{◌≡◌, ℕ, ◌+◌, ◌*◌, ◌-◌, ◌≤◌, pos, not, ◌&&◌, cond, Bool, true, false, List, []}
use Rattle.std.proofs.Common.{length, None, refl, sym, ◌∙◌, ap, arith}
use Rattle.std.proofs.lemmas.Bool.{ltb-false, le-ltb, eqb-true, eq-eqb, not-false, and_left, and_right, false≢true, or_parts, or_from}
use Rattle.std.proofs.lemmas.Bool.Decides.{Decides-int_eq}
use Rattle.std.specs.Ordering.{int_eq}
use Rattle.geo_exact.specs.declared.coord.Unit.{Unit as LengthUnit}
use Rattle.geo_exact.specs.declared.limits.TheConstants.{LAYER_CORNERS, LAYER_RECORDS, RING_CORNERS}
use Rattle.shp_files.specs.declared.fault.FileName.{FileName}
use Rattle.shp_files.specs.Layout.{file_code, file_words, version, header_shape_type, content_words, shape_type}
use Rattle.shp_files.specs.Layout.{part_count, point_count, first_part, natural}
use Rattle.shp_files.specs.Checks.{first_failure, is_not, declared_end, record_end, points_of, header_checks}
use Rattle.shp_files.specs.Checks.{frame_checks, shape_checks, count_checks}
use Rattle.shp_files.specs.Checks.{ring_checks, corner_checks, polygon_checks, distinct_points, is_null, record_checks}
use Rattle.shp_files.proofs.lines.Lines.{pass, pass_from, pass_parts, pass_both, first_failure_none}
use Rattle.shp_files.proofs.numbers.Numbers.{natural_from, pos_natural, not_below, same_from_is_not, is_not_same}

pub record HeaderPasses (main : List ℕ) : Type 0 where
  pub whole : 100 ≤ length main
  pub code : file_code main ≡ pos 9994
  pub words : file_words main ≡ pos (natural (file_words main))
  pub long : 50 ≤ natural (file_words main)
  pub within : 2 * natural (file_words main) ≤ length main
  pub version_is : version main ≡ pos 1000
  pub type_is : header_shape_type main ≡ pos 5

pub header_passes : (name : FileName) (main : List ℕ) → first_failure (header_checks name main) ≡ None → HeaderPasses main
unfolding header_checks declared_end
header_passes name main e =
    let a = pass _ _ _ e in
    let b = pass _ _ _ a.1 in
    let c = pass _ _ _ b.1 in
    let d = pass _ _ _ c.1 in
    let f = pass _ _ _ d.1 in
    let g = pass _ _ _ f.1 in
    record {
      whole = ltb-false _ _ a.0;
      code = same_from_is_not _ _ b.0;
      words = pos_natural 50 _ c.0;
      long = natural_from 50 _ c.0;
      within = ltb-false _ _ d.0;
      version_is = same_from_is_not _ _ f.0;
      type_is = same_from_is_not _ _ g.0;
    }

pub header_passes_from : (name : FileName) (main : List ℕ) → HeaderPasses main → first_failure (header_checks name main) ≡ None
unfolding header_checks declared_end
header_passes_from name main h =
    pass_from _ _ _ (le-ltb _ _ h.whole)
    (pass_from _ _ _ (is_not_same _ _ h.code)
    (pass_from _ _ _ (not_below 50 _ _ h.words h.long)
    (pass_from _ _ _ (le-ltb _ _ h.within)
    (pass_from _ _ _ (is_not_same _ _ h.version_is)
    (pass_from _ _ _ (is_not_same _ _ h.type_is) first_failure_none)))))

-- the frame of the record at this position that begins at this byte passes
pub record FramePasses (main : List ℕ) (position start : ℕ) : Type 0 where
  pub few_records : position ≤ LAYER_RECORDS
  pub room : start + 8 ≤ declared_end main
  pub words : content_words main start ≡ pos (natural (content_words main start))
  pub some : 2 ≤ natural (content_words main start)
  pub within : record_end main start ≤ declared_end main

pub frame_passes : (main : List ℕ) (position start : ℕ) → first_failure (frame_checks main position start) ≡ None
    → FramePasses main position start
unfolding frame_checks
frame_passes main position start e =
    let f1 = pass _ _ _ e in
    let f2 = pass _ _ _ f1.1 in
    let f3 = pass _ _ _ f2.1 in
    let f4 = pass _ _ _ f3.1 in
    record {
      few_records = ltb-false _ _ f1.0;
      room = ltb-false _ _ f2.0;
      words = pos_natural 2 _ f3.0;
      some = natural_from 2 _ f3.0;
      within = ltb-false _ _ f4.0;
    }

pub frame_passes_from : (main : List ℕ) (position start : ℕ) → FramePasses main position start
    → first_failure (frame_checks main position start) ≡ None
unfolding frame_checks
frame_passes_from main position start h =
    pass_from _ _ _ (le-ltb _ _ h.few_records)
    (pass_from _ _ _ (le-ltb _ _ h.room)
    (pass_from _ _ _ (not_below 2 _ _ h.words h.some)
    (pass_from _ _ _ (le-ltb _ _ h.within) first_failure_none)))

-- the counts of a polygon pass, where the polygons before it have so many corners together
pub record CountsPass (main : List ℕ) (start before : ℕ) : Type 0 where
  pub words : content_words main start ≡ pos (natural (content_words main start))
  pub long : 22 ≤ natural (content_words main start)
  pub parts : part_count main start ≡ pos 1
  pub points : point_count main start ≡ pos (points_of main start)
  pub enough : 4 ≤ points_of main start
  pub few : points_of main start ≤ RING_CORNERS + 1
  pub few_together : before + (points_of main start - 1) ≤ LAYER_CORNERS
  pub filled : 2 * natural (content_words main start) ≡ 48 + 16 * points_of main start
  pub first : first_part main start ≡ pos 0

pub counts_pass : (main : List ℕ) (position start before : ℕ)
    → first_failure (count_checks main position start before) ≡ None → CountsPass main start before
unfolding count_checks
counts_pass main position start before e =
    let p0 = pass _ _ _ e in
    let p1 = pass _ _ _ p0.1 in
    let p2 = pass _ _ _ p1.1 in
    let p3 = pass _ _ _ p2.1 in
    let p4 = pass _ _ _ p3.1 in
    let p5 = pass _ _ _ p4.1 in
    let p6 = pass _ _ _ p5.1 in
    let many = or_parts _ _ p4.0 in
    record {
      words = pos_natural 22 _ p0.0;
      long = natural_from 22 _ p0.0;
      parts = same_from_is_not _ _ p1.0;
      points = pos_natural 4 _ p3.0;
      enough = natural_from 4 _ p3.0;
      few = ltb-false _ _ many.0;
      few_together = ltb-false _ _ many.1;
      filled = eqb-true _ _ (not-false _ p5.0);
      first = same_from_is_not _ _ p6.0;
    }

pub counts_pass_from : (main : List ℕ) (position start before : ℕ) → CountsPass main start before
    → first_failure (count_checks main position start before) ≡ None
unfolding count_checks
counts_pass_from main position start before h =
    pass_from _ _ _ (not_below 22 _ _ h.words h.long)
    (pass_from _ _ _ (is_not_same _ _ h.parts)
    (pass_from _ _ _ (le-ltb _ _ (omega (arith, h.long)))
    (pass_from _ _ _ (not_below 4 _ _ h.points h.enough)
    (pass_from _ _ _ (or_from _ _ (le-ltb _ _ h.few) (le-ltb _ _ h.few_together))
    (pass_from _ _ _ (ap not (eq-eqb _ _ h.filled))
    (pass_from _ _ _ (is_not_same _ _ h.first) first_failure_none))))))

-- a null shape passes
pub record NullPasses (main : List ℕ) (position start : ℕ) : Type 0 where
  pub frame : FramePasses main position start
  pub type_is : shape_type main start ≡ pos 0
  pub words_are : content_words main start ≡ pos 2

-- a polygon passes
pub record PolygonPasses (main : List ℕ) (unit : LengthUnit) (position start before : ℕ) : Type 0 where
  pub frame : FramePasses main position start
  pub type_is : shape_type main start ≡ pos 5
  pub counts : CountsPass main start before
  pub ring : first_failure (ring_checks main unit position (start + 56) (points_of main start)) ≡ None
  pub distinct : 3 ≤ distinct_points main unit (start + 56) (points_of main start - 1)

-- the record at this position that begins at this byte passes, where the polygons before it have so many corners together
pub data RecordPasses (main : List ℕ) (unit : LengthUnit) (position start before : ℕ) : Type 0 where
  null : NullPasses main position start → RecordPasses main unit position start before
  polygon : PolygonPasses main unit position start before → RecordPasses main unit position start before

pub is_null_from : (main : List ℕ) (start : ℕ) → shape_type main start ≡ pos 0 → is_null main start ≡ true
is_null_from main start e = (Decides-int_eq (shape_type main start) (pos 0)).1 e

pub is_null_not : (main : List ℕ) (start : ℕ) → shape_type main start ≡ pos 5 → is_null main start ≡ false
is_null_not main start e = ap (λ z. int_eq z (pos 0)) e

passes_by_type : (main : List ℕ) (unit : LengthUnit) (position start before : ℕ) (type_is_0 : Bool) → is_null main start ≡ type_is_0
    → FramePasses main position start
    → (not type_is_0 && is_not (shape_type main start) (pos 5)) ≡ false
    → (type_is_0 && is_not (content_words main start) (pos 2)) ≡ false
    → first_failure (cond type_is_0 [] (polygon_checks main unit position start before)) ≡ None
    → RecordPasses main unit position start before
unfolding polygon_checks corner_checks
passes_by_type main unit position start before true e frame type words rest =
    null (record { frame = frame; type_is = (Decides-int_eq (shape_type main start) (pos 0)).0 e; words_are = same_from_is_not _ _ words })
passes_by_type main unit position start before false e frame type words rest =
    let counts = pass_parts (count_checks main position start before) _ rest in
    let ring = pass_parts (ring_checks main unit position (start + 56) (points_of main start)) _ counts.1 in
    polygon (record {
      frame = frame;
      type_is = same_from_is_not _ _ type;
      counts = counts_pass main position start before counts.0;
      ring = ring.0;
      distinct = ltb-false _ _ (pass _ _ _ ring.1).0;
    })

pub record_passes : (main : List ℕ) (unit : LengthUnit) (position start before : ℕ)
    → first_failure (record_checks main unit position start before) ≡ None
    → RecordPasses main unit position start before
unfolding record_checks shape_checks
record_passes main unit position start before e =
    let frame = pass_parts (frame_checks main position start) _ e in
    let shape = pass_parts (shape_checks main position start) _ frame.1 in
    let type = pass _ _ _ shape.0 in
    let words = pass _ _ _ type.1 in
    passes_by_type main unit position start before (is_null main start) refl
    (frame_passes main position start frame.0) type.0 words.0 shape.1

pub record_passes_from : (main : List ℕ) (unit : LengthUnit) (position start before : ℕ)
    → RecordPasses main unit position start before
    → first_failure (record_checks main unit position start before) ≡ None
unfolding record_checks shape_checks polygon_checks corner_checks
record_passes_from main unit position start before (null h) =
    let type = is_null_from main start h.type_is in
    let shape : first_failure (shape_checks main position start) ≡ None =
    pass_from _ _ _ (and_left _ _ (is_not_same _ _ h.type_is))
    (pass_from _ _ _ (and_right _ _ (is_not_same _ _ h.words_are)) first_failure_none) in
    pass_both _ _ (frame_passes_from main position start h.frame) (pass_both _ _ shape (rw type first_failure_none))
record_passes_from main unit position start before (polygon h) =
    let type = is_null_not main start h.type_is in
    let shape : first_failure (shape_checks main position start) ≡ None =
    pass_from _ _ _ (and_right _ _ (is_not_same _ _ h.type_is)) (pass_from _ _ _ (and_left _ _ type) first_failure_none) in
    let all : first_failure (polygon_checks main unit position start before) ≡ None =
    pass_both _ _ (counts_pass_from main position start before h.counts)
    (pass_both _ _ h.ring (pass_from _ _ [] (le-ltb _ _ h.distinct) first_failure_none)) in
    pass_both _ _ (frame_passes_from main position start h.frame) (pass_both _ _ shape (rw type all))

-- by its type a record that passes is a null shape or a polygon
pub null_of : (main : List ℕ) (unit : LengthUnit) (position start before : ℕ)
    → RecordPasses main unit position start before → is_null main start ≡ true
    → NullPasses main position start
null_of main unit position start before (null h) e = h
null_of main unit position start before (polygon h) e = absurd (false≢true (sym (is_null_not main start h.type_is) ∙ e))

pub polygon_of : (main : List ℕ) (unit : LengthUnit) (position start before : ℕ)
    → RecordPasses main unit position start before → is_null main start ≡ false
    → PolygonPasses main unit position start before
polygon_of main unit position start before (null h) e = absurd (false≢true (sym e ∙ is_null_from main start h.type_is))
polygon_of main unit position start before (polygon h) e = h
