-- The records of a file one after the other, with the rings that are read.
use Rattle.std.proofs.Common.{◌≡◌, ◌≢◌, true, false, inr, ℕ, ◌+◌, ◌-◌, List, [], ◌∷◌, ◌++◌, length, Some}
use Rattle.std.proofs.Common.{None, refl, sym, ap, ◌∙◌, subst, arith}
use Rattle.geo_exact.specs.declared.corner.Corner.{Corner}
use Rattle.geo_exact.specs.declared.coord.Unit.{Unit as LengthUnit}
use Rattle.shp_files.specs.LayerFile.{NumberedRing, numbered, normal_rings, closed, corner_count}
use Rattle.shp_files.specs.NormalForm.{normal_form}
use Rattle.std.proofs.lemmas.List.{map-append}
use Rattle.shp_files.specs.Checks.{first_failure, header_checks, record_checks, declared_end, record_end, points_of, is_null, drawn_corners}
use Rattle.shp_files.specs.FirstFault.{Reaches}
use Rattle.shp_files.specs.FirstFault.Reaches.{first, next}
use Rattle.shp_files.specs.FirstFault.{IsMainFault}
use Rattle.shp_files.specs.declared.fault.FileFault.{FileFault}
use Rattle.shp_files.specs.declared.fault.FileName.TheVariants.{Main}
use Rattle.shp_files.specs.declared.fault.LayerFault.{LayerFault}
use Rattle.shp_files.specs.declared.fault.LayerFault.TheVariants.{File}
use Rattle.shp_files.specs.own.Reading.{Fails, AreReadAs, IsDrawnAs}

-- The record at this position begins at this byte, and the polygons among those before it were read as these rings, as they are drawn.
pub data Reads (main : List ℕ) (unit : LengthUnit) : ℕ → ℕ → List NumberedRing → Type 0 where
  none : first_failure (header_checks Main main) ≡ None → Reads main unit 1 100 []
  null : (position start : ℕ) (drawn : List NumberedRing) → Reads main unit position start drawn → start ≢ declared_end main
      → first_failure (record_checks main unit position start (corner_count drawn)) ≡ None → is_null main start ≡ true
      → Reads main unit (position + 1) (record_end main start) drawn
  more : (position start : ℕ) (drawn : List NumberedRing) (corners : List Corner)
      → Reads main unit position start drawn → start ≢ declared_end main
      → first_failure (record_checks main unit position start (corner_count drawn)) ≡ None → is_null main start ≡ false
      → length corners + 1 ≡ points_of main start → AreReadAs unit main (start + 56) (closed corners)
      → Reads main unit (position + 1) (record_end main start) (drawn ++ numbered position corners ∷ [])

pub corner_count-push : (rings : List NumberedRing) (ring : NumberedRing) → corner_count (rings ++ ring ∷ [])
    ≡ corner_count rings + length ring.corners
corner_count-push [] ring = omega arith
corner_count-push (one ∷ rings) ring = omega (arith, corner_count-push rings ring)

pub drawn_of_null : (main : List ℕ) (start : ℕ) → is_null main start ≡ true → drawn_corners main start ≡ 0
drawn_of_null main start e = rw e refl

pub drawn_of_polygon : (main : List ℕ) (start : ℕ) → is_null main start ≡ false → drawn_corners main start
    ≡ points_of main start - 1
drawn_of_polygon main start e = rw e refl

-- such a record is reached
pub reached : (main : List ℕ) (unit : LengthUnit) (position start : ℕ) (drawn : List NumberedRing)
    → Reads main unit position start drawn
    → Reaches main unit position start (corner_count drawn)
reached main unit position start drawn (none h) = first h
reached main unit position start drawn (null p s before reads apart passes type) =
    let sum : corner_count before + drawn_corners main s ≡ corner_count before = omega (arith, drawn_of_null main s type) in
    subst (λ (n : ℕ). Reaches main unit (p + 1) (record_end main s) n) sum
    (next p s (corner_count before) (reached main unit p s before reads) apart passes)
reached main unit position start drawn (more p s before corners reads apart passes type count are) =
    let sum : corner_count before + drawn_corners main s ≡ corner_count (before ++ numbered p corners ∷ []) =
    omega (arith, count, drawn_of_polygon main s type, corner_count-push before (numbered p corners)) in
    subst (λ (n : ℕ). Reaches main unit (p + 1) (record_end main s) n) sum
    (next p s (corner_count before) (reached main unit p s before reads) apart passes)

-- one more polygon is read
pub reads_more : (main : List ℕ) (unit : LengthUnit) (position start : ℕ) (drawn : List NumberedRing) (before end : ℕ)
    (corners : List Corner)
    → Reads main unit position start drawn → before ≡ corner_count drawn → start ≢ declared_end main
    → first_failure (record_checks main unit position start before) ≡ None → is_null main start ≡ false
    → length corners + 1 ≡ points_of main start
    → AreReadAs unit main (start + 56) (closed corners) → end ≡ record_end main start
    → Reads main unit (position + 1) end (drawn ++ numbered position corners ∷ [])
reads_more main unit position start drawn before end corners reads sum apart passes type count are is =
    let P : ℕ → Type 0 = λ n. first_failure (record_checks main unit position start n) ≡ None in
    let Q : ℕ → Type 0 = λ n. Reads main unit (position + 1) n (drawn ++ numbered position corners ∷ []) in
    subst Q (sym is) (more position start drawn corners reads apart (subst P sum passes) type count are)

-- one more null shape is read
pub reads_null : (main : List ℕ) (unit : LengthUnit) (position start : ℕ) (drawn : List NumberedRing) (before end : ℕ)
    → Reads main unit position start drawn → before ≡ corner_count drawn → start ≢ declared_end main
    → first_failure (record_checks main unit position start before) ≡ None → is_null main start ≡ true
    → end ≡ record_end main start
    → Reads main unit (position + 1) end drawn
reads_null main unit position start drawn before end reads sum apart passes type is =
    let P : ℕ → Type 0 = λ n. first_failure (record_checks main unit position start n) ≡ None in
    let Q : ℕ → Type 0 = λ n. Reads main unit (position + 1) n drawn in
    subst Q (sym is) (null position start drawn reads apart (subst P sum passes) type)

-- a record that is refused behind those that were read is the first fault
pub stops_at : (main : List ℕ) (unit : LengthUnit) (position start : ℕ) (rings : List NumberedRing) (before : ℕ)
    (e : LayerFault) (fault : FileFault)
    → Reads main unit position start rings → before ≡ corner_count rings → start ≢ declared_end main
    → Fails e (first_failure (record_checks main unit position start before)) → e ≡ File fault → IsMainFault main unit fault
stops_at main unit position start rings before e fault reads sum apart fails is =
    let P : LayerFault → Type 0 = λ f. Fails f (first_failure (record_checks main unit position start before)) in
    let Q : ℕ → Type 0 = λ n. first_failure (record_checks main unit position start n) ≡ Some fault in
    inr (record {
      position = position;
      record_at = start;
      corners = corner_count rings;
      is_reached = reached main unit position start rings reads;
      is_there = apart;
      is_first = subst Q sum (subst P is fails);
    })

-- what was read before a record: the rings in their normal form, and the corners with which they are drawn
pub record IsReadTo (main : List ℕ) (unit : LengthUnit) (position start corners : ℕ) (rings : List NumberedRing) : Type 0 where
  pub drawn : List NumberedRing
  pub reads : Reads main unit position start drawn
  pub count : corners ≡ corner_count drawn
  pub are : rings ≡ normal_rings drawn

pub read_to_null : (main : List ℕ) (unit : LengthUnit) (position start corners end more : ℕ) (rings : List NumberedRing)
    → IsReadTo main unit position start corners rings
    → start ≢ declared_end main → first_failure (record_checks main unit position start corners) ≡ None
    → is_null main start ≡ true
    → end ≡ record_end main start → more ≡ 0
    → IsReadTo main unit (position + 1) end (corners + more) rings
read_to_null main unit position start corners end further rings old apart passes type is zero = record {
  drawn = old.drawn;
  reads = reads_null main unit position start old.drawn corners end old.reads old.count apart passes type is;
  count = omega (arith, old.count, zero);
  are = old.are;
}

pub read_to_polygon : (main : List ℕ) (unit : LengthUnit) (position start corners end more : ℕ)
    (rings : List NumberedRing) (ring : List Corner)
    → IsReadTo main unit position start corners rings → start ≢ declared_end main
    → first_failure (record_checks main unit position start corners) ≡ None
    → is_null main start ≡ false → end ≡ record_end main start → more + 1 ≡ points_of main start
    → IsDrawnAs unit main start more ring
    → IsReadTo main unit (position + 1) end (corners + more) (rings ++ numbered position ring ∷ [])
read_to_polygon main unit position start corners end further rings ring old apart passes type is points found = record {
  drawn = old.drawn ++ numbered position found.drawn ∷ [];
  reads = reads_more main unit position start old.drawn corners end found.drawn old.reads old.count apart passes type
      (omega (arith, found.has_count, points)) found.are is;
  count = omega (arith, old.count, corner_count-push old.drawn (numbered position found.drawn), found.has_count);
  are = ap (λ all. all ++ numbered position ring ∷ []) old.are
      ∙ ap (λ r. normal_rings old.drawn ++ numbered position r ∷ []) found.is_normal
      ∙ sym (map-append (λ (r : NumberedRing). numbered r.number (normal_form r.corners)) old.drawn
      (numbered position found.drawn ∷ []));
}
