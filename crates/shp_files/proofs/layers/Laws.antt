-- A text is a layer's main file of one list of rings at most, or has one first fault, and never both.
use Rattle.std.proofs.Common.{◌≡◌, true, false, inl, inr, ℕ, ◌+◌, ◌≤◌, ◌<◌, ℤ, List, [], ◌∷◌, ◌++◌}
use Rattle.std.proofs.Common.{length, Option, Some, None, Result, Ok, refl, sym, ap, ◌∙◌, arith}
use Rattle.std.proofs.lemmas.Bool.{cases_order, false≢true}
use Rattle.geo_exact.specs.declared.corner.Corner.{Corner}
use Rattle.geo_exact.specs.declared.coord.Unit.{Unit as LengthUnit}
use Rattle.geo_exact.specs.declared.coord.CoordFault.{CoordFault}
use Rattle.geo_exact.proofs.corners_and_turns.SameCorner.{corner_same}
use Rattle.shp_files.specs.declared.fault.FileFault.{FileFault}
use Rattle.shp_files.specs.declared.fault.FileName.TheVariants.{Main, Index}
use Rattle.shp_files.specs.LayerFile.{NumberedRing, closed, normal_rings, IsLayerFile}
use Rattle.shp_files.specs.Checks.{first_failure, header_checks, record_checks, declared_end, record_end, points_of, is_null}
use Rattle.shp_files.specs.FirstFault.{Reaches, StopsAt, IsMainFault, IsAccepted, IndexStopsAt, IsIndexFault, IsFirstFault}
use Rattle.shp_files.specs.IndexChecks.{entry_checks}
use Rattle.shp_files.specs.own.Reading.{AreReadAs, Agrees}
use Rattle.shp_files.proofs.lines.ReachedRecords.{position_from_1, reached_header, same_place, IsPassed, passed, not_past_end}
use Rattle.shp_files.proofs.layers.Walk.{Reads, reached}
use Rattle.shp_files.proofs.layers.Walk.Reads.{none, null, more}
use Rattle.shp_files.proofs.layers.Complete.{reads_layer}
use Rattle.shp_files.proofs.layers.Indexes.{agrees_of_file}

-- a record that stops the reader is not passed
not_passed : (main : List ℕ) (unit : LengthUnit) (f : FileFault) → (stop : StopsAt main unit f)
    → IsPassed main unit stop.position → ⊥
not_passed main unit f stop h =
    let same = same_place main unit stop.position stop.record_at stop.corners stop.position h.start h.corners
    stop.is_reached h.reaches refl in
    let passes : first_failure (record_checks main unit stop.position stop.record_at stop.corners) ≡ None =
    rw (same.0, same.1) h.passes in
    let is = stop.is_first in
    cc

header_or_record : (main : List ℕ) (unit : LengthUnit) (f g : FileFault) → first_failure (header_checks Main main)
    ≡ Some f → StopsAt main unit g → ⊥
header_or_record main unit f g h stop =
    let fine = reached_header main unit stop.position stop.record_at stop.corners stop.is_reached in
    cc

-- two records that stop the reader are one
same_stop : (main : List ℕ) (unit : LengthUnit) (f g : FileFault) → StopsAt main unit f → StopsAt main unit g → f ≡ g
same_stop main unit f g a b =
    elim (cases_order a.position b.position) [
      | inl e ↦
          let same = same_place main unit a.position a.record_at a.corners b.position b.record_at b.corners a.is_reached b.is_reached e in
          let there : first_failure (record_checks main unit b.position b.record_at b.corners) ≡ Some f =
          rw (← e, ← same.0, ← same.1) a.is_first in
          let is = b.is_first in
          cc
      | inr o ↦ elim o [
        | inl lt ↦ absurd (not_passed main unit f a (passed main unit b.position b.record_at b.corners a.position b.is_reached lt
            (position_from_1 main unit a.position a.record_at a.corners a.is_reached)))
        | inr gt ↦ absurd (not_passed main unit g b (passed main unit a.position a.record_at a.corners b.position a.is_reached gt
            (position_from_1 main unit b.position b.record_at b.corners b.is_reached)))
      ]
    ]

-- a main file has one first fault at most
one_main_fault : (main : List ℕ) (unit : LengthUnit) (f g : FileFault) → IsMainFault main unit f → IsMainFault main unit g → f ≡ g
one_main_fault main unit f g (inl h) (inl k) = cc
one_main_fault main unit f g (inl h) (inr b) = absurd (header_or_record main unit f g h b)
one_main_fault main unit f g (inr a) (inl k) = absurd (header_or_record main unit g f k a)
one_main_fault main unit f g (inr a) (inr b) = same_stop main unit f g a b

-- where all is read, nothing stops the reader
never_stops : (main : List ℕ) (unit : LengthUnit) (p s c : ℕ) (f : FileFault) → Reaches main unit p s c
    → s ≡ declared_end main → StopsAt main unit f → ⊥
never_stops main unit p s c f r is stop =
    elim (cases_order stop.position p) [
      | inl e ↦ stop.is_there ((same_place main unit stop.position stop.record_at stop.corners p s c stop.is_reached r e).0 ∙ is)
      | inr o ↦ elim o [
        | inl lt ↦ not_passed main unit f stop
            (passed main unit p s c stop.position r lt
            (position_from_1 main unit stop.position stop.record_at stop.corners stop.is_reached))
        | inr gt ↦ not_past_end main unit p s c r is
            (passed main unit stop.position stop.record_at stop.corners p stop.is_reached gt (position_from_1 main unit p s c r))
      ]
    ]

-- a main file whose checks all pass has no fault
no_fault_in_main : (main : List ℕ) (unit : LengthUnit) (f : FileFault) → IsAccepted main unit → IsMainFault main unit f → ⊥
no_fault_in_main main unit f accepted (inl h) =
    let fine = reached_header main unit _ _ _ accepted.is_reached in
    cc
no_fault_in_main main unit f accepted (inr stop) = never_stops main unit _ _ _ f accepted.is_reached refl stop

-- all checks of a layer's main file pass
pub accepted_layer : (main : List ℕ) (index : Option (List ℕ)) (unit : LengthUnit) (rings : List NumberedRing)
    → IsLayerFile main index unit rings
    → IsAccepted main unit
accepted_layer main index unit rings file =
    record { position = _; corners = _; is_reached = reached main unit _ _ file.drawn (reads_layer main index unit rings file) }

-- an index stops the reader at its header or behind it
index_header_or_record : (main index : List ℕ) (unit : LengthUnit) (f g : FileFault)
    → first_failure (header_checks Index index) ≡ Some f
    → IndexStopsAt main index unit g → ⊥
index_header_or_record main index unit f g h stop =
    let fine = stop.has_header in
    cc

-- an index record that stops the reader has none before it that does
not_before : (main index : List ℕ) (unit : LengthUnit) (f g : FileFault) → (a : IndexStopsAt main index unit f)
    → (b : IndexStopsAt main index unit g)
    → a.position < b.position → ⊥
not_before main index unit f g a b lt =
    let passes = b.has_entries a.position a.record_at a.corners a.is_reached lt in
    let is = a.is_first in
    cc

-- two index records that stop the reader are one
same_index_stop : (main index : List ℕ) (unit : LengthUnit) (f g : FileFault) → IndexStopsAt main index unit f
    → IndexStopsAt main index unit g → f ≡ g
same_index_stop main index unit f g a b =
    elim (cases_order a.position b.position) [
      | inl e ↦
          let same = same_place main unit a.position a.record_at a.corners b.position b.record_at b.corners a.is_reached b.is_reached e in
          let there : first_failure (entry_checks main index b.position b.record_at) ≡ Some f = rw (← e, ← same.0) a.is_first in
          let is = b.is_first in
          cc
      | inr o ↦ elim o [
        | inl lt ↦ absurd (not_before main index unit f g a b lt)
        | inr gt ↦ absurd (not_before main index unit g f b a gt)
      ]
    ]

one_index_fault : (main index : List ℕ) (unit : LengthUnit) (f g : FileFault) → IsIndexFault main index unit f
    → IsIndexFault main index unit g → f ≡ g
one_index_fault main index unit f g (inl h) (inl k) = cc
one_index_fault main index unit f g (inl h) (inr b) = absurd (index_header_or_record main index unit f g h b)
one_index_fault main index unit f g (inr a) (inl k) = absurd (index_header_or_record main index unit g f k a)
one_index_fault main index unit f g (inr a) (inr b) = same_index_stop main index unit f g a b

-- a text, with an index or none, has one first fault at most
pub one_first_fault : (main : List ℕ) (index : Option (List ℕ)) (unit : LengthUnit) (f g : FileFault) → IsFirstFault main index unit f
    → IsFirstFault main index unit g → f ≡ g
one_first_fault main None unit f g h k = one_main_fault main unit f g h k
one_first_fault main (Some index) unit f g (inl h) (inl k) = one_main_fault main unit f g h k
one_first_fault main (Some index) unit f g (inl h) (inr k) = absurd (no_fault_in_main main unit f k.0 h)
one_first_fault main (Some index) unit f g (inr h) (inl k) = absurd (no_fault_in_main main unit g h.0 k)
one_first_fault main (Some index) unit f g (inr h) (inr k) = one_index_fault main index unit f g h.1 k.1

-- an index that agrees has no fault
no_fault_in_index : (main index : List ℕ) (unit : LengthUnit) (f : FileFault) → Agrees main index unit
    → IsIndexFault main index unit f → ⊥
no_fault_in_index main index unit f agrees (inl h) =
    let fine = agrees.has_header in
    cc
no_fault_in_index main index unit f agrees (inr stop) =
    let fine = agrees.has_entries stop.position stop.record_at stop.corners stop.is_reached in
    let is = stop.is_first in
    cc

-- a layer's files have no fault
pub no_fault_in_layer : (main : List ℕ) (index : Option (List ℕ)) (unit : LengthUnit) (rings : List NumberedRing) (f : FileFault)
    → IsLayerFile main index unit rings → IsFirstFault main index unit f → ⊥
no_fault_in_layer main None unit rings f file h = no_fault_in_main main unit f (accepted_layer main None unit rings file) h
no_fault_in_layer main (Some index) unit rings f file (inl h) =
    no_fault_in_main main unit f (accepted_layer main (Some index) unit rings file) h
no_fault_in_layer main (Some index) unit rings f file (inr h) =
    no_fault_in_index main index unit f (agrees_of_file main index unit rings file) h.1

ok_same : (r : Result ℤ CoordFault) (a b : ℤ) → r ≡ Ok a → r ≡ Ok b → a ≡ b
ok_same r a b h k = cc

-- as many points are read as one list of corners
same_corners : (unit : LengthUnit) (bytes : List ℕ) (at : ℕ) (a b : List Corner) → length a ≡ length b
    → AreReadAs unit bytes at a → AreReadAs unit bytes at b
    → a ≡ b
same_corners unit bytes at [] [] e h k = refl
same_corners unit bytes at [] (q ∷ qs) e h k = absurd (omega (arith, e))
same_corners unit bytes at (p ∷ ps) [] e h k = absurd (omega (arith, e))
same_corners unit bytes at (p ∷ ps) (q ∷ qs) e h k =
    let head : p ≡ q = corner_same p q (ok_same _ p.x q.x h.0.x k.0.x) (ok_same _ p.y q.y h.0.y k.0.y) in
    let rest = same_corners unit bytes (at + 16) ps qs (omega (arith, e)) h.1 k.1 in
    cc

front_read : (unit : LengthUnit) (bytes : List ℕ) (at : ℕ) (a b : List Corner) → AreReadAs unit bytes at (a ++ b)
    → AreReadAs unit bytes at a
front_read unit bytes at [] b h = tt
front_read unit bytes at (p ∷ ps) b h = (h.0, front_read unit bytes (at + 16) ps b h.1)

open_read : (unit : LengthUnit) (bytes : List ℕ) (at : ℕ) (a : List Corner) → AreReadAs unit bytes at (closed a)
    → AreReadAs unit bytes at a
open_read unit bytes at [] h = tt
open_read unit bytes at (p ∷ ps) h = front_read unit bytes at (p ∷ ps) (p ∷ []) h

position_of_reads : (main : List ℕ) (unit : LengthUnit) (p s : ℕ) (a : List NumberedRing) → Reads main unit p s a → 1 ≤ p
position_of_reads main unit p s a r = position_from_1 main unit p s _ (reached main unit p s a r)

-- a record is a null shape or a polygon
one_type : (main : List ℕ) (s t : ℕ) → s ≡ t → is_null main s ≡ true → is_null main t ≡ false → ⊥
one_type main s t e h k = false≢true (sym k ∙ ap (λ n. is_null main n) (sym e) ∙ h)

same_rings : (main : List ℕ) (unit : LengthUnit) (p s q t : ℕ) (a b : List NumberedRing) → Reads main unit p s a
    → Reads main unit q t b → p ≡ q
    → (s ≡ t) × (a ≡ b)
same_rings main unit p s q t a b (none h) (none k) e = (refl, refl)
same_rings main unit p s q t a b (none h) (null q' t' b' r apart passes type) e =
    absurd (omega (arith, e, position_of_reads main unit q' t' b' r))
same_rings main unit p s q t a b (none h) (more q' t' b' ds r apart passes type count are) e =
    absurd (omega (arith, e, position_of_reads main unit q' t' b' r))
same_rings main unit p s q t a b (null p' s' a' r apart passes type) (none k) e =
    absurd (omega (arith, e, position_of_reads main unit p' s' a' r))
same_rings main unit p s q t a b (more p' s' a' cs r apart passes type count are) (none k) e =
    absurd (omega (arith, e, position_of_reads main unit p' s' a' r))
same_rings main unit p s q t a b (null p' s' a' r apart passes type) (null q' t' b' r' apart' passes' type') e =
    let same = same_rings main unit p' s' q' t' a' b' r r' (omega (arith, e)) in
    (ap (λ n. record_end main n) same.0, same.1)
same_rings main unit p s q t a b (null p' s' a' r apart passes type) (more q' t' b' ds r' apart' passes' type' count' are') e =
    absurd (one_type main s' t' (same_rings main unit p' s' q' t' a' b' r r' (omega (arith, e))).0 type type')
same_rings main unit p s q t a b (more p' s' a' cs r apart passes type count are) (null q' t' b' r' apart' passes' type') e =
    absurd (one_type main t' s' (sym (same_rings main unit p' s' q' t' a' b' r r' (omega (arith, e))).0) type' type)
same_rings main unit p s q t a b (more p' s' a' cs r apart passes type count are) (more q' t' b' ds r' apart' passes' type' count' are') e =
    let position : p' ≡ q' = omega (arith, e) in
    let same = same_rings main unit p' s' q' t' a' b' r r' position in
    let points : length cs ≡ length ds = omega (arith, count, count', ap (λ n. points_of main n) same.0) in
    let corners : cs ≡ ds =
    same_corners unit main (s' + 56) cs ds points (open_read unit main (s' + 56) cs are)
    (open_read unit main (s' + 56) ds (rw same.0 are')) in
    (ap (λ n. record_end main n) same.0, cc)

-- a text is a layer's main file, with its index where there is one, of one list of rings at most
pub one_list_of_rings : (main : List ℕ) (index : Option (List ℕ)) (unit : LengthUnit) (a b : List NumberedRing)
    → IsLayerFile main index unit a
    → IsLayerFile main index unit b → a ≡ b
one_list_of_rings main index unit a b file other =
    let r = reads_layer main index unit a file in
    let q = reads_layer main index unit b other in
    let p = reached main unit _ _ file.drawn r in
    let o = reached main unit _ _ other.drawn q in
    elim (cases_order (1 + length file.records) (1 + length other.records)) [
      | inl e ↦ file.has_rings ∙ ap normal_rings (same_rings main unit _ _ _ _ file.drawn other.drawn r q e).1 ∙ sym other.has_rings
      | inr h ↦ elim h [
        | inl lt ↦ absurd (not_past_end main unit _ _ _ p refl (passed main unit _ _ _ (1 + length file.records) o lt (omega arith)))
        | inr gt ↦ absurd (not_past_end main unit _ _ _ o refl (passed main unit _ _ _ (1 + length other.records) p gt (omega arith)))
      ]
    ]
