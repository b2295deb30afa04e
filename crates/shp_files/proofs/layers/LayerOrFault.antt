-- A text is a layer's files or has a first fault.
use Rattle.std.proofs.Common.{◌≡◌, ◌≢◌, ◌⊎◌, inl, inr, false, ℕ, zero, suc, ◌+◌, ◌≤◌, List, [], Option, Some}
use Rattle.std.proofs.Common.{None, Ok, Err, refl, sym, arith}
use Rattle.std.proofs.lemmas.Bool.{cases_eq, cases_Bool}
use Rattle.geo_exact.specs.declared.coord.Unit.{Unit as LengthUnit}
use Rattle.shp_files.specs.declared.fault.FileFault.{FileFault}
use Rattle.shp_files.specs.declared.fault.FileName.TheVariants.{Main, Index}
use Rattle.shp_files.specs.declared.fault.LayerFault.TheVariants.{File}
use Rattle.shp_files.specs.LayerFile.{NumberedRing, normal_rings, corner_count, IsLayerFile}
use Rattle.shp_files.specs.Checks.{first_failure, header_checks, record_checks, declared_end, record_end, points_of, is_null}
use Rattle.shp_files.specs.IndexChecks.{index_end_checks, index_record_checks}
use Rattle.shp_files.specs.FirstFault.{Reaches, IsMainFault, IsAccepted, IsIndexFault, IsDecided}
use Rattle.shp_files.specs.FirstFault.Reaches.{first, next}
use Rattle.shp_files.specs.own.Reading.{Agrees}
use Rattle.shp_files.proofs.lines.IndexChecked.{IsChecked, checked_first, checked_next, header_fault, fault_at_record}
use Rattle.shp_files.proofs.lines.IndexChecked.{agrees_where, fault_where}
use Rattle.shp_files.proofs.rings.Drawn.{ring_found}
use Rattle.shp_files.proofs.layers.Indexes.{file_of_agrees}
use Rattle.shp_files.proofs.layers.Laws.{accepted_layer}
use Rattle.shp_files.proofs.lines.WhatPasses.{record_passes, polygon_of}
use Rattle.shp_files.proofs.layers.Sound.{parsed, layer_file}
use Rattle.shp_files.proofs.layers.Walk.{Reads, stops_at}
use Rattle.shp_files.proofs.layers.Walk.Reads.{none, null, more}

-- nothing is found, or something
found_or_none : (found : Option FileFault) → (None ≡ found) ⊎ ((fault : FileFault) × (Some fault ≡ found))
found_or_none None = inl refl
found_or_none (Some fault) = inr (fault, refl)

-- the main file has a first fault, or is a layer's
abbrev MainOutcome : List ℕ → LengthUnit → Type 0
MainOutcome main unit = ((rings : List NumberedRing) × IsLayerFile main None unit rings)
    ⊎ ((fault : FileFault) × IsMainFault main unit fault)

-- a polygon that passes is read
polygon_read : (main : List ℕ) (unit : LengthUnit) (position start : ℕ) (drawn : List NumberedRing)
    → Reads main unit position start drawn
    → start ≢ declared_end main → first_failure (record_checks main unit position start (corner_count drawn)) ≡ None
    → is_null main start ≡ false
    → (after : List NumberedRing) × Reads main unit (position + 1) (record_end main start) after
polygon_read main unit position start drawn reads apart passes type =
    let polygon = polygon_of main unit position start (corner_count drawn) (record_passes main unit position start
    (corner_count drawn) passes) type in
    let ring = ring_found main unit position (start + 56) (points_of main start) (omega (arith, polygon.counts.enough)) polygon.ring in
    (_, more position start drawn ring.corners reads apart passes type ring.size ring.are)

-- a record that passes is read
record_read : (main : List ℕ) (unit : LengthUnit) (position start : ℕ) (drawn : List NumberedRing)
    → Reads main unit position start drawn
    → start ≢ declared_end main → first_failure (record_checks main unit position start (corner_count drawn)) ≡ None
    → (after : List NumberedRing) × Reads main unit (position + 1) (record_end main start) after
record_read main unit position start drawn reads apart passes =
    elim (cases_Bool (is_null main start)) [
      | inl type ↦ (drawn, null position start drawn reads apart passes type)
      | inr type ↦ polygon_read main unit position start drawn reads apart passes type
    ]

-- at its declared end the main file is a layer's
decided_at_end : (main : List ℕ) (unit : LengthUnit) (position start : ℕ) (drawn : List NumberedRing)
    → Reads main unit position start drawn
    → start ≡ declared_end main → MainOutcome main unit
decided_at_end main unit position start drawn reads is =
    inl (normal_rings drawn, layer_file main unit position start drawn (normal_rings drawn) reads is refl)

-- the main file is decided from a record on that is reached, where so many bytes are left at most
decided_from : (left : ℕ) (main : List ℕ) (unit : LengthUnit) (position start : ℕ) (drawn : List NumberedRing)
    → Reads main unit position start drawn
    → declared_end main ≤ start + left → MainOutcome main unit
decided_from zero main unit position start drawn reads fits =
    decided_at_end main unit position start drawn reads (omega (arith, fits, (parsed main unit position start drawn reads).within))
decided_from (suc left) main unit position start drawn reads fits =
    elim (cases_eq start (declared_end main)) [
      | inl is ↦ decided_at_end main unit position start drawn reads is
      | inr apart ↦
          elim (found_or_none (first_failure (record_checks main unit position start (corner_count drawn)))) [
            | inl passes ↦
                let after = record_read main unit position start drawn reads apart (sym passes) in
                decided_from left main unit (position + 1) (record_end main start) after.0 after.1 (omega (arith, fits))
            | inr found ↦ inr (
              found.0,
              stops_at main unit position start drawn (corner_count drawn) (File found.0) found.0 reads refl apart (sym found.1) refl,
            )
          ]
    ]

-- each main file is decided
main_decided : (main : List ℕ) (unit : LengthUnit) → MainOutcome main unit
main_decided main unit =
    elim (found_or_none (first_failure (header_checks Main main))) [
      | inl passes ↦ decided_from (declared_end main) main unit 1 100 [] (none (sym passes)) (omega arith)
      | inr found ↦ inr (found.0, inl (sym found.1))
    ]

-- the index of an accepted main file has a first fault, or agrees up to a record that is reached
checked_to : (main index : List ℕ) (unit : LengthUnit) (position start corners : ℕ) → IsAccepted main unit
    → first_failure (header_checks Index index) ≡ None
    → Reaches main unit position start corners → IsChecked main index unit position start
    ⊎ ((fault : FileFault) × IsIndexFault main index unit fault)
checked_to main index unit position start corners all header (first h) = inl (checked_first main index unit all header)
checked_to main index unit position start corners all header (next p s c r apart passes) =
    elim (checked_to main index unit p s c all header r) [
      | inl old ↦
          elim (found_or_none (first_failure (index_record_checks main index p s))) [
            | inl agrees ↦ inl (checked_next main index unit p s all old apart agrees)
            | inr found ↦ inr (found.0, fault_at_record main index unit p s found.0 old apart found.1)
          ]
      | inr fault ↦ inr fault
    ]

-- an index has a first fault, or agrees
index_decided : (main index : List ℕ) (unit : LengthUnit) → IsAccepted main unit
    → Agrees main index unit ⊎ ((fault : FileFault) × IsIndexFault main index unit fault)
index_decided main index unit all =
    elim (found_or_none (first_failure (header_checks Index index))) [
      | inl header ↦
          elim (checked_to main index unit all.position (declared_end main) all.corners all (sym header) all.is_reached) [
            | inl old ↦
                elim (found_or_none (first_failure (index_end_checks index all.position))) [
                  | inl agrees ↦ inl (agrees_where {X = Unit {0}} main index unit all.position (declared_end main)
                      (Ok tt) old refl agrees refl)
                  | inr found ↦
                      inr (
                        found.0,
                        fault_where {X = Unit {0}} main index unit all.position (declared_end main)
                            (Err found.0) old refl found.1,
                      )
                ]
            | inr fault ↦ inr fault
          ]
      | inr found ↦ inr (found.0, header_fault main index unit found.0 found.1)
    ]

-- a text, with an index or none, is a layer's files or has a first fault
pub layer_or_fault : (main : List ℕ) (index : Option (List ℕ)) (unit : LengthUnit) → IsDecided main index unit
layer_or_fault main None unit = main_decided main unit
layer_or_fault main (Some index) unit =
    elim (main_decided main unit) [
      | inl layer ↦
          let all = accepted_layer main None unit layer.0 layer.1 in
          elim (index_decided main index unit all) [
            | inl agrees ↦ inl (layer.0, file_of_agrees main index unit layer.0 layer.1 agrees)
            | inr fault ↦ inr (fault.0, inr (all, fault.1))
          ]
      | inr fault ↦ inr (fault.0, inl fault.1)
    ]
