-- The index of a main file, checked up to a position.
use Rattle.std.proofs.Common.{◌≡◌, ◌≢◌, inl, inr, ℕ, ◌+◌, ◌<◌, List, Some, None, Result, Ok, Err, IsOk, IfErr, sym}
use Rattle.std.proofs.Common.{ap, ◌∙◌, arith}
use Rattle.std.proofs.lemmas.Bool.{cases_order, false≢true}
use Rattle.std.specs.Result.{result_err}
use Rattle.geo_exact.specs.declared.coord.Unit.{Unit as LengthUnit}
use Rattle.shp_files.specs.declared.fault.FileFault.{FileFault}
use Rattle.shp_files.specs.declared.fault.FileName.TheVariants.{Index}
use Rattle.shp_files.specs.Checks.{first_failure, header_checks, declared_end, record_end}
use Rattle.shp_files.specs.IndexChecks.{entry_checks, index_end_checks, index_record_checks}
use Rattle.shp_files.specs.FirstFault.{Reaches, IsAccepted, IsIndexFault}
use Rattle.shp_files.specs.FirstFault.Reaches.{first, next}
use Rattle.shp_files.specs.own.Reading.{Agrees}
use Rattle.shp_files.proofs.layers.Indexes.{checks_at_record, checks_at_end}
use Rattle.shp_files.proofs.lines.WhatPasses.{FramePasses}
use Rattle.shp_files.proofs.lines.ReachedRecords.{position_from_1, reached_header, same_place, passed, not_past_end, passes_here, frame_of}

-- the record at this position begins at this byte, and all checks of the index before it pass
pub record IsChecked (main index : List ℕ) (unit : LengthUnit) (position start : ℕ) : Type 0 where
  pub corners : ℕ
  pub reaches : Reaches main unit position start corners
  pub has_header : first_failure (header_checks Index index) ≡ None
  pub has_entries : (p s c : ℕ) → Reaches main unit p s c → p < position → first_failure (entry_checks main index p s) ≡ None

pub checked_first : (main index : List ℕ) (unit : LengthUnit) → IsAccepted main unit
    → first_failure (header_checks Index index) ≡ None
    → IsChecked main index unit 1 100
checked_first main index unit all header = record {
  corners = 0;
  reaches = first (reached_header main unit all.position (declared_end main) all.corners all.is_reached);
  has_header = header;
  has_entries = λ p s c r lt. absurd (omega (arith, lt, position_from_1 main unit p s c r));
}

-- the record's own frame passes
pub frame_here : (main index : List ℕ) (position start end : ℕ) → (all : (unit : LengthUnit) × IsAccepted main unit)
    → ((unit : LengthUnit) → IsAccepted main unit → IsChecked main index unit position start) → start ≢ end
    → end ≡ declared_end main
    → FramePasses main position start
frame_here main index position start end all checked apart is =
    let old = checked all.0 all.1 in
    frame_of main all.0 position start old.corners
    (passes_here main all.0 position start old.corners all.1 old.reaches (λ e. apart (e ∙ sym is)))

pub checked_next : (main index : List ℕ) (unit : LengthUnit) (position start : ℕ) → IsAccepted main unit
    → IsChecked main index unit position start
    → start ≢ declared_end main → None ≡ first_failure (index_record_checks main index position start)
    → IsChecked main index unit (position + 1) (record_end main start)
checked_next main index unit position start all old apart passes = record {
  corners = _;
  reaches = next position start old.corners old.reaches apart (passes_here main unit position start old.corners all old.reaches apart);
  has_header = old.has_header;
  has_entries = λ p s c r lt.
      elim (cases_order p position) [
        | inl e ↦
            let same : s ≡ start = (same_place main unit p s c position start old.corners r old.reaches e).0 in
            let here : first_failure (entry_checks main index position start) ≡ None =
            ap first_failure (checks_at_record main index position start apart) ∙ sym passes in
            rw (e, same) here
        | inr o ↦ elim o [ inl below ↦ old.has_entries p s c r below | inr above ↦ absurd (omega (arith, lt, above)) ]
      ];
}

pub header_fault : (main index : List ℕ) (unit : LengthUnit) (fault : FileFault)
    → Some fault ≡ first_failure (header_checks Index index)
    → IsIndexFault main index unit fault
header_fault main index unit fault is = inl (sym is)

fault_here : (main index : List ℕ) (unit : LengthUnit) (position start : ℕ) (fault : FileFault)
    → IsChecked main index unit position start
    → first_failure (entry_checks main index position start) ≡ Some fault → IsIndexFault main index unit fault
fault_here main index unit position start fault old is = inr (record {
  position = position;
  record_at = start;
  corners = old.corners;
  is_reached = old.reaches;
  has_header = old.has_header;
  has_entries = old.has_entries;
  is_first = is;
})

pub fault_at_record : (main index : List ℕ) (unit : LengthUnit) (position start : ℕ) (fault : FileFault)
    → IsChecked main index unit position start
    → start ≢ declared_end main
    → Some fault ≡ first_failure (index_record_checks main index position start) → IsIndexFault main index unit fault
fault_at_record main index unit position start fault old apart is =
    fault_here main index unit position start fault old (ap first_failure (checks_at_record main index position start apart) ∙ sym is)

fault_at_end : (main index : List ℕ) (unit : LengthUnit) (position start : ℕ) (fault : FileFault)
    → IsChecked main index unit position start
    → start ≡ declared_end main
    → Some fault ≡ first_failure (index_end_checks index position) → IsIndexFault main index unit fault
fault_at_end main index unit position start fault old at_end is =
    fault_here main index unit position start fault old (ap first_failure (checks_at_end main index position start at_end) ∙ sym is)

agrees_at_end : (main index : List ℕ) (unit : LengthUnit) (position start : ℕ)
    → IsChecked main index unit position start → start ≡ declared_end main
    → None ≡ first_failure (index_end_checks index position) → Agrees main index unit
agrees_at_end main index unit position start old at_end passes = record {
  has_header = old.has_header;
  has_entries = λ p s c r.
      elim (cases_order p position) [
        | inl e ↦
            let same : s ≡ start = (same_place main unit p s c position start old.corners r old.reaches e).0 in
            let here : first_failure (entry_checks main index position start) ≡ None =
            ap first_failure (checks_at_end main index position start at_end) ∙ sym passes in
            rw (e, same) here
        | inr o ↦ elim o [
          | inl below ↦ old.has_entries p s c r below
          | inr above ↦ absurd (not_past_end main unit position start old.corners old.reaches at_end
              (passed main unit p s c position r above (position_from_1 main unit position start old.corners old.reaches)))
        ]
      ];
}

-- what the check of the end answers
pub agrees_where : {X : Type 0} (main index : List ℕ) (unit : LengthUnit) (position start : ℕ) (r : Result X FileFault)
    → IsChecked main index unit position start → start ≡ declared_end main
    → result_err r ≡ first_failure (index_end_checks index position) → IsOk r → Agrees main index unit
agrees_where main index unit position start (Ok x) old at_end e ok = agrees_at_end main index unit position start old at_end e
agrees_where main index unit position start (Err f) old at_end e ok = absurd (false≢true ok)

pub fault_where : {X : Type 0} (main index : List ℕ) (unit : LengthUnit) (position start : ℕ) (r : Result X FileFault)
    → IsChecked main index unit position start → start ≡ declared_end main
    → result_err r ≡ first_failure (index_end_checks index position) → IfErr r (λ fault. IsIndexFault main index unit fault)
fault_where main index unit position start (Ok x) old at_end e = tt
fault_where main index unit position start (Err f) old at_end e = fault_at_end main index unit position start f old at_end e
