-- The first fault of a layer's files: the answer of the first check that fails, the main file's before the index's
-- (profile of the Technical Description, July 1998).
use Rattle.std.specs.Prelude.{◌≡◌, ◌≢◌, ◌⊎◌, ℕ, ◌+◌, ◌<◌, List, Option, Some, None}
use Rattle.geo_exact.specs.declared.coord.Unit.{Unit as LengthUnit}
use Rattle.shp_files.specs.declared.fault.FileFault.{FileFault}
use Rattle.shp_files.specs.declared.fault.FileName.TheVariants.{Main, Index}
use Rattle.shp_files.specs.Checks.{first_failure, header_checks, record_checks, declared_end, record_end, drawn_corners}
use Rattle.shp_files.specs.IndexChecks.{entry_checks}
use Rattle.shp_files.specs.LayerFile.{NumberedRing, IsLayerFile}

-- The record at this position begins at this byte, and the polygons before it have so many corners together: the
-- header and all records before it pass their checks.
pub data Reaches (main : List ℕ) (unit : LengthUnit) : ℕ → ℕ → ℕ → Type 0 where
  first : first_failure (header_checks Main main) ≡ None → Reaches main unit 1 100 0
  next : (position start corners : ℕ) → Reaches main unit position start corners → start ≢ declared_end main
      → first_failure (record_checks main unit position start corners) ≡ None
      → Reaches main unit (position + 1) (record_end main start) (corners + drawn_corners main start)

-- a record that is reached, and whose first failing check answers this fault
pub record StopsAt (main : List ℕ) (unit : LengthUnit) (fault : FileFault) : Type 0 where
  pub position : ℕ
  pub record_at : ℕ
  pub corners : ℕ
  pub is_reached : Reaches main unit position record_at corners
  pub is_there : record_at ≢ declared_end main
  pub is_first : first_failure (record_checks main unit position record_at corners) ≡ Some fault

-- the fault is that of the first check of the main file that fails: of the header, or of the first record that has one
abbrev pub IsMainFault : List ℕ → LengthUnit → FileFault → Type 0
IsMainFault main unit fault = (first_failure (header_checks Main main) ≡ Some fault) ⊎ StopsAt main unit fault

-- all checks of the main file pass, up to its declared end
pub record IsAccepted (main : List ℕ) (unit : LengthUnit) : Type 0 where
  pub position : ℕ
  pub corners : ℕ
  pub is_reached : Reaches main unit position (declared_end main) corners

-- The index stops at a record, or behind the last: the header of the index passes its checks, and so do the index
-- records before; the first check that fails here answers this fault.
pub record IndexStopsAt (main index : List ℕ) (unit : LengthUnit) (fault : FileFault) : Type 0 where
  pub position : ℕ
  pub record_at : ℕ
  pub corners : ℕ
  pub is_reached : Reaches main unit position record_at corners
  pub has_header : first_failure (header_checks Index index) ≡ None
  pub has_entries : (p s c : ℕ) → Reaches main unit p s c → p < position
      → first_failure (entry_checks main index p s) ≡ None
  pub is_first : first_failure (entry_checks main index position record_at) ≡ Some fault

-- the fault is that of the first check of the index that fails: of the header, or at the first record that has one
abbrev pub IsIndexFault : List ℕ → List ℕ → LengthUnit → FileFault → Type 0
IsIndexFault main index unit fault =
    (first_failure (header_checks Index index) ≡ Some fault) ⊎ IndexStopsAt main index unit fault

-- the fault is that of the first check that fails: of the main file or, where that is
-- accepted and there is one, of the index
abbrev pub IsFirstFault : List ℕ → Option (List ℕ) → LengthUnit → FileFault → Type 0
IsFirstFault main None unit fault = IsMainFault main unit fault
IsFirstFault main (Some index) unit fault =
    IsMainFault main unit fault ⊎ (IsAccepted main unit × IsIndexFault main index unit fault)

-- a text is a layer's files, or has a first fault
abbrev pub IsDecided : List ℕ → Option (List ℕ) → LengthUnit → Type 0
IsDecided main index unit = ((rings : List NumberedRing) × IsLayerFile main index unit rings)
    ⊎ ((fault : FileFault) × IsFirstFault main index unit fault)
