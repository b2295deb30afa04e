-- What the reader's own functions answer: the faults that they find, memory aside, and the points as `coordinate`
-- reads them. These words are the code's own: no public contract speaks of them.
use Rattle.std.specs.Prelude.{◌≡◌, ℕ, ◌+◌, List, [], ◌∷◌, length, Option, Some, None, Result, Ok, Err}
use Rattle.geo_exact.specs.declared.corner.Corner.{Corner}
use Rattle.geo_exact.specs.declared.coord.Unit.{Unit as LengthUnit}
use Rattle.geo_exact.specs.Grid.{coordinate}
use Rattle.shp_files.specs.declared.fault.FileFault.{FileFault}
use Rattle.shp_files.specs.declared.fault.LayerFault.{LayerFault}
use Rattle.shp_files.specs.declared.fault.LayerFault.TheVariants.{File, NoMemory}
use Rattle.shp_files.specs.Layout.{double_at}
use Rattle.shp_files.specs.LayerFile.{closed}
use Rattle.shp_files.specs.declared.fault.FileName.TheVariants.{Index}
use Rattle.shp_files.specs.Checks.{first_failure, header_checks}
use Rattle.shp_files.specs.IndexChecks.{entry_checks}
use Rattle.shp_files.specs.FirstFault.{Reaches}
use Rattle.shp_files.specs.NormalForm.{normal_form}

-- an error is the fault that is found, or want of memory
abbrev pub Fails : LayerFault → Option FileFault → Type 0
Fails (File fault) found = found ≡ Some fault
Fails NoMemory found = Unit {0}

-- an `Ok` where nothing is found, and else the fault that is found, or want of memory
abbrev pub Finds : {X : Type 0} → Result X LayerFault → Option FileFault → Type 0
Finds (Ok x) found = found ≡ None
Finds (Err e) found = Fails e found

-- the point at a byte is read as this corner
pub record IsReadAs (unit : LengthUnit) (bytes : List ℕ) (at : ℕ) (corner : Corner) : Type 0 where
  pub x : coordinate (double_at bytes at) unit ≡ Ok corner.x
  pub y : coordinate (double_at bytes (at + 8)) unit ≡ Ok corner.y

-- the points from a byte on are read as these corners
abbrev pub AreReadAs : LengthUnit → List ℕ → ℕ → List Corner → Type 0
AreReadAs unit bytes at [] = Unit {0}
AreReadAs unit bytes at (corner ∷ rest) = IsReadAs unit bytes at corner × AreReadAs unit bytes (at + 16) rest

-- the polygon that begins at a byte is drawn with so many corners, and these are its ring's in the normal form
pub record IsDrawnAs (unit : LengthUnit) (bytes : List ℕ) (start count : ℕ) (ring : List Corner) : Type 0 where
  pub drawn : List Corner
  pub are : AreReadAs unit bytes (start + 56) (closed drawn)
  pub has_count : length drawn ≡ count
  pub is_normal : ring ≡ normal_form drawn

-- all checks of the index pass
pub record Agrees (main index : List ℕ) (unit : LengthUnit) : Type 0 where
  pub has_header : first_failure (header_checks Index index) ≡ None
  pub has_entries : (p s c : ℕ) → Reaches main unit p s c → first_failure (entry_checks main index p s) ≡ None
