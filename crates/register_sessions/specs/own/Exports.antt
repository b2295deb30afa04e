-- What the operator is answered to `export BASE`: whether the layer at the base was replaced by the files of these
-- parcels.
use Rattle.std.specs.Prelude.{◌≡◌, ℕ, List, ◌++◌, codes, Option, None, Some, Result, Ok, Err}
use Rattle.geo_exact.specs.Layers.{NumberedRing}
use Rattle.shp_files.specs.Written.{written_main, written_index}
use Rattle.fabric_core.specs.Tiling.{corner_lists}
use Rattle.city_layers.specs.declared.fault.ToolFault.{ToolFault}
use Rattle.city_layers.specs.FaultTexts.{fault_text}
use Rattle.parcel_runs.specs.ExportReport.{exported_line}
use Rattle.session_lines.specs.Answers.{error_line}
use Rattle.register_sessions.specs.own.OwnFiles.{IsOwnBase}

-- the line that tells a fault of the program's, in the words in which it is told elsewhere
abbrev pub IsLineOfFault : ToolFault → List ℕ → Type 0
IsLineOfFault fault line = line ≡ error_line (fault_text fault)

-- what is told of an export of these parcels, by whether the files at the base were replaced
abbrev pub IsToldExport : List NumberedRing → Result (Unit {0}) ToolFault → List ℕ → Type 0
IsToldExport rows (Ok done) text = text ≡ exported_line rows ++ codes ".\n"
IsToldExport rows (Err fault) text = IsLineOfFault fault text

-- The layer at a base was replaced by the two files of these parcels, or was not; that is what is told.
pub record IsExported {X : Type 0} (replace_gives : X → List ℕ → List ℕ → List ℕ → Result (Unit {0}) ToolFault → Type 0)
    (exports : X) (base : List ℕ) (rows : List NumberedRing) (text : List ℕ) : Type 0 where
  pub replaced : Result (Unit {0}) ToolFault
  pub is_replaced : replace_gives exports base (written_main (corner_lists rows)) (written_index (corner_lists rows))
      replaced
  pub is_told : IsToldExport rows replaced text

-- the line that says that a file which an export to the base would replace is the session's own
pub record IsOwnFileLine {M : Type 0} (tells : M → List ℕ → Option (ℕ × ℕ) → Type 0) (machine : M)
    (files : List (List ℕ)) (base line : List ℕ) : Type 0 where
  pub path : List ℕ
  pub is_own : IsOwnBase tells machine files base path
  pub is_told : line ≡ error_line (codes "S5 " ++ path)

-- the line that says what is in the way of an export to a base
pub record IsObstacleLine {X : Type 0} (finds : X → List ℕ → Option (List ℕ) → Type 0) (exports : X)
    (base line : List ℕ) : Type 0 where
  pub why : List ℕ
  pub is_found : finds exports base (Some why)
  pub is_told : line ≡ error_line why
