-- Lines, and behind them the report of a table.
use Rattle.std.specs.Prelude.{ℕ, List, ◌++◌, Option}
use Rattle.std.specs.Io.KnownBytes.{Appends}
use Rattle.text_pieces.specs.Beginnings.{AppendsBeginning}
use Rattle.zone_tables.specs.Overlap.{Overlay}
use Rattle.zone_tables.specs.Report.{IsReport}

-- both were written after the bytes that were written before
pub record WritesBoth (lines : List ℕ) (table : Overlay) (old new : Option (List ℕ)) : Type 0 where
  pub report : List ℕ
  pub is_report : IsReport table report
  pub is_written : Appends old new (lines ++ report)

-- a beginning of both was written after the bytes that were written before
pub record BeginsBoth (lines : List ℕ) (table : Overlay) (old new : Option (List ℕ)) : Type 0 where
  pub report : List ℕ
  pub is_report : IsReport table report
  pub is_begun : AppendsBeginning old new (lines ++ report)
