-- Lines, behind them the report of a table, and behind that the lines of areas.
use Rattle.std.specs.Prelude.{ℕ, List, ◌++◌, Option}
use Rattle.std.specs.Io.KnownBytes.{Appends}
use Rattle.std.specs.List.{flat_map}
use Rattle.text_pieces.specs.Beginnings.{AppendsBeginning}
use Rattle.zone_tables.specs.Overlap.{Overlay}
use Rattle.zone_tables.specs.Report.{IsReport}
use Rattle.area_shares.specs.declared.shared.AreaLine.{AreaLine}
use Rattle.area_shares.specs.AreaText.{area_text}

-- all were written after the bytes that were written before
pub record WritesAll (lines : List ℕ) (table : Overlay) (areas : List AreaLine)
    (old new : Option (List ℕ)) : Type 0 where
  pub report : List ℕ
  pub is_report : IsReport table report
  pub is_written : Appends old new (lines ++ report ++ flat_map area_text areas)

-- a beginning of all was written after the bytes that were written before
pub record BeginsAll (lines : List ℕ) (table : Overlay) (areas : List AreaLine)
    (old new : Option (List ℕ)) : Type 0 where
  pub report : List ℕ
  pub is_report : IsReport table report
  pub is_begun : AppendsBeginning old new (lines ++ report ++ flat_map area_text areas)
