-- The text of an overlay with areas, from what was loaded, edited, found and measured.
use Rattle.std.proofs.Common.{◌≡◌, ℕ, List, ◌++◌, flat_map, Option, refl, sym}
use Rattle.geo_exact.specs.Layers.{NumberedRing}
use Rattle.fabric_core.specs.Rows.{Tiles}
use Rattle.zone_tables.specs.Overlap.{Overlay}
use Rattle.zone_tables.specs.Report.{IsReport}
use Rattle.city_layers.specs.TilingFiles.{Files}
use Rattle.city_layers.specs.ZonedFiles.{AreZoned}
use Rattle.clerk_runs.specs.ClerkRuns.{Register, IsEdited}
use Rattle.parcel_runs.specs.RunFiles.{ParcelRun}
use Rattle.parcel_runs.specs.OverlayReport.{IsTableOf, IsOverlayText}
use Rattle.area_shares.specs.AreaTable.{IsAreaTable}
use Rattle.area_shares.specs.AreaText.{area_text}
use Rattle.area_shares.specs.declared.shared.AreaLine.{AreaLine}
use Rattle.area_runs.specs.AreaReport.{IsAreaRunText, WritesAreas, BeginsAreas}
use Rattle.area_runs.specs.own.LinesReportsAreas.{WritesAll, BeginsAll}

-- the areas of rows, zones and pairs are those of a table that shows them
pub areas_of_table : (rows zones : List NumberedRing) (pairs : List (ℕ × ℕ)) (table : Overlay) (lines : List AreaLine)
    → table.rows ≡ rows → table.zones ≡ zones → pairs ≡ table.pairs → IsAreaTable rows zones pairs lines
    → IsAreaTable table.rows table.zones table.pairs lines
areas_of_table rows zones pairs table lines r z p are =
    rw (r) (rw (z) (rw (sym p) are))

-- lines, the report of a table and the lines of its areas are the overlay's
module _ {A : Type 0} (run : ParcelRun) (zones : Files) (tiles regions : Tiles) (after : Register A) (told : List ℕ)
    (table : Overlay) (areas : List AreaLine) (are : AreZoned run.city run.parcels zones run.unit tiles regions)
    (edited : IsEdited tiles run.clerks after told) (is : IsTableOf after regions table)
    (are_areas : IsAreaTable table.rows table.zones table.pairs areas) (old new : Option (List ℕ)) where
  overlay_text : (report : List ℕ) → IsReport table report → IsOverlayText A run zones (told ++ report)
  overlay_text report is_report = record {
    tiles = tiles;
    regions = regions;
    are_zoned = are;
    after = after;
    told = told;
    is_edited = edited;
    table = table;
    is_table = is;
    report = report;
    is_report = is_report;
    is_text = refl;
  }

  area_run_text : (report : List ℕ) → IsReport table report → IsAreaRunText A run zones (told ++ report ++ flat_map area_text areas)
  unfolding overlay_text
  area_run_text report is_report = record {
    overlay = told ++ report;
    is_overlay = overlay_text report is_report;
    lines = areas;
    are_areas = are_areas;
    is_text = refl;
  }

  pub all_written : WritesAll told table areas old new → WritesAreas A run zones old new
  all_written h = record {
    text = told ++ h.report ++ flat_map area_text areas;
    is_text = area_run_text h.report h.is_report;
    is_written = h.is_written;
  }

  pub some_written : BeginsAll told table areas old new → BeginsAreas A run zones old new
  some_written h = record {
    text = told ++ h.report ++ flat_map area_text areas;
    is_text = area_run_text h.report h.is_report;
    is_begun = h.is_begun;
  }
