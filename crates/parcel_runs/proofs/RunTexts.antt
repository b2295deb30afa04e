-- The texts of a check and of points, from what was loaded and edited.
use Rattle.std.proofs.Common.{◌≡◌, ℕ, List, ◌++◌}
use Rattle.geo_exact.specs.declared.corner.Corner.{Corner}
use Rattle.ring_edits.specs.declared.edit.Edit.{Edit}
use Rattle.fabric_core.specs.Rows.{Tiles}
use Rattle.city_layers.specs.TilingFiles.{AreTiles}
use Rattle.clerk_runs.specs.ClerkFiles.{AreClerkFiles}
use Rattle.clerk_runs.specs.ClerkRuns.{Register, AreMade}
use Rattle.parcel_runs.specs.RunFiles.{ParcelRun}
use Rattle.parcel_runs.specs.CheckReport.{tiling_line, IsCheckText}
use Rattle.parcel_runs.specs.LocateReport.{ArePlaceLines, IsPlacesText}

module _ {A : Type 0} (run : ParcelRun) (tiles : Tiles) (edits : List (List (ℕ × Edit A))) (text : List ℕ)
    (are : AreTiles run.city run.parcels run.unit tiles) (files : AreClerkFiles run.clerks edits) where
  pub check_text : ((after : Register A) × (told : List ℕ) × AreMade tiles edits after told
      × (text ≡ told ++ tiling_line after.now.rows tiles.city))
      → IsCheckText A run text
  check_text made = record {
    tiles = tiles;
    are_tiles = are;
    after = made.0;
    told = made.1;
    is_edited = record { clerks = edits; are_files = files; are_made = made.2 };
    is_text = made.3;
  }

  pub points_text : (points : List Corner) → ((after : Register A) × (told : List ℕ) × (lines : List ℕ)
      × AreMade tiles edits after told × ArePlaceLines after.now.rows points lines × (text ≡ told ++ lines))
      → IsPlacesText A run points text
  points_text points made = record {
    tiles = tiles;
    are_tiles = are;
    after = made.0;
    told = made.1;
    is_edited = record { clerks = edits; are_files = files; are_made = made.3 };
    lines = made.2;
    are_lines = made.4;
    is_text = made.5;
  }
