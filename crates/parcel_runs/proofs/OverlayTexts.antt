-- The text of an overlay, from what was loaded, edited and found; and that no fault of files is a failed write.
use Rattle.std.proofs.Common.{◌≡◌, ◌⊎◌, inl, inr, ℕ, List, ◌++◌, Option, Result, Ok, Err, refl, subst, arith}
use Rattle.std.specs.Result.{OnOk, OnErr, IfErr, IsErrOf}
use Rattle.geo_exact.specs.declared.coord.Unit.{Unit as LengthUnit}
use Rattle.fabric_core.specs.Rows.{Tiles}
use Rattle.zone_tables.specs.Overlap.{Overlay}
use Rattle.city_layers.specs.declared.fault.ToolFault.{ToolFault}
use Rattle.city_layers.specs.declared.fault.ToolFault.TheVariants.{NoMemory, Output}
use Rattle.city_layers.specs.TilingFiles.{Files}
use Rattle.clerk_runs.specs.ClerkRuns.{Register, IsEdited}
use Rattle.parcel_runs.specs.RunFiles.{ParcelRun}
use Rattle.parcel_runs.specs.OverlayReport.{IsTableOf, WritesOverlay, BeginsOverlay, IsOverlayFault, IsOverlayWant}
use Rattle.city_layers.specs.ZonedFiles.{AreZoned, IsLayersFault}
use Rattle.parcel_runs.specs.own.LinesAndReports.{WritesBoth, BeginsBoth}
use Rattle.parcel_runs.proofs.RunFaults.{clerks_no_output, layers_no_output, want_no_output}

-- lines and the report of a table are the overlay's
module _ {A : Type 0} (run : ParcelRun) (zones : Files) (tiles regions : Tiles) (after : Register A) (told : List ℕ)
    (table : Overlay) (are : AreZoned run.city run.parcels zones run.unit tiles regions)
    (edited : IsEdited tiles run.clerks after told) (is : IsTableOf after regions table)
    (old new : Option (List ℕ)) where
  pub all_written : WritesBoth told table old new → WritesOverlay A run zones old new
  all_written h = record {
    text = told ++ h.report;
    is_overlay = record {
      tiles = tiles;
      regions = regions;
      are_zoned = are;
      after = after;
      told = told;
      is_edited = edited;
      table = table;
      is_table = is;
      report = h.report;
      is_report = h.is_report;
      is_text = refl;
    };
    is_written = h.is_written;
  }

  pub some_written : BeginsBoth told table old new → BeginsOverlay A run zones old new
  some_written h = record {
    text = told ++ h.report;
    is_overlay = record {
      tiles = tiles;
      regions = regions;
      are_zoned = are;
      after = after;
      told = told;
      is_edited = edited;
      table = table;
      is_table = is;
      report = h.report;
      is_report = h.is_report;
      is_text = refl;
    };
    is_begun = h.is_begun;
  }

-- an answer that is no error tells of no failed write, and one that is does of its own
pub on_output : {Y : Type 0} (answer : Result Y ToolFault) (P : Type 0) → OnErr answer P → IsErrOf answer Output → P
on_output (Ok y) P h k = let none : ⊥ = cc in absurd none
on_output (Err e) P h k = h

pub output_alone : {Y : Type 0} (answer : Result Y ToolFault) (P : ToolFault → Type 0) → IfErr answer (λ fault. fault ≡ Output)
    → ((fault : ToolFault) → fault ≡ Output → P fault) → IfErr answer P
output_alone (Ok y) P h k = tt
output_alone (Err e) P h k = k e h

pub on_ok : {Y E : Type 0} (answer : Result Y E) (P Q : Type 0) → (P → Q) → OnOk answer P → OnOk answer Q
on_ok (Ok y) P Q more h = more h
on_ok (Err e) P Q more h = tt

-- ---- a fault of files is no failed write
zoned_no_output : (city parcels zones : Files) (unit : LengthUnit) → IsLayersFault city parcels zones unit Output → ⊥
zoned_no_output city parcels zones unit (inl h) = layers_no_output city parcels unit h
zoned_no_output city parcels zones unit (inr h) = h.is_fault

pub no_output : (run : ParcelRun) (zones : Files) (fault : ToolFault)
    → IsOverlayFault run zones fault ⊎ (fault ≡ NoMemory) → fault ≡ Output → ⊥
no_output run zones fault (inl (inl h)) e = let same = h.is_told in cc
no_output run zones fault (inl (inr h)) e = elim h.1 [
  | inl k ↦ zoned_no_output run.city run.parcels zones run.unit
      (subst (IsLayersFault run.city run.parcels zones run.unit) e k)
  | inr k ↦ clerks_no_output run.clerks fault k.is_first e
]
no_output run zones fault (inr h) e = cc

pub overlay_want_no_output : (files workers : ℕ) (fault : ToolFault) → IsOverlayWant files workers fault → fault ≡ Output → ⊥
overlay_want_no_output files workers fault (inl h) e = want_no_output files fault h e
overlay_want_no_output files workers fault (inr h) e = let same = h.2 in cc

-- what is wanted with no clerk's file may be wanted with any
pub want_of_more : (files workers : ℕ) (fault : ToolFault) → IsOverlayWant 0 workers fault → IsOverlayWant files workers fault
want_of_more files workers fault (inl (inl e)) = inl (inl e)
want_of_more files workers fault (inl (inr h)) = absurd (omega (arith, h.0))
want_of_more files workers fault (inr h) = inr h
