-- The first fault of a run's files.
use Rattle.std.proofs.Common.{◌≡◌, ◌⊎◌, inl, inr, ℕ, ◌≤◌, List, [], length, Vec, arith, refl, sym, subst, ◌∙◌}
use Rattle.std.proofs.lemmas.List.{length-map}
use Rattle.std.proofs.lemmas.Slice.Zip.{AllZip-long}
use Rattle.geo_exact.specs.declared.coord.Unit.{Unit as LengthUnit}
use Rattle.ring_edits.specs.declared.edit.Edit.{Edit}
use Rattle.line_files.specs.ClerkFile.{IsClerkFile}
use Rattle.fabric_core.specs.Rows.{Tiles}
use Rattle.desk_lock.specs.declared.opening.TheConstants.{MOST_PLACES}
use Rattle.city_layers.specs.declared.fault.ToolFault.{ToolFault}
use Rattle.city_layers.specs.declared.fault.ToolFault.TheVariants.{NoMemory, Output}
use Rattle.city_layers.specs.TilingFiles.{Files, files_of, AreTiles, IsTilesFault}
use Rattle.clerk_runs.specs.ClerkFiles.{texts_of, AreClerkFiles}
use Rattle.city_layers.specs.FaultLines.{AreLinesBefore}
use Rattle.parcel_runs.specs.declared.run_files.RunFiles.{RunFiles}
use Rattle.parcel_runs.specs.RunFiles.{ParcelRun, parcel_run_of}
use Rattle.parcel_runs.specs.RunFaults.{IsClerkFault, IsRunFault, IsWant}

-- there are as many texts as files
pub few_texts : {A : Type 0} (clerks : List (Vec ℕ A)) → length clerks ≤ MOST_PLACES → length (texts_of clerks) ≤ MOST_PLACES
few_texts clerks few = omega (arith, few, length-map clerks (λ file. file.items))

-- there are as many lists of edits as files, so what was wanted for their clerks was wanted for these files
as_many_edits : {A B : Type 0} (clerks : List (Vec ℕ A)) (edits : List (List (ℕ × Edit B))) → AreClerkFiles (texts_of clerks) edits
    → length edits ≡ length clerks
as_many_edits clerks edits are =
    AllZip-long IsClerkFile (texts_of clerks) edits are ∙ length-map clerks (λ file. file.items)

pub same_want : {A B : Type 0} (clerks : List (Vec ℕ A)) (edits : List (List (ℕ × Edit B))) (fault : ToolFault)
    → AreClerkFiles (texts_of clerks) edits → IsWant (length edits) fault → IsWant (length clerks) fault
same_want clerks edits fault are want = subst (λ n. IsWant n fault) (as_many_edits clerks edits are) want

-- before a clerk's fault there are no lines
no_lines_before : (run : ParcelRun) (fault : ToolFault) → IsClerkFault run.clerks fault
    → AreLinesBefore run.city run.parcels run.unit fault []
no_lines_before run fault h = subst (λ x. AreLinesBefore run.city run.parcels run.unit x []) (sym h.3) refl

-- ---- the files of a run with few clerks' files
module _ {A : Type 0} (files : RunFiles A) (few : length files.clerks.items ≤ MOST_PLACES) where
  -- a fault is of the layers or behind them
  pub few_fault : (P : Type 0) (fault : ToolFault) → IsRunFault (parcel_run_of files) fault
      → (IsTilesFault (files_of files.city) (files_of files.parcels) files.unit fault → P)
      → ((tiles : Tiles) → AreTiles (files_of files.city) (files_of files.parcels) files.unit tiles
      → IsClerkFault (texts_of files.clerks.items) fault → P) → P
  few_fault P fault (inl h) of_tiles behind = absurd (omega (arith, h.are_more, few_texts files.clerks.items few))
  few_fault P fault (inr h) of_tiles behind = elim h.1 [
    | inl k ↦ of_tiles k
    | inr k ↦ behind k.tiles k.are_tiles k.is_first
  ]

  -- one of the clerks' files is the run's, where the layers have none
  of_clerks : (tiles : Tiles) (fault : ToolFault)
      → AreTiles (files_of files.city) (files_of files.parcels) files.unit tiles
      → IsClerkFault (texts_of files.clerks.items) fault → IsRunFault (parcel_run_of files) fault
  of_clerks tiles fault are h =
      inr (few_texts files.clerks.items few, inr record { tiles = tiles; are_tiles = are; is_first = h })

  -- as it is told behind them
  pub behind : (tiles : Tiles) (fault : ToolFault)
      → AreTiles (files_of files.city) (files_of files.parcels) files.unit tiles
      → IsClerkFault (texts_of files.clerks.items) fault ⊎ (fault ≡ NoMemory)
      → IsRunFault (parcel_run_of files) fault ⊎ (fault ≡ NoMemory)
  behind tiles fault are (inl h) = inl (of_clerks tiles fault are h)
  behind tiles fault are (inr h) = inr h

  -- and as it is told with the lines before it
  pub told_behind : (tiles : Tiles) (fault told : ToolFault) (lines : List ℕ)
      → AreTiles (files_of files.city) (files_of files.parcels) files.unit tiles
      → IsClerkFault (texts_of files.clerks.items) fault ⊎ (fault ≡ NoMemory)
      → told ≡ fault → lines ≡ []
      → (IsRunFault (parcel_run_of files) told
      × AreLinesBefore (files_of files.city) (files_of files.parcels) files.unit told lines)
      ⊎ ((told ≡ NoMemory) × (lines ≡ []))
  told_behind tiles fault told lines are (inl h) same none = inl (
    subst (IsRunFault (parcel_run_of files)) (sym same) (of_clerks tiles fault are h),
    subst (λ x. AreLinesBefore (files_of files.city) (files_of files.parcels) files.unit x lines) (sym same)
        (subst (AreLinesBefore (files_of files.city) (files_of files.parcels) files.unit fault) (sym none)
        (no_lines_before (parcel_run_of files) fault h)),
  )
  told_behind tiles fault told lines are (inr h) same none = inr (same ∙ h, none)

-- ---- a fault of files is no failed write, and neither is a want
pub clerks_no_output : (clerks : List (List ℕ)) (fault : ToolFault) → IsClerkFault clerks fault → fault ≡ Output → ⊥
clerks_no_output clerks fault h e = let same = h.3 in cc

pub want_no_output : (files : ℕ) (fault : ToolFault) → IsWant files fault → fault ≡ Output → ⊥
want_no_output files fault (inl h) e = cc
want_no_output files fault (inr h) e = let same = h.1 in cc

pub layers_no_output : (city parcels : Files) (unit : LengthUnit) → IsTilesFault city parcels unit Output → ⊥
layers_no_output city parcels unit (inl h) = h
layers_no_output city parcels unit (inr h) = h.is_fault

pub no_output : (run : ParcelRun) (fault : ToolFault) → IsRunFault run fault ⊎ (fault ≡ NoMemory) → fault ≡ Output → ⊥
no_output run fault (inl (inl h)) e = let same = h.is_told in cc
no_output run fault (inl (inr h)) e = elim h.1 [
  | inl k ↦ layers_no_output run.city run.parcels run.unit (subst (IsTilesFault run.city run.parcels run.unit) e k)
  | inr k ↦ clerks_no_output run.clerks fault k.is_first e
]
no_output run fault (inr h) e = cc
