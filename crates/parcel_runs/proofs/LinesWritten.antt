-- The lines of all faults, as they are written before the first is answered.
use Rattle.std.proofs.Common.{◌≡◌, ◌⊎◌, inl, inr, refl, sym, subst, ℕ, List, [], append-nil, Option, None, Some}
use Rattle.std.specs.Io.KnownBytes.{Appends}
use Rattle.city_layers.specs.declared.fault.ToolFault.{ToolFault}
use Rattle.city_layers.specs.declared.fault.ToolFault.TheVariants.{NoMemory, Output}
use Rattle.city_layers.specs.FaultLines.{AreLinesBefore, WritesLinesBefore}
use Rattle.text_pieces.specs.Beginnings.{AppendsBeginning}
use Rattle.parcel_runs.specs.RunFiles.{ParcelRun}
use Rattle.parcel_runs.specs.RunFaults.{IsRunFault, IsWant}
use Rattle.parcel_runs.specs.CheckReport.{BeginsLines}

appends_none : (told : Option (List ℕ)) → Appends told told []
appends_none None = tt
appends_none (Some bytes) = sym (append-nil bytes)

pub none_written : (run : ParcelRun) (fault : ToolFault) (told : Option (List ℕ)) (files : ℕ) → IsWant files fault
    → WritesLinesBefore run.city run.parcels run.unit fault told told
none_written run fault told files (inl e) =
    subst (λ x. WritesLinesBefore run.city run.parcels run.unit x told told) (sym e) ([], refl, appends_none told)
none_written run fault told files (inr h) =
    subst (λ x. WritesLinesBefore run.city run.parcels run.unit x told told) (sym h.1) ([], refl, appends_none told)

pub lines_written : (run : ParcelRun) (fault : ToolFault) (lines text : List ℕ) (old new : Option (List ℕ)) (files : ℕ)
    → text ≡ lines
    → Appends old new text
    → (IsRunFault run fault × AreLinesBefore run.city run.parcels run.unit fault lines)
    ⊎ ((fault ≡ NoMemory) × (lines ≡ []))
    → ((IsRunFault run fault ⊎ IsWant files fault)
    × WritesLinesBefore run.city run.parcels run.unit fault old new)
    ⊎ (fault ≡ Output)
lines_written run fault lines text old new files e put (inl h) =
    inl (inl h.0, (lines, h.1, subst (Appends old new) e put))
lines_written run fault lines text old new files e put (inr h) =
    inl (
      inr (inl h.0),
      subst (λ x. WritesLinesBefore run.city run.parcels run.unit x old new) (sym h.0)
          (lines, h.1, subst (Appends old new) e put),
    )

-- and a beginning of them, where a write failed
pub lines_begun : (run : ParcelRun) (fault : ToolFault) (lines text : List ℕ) (old new : Option (List ℕ))
    → text ≡ lines
    → AppendsBeginning old new text
    → (IsRunFault run fault × AreLinesBefore run.city run.parcels run.unit fault lines)
    ⊎ ((fault ≡ NoMemory) × (lines ≡ []))
    → BeginsLines run old new
lines_begun run fault lines text old new e put (inl h) = record {
  fault = fault;
  is_fault = inl h.0;
  lines = lines;
  are_lines = h.1;
  is_begun = subst (AppendsBeginning old new) e put;
}
lines_begun run fault lines text old new e put (inr h) = record {
  fault = fault;
  is_fault = inr h.0;
  lines = lines;
  are_lines = subst (λ x. AreLinesBefore run.city run.parcels run.unit x lines) (sym h.0) h.1;
  is_begun = subst (AppendsBeginning old new) e put;
}
