-- A lawful journal on the opening of a fabric: the state that it leads to, and that an edit is refused there for one reason.
use Rattle.std.proofs.Common.{◌≡◌, ℕ, ◌<◌, ◌≤◌, ◌+◌, List, [], ◌∷◌, length}
use Rattle.geo_exact.specs.Layers.{NumberedRing}
use Rattle.ring_edits.specs.declared.edit.Edit.{Edit}
use Rattle.fabric_core.specs.own.Balanced.{IsBalanced}
use Rattle.fabric_core.specs.declared.journal.TheConstants.{JOURNAL_ENTRIES}
use Rattle.fabric_core.specs.declared.refusal.Refusal.{Refusal}
use Rattle.fabric_core.specs.Faults.{AreSimple}
use Rattle.geo_exact.specs.declared.limits.TheConstants.{LAYER_RECORDS}
use Rattle.fabric_core.specs.Journal.{State, JournalEntry, after_entry, replay, with_rows, without_ids}
use Rattle.fabric_core.specs.EditResults.{IsChange, IsLawful, AreLawfulFrom, AreWithinLayerLimits}
use Rattle.fabric_core.specs.Refusals.{IsRefusal, AreParcels, NeedsNoMemory, named_ids}
use Rattle.fabric_core.specs.own.Changes.{AsksMemory}
use Rattle.fabric_core.proofs.edits.Retirements.{retired_once}
use Rattle.fabric_core.proofs.edits.OneRefusal.{one_refusal, not_refused, not_refused_early}
use Rattle.fabric_core.proofs.edits.EntryMeasures.{balanced_replayed}

module _ {A : Type 0} (opening : State) (journal : List (JournalEntry A)) (balanced : IsBalanced opening)
    (lawful : IsLawful opening journal) where
  -- so is the state that the journal leads to
  pub balanced_now : IsBalanced (replay opening journal)
  balanced_now = balanced_replayed opening 1 journal balanced lawful

  -- an edit is refused there for one reason at most
  pub one_reason : (edit : Edit A) (r s : Refusal) → IsRefusal (replay opening journal) journal edit r
      → IsRefusal (replay opening journal) journal edit s → r ≡ s
  one_reason edit r s h k =
      one_refusal journal edit (replay opening journal) balanced_now.simple balanced_now.ids.up
      (retired_once opening 1 journal balanced.ids lawful) r s h k

  -- and for none where it has a lawful result
  pub no_reason : (edit : Edit A) (out : List ℕ) (rows : List NumberedRing) (r : Refusal) → length journal < JOURNAL_ENTRIES
      → AreParcels (replay opening journal).rows (named_ids edit) → IsChange (replay opening journal) edit out rows → AreSimple rows
      → AreWithinLayerLimits (with_rows rows (without_ids out (replay opening journal).rows))
      → IsRefusal (replay opening journal) journal edit r → ⊥
  no_reason edit out rows r room here change simple within h =
      not_refused journal edit (replay opening journal) balanced_now.simple balanced_now.ids.up out rows r room here change simple
      within h

  -- nor for one that needs no memory, where memory is asked for
  pub no_early_reason : (edit : Edit A) (r : Refusal) → length journal < JOURNAL_ENTRIES → AsksMemory (replay opening journal) edit
      → IsRefusal (replay opening journal) journal edit r → NeedsNoMemory r → ⊥
  no_early_reason edit r room asks h early =
      not_refused_early journal edit (replay opening journal) balanced_now.simple balanced_now.ids.up r room asks h early

-- what a lawful journal leads to has no more parcels than a layer may have, where its opening has not
pub few_now : {A : Type 0} (state : State) (number : ℕ) (journal : List (JournalEntry A)) → AreLawfulFrom state number journal
    → length state.rows ≤ LAYER_RECORDS → length (replay state journal).rows ≤ LAYER_RECORDS
few_now state number [] h few = few
few_now state number (entry ∷ rest) h few = few_now (after_entry state entry) (number + 1) rest h.2 h.1.within.number
