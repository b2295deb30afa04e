use Rattle.std.proofs.Common.{◌≡◌, ◌⊎◌, inr, ◌∙◌, refl, sym, subst}
use Rattle.geo_exact.specs.Layers.{rings_of}
use Rattle.fabric_core.proofs.edits.Refusals.{IsErrAnd-weaker}
use Rattle.fabric_core.proofs.loads.LoadRefusals.{first_or_memory}
use Rattle.city_layers.specs.declared.fault.ToolFault.TheVariants.{NoMemory}
use Rattle.city_layers.specs.FaultLines.{text_or_none}
use Rattle.city_layers.specs.TilingFiles.{files_of, told_of_load}
use Rattle.geo_exact.proofs.PassedOn.{passed_as}
use Rattle.city_layers.proofs.TilingFaults.{layer_unread, layer_refused, layer_has_none, layer_loaded}
use Rattle.city_layers.proofs.AllTiles.{told_or_no_memory, told_as}
use Rattle.city_layers.proofs.all_tiles.read_told_by.Goals as goal

pub returns-in_err-records-clause-refuses : goal.returns-in_err-records-clause-refuses
returns-in_err-records-clause-refuses g c = λ fault h.
    IsErrAnd-weaker c.from_residual.result _ (λ refusal. (refusal.fault ≡ fault) ⊎ (refusal.fault ≡ NoMemory))
    (λ refusal k. subst (λ x. (x ≡ fault) ⊎ (x ≡ NoMemory)) (sym k.0) (layer_unread _ _ _ _ _
    (λ rings l. c.in_err-records.ensures.reads rings (rw (c.as_slice.ensures.value, c.index_bytes.ensures.bytes) l))
    (λ first l. c.in_err-records.ensures.refuses first (rw (c.as_slice.ensures.value, c.index_bytes.ensures.bytes) l))
    fault h)) c.from_residual.ensures.1

pub returns-in_err-records-clause-loads : goal.returns-in_err-records-clause-loads
returns-in_err-records-clause-loads g c = λ tiles h.
    passed_as c.from_residual.result _ (λ refusal. refusal.fault ≡ NoMemory) c.from_residual.ensures.1 (λ refusal told.
    told.0 ∙ c.in_err-records.ensures.reads h.records (rw (c.as_slice.ensures.value, c.index_bytes.ensures.bytes) h.are_records))

pub returns-in-Ok-clause-layer : goal.returns-in-Ok-clause-layer
returns-in-Ok-clause-layer g c = record {
  records = rings_of c.in_ok-records.records.items;
  are_records = rw (c.as_slice.ensures.value, c.index_bytes.ensures.bytes) at c.in_ok-records.ensures.ok;
  are_refined = c.in-Ok.ensures.rows;
  same_city = c.in-Ok.ensures.city;
  has_no_fault = c.in-Ok.ensures.refuses;
  is_tiling = c.in-Ok.ensures.tiling;
}

pub returns-in-Ok-clause-refuses : goal.returns-in-Ok-clause-refuses
returns-in-Ok-clause-refuses g c = λ fault h.
    layer_has_none _ _ _ _ _
    (λ rings k. c.in_ok-records.ensures.reads rings (rw (c.as_slice.ensures.value, c.index_bytes.ensures.bytes) k))
    (λ first k. c.in_ok-records.ensures.refuses first (rw (c.as_slice.ensures.value, c.index_bytes.ensures.bytes) k))
    c.in-Ok.ensures.refuses fault h

pub returns-in-Err-clause-fault : goal.returns-in-Err-clause-fault
returns-in-Err-clause-fault g c =
    told_or_no_memory c.args.asked c.args.role (files_of c.args.files.now) c.args.unit c.args.city.now.ring.corners
    (rings_of c.in_ok-records.records.items) c.in-Err.refusal
    c.refusal_of.result.fault (text_or_none c.refusal_of.result.lines)
    (rw (← c.as_slice.ensures.value, ← c.index_bytes.ensures.bytes) c.in_ok-records.ensures.ok)
    c.in-Err.ensures.faults c.refusal_of.ensures

pub returns-in-Err-clause-refuses : goal.returns-in-Err-clause-refuses
returns-in-Err-clause-refuses g c = λ fault h.
    told_as (λ x. (x ≡ fault) ⊎ (x ≡ NoMemory)) (inr refl) c.refusal_of.result.fault (told_of_load c.args.role c.in-Err.refusal.first)
    _ _ c.refusal_of.ensures (layer_refused _ _ _ _ _ _
    (λ rings k. c.in_ok-records.ensures.reads rings (rw (c.as_slice.ensures.value, c.index_bytes.ensures.bytes) k))
    (λ first k. c.in_ok-records.ensures.refuses first (rw (c.as_slice.ensures.value, c.index_bytes.ensures.bytes) k))
    c.in-Err.ensures.refuses fault h)

pub returns-in-Err-clause-loads : goal.returns-in-Err-clause-loads
returns-in-Err-clause-loads g c = λ tiles h.
    told_as (λ x. x ≡ NoMemory) refl c.refusal_of.result.fault (told_of_load c.args.role c.in-Err.refusal.first)
    _ _ c.refusal_of.ensures (layer_loaded _ _ _ _ _ _ h
    (c.in_ok-records.ensures.reads h.records (rw (c.as_slice.ensures.value, c.index_bytes.ensures.bytes) h.are_records))
    (first_or_memory _ _ _ _ c.in-Err.ensures.faults))
