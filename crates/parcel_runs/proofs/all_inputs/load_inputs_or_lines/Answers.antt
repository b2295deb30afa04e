use Rattle.std.proofs.Common.{rules, ◌≡◌, ◌⊎◌, inr, [], ◌≤◌, length, sym, ap, subst}
use Rattle.fabric_core.proofs.edits.Refusals.{IsErrAnd-weaker}
use Rattle.desk_lock.specs.declared.opening.TheConstants.{MOST_PLACES}
use Rattle.city_layers.specs.declared.fault.ToolFault.TheVariants.{NoMemory}
use Rattle.city_layers.specs.FaultLines.{AreLinesBefore, text_or_none}
use Rattle.city_layers.specs.TilingFiles.{files_of}
use Rattle.parcel_runs.specs.RunFiles.{parcel_run_of}
use Rattle.parcel_runs.specs.RunFaults.{IsRunFault}
use Rattle.geo_exact.proofs.PassedOn.{passed_as}
use Rattle.parcel_runs.proofs.RunFaults.{few_fault, told_behind}
use Rattle.parcel_runs.proofs.all_inputs.load_inputs_or_lines.Goals as goal

pub returns-in_err-layer-clause-refuses : goal.returns-in_err-layer-clause-refuses
returns-in_err-layer-clause-refuses g c = λ fault h.
    let few : length c.args.files.now.clerks.items ≤ MOST_PLACES = search rules in
    let e = c.in_err-layer.field-0.0 in
    IsErrAnd-weaker c.from_residual-in_err-layer.result _ (λ refusal. (refusal.fault ≡ fault) ⊎ (refusal.fault ≡ NoMemory))
    (λ refusal same. subst (λ r. (r.fault ≡ fault) ⊎ (r.fault ≡ NoMemory)) (sym same)
    (few_fault c.args.files.now few ((e.fault ≡ fault) ⊎ (e.fault ≡ NoMemory)) fault h
    (λ k. c.in_err-layer.ensures.refuses fault k)
    (λ tiles are k. inr (c.in_err-layer.ensures.loads tiles are)))) c.from_residual-in_err-layer.ensures.1

pub returns-in_err-clerks-clause-fault : goal.returns-in_err-clerks-clause-fault
returns-in_err-clerks-clause-fault g c =
    let few : length c.args.files.now.clerks.items ≤ MOST_PLACES = search rules in
    let files = c.args.files.now in
    passed_as c.from_residual-in_err-clerks.result _
    (λ refusal. (IsRunFault (parcel_run_of files) refusal.fault
    × AreLinesBefore (files_of files.city) (files_of files.parcels) files.unit refusal.fault (text_or_none refusal.lines))
    ⊎ ((refusal.fault ≡ NoMemory) × (text_or_none refusal.lines ≡ [])))
    c.from_residual-in_err-clerks.ensures.1
    (λ refusal told. told_behind files few c.in_ok-layer.layer c.in_err-clerks.field-0.0 refusal.fault
    (text_or_none refusal.lines) c.in_ok-layer.ensures.tiles c.in_err-clerks.ensures.fault told.0 (ap text_or_none told.1))

pub returns-in_err-clerks-clause-refuses : goal.returns-in_err-clerks-clause-refuses
returns-in_err-clerks-clause-refuses g c = λ fault h.
    let few : length c.args.files.now.clerks.items ≤ MOST_PLACES = search rules in
    let e = c.in_err-clerks.field-0.0 in
    IsErrAnd-weaker c.from_residual-in_err-clerks.result _ (λ refusal. (refusal.fault ≡ fault) ⊎ (refusal.fault ≡ NoMemory))
    (λ refusal told. subst (λ x. (x ≡ fault) ⊎ (x ≡ NoMemory)) (sym told.0)
    (few_fault c.args.files.now few ((e ≡ fault) ⊎ (e ≡ NoMemory)) fault h
    (λ k. absurd (c.in_ok-layer.ensures.refuses fault k))
    (λ tiles are k. c.in_err-clerks.ensures.refuses fault k))) c.from_residual-in_err-clerks.ensures.1

pub returns-clause-refuses : goal.returns-clause-refuses
returns-clause-refuses g c = λ fault h.
    let few : length c.args.files.now.clerks.items ≤ MOST_PLACES = search rules in
    few_fault c.args.files.now few ⊥ fault h
    (λ k. c.in_ok-layer.ensures.refuses fault k)
    (λ tiles are k. c.in_ok-clerks.ensures.refuses fault k)
