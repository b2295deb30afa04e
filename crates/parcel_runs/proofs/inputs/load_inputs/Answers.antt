use Rattle.std.proofs.Common.{rules, ◌≡◌, ◌⊎◌, inr, ◌≤◌, length}
use Rattle.std.specs.Option.{option_copied}
use Rattle.desk_lock.specs.declared.opening.TheConstants.{MOST_PLACES}
use Rattle.city_layers.specs.declared.fault.ToolFault.TheVariants.{NoMemory}
use Rattle.geo_exact.proofs.PassedOn.{passed_on, passed_if}
use Rattle.parcel_runs.specs.RunInputs.{files_of_zones}
use Rattle.parcel_runs.proofs.InputFaults.{few_input_fault, layers_first, behind_layers}
use Rattle.parcel_runs.proofs.inputs.load_inputs.Goals as goal

pub returns-in_err-layer-clause-fault : goal.returns-in_err-layer-clause-fault
returns-in_err-layer-clause-fault g c =
    let few : length c.args.files.now.clerks.items ≤ MOST_PLACES = search rules in
    passed_if _ _ _ c.from_residual-in_err-layer.ensures.1
    (layers_first c.args.files.now few (files_of_zones (option_copied c.args.zones)) c.in_err-layer.field-0.0
    c.in_err-layer.ensures.fault)

pub returns-in_err-layer-clause-refuses : goal.returns-in_err-layer-clause-refuses
returns-in_err-layer-clause-refuses g c = λ fault h.
    let few : length c.args.files.now.clerks.items ≤ MOST_PLACES = search rules in
    let e = c.in_err-layer.field-0.0 in
    passed_on _ e (λ told. (told ≡ fault) ⊎ (told ≡ NoMemory)) c.from_residual-in_err-layer.ensures.1
    (few_input_fault c.args.files.now few ((e ≡ fault) ⊎ (e ≡ NoMemory)) (files_of_zones (option_copied c.args.zones)) fault h
    (λ k. c.in_err-layer.ensures.refuses fault k)
    (λ tiles regions are on k. inr (c.in_err-layer.ensures.loads tiles regions are on)))

pub returns-in_err-clerks-clause-fault : goal.returns-in_err-clerks-clause-fault
returns-in_err-clerks-clause-fault g c =
    let few : length c.args.files.now.clerks.items ≤ MOST_PLACES = search rules in
    passed_if _ _ _ c.from_residual-in_err-clerks.ensures.1
    (behind_layers c.args.files.now few (files_of_zones (option_copied c.args.zones)) c.in_ok-layer.layer c.in_ok-layer.zones
    c.in_err-clerks.field-0.0 c.in_ok-layer.ensures.tiles c.in_ok-layer.ensures.zones c.in_err-clerks.ensures.fault)

pub returns-in_err-clerks-clause-refuses : goal.returns-in_err-clerks-clause-refuses
returns-in_err-clerks-clause-refuses g c = λ fault h.
    let few : length c.args.files.now.clerks.items ≤ MOST_PLACES = search rules in
    let e = c.in_err-clerks.field-0.0 in
    passed_on _ e (λ told. (told ≡ fault) ⊎ (told ≡ NoMemory)) c.from_residual-in_err-clerks.ensures.1
    (few_input_fault c.args.files.now few ((e ≡ fault) ⊎ (e ≡ NoMemory)) (files_of_zones (option_copied c.args.zones)) fault h
    (λ k. absurd (c.in_ok-layer.ensures.refuses fault k))
    (λ tiles regions are on k. c.in_err-clerks.ensures.refuses fault k))

pub returns-clause-refuses : goal.returns-clause-refuses
returns-clause-refuses g c = λ fault h.
    let few : length c.args.files.now.clerks.items ≤ MOST_PLACES = search rules in
    few_input_fault c.args.files.now few _ (files_of_zones (option_copied c.args.zones)) fault h
    (λ k. absurd (c.in_ok-layer.ensures.refuses fault k))
    (λ tiles regions are on k. absurd (c.in_ok-clerks.ensures.refuses fault k))
