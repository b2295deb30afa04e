use Rattle.std.proofs.Common.{◌≡◌, ◌⊎◌, ap, sym, subst, Some, None}
use Rattle.std.specs.Option.{option_copied}
use Rattle.city_layers.specs.declared.fault.ToolFault.TheVariants.{NoMemory}
use Rattle.city_layers.specs.TilingFiles.{files_of}
use Rattle.parcel_runs.specs.RunFiles.{parcel_run_of}
use Rattle.parcel_runs.specs.RunInputs.{files_of_zones, AreRegions}
use Rattle.parcel_runs.specs.own.LayerFaults.{IsLayersFaultOf}
use Rattle.parcel_runs.proofs.InputFaults.{where_zoned}
use Rattle.parcel_runs.proofs.inputs.load_run_layers.Goals as goal

pub returns-in-Ok-clause-refuses : goal.returns-in-Ok-clause-refuses
returns-in-Ok-clause-refuses g c = λ fault h.
    let none : files_of_zones (option_copied c.args.zones) ≡ None = ap (λ z. files_of_zones (option_copied z)) c.in-None.is in
    c.in-Ok.ensures.refuses fault (subst (λ zones. IsLayersFaultOf (parcel_run_of c.args.files.now) zones fault) none h)

pub returns-in-Err-clause-refuses : goal.returns-in-Err-clause-refuses
returns-in-Err-clause-refuses g c = λ fault h.
    let none : files_of_zones (option_copied c.args.zones) ≡ None = ap (λ z. files_of_zones (option_copied z)) c.in-None.is in
    c.in-Err.ensures.refuses fault (subst (λ zones. IsLayersFaultOf (parcel_run_of c.args.files.now) zones fault) none h)

pub returns-in-Err-clause-loads : goal.returns-in-Err-clause-loads
returns-in-Err-clause-loads g c = λ tiles regions are on. c.in-Err.ensures.loads tiles are

pub returns-in-Ok-load_layers_by-clause-refuses : goal.returns-in-Ok-load_layers_by-clause-refuses
returns-in-Ok-load_layers_by-clause-refuses g c = λ fault h.
    let some : files_of_zones (option_copied c.args.zones) ≡ Some (files_of c.in-Some.zones.now) =
    ap (λ z. files_of_zones (option_copied z)) c.in-Some.is in
    c.in-Ok-load_layers_by.ensures.refuses fault
    (subst (λ zones. IsLayersFaultOf (parcel_run_of c.args.files.now) zones fault) some h)

pub returns-in-Err-load_layers_by-clause-refuses : goal.returns-in-Err-load_layers_by-clause-refuses
returns-in-Err-load_layers_by-clause-refuses g c = λ fault h.
    let some : files_of_zones (option_copied c.args.zones) ≡ Some (files_of c.in-Some.zones.now) =
    ap (λ z. files_of_zones (option_copied z)) c.in-Some.is in
    c.in-Err-load_layers_by.ensures.refuses fault
    (subst (λ zones. IsLayersFaultOf (parcel_run_of c.args.files.now) zones fault) some h)

pub returns-in-Err-load_layers_by-clause-loads : goal.returns-in-Err-load_layers_by-clause-loads
returns-in-Err-load_layers_by-clause-loads g c = λ tiles regions are on.
    let some : files_of_zones (option_copied c.args.zones) ≡ Some (files_of c.in-Some.zones.now) =
    ap (λ z. files_of_zones (option_copied z)) c.in-Some.is in
    where_zoned _ (files_of c.args.files.now.city) (files_of c.args.files.now.parcels) (files_of c.in-Some.zones.now)
    c.args.files.now.unit tiles regions are
    (subst (λ zones. AreRegions zones c.args.files.now.unit tiles.city regions) some on)
    (λ others zoned. c.in-Err-load_layers_by.ensures.loads tiles others zoned)

pub returns-in-Err-clause-fault : goal.returns-in-Err-clause-fault
returns-in-Err-clause-fault g c =
    let told = c.in-Err.fault in
    let none : files_of_zones (option_copied c.args.zones) ≡ None = ap (λ z. files_of_zones (option_copied z)) c.in-None.is in
    subst (λ zones. IsLayersFaultOf (parcel_run_of c.args.files.now) zones told ⊎ (told ≡ NoMemory)) (sym none) c.in-Err.ensures.fault

pub returns-in-Err-load_layers_by-clause-fault : goal.returns-in-Err-load_layers_by-clause-fault
returns-in-Err-load_layers_by-clause-fault g c =
    let told = c.in-Err-load_layers_by.fault in
    let some : files_of_zones (option_copied c.args.zones) ≡ Some (files_of c.in-Some.zones.now) =
    ap (λ z. files_of_zones (option_copied z)) c.in-Some.is in
    subst (λ zones. IsLayersFaultOf (parcel_run_of c.args.files.now) zones told ⊎ (told ≡ NoMemory)) (sym some)
    c.in-Err-load_layers_by.ensures.fault
