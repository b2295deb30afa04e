use Rattle.std.proofs.Common.{◌≡◌, inr, None, refl, subst}
use Rattle.std.proofs.lemmas.Result.{err_from_is_err_and}
use Rattle.shp_files.specs.declared.fault.FileFault.{FileFault}
use Rattle.shp_files.specs.LayerFile.{rings_of}
use Rattle.shp_files.specs.FirstFault.{IsIndexFault}
use Rattle.shp_files.proofs.layers.Indexes.{file_of_agrees}
use Rattle.shp_files.proofs.layers.Laws.{accepted_layer}
use Rattle.shp_files.proofs.layer.read_checked.Goals as goal

pub check_index-requires-clause-accepted : goal.check_index-requires-clause-accepted
check_index-requires-clause-accepted g c =
    let all = c.in_ok-read_records.ensures.layer in
    (c.args.unit, accepted_layer c.args.main.now None c.args.unit (rings_of all.held) all.is_file)

pub returns-in_err-check_index-clause-fault : goal.returns-in_err-check_index-clause-fault
returns-in_err-check_index-clause-fault g c = λ fault is.
    let p = err_from_is_err_and c.from_residual-in_err-check_index.result c.from_residual-in_err-check_index.ensures.1 in
    let layer = c.in_ok-read_records.ensures.layer in
    let all = accepted_layer c.args.main.now None c.args.unit (rings_of layer.held) layer.is_file in
    let same : c.in_err-check_index.field-0.0 ≡ fault = (let q = p.1 in let r = p.2 in cc) in
    let is = subst (λ (f : FileFault). IsIndexFault c.args.main.now c.in-Some.index.now c.args.unit f) same
    (c.in_err-check_index.ensures.fault c.args.unit all) in
    rw c.in-Some.is (inr (all, is))

pub returns-in_ok-check_index-clause-layer : goal.returns-in_ok-check_index-clause-layer
returns-in_ok-check_index-clause-layer g c =
    let layer = c.in_ok-read_records.ensures.layer in
    let all = accepted_layer c.args.main.now None c.args.unit (rings_of layer.held) layer.is_file in
    let agrees = c.in_ok-check_index.ensures.agrees c.args.unit all refl in
    record {
      held = layer.held;
      is_file = rw c.in-Some.is (file_of_agrees c.args.main.now c.in-Some.index.now c.args.unit (rings_of layer.held) layer.is_file agrees);
      holds_them = layer.holds_them;
    }
