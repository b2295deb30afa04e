use Rattle.std.proofs.Common.{◌∙◌, ap}
use Rattle.std.proofs.lemmas.Result.{err_from_is_err_and}
use Rattle.shp_files.specs.LayerFile.{rings_of}
use Rattle.shp_files.proofs.layer.read_layer.Goals as goal

pub returns-in_err-read_each-clause-reads : goal.returns-in_err-read_each-clause-reads
returns-in_err-read_each-clause-reads g c = λ rings file.
    let p = err_from_is_err_and c.from_residual.result c.from_residual.ensures.1 in
    let e = c.in_err-read_each.ensures.reads rings file in
    rw p.1 (let q = p.2 in cc)

pub returns-clause-reads : goal.returns-clause-reads
returns-clause-reads g c = λ rings file.
    let reads = c.in_ok-read_each.ensures.reads rings file in
    ap (λ items. rings_of items) reads.holds_them ∙ reads.are
