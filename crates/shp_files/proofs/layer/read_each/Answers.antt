use Rattle.std.specs.Prelude.{option_copied}
use Rattle.shp_files.proofs.lines.Answered.{layer_is_answered, fault_is_answered}
use Rattle.shp_files.proofs.layer.read_each.Goals as goal

pub returns-clause-reads : goal.returns-clause-reads
returns-clause-reads g c = λ rings file.
    layer_is_answered c.args.main.now (option_copied c.args.index) c.args.unit c.read_checked.result _ rings
    c.read_checked.ensures.layer c.read_checked.ensures.fault file

pub returns-clause-refuses : goal.returns-clause-refuses
returns-clause-refuses g c = λ fault is.
    fault_is_answered c.args.main.now (option_copied c.args.index) c.args.unit c.read_checked.result _ fault
    c.read_checked.ensures.layer c.read_checked.ensures.fault is
