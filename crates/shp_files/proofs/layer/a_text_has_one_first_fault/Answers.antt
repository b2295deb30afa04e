use Rattle.shp_files.proofs.layers.Laws.{one_first_fault}
use Rattle.shp_files.proofs.layer.a_text_has_one_first_fault.Goals as goal

pub returns : goal.returns
returns c = one_first_fault
