use Rattle.shp_files.proofs.layers.Laws.{no_fault_in_layer}
use Rattle.shp_files.proofs.layer.a_layer_file_has_no_fault.Goals as goal

pub returns : goal.returns
returns c = no_fault_in_layer
