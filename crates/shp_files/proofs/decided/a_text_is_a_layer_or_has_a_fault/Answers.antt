use Rattle.shp_files.proofs.layers.LayerOrFault.{layer_or_fault}
use Rattle.shp_files.proofs.decided.a_text_is_a_layer_or_has_a_fault.Goals as goal

pub returns : goal.returns
returns c = layer_or_fault
