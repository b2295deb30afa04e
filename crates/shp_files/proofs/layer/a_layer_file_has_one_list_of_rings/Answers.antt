use Rattle.shp_files.proofs.layers.Laws.{one_list_of_rings}
use Rattle.shp_files.proofs.layer.a_layer_file_has_one_list_of_rings.Goals as goal

pub returns : goal.returns
returns c = one_list_of_rings
