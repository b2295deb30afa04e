use Rattle.std.proofs.Common.{◌∙◌, ap}
use Rattle.city_layers.specs.own.LayerFaults.{layer_fault}
use Rattle.city_layers.proofs.layers.layer_rings.Goals as goal

pub returns-in-Err-clause-reads : goal.returns-in-Err-clause-reads
returns-in-Err-clause-reads g c = λ rings h. c.from.ensures ∙ ap (layer_fault c.args.role) (c.in-Err.ensures.reads rings h)
