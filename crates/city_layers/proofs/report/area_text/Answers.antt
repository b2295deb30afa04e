use Rattle.std.proofs.Common.{◌∙◌, ap}
use Rattle.city_layers.specs.own.LayerFaults.{layer_fault}
use Rattle.city_layers.specs.declared.fault.Role.TheVariants.{File}
use Rattle.city_layers.proofs.report.area_text.Goals as goal

pub returns-clause-reads : goal.returns-clause-reads
returns-clause-reads g c = λ rings h. c.from.ensures ∙ ap (layer_fault File) (c.in-Err.ensures.reads rings h)
