use Rattle.std.proofs.Common.{◌≡◌, take, flat_map}
use Rattle.city_layers.specs.FaultLines.{edge_line}
use Rattle.city_layers.proofs.fault_lines.edge_lines.Given as goal

abbrev pub invariant-loop-gap : goal.invariant-loop-gap
invariant-loop-gap g l = l.text.items ≡ flat_map edge_line (take l.gap-index l.gaps)
