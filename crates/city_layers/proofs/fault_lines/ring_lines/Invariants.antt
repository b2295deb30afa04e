use Rattle.std.proofs.Common.{◌≡◌, take, flat_map}
use Rattle.city_layers.specs.FaultLines.{ring_line}
use Rattle.city_layers.proofs.fault_lines.ring_lines.Given as goal

abbrev pub invariant-loop-told : goal.invariant-loop-told
invariant-loop-told g l = l.text.items ≡ flat_map ring_line (take l.told-index l.faults)
