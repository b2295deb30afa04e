use Rattle.std.proofs.Common.{◌≡◌, drop}
use Rattle.parcel_tool.specs.Flaws.{capitals}
use Rattle.parcel_tool.proofs.flaws.has_capital.Given as goal

-- what is left has a capital if the line has
abbrev pub invariant-loop-byte : goal.invariant-loop-byte
invariant-loop-byte l = capitals (drop l.byte-index l.line) ≡ capitals l.fn.line
