use Rattle.std.proofs.Common.{◌≡◌, ◌&&◌, ◌||◌, ◌==◌, drop}
use Rattle.parcel_tool.specs.Flaws.{begins_with, two_spaces}
use Rattle.parcel_tool.proofs.flaws.has_two_spaces.Given as goal

-- what is left has two spaces, or begins with a second one, if the line has
abbrev pub invariant-loop-byte : goal.invariant-loop-byte
invariant-loop-byte l =
    (((l.before == 32) && begins_with 32 (drop l.byte-index l.line)) || two_spaces (drop l.byte-index l.line)) ≡ two_spaces l.fn.line
