use Rattle.std.proofs.Common.{◌≡◌, ◌*◌, ◌++◌, drop}
use Rattle.projection_units.specs.Plain.{narrow}
use Rattle.projection_units.proofs.plain.narrow.Given as goal

-- what was pushed, and what is left, are the whole
abbrev pub invariant-loop-at : goal.invariant-loop-at
invariant-loop-at l = l.plain.items ++ narrow l.big (drop (2 * l.at) l.wide) ≡ narrow l.big l.wide
