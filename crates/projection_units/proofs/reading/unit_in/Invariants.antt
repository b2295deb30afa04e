use Rattle.std.proofs.Common.{◌≡◌, ◌≤◌}
use Rattle.projection_units.specs.own.Readings.{begun}
use Rattle.projection_units.specs.Tokens.{tokens}
use Rattle.projection_units.proofs.Readings.{at_the_end, known, with_tokens}
use Rattle.projection_units.proofs.reading.unit_in.Given as goal

-- what the bytes so far and those that are left say together is what all say
abbrev pub invariant-loop-at : goal.invariant-loop-at
invariant-loop-at l = record {
  whole : at_the_end l.text l.at l.reading ≡ with_tokens (tokens l.text) (known begun);
  word : l.reading.word ≤ l.at;
}
