use Rattle.std.proofs.Common.{◌≡◌, drop}
use Rattle.journal_records.specs.Tails.{are_torn_blocks}
use Rattle.journal_records.proofs.tails.is_torn_in_blocks.Given as goal

abbrev pub invariant-loop-byte : goal.invariant-loop-byte
invariant-loop-byte l = are_torn_blocks 1 l.fn.place l.text ≡ are_torn_blocks l.was l.at (drop l.byte-index l.text)
