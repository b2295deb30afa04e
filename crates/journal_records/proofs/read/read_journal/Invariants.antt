use Rattle.std.proofs.Common.{◌≡◌, ◌+◌, length}
use Rattle.journal_records.specs.Journals.{IsReadWhole, longest}
use Rattle.journal_records.proofs.read.read_journal.Given as goal

abbrev pub invariant-loop-number : goal.invariant-loop-number
invariant-loop-number g l = record {
  journal : IsReadWhole l.layer.digits l.text l.records.items l.seal.digits l.rest;
  count : l.number ≡ 1 + length l.records.items;
  longest : l.longest ≡ longest l.layer.digits l.records.items;
}
