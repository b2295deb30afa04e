use Rattle.std.proofs.Common.{◌∙◌, sym}
use Rattle.journal_records.proofs.Words.{some_bytes}
use Rattle.journal_writers.specs.Writers.{IsKept}
use Rattle.session_rooms.proofs.Starts.{kept_text}
use Rattle.session_rooms.proofs.begin.begin_writer.Goals as goal

pub go_on-requires-clause-kept : goal.go_on-requires-clause-kept
go_on-requires-clause-kept g c =
    kept_text c.args.text.now c.args.replayed.now c.args.layer.now c.saturating_sub-whole.result c.requires.marked
    (some_bytes c.args.text.now (sym c.is_empty.ensures ∙ c.if-is_empty.false)) c.saturating_sub-whole.ensures
