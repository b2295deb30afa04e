use Rattle.std.proofs.Common.{drop, flat_map, map}
use Rattle.fabric_core.specs.JournalRows.{row_of}
use Rattle.fabric_core.specs.Rows.{numbers}
use Rattle.text_pieces.proofs.Sinks.{IsUnderWay}
use Rattle.clerk_runs.specs.PlaceTexts.{id_text}
use Rattle.session_lines.proofs.edits.push_row_ids.Given as goal

abbrev pub invariant-loop-row : goal.invariant-loop-row
invariant-loop-row g l =
    IsUnderWay g.S.Sink.takes l.initial.text l.text (flat_map id_text (numbers (map row_of l.rows)))
    (flat_map id_text (numbers (map row_of (drop l.row-index l.rows))))
