use Rattle.std.proofs.Common.{take}
use Rattle.session_rooms.specs.Kept.{HasRecords}
use Rattle.session_rooms.proofs.clerk_edits.add_entries.Given as goal

abbrev pub invariant-loop-entry : goal.invariant-loop-entry
invariant-loop-entry g l = HasRecords l.fn.writer l.writer (take l.entry-index l.entries)
