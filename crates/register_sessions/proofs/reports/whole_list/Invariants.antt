use Rattle.std.proofs.Common.{◌≡◌, ◌++◌}
use Rattle.fabric_core.specs.Rows.{numbers}
use Rattle.register_sessions.proofs.reports.whole_list.Given as goal

abbrev pub invariant-loop-id : goal.invariant-loop-id
invariant-loop-id g l = l.ids.items ++ l.id-iterator ≡ numbers l.fn.sheet.now.rows
