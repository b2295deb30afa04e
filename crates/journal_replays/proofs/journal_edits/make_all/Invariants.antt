use Rattle.std.proofs.Common.{take}
use Rattle.journal_replays.specs.Replays.{AreMade}
use Rattle.journal_replays.proofs.journal_edits.make_all.Given as goal

abbrev pub invariant-loop-said : goal.invariant-loop-said
invariant-loop-said g l = AreMade (take l.said-index l.records) l.fn.fabric l.fabric
