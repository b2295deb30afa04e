use Rattle.std.proofs.Common.{◌++◌}
use Rattle.std.specs.Prelude.{IsPermutation}
use Rattle.overlay_work.specs.Sharing.{joined}
use Rattle.overlay_work.proofs.pairs.merged.Given as goal

abbrev pub invariant-loop : goal.invariant-loop
invariant-loop g l = IsPermutation (joined l.fn.lists) (l.pairs.items ++ joined l.queues)
