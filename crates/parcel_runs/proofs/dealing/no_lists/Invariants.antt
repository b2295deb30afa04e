use Rattle.std.proofs.Common.{◌≡◌, [], length}
use Rattle.overlay_work.specs.Sharing.{joined}
use Rattle.parcel_runs.specs.own.Dealing.{dealt}
use Rattle.parcel_runs.proofs.dealing.no_lists.Given as goal

abbrev pub invariant-loop : goal.invariant-loop
invariant-loop g l = record {
  count : length l.lists.items ≡ l.counter;
  none : joined (dealt l.lists.items) ≡ [];
}
