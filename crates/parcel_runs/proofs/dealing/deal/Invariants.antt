use Rattle.std.proofs.Common.{◌≡◌, ◌<◌, ◌++◌, length}
use Rattle.std.specs.Prelude.{IsPermutation}
use Rattle.overlay_work.specs.Sharing.{joined}
use Rattle.parcel_runs.specs.own.Dealing.{dealt}
use Rattle.parcel_runs.proofs.InTurn.{AreInTurnSoFar}
use Rattle.parcel_runs.proofs.dealing.deal.Given as goal

abbrev pub invariant-loop-id : goal.invariant-loop-id
invariant-loop-id g l = record {
  count : length l.lists.items ≡ l.fn.workers;
  turn : l.worker < l.fn.workers;
  in_turn : AreInTurnSoFar l.fn.workers l.worker l.fn.ids l.id-iterator (dealt l.lists.items);
  each_once : IsPermutation (joined (dealt l.lists.items) ++ l.id-iterator) l.fn.ids;
}
