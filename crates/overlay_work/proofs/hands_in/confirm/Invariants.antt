use Rattle.std.proofs.Common.{◌≡◌, ◌+◌, ◌++◌, length}
use Rattle.overlay_work.specs.own.Kept.{ids_at}
use Rattle.overlay_work.specs.own.Gathered.{claimed_by, did_by, ended_by, AreReady}
use Rattle.overlay_work.proofs.hands_in.confirm.Given as goal

abbrev pub invariant-loop-hand : goal.invariant-loop-hand
invariant-loop-hand g l = record {
  lists : l.all.lists ≡ l.work.claims;
  count : l.all.hands + length l.hand-iterator.rest.items ≡ length l.fn.hands.items;
  claimed : l.all.places ++ claimed_by l.hand-iterator.rest.items ≡ claimed_by l.fn.hands.items;
  did : ids_at l.work.lists l.all.places ++ did_by l.hand-iterator.rest.items ≡ did_by l.fn.hands.items;
  ended : l.all.ended ++ ended_by l.hand-iterator.rest.items ≡ ended_by l.fn.hands.items;
  ready : AreReady l.work l.hand-iterator.rest.items;
}
