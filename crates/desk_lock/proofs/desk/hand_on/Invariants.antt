use Rattle.std.proofs.Common.{◌≡◌, ◌≤◌, drop, length}
use mathlib.Core.List.{IsPrefix}
use Rattle.desk_lock.proofs.desk.hand_on.Given as goal

abbrev pub invariant-loop-place : goal.invariant-loop-place
invariant-loop-place g l = record {
  begins : IsPrefix l.publisher.handed (drop l.from l.journal);
  count : length l.publisher.handed ≡ l.place;
  few : l.place ≤ l.count;
  shown : l.publisher.shown ≡ l.initial.publisher.shown;
}
