use Rattle.std.proofs.Common.{◌≡◌, take}
use Rattle.std.specs.List.{AllByRecursion}
use Rattle.desk_lock.specs.own.Keeping.{IsKnown}
use Rattle.desk_lock.proofs.desk.recall_all.Given as goal

abbrev pub invariant-loop-place : goal.invariant-loop-place
invariant-loop-place g l = record {
  keeper : l.keeper ≡ l.initial.keeper;
  cards : l.cards ≡ l.initial.cards;
  known : AllByRecursion (IsKnown l.initial.keeper.all) (take l.place l.initial.cards);
}
