use Rattle.std.proofs.Common.{◌≡◌, ◌+◌, ◌++◌, map, length}
use Rattle.desk_lock.specs.own.Keeping.{as_known}
use Rattle.desk_lock.proofs.desk.take_all_in.Given as goal

abbrev pub invariant-loop-place : goal.invariant-loop-place
invariant-loop-place g l = record {
  count : length l.cards.items + l.place ≡ length l.initial.cards.items;
  gathering : l.gathering ≡ record l.initial.gathering { cards = l.gathering.cards };
  both : map as_known l.cards.items ++ l.gathering.cards ≡ map as_known l.initial.cards.items ++ l.initial.gathering.cards;
}
