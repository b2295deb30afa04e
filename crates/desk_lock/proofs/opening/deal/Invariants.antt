use Rattle.std.proofs.Common.{◌≡◌}
use Rattle.desk_lock.specs.Offices.{fresh_cards}
use Rattle.desk_lock.proofs.opening.deal.Given as goal

abbrev pub invariant-loop-place : goal.invariant-loop-place
invariant-loop-place g l = record {
  keeper : l.keeper ≡ record l.initial.keeper { dealt = l.place };
  cards : l.cards.items ≡ fresh_cards 0 l.place;
}
