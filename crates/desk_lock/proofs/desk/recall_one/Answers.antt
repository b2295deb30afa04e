use Rattle.std.proofs.Common.{◌∙◌, ap, sym}
use Rattle.entry_cards.specs.Cards.{of_clerk}
use Rattle.desk_lock.proofs.desk.recall_one.Goals as goal

pub returns-clause-known : goal.returns-clause-known
returns-clause-known g c = rw (← c.card.view_is) (record {
  has_all = c.compare.ensures.agrees ∙ ap (λ k. of_clerk k c.args.keeper.now.all) (sym c.card.invariant.1);
  has_met = c.compare.ensures.met;
})
