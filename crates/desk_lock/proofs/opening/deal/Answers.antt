use Rattle.std.proofs.Common.{refl, Bor, List, ◌+◌, ◌∷◌, [], ◌++◌, ap, ◌∙◌}
use Rattle.entry_cards.specs.Cards.{Kept}
use Rattle.fabric_core.specs.Journal.{JournalEntry}
use Rattle.desk_lock.specs.Offices.{CardState}
use Rattle.desk_lock.proofs.Clerks.{next_fresh}
use Rattle.desk_lock.proofs.opening.deal.Goals as goal

pub loop-place-preserved : goal.loop-place-preserved
loop-place-preserved g c = record {
  keeper = c.deal-stub.ensures.keeper ∙ ap (λ (k : Kept (JournalEntry (Bor g.row.H.Denot))). record k {
    dealt =
        k.dealt + 1;
  }) c.loop-place.invariant.keeper;
  cards = c.in_ok-push.ensures.items
      ∙ (ap (λ (l : List (CardState (Bor g.row.H.Denot))). l ++ record {
        clerk = c.loop-place.place + 1;
        made = c.deal-stub.result.made;
        met = c.deal-stub.result.met;
      } ∷ []) c.loop-place.invariant.cards
      ∙ next_fresh c.loop-place.place (c.loop-place.place + 1) c.deal-stub.result.made c.deal-stub.result.met refl
      (cc (c.deal-stub.ensures.stub)) (cc (c.deal-stub.ensures.stub)));
}
