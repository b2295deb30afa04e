use Rattle.std.proofs.Common.{◌∙◌, sym, ap, refl}
use Rattle.atomic_table.specs.Table.Act.{keeps}
use Rattle.entry_cards.proofs.Steps.{stays, knows_cards}
use Rattle.entry_cards.proofs.cards.Cards.compare.Goals as goal

pub load-requires : goal.load-requires
load-requires g c =
    let v = c.args.mark.now.me.0 in (
      c.requires.own ∙ sym (ap (λ v. v.name) c.self.view_is),
      c.self.invariant,
      λ s kept homes at small. (v, keeps, tt, stays _ s.views _ v kept at, (refl, knows_cards _ s.views _ v kept at)),
    )
