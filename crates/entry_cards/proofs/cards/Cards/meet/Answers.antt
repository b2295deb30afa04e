use Rattle.std.proofs.Common.{◌∙◌, sym, ap, refl}
use Rattle.atomic_table.specs.Table.Act.{keeps}
use Rattle.entry_cards.specs.own.Rule.{with_all_met}
use Rattle.entry_cards.proofs.Steps.{meets, knows_cards}
use Rattle.entry_cards.proofs.cards.Cards.meet.Goals as goal

pub load-requires : goal.load-requires
load-requires g c =
    let v = c.args.mark.now.me.0 in (
      c.requires.own ∙ sym (ap (λ v. v.name) c.self.view_is),
      c.self.invariant,
      λ s kept homes at small. (
        with_all_met v,
        keeps,
        tt,
        meets _ s.views _ v.clerks v.keeps v.all v.cards kept at c.requires.keeps c.requires.some,
        (refl, knows_cards _ s.views _ v kept at),
      ),
    )
