use Rattle.std.proofs.Common.{◌∙◌, sym, ap}
use mathlib.Core.Option.{some}
use Rattle.atomic_table.specs.Table.Act.{keeps}
use Rattle.entry_cards.specs.own.Rule.{with_more}
use Rattle.entry_cards.proofs.Steps.{adds, knows_cards}
use Rattle.entry_cards.proofs.cards.Cards.add_told.Goals as goal

pub load-requires : goal.load-requires
load-requires g c =
    let v = c.args.mark.now.me.0 in
    let entry = c.args.entry.now in (
      c.requires.own ∙ sym (ap (λ v. v.name) c.self.view_is),
      c.self.invariant,
      λ s kept homes at small. (
        with_more v (some entry),
        keeps,
        tt,
        adds _ s.views _ v.clerks v.keeps v.all v.cards entry kept at c.requires.keeps c.requires.some,
        (ap (λ o. (with_more v o, c.args.mark.now.me.1)) (sym c.requires.told), knows_cards _ s.views _ v kept at),
      ),
    )
