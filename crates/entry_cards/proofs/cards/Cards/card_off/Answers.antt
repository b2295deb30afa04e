use Rattle.std.proofs.Common.{◌∙◌, sym, ap}
use Rattle.entry_cards.proofs.Steps.{cuts}
use Rattle.entry_cards.proofs.cards.Cards.card_off.Goals as goal

pub split_seat-requires : goal.split_seat-requires
split_seat-requires g c =
    let v = c.args.mark.now.me.0 in (
      c.requires.own ∙ sym (ap (λ v. v.name) c.self.view_is),
      c.self.invariant,
      λ s kept at. cuts _ s.views _ v.clerks v.keeps v.all v.cards kept at c.requires.some,
    )
