use Rattle.std.proofs.Common.{◌∙◌, sym, ap}
use Rattle.entry_cards.proofs.Steps.{joins}
use Rattle.entry_cards.proofs.cards.Cards.join.Goals as goal

pub join_seat-requires : goal.join_seat-requires
join_seat-requires g c =
    let name = sym (ap (λ v. v.name) c.self.view_is) in (
      c.requires.own ∙ name,
      c.requires.others.0 ∙ name,
      c.requires.others.1,
      c.self.invariant,
      λ s kept at apart there. joins _ s.views _ c.args.mark.now.me.0 _ c.args.other.me.0 kept at apart there,
    )
