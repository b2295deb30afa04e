use Rattle.std.proofs.Common.{◌∙◌, ap, ◌∷◌}
use Rattle.entry_cards.specs.declared.view.Card.{Card}
use Rattle.entry_cards.specs.Cards.{Gathered}
use Rattle.entry_cards.specs.own.Rule.{card_in, stub_view, taken_in}
use Rattle.entry_cards.proofs.Marks.{one_view, takes, keeps_taken, taken_of, with_card, shows_card}
use Rattle.entry_cards.proofs.gathering.Gathering.take_in.Goals as goal

pub invariant_of-self : goal.invariant_of-self
invariant_of-self g c =
    let own = c.self.inside in
    let card = card_in c.stub.inside.badge.views in
    let cards = taken_in own.clerks own.dealt own.mark.me.0.cards in
    let is_stub = one_view _ _ (stub_view card) c.into_seat.ensures.2 c.stub.invariant in
    let taken = takes own.clerks own.dealt cards card own.mark.me _ _ c.self.invariant.mark is_stub c.join.ensures.1 in
    record {
      clerks_are = c.self.invariant.clerks_are;
      own = c.join.ensures.0 ∙ c.self.invariant.own;
      at_most = c.self.invariant.at_most;
      mark = keeps_taken own.clerks own.dealt (card ∷ cards) _ taken;
    }

pub returns : goal.returns
returns g c =
    let own = c.self.inside in
    let card : Card g.row.E.Denot = record { clerk = c.args.stub.clerk; made = c.args.stub.made; met = c.args.stub.met } in
    let cards = taken_in own.clerks own.dealt own.mark.me.0.cards in
    let is_stub = one_view _ _ (stub_view (card_in c.stub.inside.badge.views)) c.into_seat.ensures.2 c.stub.invariant in
    let is_card = ap (λ s. stub_view (record { clerk = s.clerk; made = s.made; met = s.met })) c.stub.view_is in
    let mark = takes own.clerks own.dealt cards card own.mark.me _ _ c.self.invariant.mark (is_stub ∙ is_card) c.join.ensures.1 in
    let taken = taken_of own.clerks own.dealt (card ∷ cards) _ mark in
    let same_all = ap (λ m. m.0.all) c.join.ensures.1 in
    let shown : Gathered g.row.E.Denot = record {
      name = own.cards.name;
      clerks = own.clerks;
      dealt = own.dealt;
      all = own.mark.me.0.all;
      cards = cards;
    } in
    shows_card shown card _ _ same_all taken ∙ ap (with_card card) c.self.view_is
