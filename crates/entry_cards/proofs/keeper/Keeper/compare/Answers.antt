use Rattle.std.proofs.Common.{◌∙◌, sym, ap, subst}
use Rattle.entry_cards.specs.Cards.{IsClerk}
use Rattle.entry_cards.specs.own.Rule.{card_in, stub_view}
use Rattle.entry_cards.proofs.Marks.{one_view, is_dealt}
use Rattle.entry_cards.proofs.keeper.Keeper.compare.Goals as goal

pub returns-clause-dealt : goal.returns-clause-dealt
returns-clause-dealt g c =
    let keeper = c.self.inside in
    let card = card_in c.stub.inside.badge.views in
    let views = ap (λ b. b.views) c.replace-badge.ensures.value in
    let is_stub = one_view _ _ (stub_view card) (sym views ∙ c.into_seat.ensures.2) c.stub.invariant in
    let one = is_dealt keeper.clerks keeper.dealt card keeper.mark.me _ _ c.self.invariant.at_most c.self.invariant.mark is_stub
    c.join.ensures.1 c.compare.ensures.known in
    subst (λ v. IsClerk v.dealt c.args.stub.now.clerk) c.self.view_is (subst (λ s. IsClerk keeper.dealt s.clerk) c.stub.view_is one)
