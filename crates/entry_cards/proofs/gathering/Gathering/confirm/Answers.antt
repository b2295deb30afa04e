use Rattle.std.proofs.Common.{◌≡◌, sym, subst, length}
use Rattle.entry_cards.specs.Cards.{AccountFor}
use Rattle.entry_cards.specs.own.Rule.{taken_in}
use Rattle.entry_cards.proofs.Known.{all_stubs}
use Rattle.entry_cards.proofs.Marks.{known_of}
use Rattle.entry_cards.proofs.gathering.Gathering.confirm.Goals as goal

pub returns-clause-accounts : goal.returns-clause-accounts
returns-clause-accounts g c =
    let own = c.self.inside in
    let cards = taken_in own.clerks own.dealt own.mark.me.0.cards in
    let count = subst (λ v. length v.cards ≡ v.dealt) (sym c.self.view_is) c.requires.all_stubs in
    let known = known_of own.clerks own.dealt cards own.mark.me c.self.invariant.mark c.compare.ensures.known in
    subst (λ v. AccountFor v.dealt v.all v.cards) c.self.view_is
    (all_stubs own.clerks own.dealt own.mark.me.0.all cards c.self.invariant.at_most count known)
