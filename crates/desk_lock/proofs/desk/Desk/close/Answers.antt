use Rattle.std.proofs.Common.{Bor, ap, ◌∙◌, ◌++◌, map}
use Rattle.entry_cards.specs.Cards.{Gathered}
use Rattle.fabric_core.specs.Journal.{JournalEntry}
use Rattle.desk_lock.specs.own.Keeping.{as_known}
use Rattle.desk_lock.proofs.Totals.{total_of}
use Rattle.desk_lock.proofs.desk.Desk.close.Goals as goal

pub returns : goal.returns
returns g c =
    let is = c.take_all_in-gathering.ensures
    ∙ ap (λ (k : Gathered (JournalEntry (Bor g.row.H.Denot))). record k { cards = map as_known c.args.cards.items ++ k.cards })
    c.gather.ensures in
    total_of g.J.Naming-1.office c.self.inside.fabric c.self.inside.keeper c.self.inside.publisher.handed c.self.inside.opened_with
    c.self.invariant c.take_all_in-gathering.result c.args.cards.items
    (ap (λ (k : Gathered (JournalEntry (Bor g.row.H.Denot))). k.all) is)
    (ap (λ (k : Gathered (JournalEntry (Bor g.row.H.Denot))). k.cards) is) c.confirm.ensures.accounts
