use Rattle.std.proofs.Common.{arith, ap, sym, ◌∙◌, [], ◌∷◌, ◌++◌, Bor}
use Rattle.entry_cards.specs.Cards.{Kept, Own}
use Rattle.entry_cards.specs.Cards as Cards
use Rattle.fabric_core.specs.Journal.{JournalEntry}
use Rattle.desk_lock.proofs.Clerks.{few_made, is_sometime, keeps_more, all_met, all_met_after}
use Rattle.desk_lock.proofs.desk.Desk.edit.Goals as goal

pub returns-in_err-entry-clause-sometime : goal.returns-in_err-entry-clause-sometime
returns-in_err-entry-clause-sometime g c = rw (← c.self.view_is, ← c.card.view_is)
    (is_sometime g.J.Naming-1.office c.self.inside.fabric c.self.inside.keeper c.self.inside.publisher.handed
    c.self.inside.opened_with c.self.invariant c.card.inside.clerk c.card.inside.stub.made c.card.inside.stub.met
    c.use_invariant.ensures.lawful (c.meet.ensures.agrees ∙ ap (λ k. Cards.of_clerk k c.self.inside.keeper.all) (sym c.card.invariant.1))
    c.meet.ensures.met)

pub returns-in_err-entry-clause-met : goal.returns-in_err-entry-clause-met
returns-in_err-entry-clause-met g c =
    all_met g.J.Naming-1.office c.self.inside.fabric c.self.inside.keeper c.self.inside.publisher.handed
    c.self.inside.opened_with c.self.invariant c.meet.new.stub.met (ap (λ s. s.met) c.meet.ensures.stub)
    ∙ sym (ap (λ b. b.journal) c.in_err-entry.ensures.unchanged)

pub overflow_add-card : goal.overflow_add-card
overflow_add-card g c =
    let most = few_made g.J.Naming-1.office c.self.inside.fabric c.self.inside.keeper c.self.inside.publisher.handed
    c.self.inside.opened_with c.self.invariant c.card.inside.stub.clerk c.card.inside.stub.made c.meet.ensures.agrees in
    omega (arith, most, c.card.invariant.2, c.in_ok-entry.ensures.number, c.in_ok-entry.ensures.is_entry.has_place)

pub invariant_of-self-2 : goal.invariant_of-self-2
invariant_of-self-2 g c =
    keeps_more g.J.Naming-1.office c.self.inside.fabric c.self.inside.keeper c.self.inside.publisher.handed
    c.self.inside.opened_with c.self.invariant c.edit.new.self c.add.new.self c.in_ok-entry.entry c.card.inside.stub.clerk
    c.meet.ensures.dealt (c.in_ok-entry.ensures.clerk ∙ c.card.invariant.1) c.edit.ensures.city c.edit.ensures.opening
    c.in_ok-entry.ensures.journal (c.add.ensures.keeper
    ∙ (ap (λ (k : Kept (JournalEntry (Bor g.row.H.Denot))). record k {
      all = k.all ++ (c.meet.new.stub.clerk, c.in_ok-entry.entry) ∷ [];
    }) c.meet.ensures.keeper
    ∙ ap (λ (s : Own (JournalEntry (Bor g.row.H.Denot))). record c.self.inside.keeper {
      all = c.self.inside.keeper.all ++ (s.clerk, c.in_ok-entry.entry) ∷ [];
    }) c.meet.ensures.stub))

pub returns-clause-sometime : goal.returns-clause-sometime
returns-clause-sometime g c = rw (← c.self.view_is, ← c.card.view_is)
    (is_sometime g.J.Naming-1.office c.self.inside.fabric c.self.inside.keeper c.self.inside.publisher.handed
    c.self.inside.opened_with c.self.invariant c.card.inside.clerk c.card.inside.stub.made c.card.inside.stub.met
    c.use_invariant.ensures.lawful (c.meet.ensures.agrees ∙ ap (λ k. Cards.of_clerk k c.self.inside.keeper.all) (sym c.card.invariant.1))
    c.meet.ensures.met)

pub returns-clause-met : goal.returns-clause-met
returns-clause-met g c =
    all_met_after g.J.Naming-1.office c.self.inside.fabric c.self.inside.keeper c.self.inside.publisher.handed
    c.self.inside.opened_with c.self.invariant c.add.new.self c.add.new.stub.met c.edit.new.self c.meet.new.stub.clerk
    c.in_ok-entry.entry (ap (λ s. s.met) c.add.ensures.stub)
    (ap (λ k. k.all) c.add.ensures.keeper
    ∙ ap (λ (k : Kept (JournalEntry (Bor g.row.H.Denot))). k.all ++ (c.meet.new.stub.clerk, c.in_ok-entry.entry) ∷ [])
    c.meet.ensures.keeper)
    c.in_ok-entry.ensures.journal

pub returns-clause-refuses : goal.returns-clause-refuses
returns-clause-refuses g c = rw (← c.self.view_is) c.in_ok-entry.ensures.refuses

pub returns-clause-exact : goal.returns-clause-exact
returns-clause-exact g c = rw (← c.self.view_is) c.in_ok-entry.ensures.exact
