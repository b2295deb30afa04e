use Rattle.std.proofs.Common.{Bor, ◌≡◌, ◌++◌, subst}
use Rattle.fabric_core.specs.EditResults.{IsLawful}
use Rattle.fabric_core.specs.Journal.{JournalEntry}
use Rattle.desk_lock.specs.Offices.{DeskState, IsOfOrigin, AreOfClerks}
use Rattle.desk_lock.proofs.Told.{refused_when_met, refuses_when_met, exact_when_met, met_on, met_ends, entered_is_sometime}
use Rattle.desk_lock.proofs.office.Office.enter.Goals as goal

pub returns-clause-met : goal.returns-clause-met
returns-clause-met g c = met_on (λ (entry : JournalEntry (Bor g.row.H.Denot)). entry) g.J.Naming-1.office c.args.card.now
    c.edit-entered.new.card c.edit-entered.result c.deref_mut.result.now c.edit-entered.new.self c.edit-entered.ensures.sometime
    c.edit-entered.ensures.met c.edit-entered.ensures.journal
    c.edit-entered.ensures.unchanged

pub returns-clause-ends : goal.returns-clause-ends
returns-clause-ends g c = met_ends (λ (entry : JournalEntry (Bor g.row.H.Denot)). entry) g.J.Naming-1.office c.edit-entered.new.card
    c.edit-entered.result c.deref_mut.result.now.book.journal c.edit-entered.new.self c.edit-entered.ensures.met
    c.edit-entered.ensures.number c.edit-entered.ensures.journal

pub returns-clause-after : goal.returns-clause-after
returns-clause-after g c =
    let office = g.J.Naming-1.office in
    let is = c.deref.ensures in
    entered_is_sometime office c.args.card.now c.edit-entered.new.card c.edit-entered.result c.deref_mut.result.now c.edit-entered.new.self
    c.edit-entered.ensures.met
    c.edit-entered.ensures.sometime c.edit-entered.ensures.clerk c.edit-entered.ensures.journal c.edit-entered.ensures.made
    (subst (λ (desk : DeskState (Bor g.row.H.Denot)). IsLawful desk.book.opening desk.book.journal) is c.use_invariant.ensures.lawful)
    (subst (λ (desk : DeskState (Bor g.row.H.Denot)). IsOfOrigin office.origin desk.book) is c.use_invariant.ensures.origin)
    (subst (λ (desk : DeskState (Bor g.row.H.Denot)). desk.book.journal ≡ office.origin.journal ++ desk.entries) is
    c.use_invariant.ensures.entries)
    (subst (λ (desk : DeskState (Bor g.row.H.Denot)). AreOfClerks office.clerks desk.entries) is c.use_invariant.ensures.of_clerks)

pub returns-clause-refusal : goal.returns-clause-refusal
returns-clause-refusal g c = refused_when_met g.J.Naming-1.office c.args.card.now c.edit-entered.new.card c.args.edit.now
    c.edit-entered.result c.deref_mut.result.now c.edit-entered.new.self c.edit-entered.ensures.sometime c.edit-entered.ensures.replays
    c.edit-entered.ensures.met
    c.edit-entered.ensures.unchanged c.edit-entered.ensures.refusal

pub returns-clause-refuses : goal.returns-clause-refuses
returns-clause-refuses g c = refuses_when_met g.J.Naming-1.office c.args.card.now c.edit-entered.new.card c.args.edit.now
    c.edit-entered.result c.deref_mut.result.now c.edit-entered.new.self c.edit-entered.ensures.replays c.edit-entered.ensures.met
    c.edit-entered.ensures.unchanged
    c.edit-entered.ensures.refuses

pub returns-clause-exact : goal.returns-clause-exact
returns-clause-exact g c = exact_when_met g.J.Naming-1.office c.args.card.now c.edit-entered.new.card c.args.edit.now
    c.edit-entered.result c.deref_mut.result.now c.edit-entered.new.self c.edit-entered.ensures.replays c.edit-entered.ensures.met
    c.edit-entered.ensures.unchanged
    c.edit-entered.ensures.exact
