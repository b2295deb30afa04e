use Rattle.std.proofs.Common.{Bor}
use Rattle.desk_lock.specs.Offices.{ReceiptState}
use Rattle.desk_lock.proofs.Told.{receipt_ends, receipt_is_sometime, refused_when_met, met_on, met_ends, met_is_sometime}
use Rattle.desk_lock.proofs.Told.{refuses_when_met, exact_when_met}
use Rattle.desk_lock.proofs.office.Office.submit.Goals as goal

pub returns-clause-told : goal.returns-clause-told
returns-clause-told g c = receipt_ends c.submit.result c.deref_mut.result.now.book.journal c.submit.new.self c.submit.ensures.number
    c.submit.ensures.journal c.submit.ensures.published c.submit.ensures.told

pub returns-clause-sometime : goal.returns-clause-sometime
returns-clause-sometime g c = receipt_is_sometime g.J.Naming-1.office c.submit.new.card c.submit.result c.submit.new.self
    c.submit.ensures.after c.submit.ensures.published c.submit.ensures.told

pub returns-clause-met : goal.returns-clause-met
returns-clause-met g c = met_on (λ (receipt : ReceiptState (Bor g.row.H.Denot)). receipt.entry) g.J.Naming-1.office c.args.card.now
    c.submit.new.card c.submit.result c.deref_mut.result.now c.submit.new.self c.submit.ensures.sometime c.submit.ensures.met
    c.submit.ensures.journal c.submit.ensures.unchanged

pub returns-clause-ends : goal.returns-clause-ends
returns-clause-ends g c = met_ends (λ (receipt : ReceiptState (Bor g.row.H.Denot)). receipt.entry) g.J.Naming-1.office c.submit.new.card
    c.submit.result c.deref_mut.result.now.book.journal c.submit.new.self c.submit.ensures.met c.submit.ensures.number
    c.submit.ensures.journal

pub returns-clause-after : goal.returns-clause-after
returns-clause-after g c = met_is_sometime (λ (receipt : ReceiptState (Bor g.row.H.Denot)). receipt.entry) g.J.Naming-1.office
    c.submit.new.card c.submit.result c.submit.new.self c.submit.ensures.met c.submit.ensures.after

pub returns-clause-refusal : goal.returns-clause-refusal
returns-clause-refusal g c = refused_when_met g.J.Naming-1.office c.args.card.now c.submit.new.card c.args.edit.now c.submit.result
    c.deref_mut.result.now c.submit.new.self c.submit.ensures.sometime c.submit.ensures.replays c.submit.ensures.met
    c.submit.ensures.unchanged c.submit.ensures.refusal

pub returns-clause-refuses : goal.returns-clause-refuses
returns-clause-refuses g c = refuses_when_met g.J.Naming-1.office c.args.card.now c.submit.new.card c.args.edit.now c.submit.result
    c.deref_mut.result.now c.submit.new.self c.submit.ensures.replays c.submit.ensures.met c.submit.ensures.unchanged
    c.submit.ensures.refuses

pub returns-clause-exact : goal.returns-clause-exact
returns-clause-exact g c = exact_when_met g.J.Naming-1.office c.args.card.now c.submit.new.card c.args.edit.now c.submit.result
    c.deref_mut.result.now c.submit.new.self c.submit.ensures.replays c.submit.ensures.met c.submit.ensures.unchanged
    c.submit.ensures.exact
