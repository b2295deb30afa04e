use Rattle.std.proofs.Common.{◌∙◌}
use Rattle.desk_lock.proofs.Totals.{sheet_of}
use Rattle.desk_lock.proofs.office.Office.sheet.Goals as goal

pub returns-clause-sheet : goal.returns-clause-sheet
returns-clause-sheet g c =
    sheet_of c.sheet.result g.J.Naming-1.office c.args.cards.now c.deref_mut.result.now c.deref.result.now c.deref-2.result.now
    (c.deref.ensures ∙ c.compare.ensures.same.0) (c.deref-2.ensures ∙ c.compare.ensures.same.0) c.sheet.ensures
    c.use_invariant.ensures.origin c.use_invariant.ensures.entries c.use_invariant.ensures.of_clerks c.compare.ensures.agree
    c.compare.ensures.met
