use Rattle.std.proofs.Common.{Bor, ◌≡◌, ◌++◌, max, length, sym, subst, ◌∙◌}
use mathlib.Core.List.{IsPrefix}
use Rattle.fabric_core.specs.EditResults.{IsLawful}
use Rattle.desk_lock.specs.Offices.{DeskState, IsOfOrigin, AreOfClerks}
use Rattle.desk_lock.proofs.Told.{told_lawful, told_of_clerks}
use Rattle.desk_lock.proofs.office.Office.publish_to.Goals as goal

pub returns-clause-lawful : goal.returns-clause-lawful
returns-clause-lawful g c =
    let is = c.deref.ensures ∙ sym c.deref_mut.ensures.value in
    told_lawful g.J.Naming-1.office c.publish_to.result (max c.args.number (length c.deref_mut.result.now.published))
    c.deref_mut.result.now c.publish_to.ensures.first
    (subst (λ (desk : DeskState (Bor g.row.H.Denot)). IsLawful desk.book.opening desk.book.journal) is c.use_invariant.ensures.lawful)
    (subst (λ (desk : DeskState (Bor g.row.H.Denot)). IsOfOrigin g.J.Naming-1.office.origin desk.book) is c.use_invariant.ensures.origin)

pub returns-clause-of_clerks : goal.returns-clause-of_clerks
returns-clause-of_clerks g c =
    let office = g.J.Naming-1.office in
    let is = c.deref.ensures ∙ sym c.deref_mut.ensures.value in
    told_of_clerks office c.publish_to.result c.args.number c.deref_mut.result.now c.publish_to.ensures.first
    (subst (λ (desk : DeskState (Bor g.row.H.Denot)). IsOfOrigin office.origin desk.book) is c.use_invariant.ensures.origin)
    (subst (λ (desk : DeskState (Bor g.row.H.Denot)). IsPrefix office.origin.journal desk.published) is c.use_invariant.ensures.shows)
    (subst (λ (desk : DeskState (Bor g.row.H.Denot)). desk.book.journal ≡ office.origin.journal ++ desk.entries) is
    c.use_invariant.ensures.entries)
    (subst (λ (desk : DeskState (Bor g.row.H.Denot)). AreOfClerks office.clerks desk.entries) is c.use_invariant.ensures.of_clerks)
