use Rattle.std.proofs.Common.{◌≡◌, ◌++◌, refl, ap, sym, subst, ◌∙◌, Bor}
use Rattle.std.proofs.lemmas.List.Elements.{All-same}
use Rattle.entry_cards.specs.Cards.{IsClerk}
use Rattle.fabric_core.specs.Journal.{JournalEntry, Book}
use Rattle.fabric_core.specs.Tiling.{IsTiling}
use Rattle.desk_lock.specs.Offices.{IsOfOrigin, behind}
use Rattle.desk_lock.proofs.Behind.{journal_is, behind_it, lawful_at, leads_to}
use Rattle.desk_lock.proofs.window.fabric_of.Given as given
use Rattle.desk_lock.proofs.window.fabric_of.Goals as goal

-- the copy's fabric comes of the one that was handed in
of_origin : (g : given.Over) (c : goal.After-use_invariant g) → IsOfOrigin g.J.Naming-1.office.origin c.fabric-fabric.result.now
of_origin g c = subst (IsOfOrigin g.J.Naming-1.office.origin) (sym c.fabric-fabric.ensures.same) c.fabric-fabric.ensures.origin

-- its journal is that of the fabric which was handed in, and what the version has followed
journal : (g : given.Over) (c : goal.After-use_invariant g)
    → c.fabric-fabric.result.now.journal ≡ g.J.Naming-1.office.origin.journal ++ c.args.version.now
journal g c = journal_is g.J.Naming-1.office.origin c.fabric-fabric.result.now (of_origin g c)
    ∙ ap (λ l. g.J.Naming-1.office.origin.journal ++ l)
    (ap (λ (book : Book (Bor g.row.H.Denot)). behind g.J.Naming-1.office.origin book.journal) c.fabric-fabric.ensures.same
    ∙ c.value.ensures)

pub returns-clause-journal : goal.returns-clause-journal
returns-clause-journal g c = journal g c

pub returns-clause-lawful : goal.returns-clause-lawful
returns-clause-lawful g c = lawful_at g.J.Naming-1.office.origin c.fabric-fabric.result.now (of_origin g c)
    (g.J.Naming-1.office.origin.journal ++ c.args.version.now) (sym (journal g c)) c.use_invariant.ensures.lawful

pub returns-clause-of_clerks : goal.returns-clause-of_clerks
returns-clause-of_clerks g c =
    let origin = g.J.Naming-1.office.origin in
    let P = λ (entry : JournalEntry (Bor g.row.H.Denot)). IsClerk g.J.Naming-1.office.clerks entry.clerk in
    All-same P (behind origin (origin.journal ++ c.args.version.now)) c.args.version.now
    (behind_it origin (origin.journal ++ c.args.version.now) c.args.version.now refl)
    (All-same P c.args.version.now (behind origin c.value.result.now.journal) (sym c.value.ensures) c.fabric-fabric.ensures.of_clerks)

pub returns-clause-now : goal.returns-clause-now
returns-clause-now g c = leads_to g.J.Naming-1.office.origin c.fabric-fabric.result.now (of_origin g c)
    (g.J.Naming-1.office.origin.journal ++ c.args.version.now) (sym (journal g c)) c.use_invariant.ensures.replays

pub returns-clause-tiling : goal.returns-clause-tiling
returns-clause-tiling g c = subst (IsTiling c.fabric-fabric.result.now.now.rows) ((of_origin g c).city) c.use_invariant.ensures.tiling
