use Rattle.std.proofs.Common.{Bor, []}
use Rattle.std.proofs.lemmas.List.Elements.{All-same, All-nil}
use Rattle.entry_cards.specs.Cards.{IsClerk}
use Rattle.fabric_core.specs.Journal.{JournalEntry}
use Rattle.desk_lock.specs.Offices.{behind}
use Rattle.desk_lock.proofs.Behind.{of_itself, nothing_behind}
use Rattle.desk_lock.proofs.copied.Copied.new.Goals as goal

pub invariant_of-result : goal.invariant_of-result
invariant_of-result g c =
    let origin = g.J.Naming-1.office.origin in
    let P = λ (entry : JournalEntry (Bor g.row.H.Denot)). IsClerk g.J.Naming-1.office.clerks entry.clerk in (
      of_itself origin c.args.fabric c.requires.origin,
      c.requires.clerks,
      All-same P (behind origin c.args.fabric.journal) [] (nothing_behind origin c.args.fabric c.requires.origin) (All-nil P),
    )
