use Rattle.std.proofs.Common.{inr, sym, subst, IfSome}
use Rattle.journal_records.specs.Journals.{ended}
use Rattle.journal_writers.specs.Writers.{IsKept}
use Rattle.journal_writers.proofs.Kept.{went_on}
use Rattle.journal_writers.proofs.writer.JournalWriter.go_on.Goals as goal

pub invariant_of-result : goal.invariant_of-result
invariant_of-result g c =
    let B = g.row.B.Denot in
    let layer = c.args.layer.now.digits in
    let text = ended c.args.lacks_end c.args.text.now in
    inr (subst (λ b. IfSome b (λ b. IsKept B layer b c.args.records c.args.seal.digits)) (sym c.in_ok-append_ended.ensures.bytes)
    (went_on B layer text (g.K.JournalFile.bytes c.args.file) c.args.records c.args.seal.digits c.requires.empty c.requires.kept))
