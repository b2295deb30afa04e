use Rattle.std.proofs.Common.{◌∙◌, ◌++◌, refl, ap}
use Rattle.journal_records.specs.Journals.{record_text}
use Rattle.journal_writers.proofs.writer.JournalWriter.draft.Goals as goal

pub invariant_of-result : goal.invariant_of-result
invariant_of-result g c =
    let own = record_text c.self.inside.seal.digits c.args.stamp.now c.args.edit.now in (
      record { stamp = c.args.stamp.now; edit = c.args.edit.now },
      record {
        number = refl;
        text = c.in_ok-seal.ensures.text ∙ ap (λ t. t ++ own) c.new-text.ensures.items;
        seal = c.in_ok-seal.ensures.seal;
      },
    )
