use Rattle.line_files.proofs.ClerkWords.{no_insert_from, no_insert_to, no_insert_at}
use Rattle.line_files.proofs.edit_words.read_insert.Goals as goal

pub returns-in_err-from : goal.returns-in_err-from
returns-in_err-from g c = rw c.from_residual.ensures (no_insert_from c.args.grid c.args.words c.in_err-from.ensures.none)

pub returns-in_err-to : goal.returns-in_err-to
returns-in_err-to g c = rw c.from_residual-in_err-to.ensures
    (no_insert_to c.args.grid c.args.words _ _ c.in_ok-from.ensures.found c.in_err-to.ensures.none)

pub returns-in_err-at : goal.returns-in_err-at
returns-in_err-at g c = rw c.from_residual-in_err-at.ensures
    (no_insert_at c.args.grid c.args.words _ _ _ _ c.in_ok-from.ensures.found c.in_ok-to.ensures.found c.in_err-at.ensures.none)
