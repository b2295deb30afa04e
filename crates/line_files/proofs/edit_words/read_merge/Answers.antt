use Rattle.line_files.proofs.ClerkWords.{no_merge_first, no_merge_second}
use Rattle.line_files.proofs.edit_words.read_merge.Goals as goal

pub returns-in_err-a : goal.returns-in_err-a
returns-in_err-a g c = rw c.from_residual.ensures (λ grid. no_merge_first grid c.args.words c.in_err-a.ensures.none)

pub returns-in_err-b : goal.returns-in_err-b
returns-in_err-b g c = rw c.from_residual-in_err-b.ensures
    (λ grid. no_merge_second grid c.args.words _ _ c.in_ok-a.ensures.found c.in_err-b.ensures.none)
