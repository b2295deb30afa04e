use Rattle.line_files.proofs.ClerkWords.{no_split_number, split_said}
use Rattle.line_files.proofs.PassedOn.{of_err}
use Rattle.line_files.proofs.edit_words.read_split.Goals as goal

pub returns-in_default-clause-edit : goal.returns-in_default-clause-edit
returns-in_default-clause-edit g c = no_split_number c.args.grid c.args.words c.in_default.ensures.none

pub returns-in_err-path-clause-memory : goal.returns-in_err-path-clause-memory
returns-in_err-path-clause-memory g c = of_err c.from_residual.result _
    (split_said c.args.grid c.args.words _ _ c.in-Some.ensures.found c.in_err-path.ensures.memory)
