use Rattle.line_files.proofs.ClerkWords.{no_move_first, no_move_second, move_said}
use Rattle.line_files.proofs.PassedOn.{of_err}
use Rattle.line_files.proofs.edit_words.read_move.Goals as goal

pub returns-in_default-clause-edit : goal.returns-in_default-clause-edit
returns-in_default-clause-edit g c = no_move_first c.args.grid c.args.words c.in_default.ensures.none

pub returns-in_default-take_number-clause-edit : goal.returns-in_default-take_number-clause-edit
returns-in_default-take_number-clause-edit g c =
    no_move_second c.args.grid c.args.words _ _ c.in-Some.ensures.found c.in_default-take_number.ensures.none

pub returns-in_err-path-clause-memory : goal.returns-in_err-path-clause-memory
returns-in_err-path-clause-memory g c = of_err c.from_residual.result _
    (move_said c.args.grid c.args.words _ _ _ _ c.in-Some.ensures.found c.in-Some-take_number.ensures.found c.in_err-path.ensures.memory)
