use Rattle.line_files.proofs.text_numbers.read_corner_on.Goals as goal

pub returns-in_err-y-clause-none : goal.returns-in_err-y-clause-none
returns-in_err-y-clause-none c =
    rw c.from_residual-in_err-y.ensures (λ corner h. c.in_err-y.ensures.none corner.y corner.y_in_range h.is_y)
