use Rattle.session_lines.specs.declared.line.Line.TheVariants.{Locate, Edit}
use Rattle.session_lines.proofs.OneRequest.{one_request}
use Rattle.session_lines.proofs.line.read_line.Goals as goal

pub returns-in-Some-clause-reads : goal.returns-in-Some-clause-reads
returns-in-Some-clause-reads g c = λ asked h.
    one_request c.args.line.now asked (Locate c.in-Some.corner) h c.in-Some.ensures.found

pub returns-in-Ok-Some-clause-reads : goal.returns-in-Ok-Some-clause-reads
returns-in-Ok-Some-clause-reads g c = λ asked h.
    one_request c.args.line.now asked (Edit c.in-Ok-Some.edit) h (rw c.in-Ok-Some.field-0-is at c.in-Ok-Some.ensures.edit)
