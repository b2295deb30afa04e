use Rattle.line_files.proofs.Splits.{first_of_more, last_line}
use Rattle.line_files.proofs.text_lines.split_line.Goals as goal

pub returns-in-Some-clause-lines : goal.returns-in-Some-clause-lines
returns-in-Some-clause-lines c =
    rw c.without_return.ensures (first_of_more c.args.text.now c.in-Some.line.now c.in-Some.behind.now c.in-Some.ensures)

pub returns-in-None-clause-lines : goal.returns-in-None-clause-lines
returns-in-None-clause-lines c = last_line c.args.text.now c.requires c.in-None.ensures
