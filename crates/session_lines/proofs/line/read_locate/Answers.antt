use Rattle.line_files.proofs.PassedOn.{if_none}
use Rattle.session_lines.proofs.Asked.{no_corner_to_locate}
use Rattle.session_lines.proofs.line.read_locate.Goals as goal

pub returns-then-is_empty-clause-none : goal.returns-then-is_empty-clause-none
returns-then-is_empty-clause-none c = if_none c.read_corner.result _ _
    (no_corner_to_locate _ _ _ _ _ _ _ _ c.new-words.ensures c.in_ok-name.ensures c.in_ok-x.ensures c.in_ok-y.ensures)
    c.read_corner.ensures.none
