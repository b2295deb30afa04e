use Rattle.line_files.proofs.Journals.{lines_are_clerk_file, lines_say_nothing_else, lines_grow}
use Rattle.line_files.proofs.laws.a_journal_reads_back.Goals as goal

pub returns-clause-reads : goal.returns-clause-reads
returns-clause-reads g c = lines_are_clerk_file

pub returns-clause-nothing_else : goal.returns-clause-nothing_else
returns-clause-nothing_else g c = lines_say_nothing_else

pub returns-clause-grows : goal.returns-clause-grows
returns-clause-grows g c = lines_grow
