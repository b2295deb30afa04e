use Rattle.line_files.proofs.Journals.{entries_back}
use Rattle.line_files.proofs.laws.the_edits_of_entries_read_back.Goals as goal

pub returns : goal.returns
returns g c = entries_back
