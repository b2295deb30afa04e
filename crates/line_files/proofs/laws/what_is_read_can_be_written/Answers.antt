use Rattle.line_files.proofs.Journals.{read_writable}
use Rattle.line_files.proofs.laws.what_is_read_can_be_written.Goals as goal

pub returns : goal.returns
returns g c = read_writable
