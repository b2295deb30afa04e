use Rattle.std.proofs.Common.{rules}
use Rattle.shp_files.specs.Checks.{first_failure, header_checks, declared_end}
use Rattle.shp_files.proofs.lines.Lines.{on, at}
use Rattle.shp_files.proofs.header.read_header.Goals as goal

pub returns-in_err-refuse_if-6-clause-checked : goal.returns-in_err-refuse_if-6-clause-checked
unfolding header_checks declared_end first_failure
returns-in_err-refuse_if-6-clause-checked c = search (rules, on, at)
