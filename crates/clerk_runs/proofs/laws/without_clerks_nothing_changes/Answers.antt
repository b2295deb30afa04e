use Rattle.clerk_runs.proofs.FewClerks.{edited_by_none}
use Rattle.clerk_runs.proofs.laws.without_clerks_nothing_changes.Goals as goal

pub returns : goal.returns
returns g c = λ tiles after lines h. edited_by_none tiles after lines h
