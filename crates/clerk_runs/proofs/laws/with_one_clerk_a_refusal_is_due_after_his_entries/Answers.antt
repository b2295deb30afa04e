use Rattle.clerk_runs.proofs.FewClerks.{due_after_his}
use Rattle.clerk_runs.proofs.laws.with_one_clerk_a_refusal_is_due_after_his_entries.Goals as goal

pub returns : goal.returns
returns g c = λ run journal made edit refusal one due. due_after_his run journal made edit refusal one due
