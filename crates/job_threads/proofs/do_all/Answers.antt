use Rattle.std.proofs.Common.{sym, subst}
use Rattle.job_threads.specs.Jobs.{IsLeastRefused}
use Rattle.job_threads.proofs.Behind.{tried_then_finished}
use Rattle.job_threads.proofs.do_all.Goals as goal

pub returns-clause-done : goal.returns-clause-done
returns-clause-done g c = tried_then_finished g.J.Job.stays c.args.jobs.items c.in_scope-tried.result.0.items
    c.finish-jobs.result.0.items c.in_scope-tried.ensures.tried c.finish-jobs.ensures.done

pub returns-clause-refused : goal.returns-clause-refused
returns-clause-refused g c =
    subst (λ l. IsLeastRefused g.J.Job.rank_of c.args.jobs.items l c.in_scope-tried.result.1) (sym c.finish-jobs.ensures.threads)
    c.in_scope-tried.ensures.refused
