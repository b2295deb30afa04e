use Rattle.std.proofs.Common.{rules, ◌∙◌, ap, subst, Some}
use Rattle.job_threads.specs.own.Attempts.{WasTried}
use Rattle.job_threads.proofs.Behind.{none_behind, one_more_behind, least_as_before, lesser_rank}
use Rattle.job_threads.proofs.+spread.Goals as goal

pub returns-in_default-clause-tried : goal.returns-in_default-clause-tried
returns-in_default-clause-tried g t c =
    none_behind g.J.Job.stays g.J.Job.rank_of c.args.jobs.items c.args.tried.items (search rules)

pub returns-in-Ok-clause-tried : goal.returns-in-Ok-clause-tried
returns-in-Ok-clause-tried g t c =
    let was = ap (λ p. p.was.value) c.in-Ok.ensures.ok ∙ c.of.ensures in
    let behind = c.spread-tried.ensures.tried in
    one_more_behind g.J.Job.stays g.J.Job.rank_of c.args.jobs.items c.pop.new.self.items c.args.tried.items
    c.spread-tried.result.0.items c.push_reserved.new.self.items c.in-Some.job c.joined.result
    c.spread-tried.result.1 c.spread-tried.result.1
    c.in-Some.ensures.items behind c.push_reserved.ensures.items
    (subst (λ job. WasTried g.J.Job.stays job c.joined.result.job) was c.joined.ensures.kept)
    (least_as_before g.J.Job.stays g.J.Job.rank_of c.pop.new.self.items behind.tried c.in-Some.job c.joined.result.had_thread
    c.spread-tried.result.1 behind.each c.joined.ensures.had_thread behind.least)

pub returns-in-Err-clause-tried : goal.returns-in-Err-clause-tried
returns-in-Err-clause-tried g t c =
    let a = c.in-Err.ensures.err in
    let behind = c.spread-tried-in-Err.ensures.tried in
    let rank = c.least.result in
    one_more_behind g.J.Job.stays g.J.Job.rank_of c.args.jobs.items c.pop.new.self.items c.args.tried.items
    c.spread-tried-in-Err.result.0.items c.push_reserved-in-Err.new.self.items c.in-Some.job c.called_back.result
    c.spread-tried-in-Err.result.1 (Some rank)
    c.in-Some.ensures.items behind c.push_reserved-in-Err.ensures.items
    (subst (λ job. WasTried g.J.Job.stays job c.called_back.result.job) (ap (λ f. f.0) a) c.called_back.ensures.handed)
    (lesser_rank g.J.Job.stays g.J.Job.rank_of c.pop.new.self.items behind.tried c.in-Some.job
    c.called_back.result.had_thread c.spread-tried-in-Err.result.1 c.rank-rank.result rank behind.each
    c.called_back.ensures.had_none c.rank-rank.ensures c.least.ensures.one c.least.ensures.bound c.least.ensures.other
    behind.least)
