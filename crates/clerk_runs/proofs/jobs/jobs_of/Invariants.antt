use Rattle.std.proofs.Common.{◌≡◌, ◌++◌, map, length}
use Rattle.clerk_runs.proofs.jobs.jobs_of.Given as goal

abbrev pub invariant-loop-clerk : goal.invariant-loop-clerk
invariant-loop-clerk g l = record {
  cards : map (λ job. job.card) l.jobs.items ++ l.left.rest.items ≡ l.fn.cards.items;
  edits : map (λ job. job.edits.items) l.jobs.items ++ l.clerk-iterator.rest.items ≡ l.fn.clerks.items;
  as_many : length l.left.rest.items ≡ length l.clerk-iterator.rest.items;
}
