use Rattle.std.proofs.Common.{◌≡◌, ◌++◌, ◌≤◌, ◌+◌, List, length}
use Rattle.std.specs.Prelude.{vec_len, vec_capacity}
use Rattle.std.specs.List.{AllZip}
use Rattle.job_threads.specs.own.Attempts.{Attempt, IsFinished, threads_of}
use Rattle.job_threads.proofs.own_thread.finish.Given as goal

-- the jobs that are handed back, and those that are left
abbrev pub invariant-loop-attempt : goal.invariant-loop-attempt
invariant-loop-attempt g l = record {
  seen : List (Attempt g.row.J.Denot);
  whole : l.fn.tried.items ≡ seen ++ l.attempt-iterator.rest.items;
  finished : AllZip (λ attempt job. IsFinished g.J.Job.stays attempt.job job) seen l.back.items;
  threads : l.had.items ≡ threads_of seen;
  room : vec_len l.back + length l.attempt-iterator.rest.items ≤ vec_capacity l.back;
  room_for_threads : vec_len l.had + length l.attempt-iterator.rest.items ≤ vec_capacity l.had;
}
