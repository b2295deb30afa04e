use Rattle.std.proofs.Common.{rules, ◌∷◌, ◌++◌, [], ◌∙◌, ap, subst, sym}
use Rattle.std.proofs.Common.{append_assoc}
use Rattle.std.specs.List.{AllZip}
use Rattle.std.proofs.lemmas.Slice.Zip.{all_zipped_more}
use Rattle.job_threads.specs.own.Attempts.{IsFinished, threads_of}
use Rattle.job_threads.proofs.Behind.{threads_of_more}
use Rattle.job_threads.proofs.own_thread.finish.Goals as goal

pub loop-attempt-init : goal.loop-attempt-init
loop-attempt-init g c = record {
  seen = [];
  whole = search rules;
  finished = search rules;
  threads = search rules;
  room = search rules;
  room_for_threads = search rules;
}

pub loop-attempt-preserved : goal.loop-attempt-preserved
loop-attempt-preserved g c =
    let so_far = c.loop-attempt.invariant in
    let left = c.next.new.self.rest.items in
    let attempt = c.in-Some.attempt in
    record {
      seen = so_far.seen ++ attempt ∷ [];
      whole = so_far.whole ∙ ap (λ l. so_far.seen ++ l) c.in-Some.ensures.steps.0
          ∙ sym (append_assoc so_far.seen (attempt ∷ []) left);
      finished = subst (λ l. AllZip (λ attempt job. IsFinished g.J.Job.stays attempt.job job) (so_far.seen ++ attempt ∷ []) l)
          (sym c.push_reserved.ensures.items)
          (all_zipped_more (λ attempt job. IsFinished g.J.Job.stays attempt.job job) so_far.seen c.loop-attempt.back.items attempt
          c.finished.result so_far.finished
          (subst (λ a. IsFinished g.J.Job.stays a.job c.finished.result) c.attempt.view_is c.finished.ensures));
      threads = c.push_reserved-in-loop-attempt.ensures.items ∙ ap (λ l. l ++ c.attempt.inside.had_thread ∷ []) so_far.threads
          ∙ ap (λ a. threads_of so_far.seen ++ a.had_thread ∷ []) c.attempt.view_is
          ∙ sym (threads_of_more so_far.seen attempt);
      room = search rules;
      room_for_threads = search rules;
    }
