use Rattle.std.proofs.Common.{rules, ◌≡◌, ◌∷◌, [], ◌∙◌, sym, refl, false, arith}
use Rattle.std.specs.Prelude.{All}
use Rattle.std.proofs.lemmas.Bool.{and_parts}
use Rattle.std.proofs.lemmas.List.{nil_from_length}
use Rattle.std.proofs.lemmas.List.Elements.{All-nil, All-cons, All-same, All-weaker}
use Rattle.entry_history.proofs.Beginnings.{begins_itself, begins_whole}
use Rattle.clerk_runs.specs.own.Windows.{IsLearnt}
use Rattle.clerk_runs.proofs.Windows.{still_learnt}
use Rattle.clerk_runs.proofs.Taken.{mapped_on, mapped_all, joined_on, joined_all}
use Rattle.clerk_runs.proofs.jobs.take_all_in.Goals as goal

pub loop-job-init : goal.loop-job-init
loop-job-init g c = record {
  cards = search rules;
  lines = search rules;
  none_refused = search rules;
  opening = refl;
  learnt = λ all later more are.
      All-same (λ job. All (IsLearnt later) job.receipts.items) c.args.jobs.items c.into_iter-job-iterator.result.rest.items
      (sym c.into_iter-job-iterator.ensures.into_iter_gives.0) are;
}

pub loop-job-preserved : goal.loop-job-preserved
loop-job-preserved g c =
    let here = c.loop-job.job-iterator.rest.items in
    let left = c.next.new.self.rest.items in
    let next : here ≡ c.in-Some.job ∷ left = c.in-Some.ensures.steps.0 in
    record {
      cards = rw c.in_ok-push.ensures.items
          (mapped_on (λ job. job.card) c.loop-job.cards.items _ here left c.in-Some.job next c.loop-job.invariant.cards);
      lines = rw (c.in_ok-extend_from_slice.ensures.items, c.as_slice.ensures.value)
          (joined_on (λ job. job.lines.items) c.loop-job.lines.items _ here left c.in-Some.job next c.loop-job.invariant.lines);
      none_refused = λ all. c.loop-job.invariant.none_refused
          (All-same (λ job. job.refused ≡ false) here (c.in-Some.job ∷ left) next
          (All-cons (λ job. job.refused ≡ false) c.in-Some.job left c.if-job.false all));
      opening = c.learn_all-published.ensures.opening ∙ c.loop-job.invariant.opening;
      learnt = λ all later more are.
          let both = and_parts _ _ all in
          let first : All (IsLearnt later) c.in-Some.job.receipts.items =
          All-weaker (IsLearnt c.learn_all-published.new.window.seen) (IsLearnt later)
          (still_learnt c.learn_all-published.new.window.seen later more) c.in-Some.job.receipts.items
          (All-same (IsLearnt c.learn_all-published.new.window.seen) c.in-Some.job.receipts.items c.as_slice-in-loop-job.result.now
          (sym c.as_slice-in-loop-job.ensures.value) (c.learn_all-published.ensures.learnt both.1)) in
          c.loop-job.invariant.learnt both.0 later (begins_whole _ _ _ c.learn_all-published.ensures.begins more)
          (All-same (λ job. All (IsLearnt later) job.receipts.items) here (c.in-Some.job ∷ left) next
          (All-cons (λ job. All (IsLearnt later) job.receipts.items) c.in-Some.job left first are));
    }

pub returns-clause-cards : goal.returns-clause-cards
returns-clause-cards g c =
    let none = nil_from_length c.loop-job.job-iterator.rest.items
    (omega (arith, c.in-None.ensures.steps.0, c.loop-job.job-iterator.rest.ok.0)) in
    mapped_all (λ job. job.card) c.loop-job.cards.items _ _ none c.loop-job.invariant.cards

pub returns-clause-lines : goal.returns-clause-lines
returns-clause-lines g c =
    let none = nil_from_length c.loop-job.job-iterator.rest.items
    (omega (arith, c.in-None.ensures.steps.0, c.loop-job.job-iterator.rest.ok.0)) in
    joined_all (λ job. job.lines.items) c.loop-job.lines.items _ _ none c.loop-job.invariant.lines

pub returns-clause-learnt : goal.returns-clause-learnt
returns-clause-learnt g c = λ all.
    let none = nil_from_length c.loop-job.job-iterator.rest.items
    (omega (arith, c.in-None.ensures.steps.0, c.loop-job.job-iterator.rest.ok.0)) in
    c.loop-job.invariant.learnt all c.loop-job.window.seen (begins_itself c.loop-job.window.seen)
    (All-same (λ job. All (IsLearnt c.loop-job.window.seen) job.receipts.items) c.loop-job.job-iterator.rest.items [] none
    (All-nil (λ job. All (IsLearnt c.loop-job.window.seen) job.receipts.items)))
