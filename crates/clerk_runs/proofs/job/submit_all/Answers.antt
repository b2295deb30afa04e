use Rattle.std.proofs.Common.{◌≡◌, ◌∷◌, ◌+◌, ◌∙◌, suc, refl, sym, ap, drop, add-one}
use Rattle.std.proofs.Math.Seq.{drop-cons}
use Rattle.std.proofs.lemmas.List.{drop_all}
use Rattle.clerk_runs.specs.own.Working.{run_at}
use Rattle.clerk_runs.proofs.Submitted.{none_said, still_his, one_more, all_said}
use Rattle.clerk_runs.proofs.job.submit_all.Goals as goal

pub loop-told-init : goal.loop-told-init
loop-told-init g c = record {
  clerk = refl;
  said = λ none. none_said _ _ _ _ _ _ _ none c.requires.no_lines c.requires.no_receipts;
}

pub loop-told-preserved : goal.loop-told-preserved
loop-told-preserved g c =
    let edits = c.args.edits.now in
    let i = c.loop-told.told-index in
    let run = run_at g.J.Naming-1.office in
    let left : drop i edits ≡ c.told-item.result ∷ drop (i + 1) edits =
    rw (add-one, drop-cons edits i c.told-item.result c.loop-told-test.true) (ap (λ told. told ∷ drop (suc i) edits)
    (sym c.told-item.is)) in
    let clerk = c.loop-told.invariant.clerk in
    record {
      clerk = c.in_ok-submit_edit.ensures.clerk ∙ clerk;
      said = λ none. still_his run _ _ _ edits (drop (i + 1) edits) _ _ _ clerk
          (one_more run c.loop-told.card _ edits (drop (i + 1) edits) c.told-item.result _ _ _ _
          (rw (left, sym clerk) at (c.loop-told.invariant.said none)) c.in_ok-submit_edit.ensures.said);
    }

pub returns-clause-said : goal.returns-clause-said
returns-clause-said g c = λ none.
    all_said _ _ _ _ _ _ _ (rw (drop_all c.loop-told.told-index c.args.edits.now c.loop-told-test.false)
    at (c.loop-told.invariant.said none))
