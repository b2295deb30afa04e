use Rattle.std.proofs.Common.{inr, refl, ap, ◌∙◌, ◌++◌}
use Rattle.std.proofs.lemmas.Result.{on_ok_weaker}
use Rattle.desk_lock.specs.Offices.{CardState}
use Rattle.clerk_runs.specs.ClerkLines.{refused_line}
use Rattle.clerk_runs.proofs.Submitted.{refused_is_due}
use Rattle.clerk_runs.proofs.job.submit_edit.Goals as goal

pub returns-in-Err-clause-said : goal.returns-in-Err-clause-said
returns-in-Err-clause-said g c =
    let card = c.args.card.now in let told = c.args.told.now in
    let refusal = c.in-Err.refusal in
    on_ok_weaker c.push_refused_line.result
    (λ line. inr (record {
      refusal = refusal;
      is_due = refused_is_due g.J.Naming-1.office card _ told.1 refusal c.args.counter.now.opened
          c.in-Err.ensures.unchanged c.in-Err.ensures.refusal c.in-Err.ensures.exact;
      made = ap (λ (after : CardState _). after.made) c.in-Err.ensures.unchanged;
      met = c.in-Err.ensures.met;
      line = line ∙ ap (λ clerk. c.args.lines.now.items ++ refused_line clerk told.0 refusal) c.clerk-clerk.ensures;
      kept = refl;
    }))
    c.push_refused_line.ensures
