use Rattle.std.proofs.Common.{◌≡◌, [], drop}
use Rattle.clerk_runs.specs.own.Working.{run_at}
use Rattle.clerk_runs.proofs.Submitted.{HaveSaid}
use Rattle.clerk_runs.proofs.job.submit_all.Given as goal

abbrev pub invariant-loop-told : goal.invariant-loop-told
invariant-loop-told g l = record {
  clerk : l.card.clerk ≡ l.fn.card.clerk;
  said : l.fn.card.made ≡ []
      → HaveSaid (run_at g.J.Naming-1.office) l.card.met l.fn.card.clerk l.edits (drop l.told-index l.edits) l.card.made
      l.lines.items l.receipts.items;
}
