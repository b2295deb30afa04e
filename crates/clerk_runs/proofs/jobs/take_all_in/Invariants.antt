use Rattle.std.proofs.Common.{◌≡◌, ◌++◌, false, true, List, map, Bor}
use Rattle.std.specs.Prelude.{All}
use Rattle.std.specs.List.{flat_map}
use mathlib.Core.List.{IsPrefix}
use Rattle.fabric_core.specs.Journal.{JournalEntry}
use Rattle.clerk_runs.specs.own.Windows.{IsLearnt}
use Rattle.clerk_runs.proofs.jobs.take_all_in.Given as goal

abbrev pub invariant-loop-job : goal.invariant-loop-job
invariant-loop-job g l = record {
  cards : l.cards.items ++ map (λ job. job.card) l.job-iterator.rest.items ≡ map (λ job. job.card) l.fn.jobs.items;
  lines : l.lines.items ++ flat_map (λ job. job.lines.items) l.job-iterator.rest.items
      ≡ flat_map (λ job. job.lines.items) l.fn.jobs.items;
  none_refused : All (λ job. job.refused ≡ false) l.job-iterator.rest.items → All (λ job. job.refused ≡ false) l.fn.jobs.items;
  opening : l.window.opening ≡ l.fn.window.opening;
  learnt : l.published ≡ true → (later : List (JournalEntry (Bor g.row.H.Denot))) → IsPrefix l.window.seen later
      → All (λ job. All (IsLearnt later) job.receipts.items) l.job-iterator.rest.items
      → All (λ job. All (IsLearnt later) job.receipts.items) l.fn.jobs.items;
}
