use Rattle.std.proofs.Common.{◌≡◌, ◌-◌, ℕ, ◌<◌, ◌≤◌, length, slice_index_or, false}
use Rattle.edge_chains.specs.declared.lines.Ranked.{Ranked}
use Rattle.edge_chains.specs.own.Lines.{is_ranked_before}
use Rattle.edge_chains.proofs.lines.first_behind.Given as goal

abbrev pub invariant-loop-from : goal.invariant-loop-from
invariant-loop-from l = record {
  in_range : l.to ≤ length l.ranked;
  begun : l.from ≤ l.to;
  so_far : (k : ℕ) (d : Ranked) → k < l.from → is_ranked_before l.low (slice_index_or l.ranked k d) ≡ false;
}

abbrev pub decreases-loop-from : goal.decreases-loop-from
decreases-loop-from l = l.to - l.from
