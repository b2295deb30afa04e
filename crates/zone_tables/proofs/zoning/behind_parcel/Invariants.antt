use Rattle.std.proofs.Common.{◌≡◌, ◌≤◌, length}
use Rattle.zone_tables.specs.own.Zonings.{behind}
use Rattle.zone_tables.proofs.zoning.behind_parcel.Given as goal

abbrev pub invariant-loop-first : goal.invariant-loop-first
invariant-loop-first l = record { same : behind l.id l.rest ≡ behind l.id l.pairs; fewer : length l.rest ≤ length l.pairs }

abbrev pub decreases-loop-first : goal.decreases-loop-first
decreases-loop-first l = length l.rest
