use Rattle.std.proofs.Common.{◌≡◌, replicate}
use Rattle.desk_lock.specs.Offices.{window_of}
use Rattle.desk_lock.proofs.opening.windows_of.Given as goal

abbrev pub invariant-loop-place : goal.invariant-loop-place
invariant-loop-place g l = record {
  windows : l.made.items ≡ replicate l.place (window_of g.J.Naming-1.office.origin);
}
