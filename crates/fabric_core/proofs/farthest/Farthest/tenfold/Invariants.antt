use Rattle.std.proofs.Common.{◌≡◌, ℕ, ◌+◌, ◌<◌, length, get_or, None}
use Rattle.fabric_core.specs.declared.farthest.TheConstants.{LIMITS}
use Rattle.fabric_core.specs.own.Farthest.{IsTenTimesOf}
use Rattle.fabric_core.proofs.farthest.Farthest.tenfold.Given as goal

abbrev pub invariant-loop-level : goal.invariant-loop-level
invariant-loop-level l = record {
  all : length l.least ≡ LIMITS;
  first : IsTenTimesOf (get_or l.self.least 0 None) (get_or l.least 0 None);
  each : (k : ℕ) → k < l.level → IsTenTimesOf (get_or l.self.least k None) (get_or l.least (k + 1) None);
}
