use Rattle.std.proofs.Common.{◌≡◌, ℕ, ◌+◌, ◌<◌, length, get_or, None}
use Rattle.scaled_rings.specs.Tenfold.{IsLeastBeyondOf}
use Rattle.fabric_core.specs.Tenfold.{corners_of_state}
use Rattle.fabric_core.specs.declared.farthest.TheConstants.{LIMITS}
use Rattle.fabric_core.specs.own.Changes.{state_of}
use Rattle.fabric_core.specs.own.Farthest.{limit_of}
use Rattle.fabric_core.proofs.farthest.Farthest.of_tiled.Given as goal

abbrev pub invariant-loop-level : goal.invariant-loop-level
invariant-loop-level g l = record {
  most : l.most ≡ limit_of l.level;
  found : IsLeastBeyondOf (limit_of l.level) (corners_of_state (state_of l.tiled)) l.found;
  all : length l.least ≡ LIMITS;
  each : (k : ℕ) → k < l.level + 1 → IsLeastBeyondOf (limit_of k) (corners_of_state (state_of l.tiled)) (get_or l.least k None);
}
