use Rattle.std.proofs.Common.{sym, subst, ◌++◌}
use Rattle.scaled_rings.specs.Tenfold.{IsLeastBeyondOf}
use Rattle.fabric_core.specs.Tenfold.{corners_of_state}
use Rattle.fabric_core.specs.own.Changes.{state_of}
use Rattle.fabric_core.proofs.tiled.Tiled.least_far.Goals as goal

pub returns : goal.returns
returns g c = λ before h.
    subst (λ most. IsLeastBeyondOf most (before ++ corners_of_state (state_of c.args.self.now)) c.least_beyond.result)
    c.unsigned_abs.ensures.value
    (c.least_beyond.ensures before (subst (λ most. IsLeastBeyondOf most before c.args.found) (sym c.unsigned_abs.ensures.value) h))
