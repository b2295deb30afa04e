use Rattle.std.proofs.Common.{sym, subst, ◌++◌}
use Rattle.scaled_rings.specs.Tenfold.{IsLeastBeyondOf}
use Rattle.scaled_rings.proofs.corners.least_far.Goals as goal

pub returns : goal.returns
returns c = λ before h.
    subst (λ most. IsLeastBeyondOf most (before ++ c.args.corners.now) c.least_beyond.result) c.unsigned_abs.ensures.value
    (c.least_beyond.ensures before (subst (λ most. IsLeastBeyondOf most before c.args.found) (sym c.unsigned_abs.ensures.value) h))
