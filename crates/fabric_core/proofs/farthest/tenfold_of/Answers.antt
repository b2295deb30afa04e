use Rattle.std.proofs.Common.{refl, sym, subst, Some}
use Rattle.fabric_core.specs.own.Farthest.{IsTenTimesOf}
use Rattle.fabric_core.proofs.farthest.tenfold_of.Goals as goal

pub returns-in-Some : goal.returns-in-Some
returns-in-Some c =
    subst (λ corner. IsTenTimesOf corner (Some c.tenfold.result)) (sym c.in-Some.is) (c.tenfold.result, refl, c.tenfold.ensures)
