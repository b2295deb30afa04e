use Rattle.std.proofs.Common.{◌≡◌, ◌∙◌, ap, arith, ◌∷◌}
use Rattle.zone_tables.specs.own.Zonings.{zonings}
use Rattle.zone_tables.proofs.Zonings.{zonings_first}
use Rattle.zone_tables.proofs.zoning.ZoningsIterator.next.Goals as goal

pub returns-clause-steps : goal.returns-clause-steps
returns-clause-steps c =
    rw (← c.self.view_is)
    (ap zonings c.in_ok-first.ensures.cases.0 ∙ rw (c.behind_parcel-others.ensures.behind) (zonings_first _ _ c.in_ok-first.rest.now))

pub returns-clause-goes : goal.returns-clause-goes
returns-clause-goes c =
    let all : c.args.self.now ≡ _ ∷ zonings c.behind_parcel-others.result.now = returns-clause-steps c in
    record { on = λ finite. (tt, tt, rw all (omega arith)); keeps = tt; rests = λ finite. tt }
