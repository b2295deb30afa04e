use Rattle.std.proofs.Common.{◌++◌, ap, subst, ◌∙◌}
use Rattle.geo_exact.specs.Point.{corner_point}
use Rattle.fabric_core.specs.Journal.{State, replay}
use Rattle.fabric_core.specs.Tiling.{IsTiling}
use Rattle.fabric_core.specs.Locate.{IsLocatedAt}
use Rattle.desk_lock.proofs.window.Window.locate.Goals as goal

pub returns-clause-at : goal.returns-clause-at
returns-clause-at g c =
    let origin = g.J.Naming-1.office.origin in
    subst (λ (state : State). IsLocatedAt state.rows (corner_point c.args.corner) c.in_ok-at.at)
    (c.fabric_of-fabric.ensures.now
    ∙ ap (λ entries. replay origin.opening (origin.journal ++ entries)) (c.deref.ensures ∙ c.in-Some.ensures.entered))
    c.in_ok-at.ensures

pub returns-clause-tiling : goal.returns-clause-tiling
returns-clause-tiling g c =
    let origin = g.J.Naming-1.office.origin in
    subst (λ (state : State). IsTiling state.rows origin.city)
    (c.fabric_of-fabric.ensures.now
    ∙ ap (λ entries. replay origin.opening (origin.journal ++ entries)) (c.deref.ensures ∙ c.in-Some.ensures.entered))
    c.fabric_of-fabric.ensures.tiling
