use Rattle.std.proofs.Common.{◌++◌, ap, subst, ◌∙◌}
use Rattle.fabric_core.specs.Journal.{State, replay}
use Rattle.fabric_core.specs.Tiling.{IsTiling}
use Rattle.desk_lock.proofs.window.Window.entries.Goals as goal

pub returns-clause-tiling : goal.returns-clause-tiling
returns-clause-tiling g c =
    let origin = g.J.Naming-1.office.origin in
    subst (λ (state : State). IsTiling state.rows origin.city)
    (c.fabric_of.ensures.now
    ∙ ap (λ entries. replay origin.opening (origin.journal ++ entries)) (c.deref.ensures ∙ c.in-Some.ensures.entered))
    c.fabric_of.ensures.tiling
