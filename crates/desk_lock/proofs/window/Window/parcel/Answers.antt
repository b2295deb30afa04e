use Rattle.std.proofs.Common.{◌≢◌, ◌++◌, ap, subst, ◌∙◌, MatchOption}
use Rattle.std.specs.List.{Contains}
use Rattle.geo_exact.specs.Layers.{NumberedRing, numbered}
use Rattle.fabric_core.specs.Journal.{State, replay}
use Rattle.fabric_core.specs.Tiling.{IsTiling}
use Rattle.desk_lock.proofs.window.Window.parcel.Goals as goal

pub returns-clause-parcel : goal.returns-clause-parcel
returns-clause-parcel g c =
    let origin = g.J.Naming-1.office.origin in
    subst (λ (state : State). MatchOption c.in_ok-ring.ring
    ((row : NumberedRing) → Contains state.rows row → row.number ≢ c.args.id)
    (λ ring. Contains state.rows (numbered c.args.id ring)))
    (c.fabric_of-fabric.ensures.now
    ∙ ap (λ entries. replay origin.opening (origin.journal ++ entries)) (c.deref.ensures ∙ c.in-Some.ensures.entered))
    c.in_ok-ring.ensures.found

pub returns-clause-tiling : goal.returns-clause-tiling
returns-clause-tiling g c =
    let origin = g.J.Naming-1.office.origin in
    subst (λ (state : State). IsTiling state.rows origin.city)
    (c.fabric_of-fabric.ensures.now
    ∙ ap (λ entries. replay origin.opening (origin.journal ++ entries)) (c.deref.ensures ∙ c.in-Some.ensures.entered))
    c.fabric_of-fabric.ensures.tiling
