use Rattle.std.proofs.Common.{sym, ◌∙◌, subst, arith, ◌++◌, List}
use Rattle.geo_exact.specs.declared.corner.Corner.{Corner}
use Rattle.scaled_rings.specs.Tenfold.{IsLeastFarOf}
use Rattle.fabric_core.specs.Journal.{State}
use Rattle.fabric_core.specs.Tenfold.{corners_of_state}
use Rattle.fabric_core.specs.own.Changes.{state_of}
use Rattle.fabric_core.proofs.tens.Farthest.{joined_none, joined_some}
use Rattle.fabric_core.proofs.opening.Opening.least_far.Goals as goal

pub returns-in-None : goal.returns-in-None
returns-in-None g c = λ before h.
    let corners : List Corner = corners_of_state (state_of c.self.inside.was.value) in
    subst (λ (s : State). IsLeastFarOf (before ++ corners_of_state s) c.args.found) c.self.view_is
    (joined_none before corners c.args.found
    (subst (IsLeastFarOf corners) (sym c.too_far.ensures ∙ c.in-None.is) (c.self.invariant 11 (omega arith))) h)

pub returns-in-Some : goal.returns-in-Some
returns-in-Some g c = λ before h.
    let corners : List Corner = corners_of_state (state_of c.self.inside.was.value) in
    subst (λ (s : State). IsLeastFarOf (before ++ corners_of_state s) c.least_far.result) c.self.view_is
    (joined_some before corners c.in-Some.corner c.least_far.result
    (subst (IsLeastFarOf corners) (sym c.too_far.ensures ∙ c.in-Some.is) (c.self.invariant 11 (omega arith)))
    (c.least_far.ensures before h))
