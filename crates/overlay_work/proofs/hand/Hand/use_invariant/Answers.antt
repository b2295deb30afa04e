use Rattle.std.proofs.Common.{◌≤◌, ap, subst, length}
use Rattle.std.specs.Arc.{arc_value}
use Rattle.geo_exact.specs.declared.limits.TheConstants.{LAYER_CORNERS}
use Rattle.overlay_work.specs.own.Kept.{IsTask}
use Rattle.overlay_work.proofs.Hands.{few_done}
use Rattle.overlay_work.proofs.hand.Hand.use_invariant.Goals as goal

pub returns : goal.returns
returns g c =
    let hand = c.self.inside in
    let task = arc_value hand.work in
    let few = few_done task hand.claimant hand.holds hand.kept.items hand.tests
    (subst IsTask c.deref.ensures c.use_invariant.ensures) c.self.invariant in
    subst (λ l. length l ≤ LAYER_CORNERS) (ap (λ v. v.did) c.self.view_is) few
