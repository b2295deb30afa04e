use Rattle.std.proofs.Common.{◌≡◌, subst, []}
use Rattle.scaled_rings.specs.Tenfold.{IsLeastBeyondOf}
use Rattle.fabric_core.specs.Tenfold.{corners_of_state}
use Rattle.fabric_core.specs.own.Changes.{state_of}
use Rattle.fabric_core.proofs.tens.Farthest.{none_behind, same_behind}
use Rattle.fabric_core.proofs.farthest.least_behind.Goals as goal

pub returns-in-None : goal.returns-in-None
returns-in-None g c = λ less b h.
    let corners = corners_of_state (state_of c.args.tiled.now) in
    none_behind less c.args.most b corners (subst (IsLeastBeyondOf less corners) c.in-None.is h)

pub returns-then-is_up_to : goal.returns-then-is_up_to
returns-then-is_up_to g c = λ less b h. c.least_beyond.ensures [] tt

pub returns-else-is_up_to : goal.returns-else-is_up_to
returns-else-is_up_to g c = λ less b h.
    let corners = corners_of_state (state_of c.args.tiled.now) in
    same_behind less c.args.most b corners c.in-Some.corner (λ u. absurd (cc (c.is_up_to.ensures.1 u, c.if-is_up_to.false)))
    (subst (IsLeastBeyondOf less corners) c.in-Some.is h)
