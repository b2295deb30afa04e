use Rattle.std.proofs.Common.{inl, rules, w64}
use Rattle.std.proofs.lemmas.Int.{to_z-of_z}
use mir.Val.{SFits}
use Rattle.fabric_core.specs.own.Lists.{corners_of_rings}
use Rattle.fabric_core.proofs.rows.RowGaps.{equal_nets}
use Rattle.fabric_core.proofs.loads.LoadRefusals.{tells_first_gap, tells_all_gaps}
use Rattle.fabric_core.proofs.gaps.check_nets.Goals as goal

pub returns-in_default-clause-ok : goal.returns-in_default-clause-ok
returns-in_default-clause-ok g c = equal_nets c.in_ok-sum.sum (corners_of_rings c.args.rings.now) c.args.refined.now
    c.in_ok-sum.ensures c.in_default.ensures.none

pub returns-in-First-clause-err : goal.returns-in-First-clause-err
returns-in-First-clause-err g c =
    let f : SFits w64 c.in-Some.net = search rules in
    inl (tells_first_gap c.args.asked (corners_of_rings c.args.rings.now) c.args.refined.now c.in_ok-sum.sum c.in-Some.a c.in-Some.b
    c.in-Some.net c.from.result c.in-First.is (rw (to_z-of_z w64 c.in-Some.net f) at c.from.ensures.0) c.from.ensures.1
    c.in_ok-sum.ensures c.in-Some.ensures.first)

pub returns-clause-err : goal.returns-clause-err
returns-clause-err g c =
    let f : SFits w64 c.in-Some.net = search rules in
    inl (rw (to_z-of_z w64 c.in-Some.net f) (tells_all_gaps c.args.asked (corners_of_rings c.args.rings.now) c.args.refined.now
    c.in_ok-sum.sum c.in-Some.a c.in-Some.b c.in-Some.net c.in_ok-gaps-in-All.gaps c.in-All.is c.in_ok-sum.ensures c.in-Some.ensures.first
    c.in_ok-gaps-in-All.ensures))
