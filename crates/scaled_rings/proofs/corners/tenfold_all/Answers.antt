use Rattle.std.proofs.Common.{◌≡◌, sym, subst, ◌+◌, take}
use Rattle.std.proofs.lemmas.List.{take_all}
use Rattle.std.proofs.lemmas.List.Elements.{All-from_recursion, all_zip_more}
use Rattle.scaled_rings.specs.Tenfold.{IsNear, IsTenTimes, AreTenTimes}
use Rattle.scaled_rings.proofs.corners.tenfold_all.Goals as goal

pub tenfold-requires : goal.tenfold-requires
tenfold-requires g c =
    subst IsNear (sym c.corner-item.is)
    (All-from_recursion IsNear c.args.corners.now c.requires c.loop-corner.corner-index c.corner-item.result c.loop-corner-test.true)

pub loop-corner-preserved : goal.loop-corner-preserved
loop-corner-preserved g c =
    subst (AreTenTimes (take (c.loop-corner.corner-index + 1) c.args.corners.now)) (sym c.in_ok-push.ensures.ok)
    (all_zip_more IsTenTimes c.args.corners.now c.loop-corner.others c.loop-corner.corner-index c.corner-item.result c.tenfold.result
    c.loop-corner-test.true c.corner-item.is c.loop-corner.invariant c.tenfold.ensures)

pub returns : goal.returns
returns g c =
    subst (λ corners. AreTenTimes corners c.loop-corner.others)
    (take_all c.loop-corner.corner-index c.args.corners.now c.loop-corner-test.false) c.loop-corner.invariant
