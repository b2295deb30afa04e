use Rattle.std.proofs.Common.{◌∙◌, ap, arith, add-one, get_or}
use Rattle.std.specs.List.{slice_set}
use Rattle.geo_exact.specs.Rings.{begun_at_least}
use Rattle.fabric_core.proofs.rows.Lists.{changed_at}
use Rattle.fabric_core.proofs.refine.begin_all.Goals as goal

pub loop-ring-preserved : goal.loop-ring-preserved
loop-ring-preserved g c =
    let i = c.loop-ring.ring-index in
    let before = c.args.rings.now in
    let item = c.ring-item.result in
    rw add-one
    (ap (λ ring. slice_set c.loop-ring.rings i ring) c.begin_at_least.ensures
    ∙ ap (λ rings. slice_set rings i (begun_at_least (get_or rings i item))) c.loop-ring.invariant
    ∙ changed_at begun_at_least before i item (omega (arith, c.loop-ring-test.true)))
