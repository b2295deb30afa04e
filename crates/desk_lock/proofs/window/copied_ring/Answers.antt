use Rattle.std.proofs.Common.{◌≤◌, List, length, subst, sym}
use Rattle.std.proofs.lemmas.List.Elements.{All-from_recursion, All-contains}
use Rattle.geo_exact.specs.Layers.{NumberedRing, numbered}
use Rattle.geo_exact.specs.declared.corner.Corner.{Corner}
use Rattle.geo_exact.specs.declared.limits.TheConstants.{RING_CORNERS}
use Rattle.desk_lock.proofs.window.copied_ring.Goals as goal

pub returns-clause-few : goal.returns-clause-few
returns-clause-few g c =
    let rows = c.args.fabric.now.now.rows in
    let P = λ (row : NumberedRing). length row.corners ≤ RING_CORNERS in
    subst (λ (corners : List Corner). length corners ≤ RING_CORNERS) (sym c.in_ok-corners.ensures.cases)
    (All-contains P rows (numbered c.args.id c.in-Some.ring.now.corners) (All-from_recursion P rows c.requires.within.each)
    c.in-Some.ensures)
