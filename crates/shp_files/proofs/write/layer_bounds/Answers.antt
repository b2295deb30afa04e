use Rattle.std.proofs.Common.{List, take, subst, ap, ◌++◌, ◌∙◌}
use Rattle.std.proofs.lemmas.List.{take_all}
use Rattle.geo_exact.specs.declared.corner.Corner.{Corner}
use Rattle.shp_files.specs.Written.{corner_lists, all_corners}
use Rattle.shp_files.specs.own.Writing.{MayBeBounds}
use Rattle.shp_files.proofs.layers.Rings.{ring_corners, corners_push}
use Rattle.shp_files.proofs.write.layer_bounds.Goals as goal

pub loop-ring-preserved : goal.loop-ring-preserved
loop-ring-preserved g c =
    let P : List Corner → Type 0 = MayBeBounds c.with_corners-bounds.result in
    subst P
    (ap (λ corners. all_corners (corner_lists (take c.loop-ring.ring-index c.args.rings.now)) ++ corners) c.as_slice.ensures
    ∙ corners_push ring_corners c.args.rings.now c.loop-ring.ring-index c.ring-item.result c.loop-ring-test.true c.ring-item.is)
    (c.with_corners-bounds.ensures _ c.loop-ring.invariant)

pub returns : goal.returns
returns g c =
    let P : List Corner → Type 0 = MayBeBounds c.loop-ring.bounds in
    subst P (ap (λ rings. all_corners (corner_lists rings))
    (take_all c.loop-ring.ring-index c.args.rings.now c.loop-ring-test.false)) c.loop-ring.invariant
