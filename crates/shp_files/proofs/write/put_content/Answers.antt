use Rattle.std.proofs.Common.{◌++◌, [], refl, ◌∙◌, ap}
use Rattle.shp_files.specs.Written.{little, content}
use Rattle.shp_files.proofs.written.Puts.{more, appended}
use Rattle.shp_files.proofs.write.put_content.Goals as goal

pub returns : goal.returns
unfolding content
returns g c =
    let boxed = c.in_ok-put_box.ensures c.args.ring.now (c.with_corners.ensures [] refl) in
    let counted = c.in_ok-put_little-3.ensures ∙ ap (λ n. c.put_little-2.new.out.items ++ little n) c.point_count.ensures in
    appended c.put_points.result _ _ _ _ _ _
    (more _ _ _ _ _
    (more _ _ _ _ _ (more _ _ _ _ _ (more _ _ _ _ _ c.in_ok-put_little.ensures boxed)
    c.in_ok-put_little-2.ensures) counted) c.in_ok-put_little-4.ensures)
    c.put_points.ensures refl
