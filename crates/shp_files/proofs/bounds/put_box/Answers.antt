use Rattle.std.proofs.Common.{refl}
use Rattle.shp_files.proofs.rings.LeastBounds.{box_of}
use Rattle.shp_files.proofs.written.Puts.{appended}
use Rattle.shp_files.proofs.bounds.put_box.Goals as goal

pub returns : goal.returns
returns g c = λ corners. λ are.
    appended c.put_point-2.result _ _ _ _ _ _ c.in_ok-put_point.ensures c.put_point-2.ensures
    (box_of c.args.bounds _ c.unwrap_or-bounds.result corners are c.unwrap_or-bounds.ensures refl refl refl refl)
