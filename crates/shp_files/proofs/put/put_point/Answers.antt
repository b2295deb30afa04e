use Rattle.std.proofs.Common.{◌∙◌}
use Rattle.shp_files.proofs.written.Puts.{extended, point_bytes}
use Rattle.shp_files.proofs.put.put_point.Goals as goal

pub returns : goal.returns
returns g c =
    extended c.extend_from_slice.result _ _ _ _ c.extend_from_slice.ensures.items
    (c.two_doubles-bytes.ensures ∙ point_bytes c.args.corner _ _ c.write_coord.ensures.value c.write_coord-2.ensures.value)
