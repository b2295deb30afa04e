use Rattle.std.proofs.Common.{◌≡◌, ◌∙◌, ap, subst, map}
use Rattle.geo_exact.specs.Layers.{numbered}
use Rattle.fabric_core.specs.own.Kept.{Kept}
use Rattle.parcel_table.specs.Table.{rows_of}
use Rattle.parcel_table.proofs.Tables.{rows_of_shapes}
use Rattle.fabric_core.proofs.tiled.Tiled.shapes.Goals as goal

pub returns : goal.returns
returns g c =
    subst (λ (t : Kept). map (λ shape. numbered shape.0 shape.1.ring.corners) c.shapes.result ≡ t.rows) c.self.view_is
    (ap rows_of c.shapes.ensures ∙ rows_of_shapes c.self.inside.parcels.parcels)
