use Rattle.std.proofs.Common.{◌≢◌, subst, MatchOption}
use Rattle.std.specs.List.{Contains}
use Rattle.geo_exact.specs.Layers.{NumberedRing, numbered}
use Rattle.fabric_core.specs.own.Kept.{Kept}
use Rattle.parcel_table.proofs.Tables.{shape_of_row}
use Rattle.fabric_core.proofs.tiled.Tiled.shape.Goals as goal

pub returns : goal.returns
returns g c =
    subst (λ (t : Kept). MatchOption c.shape.result ((row : NumberedRing) → Contains t.rows row → row.number ≢ c.args.id)
    (λ shape. Contains t.rows (numbered c.args.id shape.now.ring.corners))) c.self.view_is
    (shape_of_row c.self.inside.parcels.parcels c.args.id c.shape.result c.shape.ensures)
