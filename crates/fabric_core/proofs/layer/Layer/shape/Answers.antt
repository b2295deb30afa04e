use Rattle.std.proofs.Common.{◌≢◌, subst, MatchOption}
use Rattle.std.specs.List.{Contains}
use Rattle.geo_exact.specs.Layers.{NumberedRing, numbered}
use Rattle.fabric_core.specs.Rows.{Tiles}
use Rattle.fabric_core.proofs.layer.Layer.shape.Goals as goal

pub returns : goal.returns
returns g c =
    subst (λ (t : Tiles). MatchOption c.shape.result ((row : NumberedRing) → Contains t.rows row → row.number ≢ c.args.id)
    (λ shape. Contains t.rows (numbered c.args.id shape.now.ring.corners))) c.self.view_is c.shape.ensures
