use Rattle.std.proofs.Common.{◌≡◌, subst}
use Rattle.fabric_core.specs.Rows.{Tiles}
use Rattle.fabric_core.proofs.layer.Layer.city.Goals as goal

pub returns : goal.returns
returns g c = subst (λ (t : Tiles). c.city.result.now ≡ t.city) c.self.view_is c.city.ensures
