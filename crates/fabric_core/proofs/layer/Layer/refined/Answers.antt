use Rattle.std.proofs.Common.{◌≡◌, subst}
use Rattle.fabric_core.specs.Rows.{Tiles}
use Rattle.fabric_core.proofs.layer.Layer.refined.Goals as goal

pub returns : goal.returns
returns g c = subst (λ (t : Tiles). c.refined.result.now ≡ t.refined) c.self.view_is c.refined.ensures
