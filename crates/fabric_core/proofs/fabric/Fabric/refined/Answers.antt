use Rattle.std.proofs.Common.{◌≡◌, subst}
use Rattle.fabric_core.specs.Journal.{Book}
use Rattle.fabric_core.proofs.fabric.Fabric.refined.Goals as goal

pub returns : goal.returns
returns g c = subst (λ (t : Book _). c.refined.result.now ≡ t.now.refined) c.self.view_is c.refined.ensures
