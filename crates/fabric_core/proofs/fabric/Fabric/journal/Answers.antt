use Rattle.std.proofs.Common.{◌≡◌, subst}
use Rattle.fabric_core.specs.Journal.{Book}
use Rattle.fabric_core.proofs.fabric.Fabric.journal.Goals as goal

pub returns : goal.returns
returns g c = subst (λ (t : Book _). c.as_slice.result.now ≡ t.journal) c.self.view_is c.as_slice.ensures.value
