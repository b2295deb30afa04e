use Rattle.std.proofs.Common.{subst, IfOk}
use Rattle.geo_exact.specs.Point.{corner_point}
use Rattle.fabric_core.specs.Journal.{Book}
use Rattle.fabric_core.specs.Locate.{IsLocatedAt}
use Rattle.fabric_core.proofs.fabric.Fabric.locate.Goals as goal

pub returns : goal.returns
returns g c =
    subst (λ (b : Book _). IfOk c.locate.result (λ at. IsLocatedAt b.now.rows (corner_point c.args.corner) at))
    c.self.view_is c.locate.ensures
