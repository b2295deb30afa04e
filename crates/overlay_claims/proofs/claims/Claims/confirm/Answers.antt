use Rattle.std.proofs.Common.{◌∙◌, sym, refl, ap, arith}
use Rattle.atomic_table.specs.Table.{keeps}
use Rattle.overlay_claims.proofs.Spread.{reads_apart, knows_all_apart}
use Rattle.overlay_claims.proofs.claims.Claims.confirm.Goals as goal

pub load-requires : goal.load-requires
load-requires g c = (
  c.requires.own ∙ sym (ap (λ v. v.name) c.self.view_is),
  omega (arith, c.self.invariant.1, c.self.invariant.2),
  λ s kept homes at small.
      let v = c.args.mark.now.me.0 in (
        v,
        keeps,
        tt,
        reads_apart _ s.words s.views c.args.mark.now.id v kept at,
        (refl, knows_all_apart _ s.words s.views c.args.mark.now.id v kept at),
      ),
)
