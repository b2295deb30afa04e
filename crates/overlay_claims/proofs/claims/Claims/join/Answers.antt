use Rattle.std.proofs.Common.{◌∙◌, sym, ap, arith}
use Rattle.overlay_claims.proofs.Spread.{joins_apart}
use Rattle.overlay_claims.proofs.claims.Claims.join.Goals as goal

pub join_seat-requires : goal.join_seat-requires
join_seat-requires g c =
    let name = sym (ap (λ v. v.name) c.self.view_is) in (
      c.requires.own ∙ name,
      c.requires.others.0 ∙ name,
      c.requires.others.1,
      omega (arith, c.self.invariant.1, c.self.invariant.2),
      λ s kept at apart there.
          joins_apart _ s.words s.views _ c.args.mark.now.me.0 kept at _ c.args.other.me.0 apart there c.requires.parts,
    )
