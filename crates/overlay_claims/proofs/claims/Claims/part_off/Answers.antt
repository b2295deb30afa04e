use Rattle.std.proofs.Common.{◌∙◌, sym, ap, arith}
use Rattle.overlay_claims.proofs.Spread.{parts_off_apart}
use Rattle.overlay_claims.proofs.claims.Claims.part_off.Goals as goal

pub split_seat-requires : goal.split_seat-requires
split_seat-requires g c = (
  c.requires.own ∙ sym (ap (λ v. v.name) c.self.view_is),
  omega (arith, c.self.invariant.1, c.self.invariant.2),
  λ s kept at. parts_off_apart _ s.words s.views _ c.args.mark.now.me.0 kept at c.requires.parts c.requires.nothing,
)
