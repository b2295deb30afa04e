use Rattle.std.proofs.Common.{◌∙◌, sym, ap, subst, length, ◌<◌}
use Rattle.overlay_claims.specs.Claims.{times}
use Rattle.overlay_claims.proofs.gathering.Gathering.confirm.Goals as goal

pub confirm-requires-clause-ended : goal.confirm-requires-clause-ended
confirm-requires-clause-ended g c list less =
    let lengths = ap (λ v. v.lists.lengths) c.self.view_is ∙ ap (λ v. v.lengths) c.requires.own in
    subst (λ notes. 0 < times list notes) (sym (ap (λ v. v.ended) c.self.view_is))
    (c.requires.all_ends list (subst (λ l. list < length l) lengths less))
