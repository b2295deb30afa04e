use Rattle.std.proofs.Common.{sym, subst, ◌++◌, ◌∷◌, []}
use Rattle.scaled_rings.specs.Tenfold.{IsLeastBeyond, IsLeastBeyondOf}
use Rattle.scaled_rings.proofs.Farthest.{far_near, far_first, far_either}
use Rattle.scaled_rings.proofs.corners.lesser_beyond.Goals as goal

pub returns-then-is_up_to : goal.returns-then-is_up_to
returns-then-is_up_to c = λ corners h.
    far_near c.args.most corners c.args.corner c.args.found (c.is_up_to.ensures.0 c.if-is_up_to.true) h

pub returns-in-None : goal.returns-in-None
returns-in-None c = λ corners h.
    far_first c.args.most corners c.args.corner (λ n. absurd (cc (c.is_up_to.ensures.1 n, c.if-is_up_to.false)))
    (subst (IsLeastBeyondOf c.args.most corners) c.in-None.is h)

pub returns-in-Some : goal.returns-in-Some
returns-in-Some c = λ corners h.
    subst (IsLeastBeyond c.args.most (corners ++ c.args.corner ∷ [])) (sym c.lesser.ensures)
    (far_either c.args.most corners c.args.corner c.in-Some.least (λ n. absurd (cc (c.is_up_to.ensures.1 n, c.if-is_up_to.false)))
    (subst (IsLeastBeyondOf c.args.most corners) c.in-Some.is h))
