use Rattle.std.proofs.Common.{sym, ◌∙◌, ap, subst, ◌++◌, ◌∷◌, [], take}
use Rattle.std.proofs.lemmas.List.{append-nil, append_assoc, take_all, take_more}
use Rattle.scaled_rings.specs.Tenfold.{IsLeastBeyondOf}
use Rattle.scaled_rings.proofs.corners.least_beyond.Goals as goal

pub loop-corner-init : goal.loop-corner-init
loop-corner-init c = λ before h. subst (λ xs. IsLeastBeyondOf c.args.most xs c.args.found) (sym (append-nil before)) h

pub loop-corner-preserved : goal.loop-corner-preserved
loop-corner-preserved c = λ before h.
    let xs = c.args.corners.now in let i = c.loop-corner.corner-index in
    subst (λ ys. IsLeastBeyondOf c.args.most ys c.lesser_beyond-least.result)
    (append_assoc before (take i xs) (c.corner-item.result ∷ [])
    ∙ ap (λ ys. before ++ ys)
    (ap (λ x. take i xs ++ x ∷ []) c.corner-item.is ∙ sym (take_more xs i c.corner-item.result c.loop-corner-test.true)))
    (c.lesser_beyond-least.ensures (before ++ take i xs) (c.loop-corner.invariant before h))

pub returns : goal.returns
returns c = λ before h.
    subst (λ xs. IsLeastBeyondOf c.args.most (before ++ xs) c.loop-corner.least)
    (take_all c.loop-corner.corner-index c.args.corners.now c.loop-corner-test.false) (c.loop-corner.invariant before h)
