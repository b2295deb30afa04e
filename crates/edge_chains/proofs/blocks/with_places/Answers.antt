use Rattle.std.proofs.Common.{◌≡◌, ◌∙◌, ◌∷◌, ◌++◌, [], ◌+◌, ap, sym, map, drop, get_or, append-nil, append_assoc, add-one}
use Rattle.std.proofs.Math.Seq.{drop-cons}
use Rattle.std.proofs.lemmas.List.{drop_all, map-append}
use Rattle.geo_exact.specs.declared.corner.Corner.{Corner}
use Rattle.edge_chains.specs.declared.blocks.Placed.{Placed}
use Rattle.edge_chains.proofs.blocks.with_places.Goals as goal

pub loop-index-preserved : goal.loop-index-preserved
loop-index-preserved g c = λ none.
    let xs = c.args.corners.now in
    let i = c.loop-index.index in
    let f : Placed → Corner = λ it. get_or xs it.index none in
    let next : get_or xs i none ∷ drop (i + 1) xs ≡ drop i xs =
    rw (add-one i) (sym (drop-cons xs i none c.loop-index-test.true)) in
    ap (λ ys. map f ys ++ drop (i + 1) xs) c.in_ok-push.ensures.items
    ∙ ap (λ ys. ys ++ drop (i + 1) xs) (map-append f c.loop-index.placed.items (_ ∷ []))
    ∙ append_assoc (map f c.loop-index.placed.items) (get_or xs i none ∷ []) (drop (i + 1) xs)
    ∙ ap (λ ys. map f c.loop-index.placed.items ++ ys) next
    ∙ c.loop-index.invariant none

pub returns : goal.returns
returns g c = λ none.
    let xs = c.args.corners.now in
    let ys = map (λ it. get_or xs it.index none) c.loop-index.placed.items in
    sym (append-nil ys)
    ∙ ap (λ zs. ys ++ zs) (sym (drop_all c.loop-index.index xs c.loop-index-test.false))
    ∙ c.loop-index.invariant none
