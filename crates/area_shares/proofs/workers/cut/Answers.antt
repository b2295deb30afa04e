use Rattle.std.proofs.Common.{◌≡◌, [], ◌∷◌, ◌++◌, refl, sym, subst, append_assoc}
use Rattle.area_shares.specs.own.Slices.{AreInSlices}
use Rattle.area_shares.proofs.SlicePairs.{all_apart, order_behind}
use Rattle.area_shares.proofs.workers.cut.Goals as goal

pub loop-preserved : goal.loop-preserved
loop-preserved g c =
    let here = c.split_parcels.result.0 in let behind = c.split_parcels.result.1.now in
    record {
      ascend = order_behind c.loop.rest.now here.now behind c.loop.invariant.ascend c.split_parcels.ensures;
      so_far = λ more h.
          subst (λ slices. AreInSlices (λ here slice. slice.now ≡ here) c.args.pairs.now (slices ++ more)) (sym c.in_ok-push.ensures.items)
          (subst (AreInSlices (λ here slice. slice.now ≡ here) c.args.pairs.now) (sym (append_assoc c.loop.slices.items (here ∷ []) more))
          (c.loop.invariant.so_far (here ∷ more) (here.now, behind, c.split_parcels.ensures, refl, h)));
    }

pub returns : goal.returns
returns g c =
    let rest = c.loop.rest in
    subst (AreInSlices (λ here slice. slice.now ≡ here) c.args.pairs.now) (sym c.in_ok-push-2.ensures.items)
    (c.loop.invariant.so_far (rest ∷ []) (rest.now, [], all_apart rest.now, refl, refl))
