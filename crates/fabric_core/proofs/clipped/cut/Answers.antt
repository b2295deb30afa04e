use Rattle.std.proofs.Common.{arith, ◌≡◌, ◌≤◌, [], ◌∷◌, ◌++◌, length, sym, subst, append_assoc}
use Rattle.std.proofs.lemmas.List.{take_all, drop_all}
use Rattle.edge_chains.specs.own.Slices.{AreOfSlices}
use Rattle.fabric_core.proofs.clipped.cut.Goals as goal

pub loop-rings-preserved : goal.loop-rings-preserved
loop-rings-preserved g c = λ more h.
    let size = c.args.size in
    let front = c.split_off.new.self in
    subst (λ slices. AreOfSlices (λ rings slice. slice.items ≡ rings) size c.args.rings.items (slices ++ more))
    (sym c.in_ok-push.ensures.items)
    (subst (AreOfSlices (λ rings slice. slice.items ≡ rings) size c.args.rings.items)
    (sym (append_assoc c.loop-rings.slices.items (front ∷ []) more))
    (c.loop-rings.invariant (front ∷ more) (
      c.in_ok-rest.ensures.items,
      subst (λ rings. AreOfSlices (λ rings slice. slice.items ≡ rings) size rings more) c.in_ok-rest.ensures.tail h,
    )))

pub returns : goal.returns
returns g c =
    let size = c.args.size in
    let last = c.loop-rings.rings in
    let short : length last.items ≤ size = omega (arith, c.loop-rings-test.false, last.ok.0, c.len.ensures) in
    subst (AreOfSlices (λ rings slice. slice.items ≡ rings) size c.args.rings.items) (sym c.in_ok-push-2.ensures.items)
    (c.loop-rings.invariant (last ∷ []) (sym (take_all size last.items short), drop_all size last.items short))
