use Rattle.std.proofs.Common.{[], ◌∷◌, ◌++◌, sym, ◌∙◌, subst, append_assoc}
use Rattle.std.proofs.lemmas.List.{append-nil}
use Rattle.edge_chains.proofs.nodings.Slices.{nil_of_none}
use Rattle.fabric_core.specs.own.Lists.{AreShapesOfRings}
use Rattle.fabric_core.proofs.clipped.clip_each.Goals as goal

pub loop-ring-preserved : goal.loop-ring-preserved
loop-ring-preserved g c = λ more h.
    let rings = c.args.rings.items in
    let shape = c.in_ok-clip.field-0 in
    subst (λ shapes. AreShapesOfRings rings (shapes ++ more)) (sym c.in_ok-push.ensures.items)
    (subst (AreShapesOfRings rings) (sym (append_assoc c.loop-ring.shapes.items (shape ∷ []) more))
    (c.loop-ring.invariant (shape ∷ more)
    (subst (λ rest. AreShapesOfRings rest (shape ∷ more)) (sym c.in-Some.ensures.steps.0) (c.in_ok-clip.ensures.ring, h))))

pub returns : goal.returns
returns g c =
    subst (AreShapesOfRings c.args.rings.items) (append-nil c.loop-ring.shapes.items)
    (c.loop-ring.invariant []
    (subst (λ rest. AreShapesOfRings rest [])
    (sym (nil_of_none c.loop-ring.ring-iterator.rest.items (sym c.loop-ring.ring-iterator.rest.ok.0 ∙ c.in-None.ensures.steps.0))) tt))
