use Rattle.std.proofs.Common.{rules, ◌≡◌, [], sym, ◌∙◌, subst, IfOk}
use Rattle.edge_chains.specs.own.Slices.{AreJoined}
use Rattle.edge_chains.proofs.nodings.Slices.{joined_first, joined_more, joined_last, nil_of_none}
use Rattle.fabric_core.specs.own.Lists.{AreShapesOfRings}
use Rattle.fabric_core.proofs.clipped.joined.Goals as goal

pub loop-slice-init : goal.loop-slice-init
loop-slice-init g c =
    let all : c.into_iter-slice-iterator.result.rest.items ≡ c.args.slices.items = search rules in
    subst (AreJoined (λ ring shape. shape.ring.corners ≡ ring.corners)
    (λ slice result. IfOk result (λ shapes. AreShapesOfRings slice shapes.items))
    c.args.size c.args.whole.value.items c.into_iter-slice-iterator.result.rest.items) (sym c.new-all.ensures.items)
    (subst (λ rest. AreJoined (λ ring shape. shape.ring.corners ≡ ring.corners)
    (λ slice result. IfOk result (λ shapes. AreShapesOfRings slice shapes.items))
    c.args.size c.args.whole.value.items rest []) (sym all) (joined_first (λ ring shape. shape.ring.corners ≡ ring.corners)
    (λ slice result. IfOk result (λ shapes. AreShapesOfRings slice shapes.items))
    c.args.size c.args.whole.value.items c.args.slices.items c.requires))

pub loop-slice-preserved : goal.loop-slice-preserved
loop-slice-preserved g c =
    subst (AreJoined (λ ring shape. shape.ring.corners ≡ ring.corners)
    (λ slice result. IfOk result (λ shapes. AreShapesOfRings slice shapes.items))
    c.args.size c.args.whole.value.items c.next.new.self.rest.items) (sym c.in_ok-append.ensures.items)
    (joined_more (λ ring shape. shape.ring.corners ≡ ring.corners)
    (λ slice result. IfOk result (λ shapes. AreShapesOfRings slice shapes.items))
    c.args.size c.args.whole.value.items c.in-Some.slice c.next.new.self.rest.items
    c.loop-slice.all.items c.in_ok-shapes.shapes.items
    (subst (λ rest. AreJoined (λ ring shape. shape.ring.corners ≡ ring.corners)
    (λ slice result. IfOk result (λ shapes. AreShapesOfRings slice shapes.items))
    c.args.size c.args.whole.value.items rest c.loop-slice.all.items) c.in-Some.ensures.steps.0 c.loop-slice.invariant)
    (λ slice h. subst (λ result. IfOk result (λ shapes. AreShapesOfRings slice shapes.items)) c.in_ok-shapes.was h))

pub returns : goal.returns
returns g c =
    joined_last c.loop-slice.slice-iterator.rest.items (λ ring shape. shape.ring.corners ≡ ring.corners)
    (λ slice result. IfOk result (λ shapes. AreShapesOfRings slice shapes.items))
    c.args.size c.args.whole.value.items c.loop-slice.all.items
    (nil_of_none c.loop-slice.slice-iterator.rest.items (sym c.loop-slice.slice-iterator.rest.ok.0 ∙ c.in-None.ensures.steps.0))
    c.loop-slice.invariant
