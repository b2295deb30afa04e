use Rattle.std.proofs.Common.{rules, ◌≡◌, List, [], ◌∷◌, ◌++◌, sym, ◌∙◌, subst, IfOk}
use Rattle.std.specs.List.{AllZip}
use Rattle.geo_exact.specs.declared.corner.Corner.{Corner}
use Rattle.edge_chains.specs.Noding.{IsNoded}
use Rattle.edge_chains.specs.own.Slices.{AreJoined}
use Rattle.edge_chains.proofs.nodings.Slices.{joined_first, joined_more, joined_last, nil_of_none}
use Rattle.edge_chains.proofs.noding.joined.Goals as goal

pub loop-slice-init : goal.loop-slice-init
loop-slice-init g c =
    let all : c.into_iter-slice-iterator.result.rest.items ≡ c.args.slices.items = search rules in
    subst (AreJoined (λ ring out. IsNoded ring c.args.blocks.now out)
    (λ slice result. IfOk result (λ noded. AllZip (λ ring out. IsNoded ring c.args.blocks.now out) slice noded.items))
    c.args.size c.args.rings.now c.into_iter-slice-iterator.result.rest.items) (sym c.in_ok-noded.ensures.items)
    (subst (λ rest. AreJoined (λ ring out. IsNoded ring c.args.blocks.now out)
    (λ slice result. IfOk result (λ noded. AllZip (λ ring out. IsNoded ring c.args.blocks.now out) slice noded.items))
    c.args.size c.args.rings.now rest []) (sym all) (joined_first (λ ring out. IsNoded ring c.args.blocks.now out)
    (λ slice result. IfOk result (λ noded. AllZip (λ ring out. IsNoded ring c.args.blocks.now out) slice noded.items))
    c.args.size c.args.rings.now c.args.slices.items c.requires))

pub loop-slice-preserved : goal.loop-slice-preserved
loop-slice-preserved g c =
    subst (AreJoined (λ ring out. IsNoded ring c.args.blocks.now out)
    (λ slice result. IfOk result (λ noded. AllZip (λ ring out. IsNoded ring c.args.blocks.now out) slice noded.items))
    c.args.size c.args.rings.now c.next.new.self.rest.items) (sym c.in_ok-append.ensures.items)
    (joined_more (λ ring out. IsNoded ring c.args.blocks.now out)
    (λ slice result. IfOk result (λ noded. AllZip (λ ring out. IsNoded ring c.args.blocks.now out) slice noded.items))
    c.args.size c.args.rings.now c.in-Some.slice c.next.new.self.rest.items
    c.loop-slice.noded.items c.in_ok-slice.slice.items
    (subst (λ rest. AreJoined (λ ring out. IsNoded ring c.args.blocks.now out)
    (λ slice result. IfOk result (λ noded. AllZip (λ ring out. IsNoded ring c.args.blocks.now out) slice noded.items))
    c.args.size c.args.rings.now rest c.loop-slice.noded.items) c.in-Some.ensures.steps.0 c.loop-slice.invariant)
    (λ slice h. subst (λ result. IfOk result (λ noded. AllZip (λ ring out. IsNoded ring c.args.blocks.now out) slice noded.items))
    c.in_ok-slice.was h))

pub returns : goal.returns
returns g c =
    joined_last c.loop-slice.slice-iterator.rest.items (λ ring out. IsNoded ring c.args.blocks.now out)
    (λ slice result. IfOk result (λ noded. AllZip (λ ring out. IsNoded ring c.args.blocks.now out) slice noded.items))
    c.args.size c.args.rings.now c.loop-slice.noded.items
    (nil_of_none c.loop-slice.slice-iterator.rest.items (sym c.loop-slice.slice-iterator.rest.ok.0 ∙ c.in-None.ensures.steps.0))
    c.loop-slice.invariant
