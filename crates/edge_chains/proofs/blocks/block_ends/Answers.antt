use Rattle.std.proofs.Common.{subst, sym, ap, ◌∙◌, arith, ◌*◌, ◌<◌, ◌≤◌, ◌/◌, ◌-◌, ◌+◌, slice_index, length, ◌≡◌, set}
use Rattle.std.proofs.lemmas.Grind.{get_or_default_zero}
use Rattle.edge_chains.proofs.edges.Boxes.{first_inside, AreEnds-set}
use Rattle.edge_chains.specs.own.Blocks.{AreEnds}
use Rattle.edge_chains.proofs.blocks.block_ends.Goals.{then-next-last+then-middle-last, then-next-last+else-middle-last, else-next-last}
use Rattle.edge_chains.proofs.blocks.block_ends.Goals as goal

pub index_mut-requires-then-middle-last : goal.index_mut-requires-then-middle-last
index_mut-requires-then-middle-last g c =
    let inv = c.loop-group.invariant in
    let t = c.loop-group-test.true in
    let here = first_inside c.args.n c.loop-group.ends.items inv c.loop-group.group (omega (arith, t)) in
    let middle = c.index-end.result.now / 4 - (c.index-end.result.now / 4 - (c.loop-group.group + 1)) / 2 in
    let u = c.if-middle-last.true in
    let at : c.index-end.result.now ≡ slice_index c.loop-group.ends.items c.loop-group.group =
    c.index-end.ensures ∙ get_or_default_zero c.loop-group.ends.items c.loop-group.group c.index-end.result.now here.0 in
    let end : c.index-end.result.now ≤ c.args.n = omega (arith, here, at) in
    let before : middle * 4 < c.args.n = omega (arith, end, u) in
    let kept : middle * 4 / 4 ≡ middle = omega arith in
    let found : middle < length c.loop-group.ends.items = omega (arith, kept, inv.in_groups (middle * 4) before) in
    omega (arith, c.loop-group.ends.ok, found)

pub loop-group-preserved : goal.loop-group-preserved
loop-group-preserved g c =
    let n = c.args.n in
    let ends = c.loop-group.ends.items in
    let next = c.loop-group.group + 1 in
    let end = c.index-end.result.now in
    let middle = end / 4 - (end / 4 - next) / 2 in
    let inv = c.loop-group.invariant in
    let here = first_inside n ends inv c.loop-group.group (omega (arith, c.loop-group-test.true)) in
    let at : end ≡ slice_index ends c.loop-group.group =
    c.index-end.ensures ∙ get_or_default_zero ends c.loop-group.group end here.0 in
    let top : end ≤ n = omega (arith, here, at) in
    let first : next < end / 4 → AreEnds n (set ends next (middle * 4)) = λ l.
    AreEnds-set n ends next (middle * 4) inv (omega (arith, top, l)) (λ k m e. omega (arith, l, e)) in
    elim c.if-next-last.branch [
      | then-next-last+then-middle-last w ↦ subst (AreEnds n) (sym (ap (λ v. v.items) w.ends-is))
          (AreEnds-set n (set ends next (middle * 4)) middle end (first w.if-next-last.true) top
          (λ k m e. omega (arith, w.if-middle-last.true, e)))
      | then-next-last+else-middle-last w ↦ subst (AreEnds n) (sym (ap (λ v. v.items) w.ends-is)) (first w.if-next-last.true)
      | else-next-last w ↦ subst (AreEnds n) (sym (ap (λ v. v.items) w.ends-is)) inv
    ]
