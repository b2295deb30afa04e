use Rattle.std.proofs.Common.{⊎_elim, subst, sym, arith, ◌/◌, ◌<◌, length, slice_index_or}
use Rattle.std.proofs.lemmas.Bool.{cases_lt}
use Rattle.geo_exact.specs.Bounds.{HoldsCorner}
use Rattle.geo_exact.proofs.boxes.InBoxes.{holds_wider}
use Rattle.edge_chains.proofs.edges.Boxes.{first_inside}
use Rattle.edge_chains.proofs.blocks.block_box.Goals as goal

pub returns : goal.returns
returns c =
    let own = first_inside (length c.args.corners.now) c.args.ends.now c.requires.ends c.args.group c.requires.place in
    let t = c.loop-at-test.false in
    let e = c.min-end.ensures in
    λ k corner l m. c.loop-at.invariant.so_far k corner l (omega (arith, t, m, own, e)) (omega (arith, own, m))

pub loop-at-preserved : goal.loop-at-preserved
loop-at-preserved c =
    let at = c.loop-at.at in
    let own = first_inside (length c.args.corners.now) c.args.ends.now c.requires.ends c.args.group c.requires.place in
    let inv = c.loop-at.invariant in
    let t = c.loop-at-test.true in
    let e = c.min-end.ensures in
    let inside : at < length c.args.corners.now = omega (arith, t, e) in
    let here = c.requires.ends.go_on at inside in
    record {
      behind = omega (arith, here, inv.behind);
      so_far = λ k corner l m n. ⊎_elim
          (λ before. holds_wider _ _ c.around-bounds.ensures.first _ (inv.so_far k corner l before n))
          (λ behind. holds_wider _ _ c.around-bounds.ensures.second _
          (subst (λ box. HoldsCorner box (slice_index_or c.args.corners.now k corner)) (sym c.index-boxes-at.is)
          (c.requires.later (at / 4) (omega (arith, inv.behind)) (omega (arith, inside)) k corner c.index-boxes-at.result
          (omega (arith, behind)) m)))
          (cases_lt k at);
    }
