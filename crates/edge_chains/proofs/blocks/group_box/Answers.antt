use Rattle.std.proofs.Common.{⊎_elim, subst, sym, ◌∙◌, ◌≡◌, arith, slice_index_or}
use Rattle.std.proofs.lemmas.Bool.{cases_lt}
use Rattle.std.proofs.lemmas.List.{get_or_default}
use Rattle.geo_exact.specs.Bounds.{HoldsCorner}
use Rattle.geo_exact.proofs.boxes.InBoxes.{holds_wider, holds_own}
use Rattle.edge_chains.proofs.blocks.group_box.Goals as goal

pub loop-at-preserved : goal.loop-at-preserved
loop-at-preserved c =
    let at = c.loop-at.at in
    let t = c.loop-at-test.true in
    let own = c.of_corner.ensures in
    record {
      in_range = omega (arith, t);
      so_far = λ k corner l m. ⊎_elim
          (λ before. holds_wider _ _ c.around-bounds.ensures.first _ (c.loop-at.invariant.so_far k corner l before))
          (λ behind. let e : k ≡ at = omega arith in
          subst (λ n. HoldsCorner c.around-bounds.result (slice_index_or c.args.corners.now n corner)) (sym e)
          (subst (HoldsCorner c.around-bounds.result)
          (c.index-corners-at-in-loop-at.is
          ∙ get_or_default c.args.corners.now at c.index-corners-at-in-loop-at.result corner (omega (arith, t, c.min-end.ensures)))
          (holds_wider c.of_corner.result c.around-bounds.result c.around-bounds.ensures.second c.index-corners-at-in-loop-at.result
          (holds_own c.of_corner.result c.index-corners-at-in-loop-at.result own.low own.high))))
          (cases_lt k at);
    }
