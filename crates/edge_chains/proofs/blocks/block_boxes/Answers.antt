use Rattle.std.proofs.Common.{◌-◌, ◌*◌, ◌<◌, length, arith}
use Rattle.edge_chains.proofs.edges.Boxes.{HasBlock-set}
use Rattle.edge_chains.proofs.blocks.block_boxes.Goals as goal

pub loop-at-preserved : goal.loop-at-preserved
loop-at-preserved g c =
    let i = c.loop-at.at - 1 in
    let h = c.block_box-bounds.ensures in
    let t = c.loop-at-test.true in
    let inv = c.loop-at.invariant in
    let here : i < length c.args.ends.now = omega (arith, inv.in_range, c.requires.in_groups (i * 4) (omega (arith, inv.in_range))) in
    record {
      in_range = omega (arith, inv.in_range);
      as_many = inv.as_many;
      blocks = λ k l m. HasBlock-set c.args.corners.now c.args.ends.now c.loop-at.boxes.items i c.block_box-bounds.result
          (omega (arith, here, inv.as_many)) h k
          (λ b. inv.blocks k (omega arith) m) l;
    }
