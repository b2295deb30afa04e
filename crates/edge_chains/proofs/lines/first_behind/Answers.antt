use Rattle.std.proofs.Common.{sym, ◌∙◌, arith, ◌+◌, ◌-◌, ◌/◌, ◌<◌}
use Rattle.edge_chains.proofs.edges.OnLines.{not_behind_here}
use Rattle.edge_chains.proofs.lines.first_behind.Goals as goal

pub loop-from-preserved : goal.loop-from-preserved
loop-from-preserved c =
    let inv = c.loop-from.invariant in
    let middle = c.loop-from.from + (c.loop-from.to - c.loop-from.from) / 2 in
    let less : middle < c.loop-from.to = omega (arith, c.loop-from-test.true) in
    record {
      in_range = inv.in_range;
      begun = omega (arith, less);
      so_far = λ k d l. not_behind_here c.args.ranked.now c.args.low k middle d c.index-ranked-middle.result c.requires (omega (arith, l))
          (omega (arith, less, inv.in_range)) c.index-ranked-middle.is (sym c.is_before_ranked.ensures ∙ c.if-is_before_ranked.false);
    }
