use Rattle.std.proofs.Common.{◌∙◌}
use Rattle.fabric_core.proofs.tens.Kept.{one_indexed, all_indexed, left_here}
use Rattle.fabric_core.proofs.tiled.index_of.Goals as goal

pub entry_of-requires : goal.entry_of-requires
entry_of-requires g c =
    left_here c.args.parcels.now.parcels c.loop-id.index c.in-Some.id c.loop-id.id-iterator c.next.new.self c.in-Some.ensures.steps
    c.loop-id.invariant.indexed

pub loop-id-preserved : goal.loop-id-preserved
loop-id-preserved g c = record {
  area = c.add.ensures.area ∙ c.loop-id.invariant.area;
  indexed = one_indexed c.args.parcels.now.parcels c.loop-id.index c.add.new.self c.in-Some.id c.loop-id.id-iterator c.next.new.self
      c.entry_of.result c.in-Some.ensures.steps c.use_invariant.ensures.ascend c.entry_of.ensures
      (λ entries h. c.in_ok-add.ensures.ok entries h) c.loop-id.invariant.indexed;
}

pub returns-clause-indexed : goal.returns-clause-indexed
returns-clause-indexed g c =
    all_indexed c.args.parcels.now.parcels c.loop-id.index c.loop-id.id-iterator c.in-None.ensures.steps.0 c.loop-id.invariant.indexed
