use Rattle.std.proofs.Common.{◌-◌, ◌<◌}
use Rattle.edge_chains.specs.own.Steps.{IsStep}
use Rattle.edge_chains.proofs.edges.OnSteps.{AreFoundSteps}
use Rattle.edge_chains.proofs.points.Points.inside.Given as goal

abbrev pub invariant-loop-done : goal.invariant-loop-done
invariant-loop-done g l = record {
  begun : 0 < l._done;
  at : IsStep l.fn.a l.steps.across l.steps.up (l._done - 1) l.corner;
  so_far : AreFoundSteps l.self-inside.places.keys l.fn.a l.steps.across l.steps.up (l._done - 1) l.found.items;
}
