use Rattle.std.proofs.Common.{◌≡◌, ◌++◌}
use Rattle.std.specs.Arc.{arc_value}
use Rattle.overlay_work.specs.own.Kept.{started, AreFresh}
use Rattle.overlay_work.proofs.round.hands_of.Given as goal

abbrev pub invariant-loop-claimant : goal.invariant-loop-claimant
invariant-loop-claimant g l = record {
  all_hands : l.hands.items ++ started (arc_value l.work) l.claimant-iterator.rest.items
      ≡ started (arc_value l.work) l.fn.claimants.items;
  are_fresh : AreFresh (arc_value l.work).claims l.claimant-iterator.rest.items;
}
