use Rattle.std.proofs.Common.{arith, sym, ◌∙◌}
use Rattle.std.proofs.lemmas.Bool.{false≢true}
use Rattle.std.proofs.lemmas.Int.{ints, clamps}
use Rattle.leaning_boxes.proofs.leaning.LeaningBox.is_off.Goals as goal

pub returns-then-not-edge_boxes_meet : goal.returns-then-not-edge_boxes_meet
returns-then-not-edge_boxes_meet c = λ _ corner h on.
    let box = c.args.self.bounds in
    let met = c.edge_boxes_meet.ensures.1 (
      (omega (arith, ints, clamps, h.inside.west, on.to_x), omega (arith, ints, clamps, h.inside.east, on.from_x)),
      (omega (arith, ints, clamps, h.inside.south, on.to_y), omega (arith, ints, clamps, h.inside.north, on.from_y)),
    ) in
    false≢true (sym c.if-not-edge_boxes_meet.true ∙ met)
