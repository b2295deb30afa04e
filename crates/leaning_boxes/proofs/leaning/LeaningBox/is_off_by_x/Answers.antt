use Rattle.std.proofs.Common.{◌≡◌, ◌∙◌, sym, arith, FitsSigned, w64, pos}
use Rattle.std.specs.Int.{w128}
use Rattle.std.proofs.lemmas.Int.{ints, to_z-of_z}
use Rattle.geo_exact.specs.Turn.{turn}
use Rattle.geo_exact.proofs.corners_and_turns.TurnLaws.{turn_at_corner}
use Rattle.leaning_boxes.proofs.Rows.{rises_across}
use Rattle.leaning_boxes.proofs.leaning.LeaningBox.is_off_by_x.Goals as goal

pub returns : goal.returns
returns c = λ t corner h on.
    let box = c.args.self in let a = c.args.a in let b = c.args.b in
    let f1 : FitsSigned w64 a.x = omega (arith, ints) in
    let f2 : FitsSigned w64 b.x = omega (arith, ints) in
    let f3 : FitsSigned w64 box.bounds.low.x = omega (arith, ints) in
    let f4 : FitsSigned w64 box.bounds.high.x = omega (arith, ints) in
    let f5 : FitsSigned w128 box.low = omega (arith, ints) in
    let f6 : FitsSigned w128 box.high = omega (arith, ints) in
    let f7 : FitsSigned w128 c.turn.result = record { sfits = c.turn.type_inv } in
    let f8 : FitsSigned w128 c.turn-2.result = record { sfits = c.turn-2.type_inv } in
    let level : turn a b corner ≡ pos 0 = sym (turn_at_corner a b corner) ∙ on.on_line in
    let missed = c.passes_by.ensures t corner.x (turn box.from box.to corner) (rw to_z-of_z h.inside.west)
    (rw to_z-of_z h.inside.east) (rw to_z-of_z h.not_below) (rw to_z-of_z h.not_above) in
    (simp to_z-of_z at missed) (rw (c.turn.ensures.value, c.turn-2.ensures.value) (rises_across box.from box.to a b corner level))
