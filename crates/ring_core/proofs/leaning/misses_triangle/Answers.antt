use Rattle.std.proofs.Common.{FitsSigned, rules, inl, inr}
use Rattle.geo_exact.specs.Point.{corner_point}
use Rattle.ring_core.proofs.searches.Cores.{held_is_not_beyond}
use Rattle.std.specs.Int.{w128}
use lib.IntN.{pos, ◌+ℤ◌, ◌-ℤ◌}
use Rattle.ring_core.proofs.clipping.HeldInside.{held_inside}
use Rattle.leaning_boxes.proofs.Held.{is_past, short_by_one}
use Rattle.ring_core.proofs.searches.LeaningBoxes.{above_itself, below_itself, one_more, turns_above, turns_below}
use Rattle.ring_core.proofs.leaning.misses_triangle.Goals as goal

pub returns-then-are_apart : goal.returns-then-are_apart
returns-then-are_apart c = λ _ q h inside.
    elim (c.are_apart.ensures c.if-are_apart.true (corner_point q)) [
      | inl o ↦ held_is_not_beyond c.args.bounds q (held_inside c.args.bounds c.args.triangle q c.requires inside) o
      | inr o ↦ held_is_not_beyond c.args.held.bounds q h.inside o
    ]

pub returns-then-are_below : goal.returns-then-are_below
returns-then-are_below c = λ _ q h inside.
    let box = c.args.held in let s = c.turn-s in let t = c.turn-t in let u = c.turn-u in
    let w = c.are_below.ensures c.if-are_below.true in
    let low : FitsSigned w128 box.low = search rules in
    below_itself box.low _ h.not_below (turns_below box.from box.to c.args.triangle q inside (box.low -ℤ pos 1)
    (short_by_one s.result box.low _ (record { sfits = s.type_inv }) low s.ensures.value w.0)
    (short_by_one t.result box.low _ (record { sfits = t.type_inv }) low t.ensures.value w.1)
    (short_by_one u.result box.low _ (record { sfits = u.type_inv }) low u.ensures.value w.2))

pub returns-then-are_above : goal.returns-then-are_above
returns-then-are_above c = λ _ q h inside.
    let box = c.args.held in let s = c.turn-s in let t = c.turn-t in let u = c.turn-u in
    let w = c.are_above.ensures c.if-are_above.true in
    let high : FitsSigned w128 box.high = search rules in
    above_itself box.high _ h.not_above (turns_above box.from box.to c.args.triangle q inside (box.high +ℤ pos 1)
    (one_more box.high _ (is_past s.result box.high _ (record { sfits = s.type_inv }) high s.ensures.value w.0))
    (one_more box.high _ (is_past t.result box.high _ (record { sfits = t.type_inv }) high t.ensures.value w.1))
    (one_more box.high _ (is_past u.result box.high _ (record { sfits = u.type_inv }) high u.ensures.value w.2)))

pub returns-then-closely : goal.returns-then-closely
returns-then-closely c = λ e q h inside. c.is_right_of_one.ensures e q h.inside inside
