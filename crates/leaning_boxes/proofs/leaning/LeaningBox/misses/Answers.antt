use Rattle.std.proofs.Common.{FitsSigned, rules}
use Rattle.std.specs.Int.{w128}
use lib.IntN.{pos, ◌-ℤ◌}
use Rattle.leaning_boxes.proofs.Besides.{not_beyond}
use Rattle.leaning_boxes.proofs.Held.{is_past, one_less_below, short_by_one}
use Rattle.leaning_boxes.proofs.Parallels.{not_past}
use Rattle.leaning_boxes.proofs.leaning.LeaningBox.misses.Goals as goal

pub returns-then-is_beside : goal.returns-then-is_beside
returns-then-is_beside c = λ _ a b p ha hb on other. not_beyond c.args.self.bounds a b ha.inside hb.inside p on
    (c.is_beside.ensures c.if-is_beside.true p other)

pub returns-then-are_below : goal.returns-then-are_below
returns-then-are_below c = λ _ a b p ha hb on other.
    let box = c.args.self in let s = c.turn-s in let t = c.turn-t in
    let w = c.are_below.ensures c.if-are_below.true in
    let low : FitsSigned w128 box.low = search rules in
    not_past box.from box.to c.args.c c.args.d a b (box.low -ℤ pos 1) p other on
    (short_by_one s.result box.low _ (record { sfits = s.type_inv }) low s.ensures.value w.0)
    (short_by_one t.result box.low _ (record { sfits = t.type_inv }) low t.ensures.value w.1)
    (one_less_below box.low _ ha.not_below) (one_less_below box.low _ hb.not_below)

pub returns : goal.returns
returns c = λ e a b p ha hb on other.
    let box = c.args.self in let s = c.turn-s in let t = c.turn-t in
    let w = c.are_above.ensures e in
    let high : FitsSigned w128 box.high = search rules in
    not_past box.from box.to a b c.args.c c.args.d box.high p on other ha.not_above hb.not_above
    (is_past s.result box.high _ (record { sfits = s.type_inv }) high s.ensures.value w.0)
    (is_past t.result box.high _ (record { sfits = t.type_inv }) high t.ensures.value w.1)
