use Rattle.ring_core.proofs.searches.RightOfEdges.{down_left, down_right, high_as_passed, low_as_passed, up_left, up_right}
use Rattle.ring_core.proofs.searches.Sides.{at_most, not_at_most}
use Rattle.ring_core.proofs.boxes.leftmost.Goals as goal

pub returns-then-b-a-2 : goal.returns-then-b-a-2
returns-then-b-a-2 c = λ q h.
    let a = c.args.a in let b = c.args.b in let low = c.args.bounds.low in let high = c.args.bounds.high in
    up_right a b q _ _ (at_most a.x b.x a.x_in_range b.x_in_range c.if-b-a-2.true)
    (at_most a.y b.y a.y_in_range b.y_in_range c.if-b-a.true)
    (high_as_passed q.y high.y high.y_in_range h.north) (low_as_passed low.x q.x low.x_in_range h.west)

pub returns-then-b-a : goal.returns-then-b-a
returns-then-b-a c = λ q h.
    let a = c.args.a in let b = c.args.b in
    up_left a b q _ _ (not_at_most a.x b.x a.x_in_range b.x_in_range c.if-b-a-2.false)
    (at_most a.y b.y a.y_in_range b.y_in_range c.if-b-a.true) h.south h.west

pub returns-then-b-a-3 : goal.returns-then-b-a-3
returns-then-b-a-3 c = λ q h.
    let a = c.args.a in let b = c.args.b in
    down_right a b q _ _ (at_most a.x b.x a.x_in_range b.x_in_range c.if-b-a-3.true)
    (not_at_most a.y b.y a.y_in_range b.y_in_range c.if-b-a.false) h.north h.east

pub returns : goal.returns
returns c = λ q h.
    let a = c.args.a in let b = c.args.b in let low = c.args.bounds.low in let high = c.args.bounds.high in
    down_left a b q _ _ (not_at_most a.x b.x a.x_in_range b.x_in_range c.if-b-a-3.false)
    (not_at_most a.y b.y a.y_in_range b.y_in_range c.if-b-a.false)
    (low_as_passed low.y q.y low.y_in_range h.south) (high_as_passed q.x high.x high.x_in_range h.east)
