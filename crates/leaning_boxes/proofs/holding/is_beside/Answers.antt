use Rattle.leaning_boxes.proofs.Besides.{is_less, left_of, right_of, under, over}
use Rattle.leaning_boxes.proofs.holding.is_beside.Goals as goal

pub returns-then-to-bounds : goal.returns-then-to-bounds
returns-then-to-bounds c = λ _ p on.
    let a = c.args.from in let b = c.args.to in let l = c.args.bounds.low in
    left_of c.args.bounds a b p on (is_less a.x l.x a.x_in_range l.x_in_range c.if-from-bounds.true)
    (is_less b.x l.x b.x_in_range l.x_in_range c.if-to-bounds.true)

pub returns-then-to-bounds-2 : goal.returns-then-to-bounds-2
returns-then-to-bounds-2 c = λ _ p on.
    let a = c.args.from in let b = c.args.to in let h = c.args.bounds.high in
    right_of c.args.bounds a b p on (is_less h.x a.x h.x_in_range a.x_in_range c.if-from-bounds-2.true)
    (is_less h.x b.x h.x_in_range b.x_in_range c.if-to-bounds-2.true)

pub returns-then-to-bounds-3 : goal.returns-then-to-bounds-3
returns-then-to-bounds-3 c = λ _ p on.
    let a = c.args.from in let b = c.args.to in let l = c.args.bounds.low in
    under c.args.bounds a b p on (is_less a.y l.y a.y_in_range l.y_in_range c.if-from-bounds-3.true)
    (is_less b.y l.y b.y_in_range l.y_in_range c.if-to-bounds-3.true)

pub returns-then-from-bounds-4 : goal.returns-then-from-bounds-4
returns-then-from-bounds-4 c = λ t p on.
    let a = c.args.from in let b = c.args.to in let h = c.args.bounds.high in
    over c.args.bounds a b p on (is_less h.y a.y h.y_in_range a.y_in_range c.if-from-bounds-4.true)
    (is_less h.y b.y h.y_in_range b.y_in_range t)
