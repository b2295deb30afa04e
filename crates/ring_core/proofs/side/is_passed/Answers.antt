use Rattle.leaning_boxes.proofs.Besides.{is_less}
use Rattle.ring_core.proofs.searches.Sides.{passed_below, passed_above}
use Rattle.ring_core.proofs.side.is_passed.Goals as goal

pub returns-then-from-place : goal.returns-then-from-place
returns-then-from-place c = λ t.
    let a = c.args.from in let b = c.args.to in let p = c.args.place in
    passed_below a b p (is_less a.y p.y a.y_in_range p.y_in_range c.if-from-place.true) (is_less b.y p.y b.y_in_range p.y_in_range t)

pub returns-then-from-place-2 : goal.returns-then-from-place-2
returns-then-from-place-2 c = λ t.
    let a = c.args.from in let b = c.args.to in let p = c.args.place in
    passed_above a b p (is_less p.y a.y p.y_in_range a.y_in_range c.if-from-place-2.true) (is_less p.y b.y p.y_in_range b.y_in_range t)
