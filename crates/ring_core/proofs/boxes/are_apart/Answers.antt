use Rattle.std.proofs.Common.{inl, inr, ⊎_elim}
use Rattle.leaning_boxes.proofs.Besides.{is_less}
use Rattle.ring_core.proofs.searches.Cores.{apart_across, apart_up}
use Rattle.ring_core.proofs.boxes.are_apart.Goals as goal

pub returns-then-one-other : goal.returns-then-one-other
returns-then-one-other c = λ _ p.
    let h = c.args.one.high in let l = c.args.other.low in
    apart_across c.args.one c.args.other p (is_less h.x l.x h.x_in_range l.x_in_range c.if-one-other.true)

pub returns-then-other-one : goal.returns-then-other-one
returns-then-other-one c = λ _ p.
    let h = c.args.other.high in let l = c.args.one.low in
    ⊎_elim (λ q. inr q) (λ q. inl q)
    (apart_across c.args.other c.args.one p (is_less h.x l.x h.x_in_range l.x_in_range c.if-other-one.true))

pub returns-then-one-other-2 : goal.returns-then-one-other-2
returns-then-one-other-2 c = λ t p.
    let h = c.args.one.high in let l = c.args.other.low in
    apart_up c.args.one c.args.other p (is_less h.y l.y h.y_in_range l.y_in_range t)

pub returns-else-one-other-2 : goal.returns-else-one-other-2
returns-else-one-other-2 c = λ t p.
    let h = c.args.other.high in let l = c.args.one.low in
    ⊎_elim (λ q. inr q) (λ q. inl q) (apart_up c.args.other c.args.one p (is_less h.y l.y h.y_in_range l.y_in_range t))
