use Rattle.std.proofs.Common.{rules, ◌≡◌, ◌∙◌, [], map, get_or, below_more, ap, sym, arith}
use Rattle.std.proofs.lemmas.List.{get_or-map, length-map}
use Rattle.overlay_work.proofs.Starts.{no_items}
use Rattle.overlay_work.proofs.Taken.{none_of_empty}
use Rattle.overlay_work.proofs.queues.Queues.are_empty.Goals as goal

pub loop-list-preserved : goal.loop-list-preserved
loop-list-preserved g c =
    below_more (λ at. get_or (map (λ list. list.now) c.as_slice-list-items.result.now) at [] ≡ []) c.loop-list.list-index
    c.loop-list.invariant (get_or-map (λ list. list.now) c.as_slice-list-items.result.now c.loop-list.list-index
    c.list-item.result [] c.loop-list-test.true ∙ ap (λ list. list.now) (sym c.list-item.is)
    ∙ no_items c.list-item.result.now (search (rules, c.if-not-is_empty.ensures)))

pub returns : goal.returns
returns g c = λ yes.
    let lists = map (λ list. list.now) c.as_slice-list-items.result.now in
    let long = length-map c.as_slice-list-items.result.now (λ list. list.now) in
    let empty = none_of_empty lists (λ at below. c.loop-list.invariant at (omega (arith, below, long, c.loop-list-test.false))) in
    rw (← c.self.view_is, ← c.as_slice-list-items.ensures.value) empty
