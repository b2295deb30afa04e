use Rattle.std.proofs.Common.{◌<◌, ◌∷◌, ◌∙◌, [], length, map, ap, subst, sym, arith}
use Rattle.std.specs.Prelude.{IsPermutation}
use Rattle.std.proofs.lemmas.List.{get_or-map, length-map, map-set}
use Rattle.overlay_work.specs.Sharing.{joined}
use Rattle.overlay_work.proofs.Taken.{taken_from_one}
use Rattle.overlay_work.proofs.queues.Queues.take.Goals as goal

pub returns-clause-some : goal.returns-clause-some
returns-clause-some g c =
    let items = c.self.inside.lists.items in let at = c.args.at in
    let lists = map (λ list. list.now) items in let first = c.in_ok-first.first.now in let rest = c.in_ok-first.rest in
    let below : at < length items = omega (arith, c.if-at-len.false, c.len.ensures) in
    let one = taken_from_one lists at first rest.now (omega (arith, length-map items (λ list. list.now), below))
    (get_or-map (λ list. list.now) items at c.index.result.now [] below ∙ ap (λ list. list.now) (sym c.index.ensures)
    ∙ (c.in_ok-first.ensures).cases.0) in
    rw (← c.self.view_is)
    (subst (λ l. IsPermutation (joined lists) (first ∷ joined l)) (sym (map-set (λ list. list.now) items at rest)) one)
