use Rattle.std.proofs.Common.{◌∙◌, subst, slice_index_or}
use mathlib.Core.List.{IsPrefix}
use Rattle.desk_lock.proofs.Clerks.{known_of, all_of}
use Rattle.desk_lock.proofs.desk.Desk.compare.Goals as goal

pub returns-clause-agree : goal.returns-clause-agree
returns-clause-agree g c = rw (← c.self.view_is) (λ k d less.
    (c.recall_all.ensures.known k d less).has_all
    ∙ known_of g.J.Naming-1.office c.self.inside.fabric c.self.inside.keeper c.self.inside.publisher.handed c.self.inside.opened_with
    c.self.invariant (slice_index_or c.args.cards.now k d).clerk)

pub returns-clause-met : goal.returns-clause-met
returns-clause-met g c = rw (← c.self.view_is) (λ k d less.
    subst (IsPrefix (slice_index_or c.args.cards.now k d).met)
    (all_of g.J.Naming-1.office c.self.inside.fabric c.self.inside.keeper c.self.inside.publisher.handed c.self.inside.opened_with
    c.self.invariant)
    (c.recall_all.ensures.known k d less).has_met)
