use Rattle.desk_lock.proofs.Behind.{shown_begins}
use Rattle.desk_lock.proofs.desk.Desk.use_invariant.Goals as goal

pub returns-clause-published : goal.returns-clause-published
returns-clause-published g c = rw (← c.self.view_is)
    (let own = c.self.inside in
    shown_begins g.J.Naming-1.office.origin own.fabric own.publisher.shown own.publisher.handed c.self.invariant.of_origin
    c.use_invariant-2.ensures c.self.invariant.handed_on)
