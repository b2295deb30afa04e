use Rattle.desk_lock.specs.declared.opening.TheConstants.{MOST_PLACES}
use Rattle.desk_lock.proofs.Clerks.{keeps_first}
use Rattle.desk_lock.proofs.office.assemble.Goals as goal

pub invariant_of-new : goal.invariant_of-new
invariant_of-new g c = rw (c.requires.publisher, c.journal-opened_with.ensures)
    (keeps_first g.J.Naming-1.office c.args.fabric c.args.parts.keeper c.args.clerks MOST_PLACES c.requires.clerks c.requires.origin
    c.requires.keeper)
