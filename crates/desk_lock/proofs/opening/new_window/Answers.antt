use Rattle.desk_lock.proofs.Behind.{first_window}
use Rattle.desk_lock.proofs.opening.new_window.Goals as goal

pub returns-clause-fresh : goal.returns-clause-fresh
returns-clause-fresh g c =
    first_window g.J.Naming-1.office.origin c.again-front.result (cc (c.again-front.ensures, c.front.ensures, c.requires))
