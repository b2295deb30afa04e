use Rattle.std.proofs.Common.{sym, subst}
use Rattle.overlay_work.specs.Rounds.{WaitsForMemory}
use Rattle.overlay_work.proofs.Steps.{keeps_what_it_took}
use Rattle.overlay_work.proofs.hand.Hand.step.Goals as goal

pub returns-in-Err-clause-no_memory : goal.returns-in-Err-clause-no_memory
returns-in-Err-clause-no_memory g c = λ told.
    subst (WaitsForMemory c.args.self.now) (sym c.in-Err.ensures.err)
    (keeps_what_it_took c.args.self.now c.take.new.self c.in-Some.id c.in-Some.ensures.some)
