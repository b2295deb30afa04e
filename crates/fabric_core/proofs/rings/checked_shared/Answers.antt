use Rattle.std.proofs.Common.{◌⊎◌, sym, subst, IfErr}
use Rattle.fabric_core.specs.Faults.{IsOutOfMemory}
use Rattle.fabric_core.specs.own.Checks.{IsToldOfRings}
use Rattle.fabric_core.specs.own.Lists.{numbered_rows}
use Rattle.fabric_core.proofs.rings.checked_shared.Goals as goal

pub returns-in-First-clause-err : goal.returns-in-First-clause-err
returns-in-First-clause-err g c =
    subst (λ asked. IfErr c.first_shared.result (λ refusal.
    IsToldOfRings asked (numbered_rows c.args.numbers.now c.args.rings.items) refusal ⊎ IsOutOfMemory refusal))
    (sym c.in-First.is) c.first_shared.ensures.err
