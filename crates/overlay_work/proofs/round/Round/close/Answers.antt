use Rattle.std.proofs.Common.{subst}
use Rattle.overlay_work.specs.own.Gathered.{AreDone}
use Rattle.overlay_work.proofs.Faults.{none_is_a_fault}
use Rattle.overlay_work.proofs.round.Round.close.Goals as goal

pub returns-in_default-sorted_pairs-clause-refuses : goal.returns-in_default-sorted_pairs-clause-refuses
returns-in_default-sorted_pairs-clause-refuses g c = λ fault has.
    absurd (none_is_a_fault c.args.self c.args.hands.items fault
    (subst (λ l. AreDone c.args.self l) c.as_slice.ensures.value
    (subst (λ t. AreDone t c.as_slice.result.now) c.work.ensures c.in_default.ensures.ok)) has)

pub returns-clause-refuses : goal.returns-clause-refuses
returns-clause-refuses g c fault has =
    none_is_a_fault c.args.self c.args.hands.items fault
    (subst (λ l. AreDone c.args.self l) c.as_slice.ensures.value
    (subst (λ t. AreDone t c.as_slice.result.now) c.work.ensures c.in_default.ensures.ok)) has
