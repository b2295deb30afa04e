use Rattle.std.proofs.Common.{refl}
use Rattle.ring_core.proofs.searches.Cores.{all_inside, holds_low}
use Rattle.ring_core.proofs.inner.core_of.Goals as goal

pub returns-in-Inside : goal.returns-in-Inside
returns-in-Inside c = λ corner held.
    let found = c.in-Some.found in
    all_inside found c.args.ring.now found.low (c.if-not-misses.ensures refl) (holds_low found corner held) c.in-Inside.ensures corner held
