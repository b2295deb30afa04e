use Rattle.std.proofs.Common.{inr}
use Rattle.std.proofs.lemmas.Result.{on_ok_weaker}
use Rattle.register_sessions.proofs.operator.answer_export.Goals as goal

pub returns-in-None : goal.returns-in-None
returns-in-None g c =
    let free = rw c.in-None.is at c.in_ok-path.ensures in
    on_ok_weaker c.answer_free_export.result
    (λ went. (went.0, inr (free, went.1), went.2))
    c.answer_free_export.ensures
