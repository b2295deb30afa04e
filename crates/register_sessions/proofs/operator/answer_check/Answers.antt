use Rattle.std.proofs.Common.{inl}
use Rattle.std.proofs.lemmas.Result.{on_ok_weaker}
use Rattle.register_sessions.proofs.operator.answer_check.Goals as goal

pub returns-in-Ok : goal.returns-in-Ok
returns-in-Ok g c = on_ok_weaker c.report_check.result
    (λ went. (went.0, inl (c.in-Ok.drawn.sheet, c.in-Ok.ensures.sheet, went.1), went.2))
    c.report_check.ensures
