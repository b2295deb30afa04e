use Rattle.std.proofs.Common.{inl}
use Rattle.std.proofs.lemmas.Result.{on_ok_weaker}
use Rattle.register_sessions.proofs.operator.answer_zones.Goals as goal

pub returns-in-Ok-clause-answered : goal.returns-in-Ok-clause-answered
returns-in-Ok-clause-answered g c = on_ok_weaker c.report_zones.result
    (λ told. inl (c.in-Ok.drawn.sheet, c.in-Ok.ensures.sheet, told))
    c.report_zones.ensures.answered
