use Rattle.std.proofs.Common.{sym, subst, inl, inr, refl, Some}
use Rattle.std.proofs.lemmas.Result.{on_ok_weaker}
use Rattle.session_lines.specs.Answers.{error_line, fault_text}
use Rattle.register_sessions.proofs.operator.answer_free_export.Goals as goal

pub returns-in-Some : goal.returns-in-Some
returns-in-Some g c =
    let found = rw c.in-Some.is at c.in_ok-why.ensures in
    on_ok_weaker c.push_failure.result
    (λ e. (
      error_line c.as_str.result.now,
      inl (record {
        why = c.as_str.result.now;
        is_found = subst (λ why. g.P.Exports.finds c.args.disk.now c.args.base.now (Some why)) (sym c.as_str.ensures.value) found;
        is_told = refl;
      }),
      e,
    ))
    c.push_failure.ensures.ok

pub returns-in-Ok : goal.returns-in-Ok
returns-in-Ok g c =
    let found = rw c.in-None.is at c.in_ok-why.ensures in
    on_ok_weaker c.report_export.result
    (λ went. (
      went.0,
      inr (found, inl (record { sheet = c.in-Ok.drawn.sheet; is_sheet = c.in-Ok.ensures.sheet; is_exported = went.1 })),
      went.2,
    ))
    c.report_export.ensures

pub returns-in-Err : goal.returns-in-Err
returns-in-Err g c =
    let found = rw c.in-None.is at c.in_ok-why.ensures in
    on_ok_weaker c.push_error.result
    (λ e. (error_line (fault_text c.in-Err.fault), inr (found, inr (c.in-Err.fault, c.in-Err.ensures.fault, refl)), e))
    c.push_error.ensures.ok
