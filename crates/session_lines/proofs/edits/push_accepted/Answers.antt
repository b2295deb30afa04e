use Rattle.std.specs.Prelude.{◌++◌, codes}
use Rattle.std.specs.List.{flat_map}
use Rattle.fabric_core.specs.Rows.{numbers}
use Rattle.clerk_runs.specs.PlaceTexts.{id_text}
use Rattle.session_lines.specs.Answers.{out_text}
use Rattle.std.proofs.lemmas.Result.{err_from_is_err_and, on_err_weaker, on_ok_weaker}
use Rattle.session_lines.proofs.edits.push_accepted.Goals as goal

pub returns-in_err-push_out-clause-err : goal.returns-in_err-push_out-clause-err
returns-in_err-push_out-clause-err g c =
    let p = err_from_is_err_and c.from_residual.result c.from_residual.ensures.1 in
    let one = out_text c.args.entry.now ++ codes " new" in
    let two = one ++ flat_map id_text (numbers c.args.entry.now.rows) in
    rw (p.1)
    (g.met.S.Sink.breaks_off_before _ _ two _
    (g.met.S.Sink.breaks_off_before _ _ one _ c.in_err-push_out.ensures.err))

pub returns-in_err-push_row_ids-clause-err : goal.returns-in_err-push_row_ids-clause-err
returns-in_err-push_row_ids-clause-err g c =
    let p = err_from_is_err_and c.from_residual-in_err-push_row_ids.result
    c.from_residual-in_err-push_row_ids.ensures.1 in
    let one = out_text c.args.entry.now ++ codes " new" in
    let two = one ++ flat_map id_text (numbers c.args.entry.now.rows) in
    rw (p.1)
    (g.met.S.Sink.breaks_off_before _ _ two _
    (g.met.S.Sink.breaks_off_later _ _ _ one _ c.in_ok-push_out.ensures.ok (rw c.rows.ensures at c.in_err-push_row_ids.ensures.err)))

pub returns-clause-ok : goal.returns-clause-ok
returns-clause-ok g c =
    let one = out_text c.args.entry.now ++ codes " new" in
    let two = one ++ flat_map id_text (numbers c.args.entry.now.rows) in
    let to_two = g.met.S.Sink.takes_both _ _ _ one _ c.in_ok-push_out.ensures.ok (rw c.rows.ensures at c.in_ok-push_row_ids.ensures.ok) in
    on_ok_weaker c.push_piece.result (λ h. g.met.S.Sink.takes_both _ _ _ two _ to_two h) c.push_piece.ensures.ok

pub returns-clause-err : goal.returns-clause-err
returns-clause-err g c =
    let one = out_text c.args.entry.now ++ codes " new" in
    let two = one ++ flat_map id_text (numbers c.args.entry.now.rows) in
    let to_two = g.met.S.Sink.takes_both _ _ _ one _ c.in_ok-push_out.ensures.ok (rw c.rows.ensures at c.in_ok-push_row_ids.ensures.ok) in
    on_err_weaker c.push_piece.result (λ h. g.met.S.Sink.breaks_off_later _ _ _ two _ to_two h) c.push_piece.ensures.err
