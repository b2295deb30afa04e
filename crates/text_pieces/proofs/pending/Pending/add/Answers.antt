use Rattle.std.proofs.Common.{◌≡◌, arith}
use Rattle.std.proofs.lemmas.Grind.{common_steps}
use Rattle.std.proofs.lemmas.Result.{err_from_is_err_and, on_err_weaker, on_ok_weaker}
use Rattle.text_pieces.specs.own.Gathering.{begins_more, begins_behind}
use Rattle.text_pieces.proofs.Puts.{passes_all}
use Rattle.text_pieces.proofs.pending.Pending.add.Goals as goal

pub returns-in_err-finish-clause-err : goal.returns-in_err-finish-clause-err
returns-in_err-finish-clause-err g c =
    let same : c.try_extend_from_slice.new.self.items ≡ c.args.self.now = grind (arith, common_steps) in
    let p = err_from_is_err_and c.from_residual.result c.from_residual.ensures.1 in
    rw (p.1, ← same) (begins_more _ _ c.try_extend_from_slice.new.self.items c.args.piece.now (c.in_err-finish.ensures.err))

pub returns-clause-ok : goal.returns-clause-ok
returns-clause-ok g c =
    let same : c.try_extend_from_slice.new.self.items ≡ c.args.self.now = grind (arith, common_steps) in
    on_ok_weaker c.put_all.result
    (λ h. rw (c.in_ok-finish.ensures.none_left, ← same)
    (passes_all _ _ _ c.try_extend_from_slice.new.self.items c.args.piece.now c.in_ok-finish.ensures.ok h))
    c.put_all.ensures.ok

pub returns-clause-err : goal.returns-clause-err
returns-clause-err g c =
    let same : c.try_extend_from_slice.new.self.items ≡ c.args.self.now = grind (arith, common_steps) in
    on_err_weaker c.put_all.result
    (λ h. rw (← same) (begins_behind _ _ _ c.try_extend_from_slice.new.self.items c.args.piece.now
    c.in_ok-finish.ensures.ok h)) c.put_all.ensures.err
