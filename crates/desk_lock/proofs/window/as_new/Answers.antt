use Rattle.std.proofs.Common.{◌≡◌, ◌≤◌, ◌<◌, List, sym, subst, ◌∙◌, length, MatchBool}
use Rattle.desk_lock.proofs.Behind.{becomes}
use Rattle.desk_lock.proofs.window.as_new.Goals as goal

pub returns-clause-entered : goal.returns-clause-entered
returns-clause-entered g c =
    let old = c.args.front.now in
    let same : c.front.result.now ≡ c.front-2.result.now = cc (c.front.ensures, c.deref.ensures, c.deref-2.ensures, c.front-2.ensures) in
    let not_older : length old ≤ length c.front.result.now =
    subst (λ b. MatchBool b (length c.front.result.now < length old) (length old ≤ length c.front.result.now)) c.if-is_older.false
    c.is_older.ensures in
    sym (c.front-2.ensures ∙ c.deref-2.ensures)
    ∙ sym (becomes old c.front-2.result.now c.learn.new.self c.learn.ensures.one c.learn.ensures.that
    (subst (λ (l : List _). length old ≤ length l) same not_older))
