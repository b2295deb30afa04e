use Rattle.std.proofs.Common.{◌∙◌, sym}
use Rattle.session_rooms.proofs.Recorded.{recorded}
use Rattle.session_rooms.proofs.Rooms.{if_never, if_no_line_never, of_value}
use Rattle.session_rooms.proofs.room.Room.enter_and_record.Goals as goal

pub returns-in-Err-clause-broken : goal.returns-in-Err-clause-broken
returns-in-Err-clause-broken g c = if_never c.in-Err.fault _ c.in-Err.ensures.no_journal

pub returns-clause-recorded : goal.returns-clause-recorded
returns-clause-recorded g c =
    let added = c.add.ensures in
    let is_ok = c.if-is_err.ensures.value in
    let same = sym c.in-Ok.ensures.drafted.number ∙ sym c.number-2.ensures ∙ sym c.if-number.false ∙ c.number.ensures in
    let whole = of_value c.add.result _ is_ok added.whole in
    recorded c.args.writer.now c.add.new.self c.in-Ok.draft _ _ c.in-Ok-enter.entry c.in-Ok.ensures.drafted
    (sym c.in-Ok-enter.ensures.edit) c.in-Ok.ensures.before same (c.clerk.ensures ∙ sym c.in-Ok-enter.ensures.clerk)
    (of_value c.add.result _ is_ok added.bytes) (of_value c.add.result _ is_ok added.next)
    (of_value c.add.result _ is_ok added.records) (of_value c.add.result _ is_ok added.seal)
    (of_value c.add.result _ is_ok added.layer) added.file (whole.1 ∙ sym whole.0)

pub returns-in-Err-clause-unasked : goal.returns-in-Err-clause-unasked
returns-in-Err-clause-unasked g c = if_no_line_never c.in-Err.fault _ c.in-Err.ensures.asked

pub returns-in-Err-clause-unkept : goal.returns-in-Err-clause-unkept
returns-in-Err-clause-unkept g c = if_never c.in-Err.fault _ c.in-Err.ensures.no_journal
