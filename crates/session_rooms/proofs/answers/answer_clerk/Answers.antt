use Rattle.session_rooms.proofs.DeskAnswers.{same_window, learnt}
use Rattle.session_rooms.proofs.answers.answer_clerk.Goals as goal

pub returns-in_err-push_accepted-in-Ok-clause-window : goal.returns-in_err-push_accepted-in-Ok-clause-window
returns-in_err-push_accepted-in-Ok-clause-window g c =
    learnt c.args.window.now c.learn.new.window c.in-Ok.made.notice c.learn.ensures

pub returns-in_err-push_refused-in-Err-Refused-clause-window : goal.returns-in_err-push_refused-in-Err-Refused-clause-window
returns-in_err-push_refused-in-Err-Refused-clause-window g c = same_window c.args.window.now

pub returns-in_ok-push_accepted-in-Ok-clause-window : goal.returns-in_ok-push_accepted-in-Ok-clause-window
returns-in_ok-push_accepted-in-Ok-clause-window g c =
    learnt c.args.window.now c.learn.new.window c.in-Ok.made.notice c.learn.ensures

pub returns-in_err-push_error-in-Err-Journal-clause-window : goal.returns-in_err-push_error-in-Err-Journal-clause-window
returns-in_err-push_error-in-Err-Journal-clause-window g c = same_window c.args.window.now

pub returns-in_err-push_error-in-Err-NoMemory-clause-window : goal.returns-in_err-push_error-in-Err-NoMemory-clause-window
returns-in_err-push_error-in-Err-NoMemory-clause-window g c = same_window c.args.window.now
