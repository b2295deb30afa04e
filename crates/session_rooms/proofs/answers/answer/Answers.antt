use Rattle.session_rooms.proofs.Cards.{same_card_if}
use Rattle.session_rooms.proofs.DeskAnswers.{same_window}
use Rattle.session_rooms.proofs.answers.answer.Goals as goal

pub returns-in_err-push_error-in-Err-clause-card : goal.returns-in_err-push_error-in-Err-clause-card
returns-in_err-push_error-in-Err-clause-card g c = same_card_if c.args.chair.now.card

pub returns-in_err-push_error-in-Err-clause-window : goal.returns-in_err-push_error-in-Err-clause-window
returns-in_err-push_error-in-Err-clause-window g c = same_window c.args.chair.now.window

pub returns-in_ok-push_error-in-Err-clause-card : goal.returns-in_ok-push_error-in-Err-clause-card
returns-in_ok-push_error-in-Err-clause-card g c = same_card_if c.args.chair.now.card

pub returns-in_ok-push_error-in-Err-clause-window : goal.returns-in_ok-push_error-in-Err-clause-window
returns-in_ok-push_error-in-Err-clause-window g c = same_window c.args.chair.now.window
