use Rattle.edit_transactions.proofs.Turns.{one_made, one_refused}
use Rattle.edit_transactions.proofs.transaction.a_transaction_of_one_is_its_edit.Goals as goal

pub returns-clause-entry : goal.returns-clause-entry
returns-clause-entry g c = λ state number clerk edit entry. one_made state number clerk edit entry

pub returns-clause-refusal : goal.returns-clause-refusal
returns-clause-refusal g c = λ state journal clerk edit place refusal. one_refused state journal clerk edit place refusal
