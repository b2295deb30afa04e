use Rattle.std.proofs.Common.{inl}
use Rattle.edit_transactions.proofs.transaction.edit_all.Goals as goal

pub returns-clause-exact : goal.returns-clause-exact
returns-clause-exact g c = λ p r first. (
  (c.in-Err.ensures.exact p r first).0,
  λ here needs. inl ((c.in-Err.ensures.exact p r first).1 here needs),
)
