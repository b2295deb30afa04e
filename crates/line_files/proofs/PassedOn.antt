-- Answers that are passed on.
use Rattle.std.proofs.Common.{Option, None, Some, Result, Ok, Err}
use Rattle.std.specs.Option.{IfNone}
use Rattle.std.specs.Result.{IfErr}

-- what holds where there is no value, said otherwise
pub if_none : {X : Type 0} (r : Option X) (P Q : Type 0) → (P → Q) → IfNone r P → IfNone r Q
if_none None P Q f h = f h
if_none (Some x) P Q f h = tt

-- what holds anyhow holds where there is an error
pub of_err : {Y E : Type 0} (r : Result Y E) (P : Type 0) → P → IfErr r (λ _. P)
of_err (Ok y) P h = tt
of_err (Err e) P h = h
