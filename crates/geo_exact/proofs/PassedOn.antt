-- An error that a `?` passes on as it is.
use Rattle.std.proofs.Common.{◌≡◌, ◌∙◌, Result, Ok, Err, subst, sym}
use Rattle.std.specs.Result.{IsErrAnd, IsErrOf, IfOk, IfErr, MatchResult}

-- what holds of the call's error holds of the answer's
pub passed_on : {Y E : Type 0} (answer : Result Y E) (e : E) (P : E → Type 0) → IsErrAnd answer (λ y. y ≡ e) → P e
    → IsErrAnd answer P
passed_on (Ok y) e P h k = absurd h
passed_on (Err y) e P h k = subst P (sym h) k

-- the same, where the answer need not be an error
pub passed_if : {Y E : Type 0} (answer : Result Y E) (e : E) (P : E → Type 0) → IsErrAnd answer (λ y. y ≡ e) → P e
    → IfErr answer P
passed_if (Ok y) e P h k = absurd h
passed_if (Err y) e P h k = subst P (sym h) k

-- the same, where something else holds of a value
pub passed_match : {Y E : Type 0} (answer : Result Y E) (e : E) (P : Y → Type 0) (Q : E → Type 0)
    → IsErrAnd answer (λ y. y ≡ e) → Q e → MatchResult answer P Q
passed_match (Ok y) e P Q h k = absurd h
passed_match (Err y) e P Q h k = subst Q (sym h) k

-- what holds of what the error becomes
pub passed_as : {Y F : Type 0} (answer : Result Y F) (told P : F → Type 0) → IsErrAnd answer told
    → ((f : F) → told f → P f) → IfErr answer P
passed_as (Ok y) told P h k = absurd h
passed_as (Err f) told P h k = k f h

-- the error is the one that was passed on
pub passed_is : {Y E : Type 0} (answer : Result Y E) (e o : E) → IsErrAnd answer (λ y. y ≡ e) → IsErrOf answer o → e ≡ o
passed_is (Ok y) e o h k = absurd h
passed_is (Err y) e o h k = let same : y ≡ o = cc in sym h ∙ same

-- what holds of a value holds of it in other words
pub ok_more : {Y E : Type 0} (P Q : Y → Type 0) (answer : Result Y E) → ((y : Y) → P y → Q y) → IfOk answer P → IfOk answer Q
ok_more P Q (Ok y) more h = more y h
ok_more P Q (Err e) more h = tt
