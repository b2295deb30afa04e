-- What follows from a refusal.
use Rattle.std.proofs.Common.{◌≡◌, ◌∙◌, ap, Result, Ok, Err}
use Rattle.std.specs.Result.{IsErrAnd, IsErrOf, IfOk}

pub IsErrAnd-weaker : {T E : Type 0} (r : Result T E) (P Q : E → Type 0) → ((e : E) → P e → Q e) → IsErrAnd r P → IsErrAnd r Q
IsErrAnd-weaker (Ok x) P Q w h = absurd h
IsErrAnd-weaker (Err e) P Q w h = w e h

-- two facts of one answer
pub IfOk-both : {T E : Type 0} (r : Result T E) (P Q S : T → Type 0) → ((x : T) → P x → Q x → S x) → IfOk r P
    → IfOk r Q → IfOk r S
IfOk-both (Ok x) P Q S w h k = w x h k
IfOk-both (Err e) P Q S w h k = tt

-- an error that is passed on is the one that is told
pub error_is : {T E : Type 0} (r : Result T E) (e told : E) → IsErrAnd r (λ f. f ≡ e) → e ≡ told → IsErrOf r told
error_is (Ok x) e told h k = absurd h
error_is (Err f) e told h k = ap Err (h ∙ k)
