-- A text that a sink takes piece by piece, where the sink keeps its laws.
use Rattle.std.proofs.Common.{◌≡◌, ℕ, List, [], ◌++◌, refl, ap, sym, ◌∙◌, subst, append_assoc, append-nil}

-- of the whole text a part is taken, and this is left
pub record IsUnderWay {S : Type 0} (takes : S → List ℕ → S → Type 0) (old new : S) (whole left : List ℕ) : Type 0 where
  pub done : List ℕ
  pub are_all : whole ≡ done ++ left
  pub taken : takes old done new

-- at first all is left
pub whole_left : {S : Type 0} (takes : S → List ℕ → S → Type 0) → ((s : S) → takes s [] s)
    → (old : S) (whole : List ℕ) → IsUnderWay takes old old whole whole
whole_left takes nothing old whole = record { done = []; are_all = refl; taken = nothing old }

-- the first piece of what is left is taken too
pub piece_passes : {S : Type 0} (takes : S → List ℕ → S → Type 0)
    → ((a b c : S) (first second : List ℕ) → takes a first b → takes b second c → takes a (first ++ second) c)
    → (old mid new : S) (whole left piece rest : List ℕ)
    → IsUnderWay takes old mid whole left → left ≡ piece ++ rest → takes mid piece new → IsUnderWay takes old new whole rest
piece_passes takes both old mid new whole left piece rest h e k = record {
  done = h.done ++ piece;
  are_all = h.are_all ∙ ap (λ t. h.done ++ t) e ∙ sym (append_assoc h.done piece rest);
  taken = both old mid new h.done piece h.taken k;
}

-- where nothing is left, the whole text is taken
pub none_left : {S : Type 0} (takes : S → List ℕ → S → Type 0) (old new : S) (whole left : List ℕ)
    → IsUnderWay takes old new whole left → left ≡ [] → takes old whole new
none_left takes old new whole left h e =
    subst (λ t. takes old t new) (sym (h.are_all ∙ ap (λ t. h.done ++ t) e ∙ append-nil h.done)) h.taken

-- where the next piece is broken off, so is the whole text
pub piece_breaks_off : {S : Type 0} (takes breaks_off : S → List ℕ → S → Type 0)
    → ((a b c : S) (first second : List ℕ) → takes a first b → breaks_off b second c → breaks_off a (first ++ second) c)
    → ((a b : S) (first second : List ℕ) → breaks_off a first b → breaks_off a (first ++ second) b)
    → (old mid new : S) (whole left piece rest : List ℕ)
    → IsUnderWay takes old mid whole left → left ≡ piece ++ rest → breaks_off mid piece new → breaks_off old whole new
piece_breaks_off takes breaks_off later before old mid new whole left piece rest h e k =
    subst (λ t. breaks_off old t new) (sym (h.are_all ∙ ap (λ t. h.done ++ t) e))
    (later old mid new h.done (piece ++ rest) h.taken (before mid new piece rest k))
