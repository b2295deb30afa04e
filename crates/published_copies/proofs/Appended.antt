-- Entries that are absorbed one after the other stand behind those before.
use Rattle.std.proofs.Common.{◌≡◌, sym, ◌∙◌, ap, List, [], ◌∷◌, ◌++◌, fold, append_assoc, Option, None}
use Rattle.std.proofs.lemmas.List.{append-nil}
use Rattle.published_copies.specs.own.Keeping.{waiting_list}

fold_appends : {E : Type 0} (xs ys : List E) → fold (λ entries entry. entries ++ entry ∷ []) xs ys ≡ xs ++ ys
fold_appends xs [] = sym (append-nil xs)
fold_appends xs (y ∷ ys) = fold_appends (xs ++ y ∷ []) ys ∙ append_assoc xs (y ∷ []) ys

-- the copy that was shown, with what was pending and the entry that waited, has all that was handed on
pub shows_all : {E : Type 0} (old pending front shown given now : List E) (waiting : Option E)
    → (old ++ pending) ++ waiting_list waiting ≡ front
    → shown ≡ old → given ≡ pending ++ waiting_list waiting
    → now ≡ fold (λ entries entry. entries ++ entry ∷ []) shown given → now ≡ front
shows_all old pending front shown given now waiting all same is folds =
    folds ∙ fold_appends shown given ∙ ap (λ xs. xs ++ given) same ∙ ap (λ xs. old ++ xs) is
    ∙ sym (append_assoc old pending (waiting_list waiting)) ∙ all

-- then nothing is pending
pub nothing_left : {E : Type 0} (now pending front : List E) (waiting : Option E) → now ≡ front → pending ≡ [] → waiting ≡ None
    → (now ++ pending) ++ waiting_list waiting ≡ front
nothing_left now pending front waiting is none gone =
    ap (λ w. (now ++ pending) ++ waiting_list w) gone ∙ append-nil (now ++ pending) ∙ ap (λ xs. now ++ xs) none
    ∙ append-nil now ∙ is
