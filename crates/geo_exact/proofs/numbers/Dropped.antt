-- The items of a list from one on: the first of them, and the others; and lists that are filled up again.
use Rattle.std.proofs.Common.{◌≡◌, ℕ, ◌+◌, ◌<◌, List, ◌∷◌, ◌++◌, append-nil, length, drop, get_or, take, sym, ap, ◌∙◌, arith}
use Rattle.std.proofs.lemmas.List.{drop_all, drop_more, take_all}

-- what is left from item i on, where that item is known
pub drop_item : {X : Type 0} (xs : List X) (i : ℕ) (item : X) → i < length xs → item ≡ get_or xs i item
    → drop i xs ≡ item ∷ drop (i + 1) xs
drop_item xs i item h e = drop_more xs i item h ∙ ap (λ x. x ∷ drop (i + 1) xs) (sym e)

-- a list that is filled up from one as long
pub refilled : {X : Type 0} → (n : ℕ) (old new : List X) → n ≡ length old → length new ≡ length old
    → take n (new ++ drop (length new) old) ≡ new
refilled n old new h e =
    ap (λ l. take n (new ++ l)) (drop_all (length new) old (omega (arith, e))) ∙ ap (take n) (append-nil new)
    ∙ take_all n new (omega (arith, h, e))
