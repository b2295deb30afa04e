-- Beginnings of one list.
use Rattle.std.proofs.Common.{◌⊎◌, inl, inr, ◌+◌, subst, Some, slice_get, ◌≡◌, ◌≤◌, List, [], ◌∷◌, ◌++◌}
use Rattle.std.proofs.Common.{length, refl, ap, sym, ◌∙◌, arith, append_assoc, length-append}
use mathlib.Core.List.{IsPrefix}

-- each list begins with itself
pub begins_itself : {A : Type 0} (xs : List A) → IsPrefix xs xs
begins_itself [] = ([], refl)
begins_itself (x ∷ xs) = let r = begins_itself xs in (r.0, ap (λ ys. x ∷ ys) r.1)

-- what begins a beginning begins the whole
pub begins_whole : {A : Type 0} (xs ys zs : List A) → IsPrefix xs ys → IsPrefix ys zs → IsPrefix xs zs
begins_whole xs ys zs p q = (p.0 ++ q.0, sym (append_assoc xs p.0 q.0) ∙ (ap (λ w. w ++ q.0) p.1 ∙ q.1))

-- of two beginnings of one list the shorter begins the longer
pub begins_longer : {A : Type 0} (xs ys zs : List A) → IsPrefix xs zs → IsPrefix ys zs → length xs ≤ length ys → IsPrefix xs ys
begins_longer [] ys zs p q le = (ys, refl)
begins_longer (x ∷ xs) [] zs p q le = absurd (omega arith)
begins_longer (x ∷ xs) (y ∷ ys) [] p q le = absurd (cc (p.1))
begins_longer (x ∷ xs) (y ∷ ys) (z ∷ zs) p q le =
    let heads : x ≡ y = cc (p.1, q.1) in
    let rest = begins_longer xs ys zs (p.0, cc (p.1)) (q.0, cc (q.1)) (omega arith) in
    (rest.0, cc (heads, rest.1))

-- a beginning as long as the whole is the whole
pub is_whole : {A : Type 0} (xs ys : List A) → IsPrefix xs ys → length ys ≤ length xs → xs ≡ ys
is_whole [] [] p le = refl
is_whole [] (y ∷ ys) p le = absurd (omega arith)
is_whole (x ∷ xs) [] p le = absurd (cc (p.1))
is_whole (x ∷ xs) (y ∷ ys) p le = let rest = is_whole xs ys (p.0, cc (p.1)) (omega arith) in cc (p.1, rest)

-- a beginning is no longer than the whole
pub begins_shorter : {A : Type 0} (xs ys : List A) → IsPrefix xs ys → length xs ≤ length ys
begins_shorter xs ys p = omega (arith, sym (ap length p.1) ∙ length-append xs p.0)

-- of two beginnings, one of which is the whole, the one that is an entry longer ends the whole
pub longer_by_one : {A : Type 0} (xs ys zs before : List A) (x : A) → ys ≡ before ++ x ∷ [] → length ys ≡ length xs + 1
    → (zs ≡ xs) ⊎ (zs ≡ ys) → IsPrefix xs zs → IsPrefix ys zs → zs ≡ xs ++ x ∷ []
longer_by_one xs ys zs before x ends more (inl is) p q =
    absurd (omega (arith, begins_shorter ys zs q, ap length is, more))
longer_by_one xs ys zs before x ends more (inr is) p q =
    let begins : IsPrefix xs (before ++ x ∷ []) = subst (IsPrefix xs) (is ∙ ends) p in
    let same_length : length xs ≡ length before = omega (arith, ap length ends, length-append before (x ∷ []), more) in
    let same : xs ≡ before =
    is_whole xs before (begins_longer xs before (before ++ x ∷ []) begins (x ∷ [], refl) (omega (arith, same_length)))
    (omega (arith, same_length)) in
    is ∙ ends ∙ ap (λ w. w ++ x ∷ []) (sym same)

-- the next entry of the whole makes a beginning longer
pub next_begins : {A : Type 0} (xs ys : List A) (x : A) → IsPrefix xs ys → slice_get ys (length xs) ≡ Some x
    → IsPrefix (xs ++ x ∷ []) ys
next_begins [] [] x p h = absurd cc
next_begins [] (y ∷ ys) x p h = (ys, cc h)
next_begins (z ∷ xs) [] x p h = absurd (cc (p.1))
next_begins (z ∷ xs) (y ∷ ys) x p h = let rest = next_begins xs ys x (p.0, cc (p.1)) h in (rest.0, cc (p.1, rest.1))
