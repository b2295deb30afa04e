-- Ids that are dealt to workers one by one.
use Rattle.std.proofs.Common.{◌≡◌, refl, sym, subst, arith, ℕ, zero, suc, ◌<◌, List, [], ◌∷◌, ◌++◌, map, length}
use Rattle.std.proofs.Common.{append_assoc, length-append, get_or, slice_set}
use Rattle.std.specs.Prelude.{IsPermutation}
use Rattle.std.proofs.lemmas.List.Sorted.{IsPermutation-refl, IsPermutation-sym, IsPermutation-trans}
use Rattle.std.proofs.lemmas.List.Sorted.{IsPermutation-append, IsPermutation-to_front}
use Rattle.overlay_work.specs.Sharing.{joined}
use Rattle.overlay_work.specs.Rounds.{Task, fresh, fresh_hands}

-- an id behind one of the lists stands, in some order, behind all
pub one_more : {X : Type 0} (f : X → List ℕ) (xs : List X) (k : ℕ) (x d : X) (id : ℕ) → k < length xs
    → f x ≡ f (get_or xs k d) ++ id ∷ []
    → IsPermutation (joined (map f (slice_set xs k x))) (joined (map f xs) ++ id ∷ [])
one_more f [] k x d id less is = absurd (omega (arith, less))
one_more f (first ∷ xs) zero x d id less is =
    let list = f first in
    let all = joined (map f xs) in
    let moved : IsPermutation (list ++ id ∷ all) (list ++ (all ++ id ∷ [])) =
    IsPermutation-append _ _ _ _ (IsPermutation-refl list) (IsPermutation-sym _ _ (IsPermutation-to_front all id)) in
    let behind : IsPermutation ((list ++ id ∷ []) ++ all) ((list ++ all) ++ id ∷ []) =
    subst (λ l. IsPermutation l ((list ++ all) ++ id ∷ [])) (sym (append_assoc list (id ∷ []) all))
    (subst (IsPermutation (list ++ id ∷ all)) (sym (append_assoc list all (id ∷ []))) moved) in
    subst (λ l. IsPermutation (l ++ all) ((list ++ all) ++ id ∷ [])) (sym is) behind
one_more f (first ∷ xs) (suc k) x d id less is =
    subst (IsPermutation (f first ++ joined (map f (slice_set xs k x)))) (sym (append_assoc (f first) (joined (map f xs)) (id ∷ [])))
    (IsPermutation-append _ _ _ _ (IsPermutation-refl (f first)) (one_more f xs k x d id (omega (arith, less)) is))

-- what is left to deal stays behind all that is dealt
pub dealt_more : (ids old new rest : List ℕ) (id : ℕ) → IsPermutation (old ++ id ∷ rest) ids
    → IsPermutation new (old ++ id ∷ [])
    → IsPermutation (new ++ rest) ids
dealt_more ids old new rest id all more =
    IsPermutation-trans _ _ _ (IsPermutation-append _ _ _ _ more (IsPermutation-refl rest))
    (subst (λ l. IsPermutation l ids) (sym (append_assoc old (id ∷ []) rest)) all)

-- there are as many hands as were made
pub length_fresh_hands : (task : Task) (n : ℕ) → length (fresh_hands task n) ≡ n
length_fresh_hands task zero = refl
length_fresh_hands task (suc n) =
    let both = length-append (fresh_hands task n) (fresh task n ∷ []) in
    let rest = length_fresh_hands task n in
    omega (arith, both, rest)
