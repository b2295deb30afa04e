-- What the words claim of lists: nothing at first, one place more where a word below a list's length is raised, and
-- no other place where it is not below.
use Rattle.std.proofs.Common.{◌≡◌, refl, sym, ◌∙◌, ap, subst, arith, ℕ, zero, suc, ◌+◌, ◌<◌, ◌≤◌, min, List, []}
use Rattle.std.proofs.Common.{◌∷◌, ◌++◌, length, length-append}
use Rattle.std.specs.Prelude.{slice_index, slice_set, sum_by, replicate, IsPermutation}
use Rattle.std.proofs.lemmas.List.Sums.{sum_by-cons}
use Rattle.std.proofs.lemmas.List.Sorted.{IsPermutation-refl, IsPermutation-sym, IsPermutation-trans}
use Rattle.std.proofs.lemmas.List.Sorted.{IsPermutation-append_right, IsPermutation-middle}
use Rattle.overlay_claims.specs.Claims.{places_below, all_places, claimed_places}

pub none_claimed : (first : ℕ) (lengths : List ℕ) → claimed_places first lengths (replicate (length lengths) 0) ≡ []
none_claimed first [] = refl
none_claimed first (n ∷ lengths) =
    let none : min 0 n ≡ 0 = omega arith in
    ap (λ m. places_below first m ++ claimed_places (suc first) lengths (replicate (length lengths) 0)) none
    ∙ none_claimed (suc first) lengths

-- a place more in front of a part
behind : (A : List (ℕ × ℕ)) (x : ℕ × ℕ) (C D : List (ℕ × ℕ)) → IsPermutation (x ∷ C) D
    → IsPermutation (x ∷ (A ++ C)) (A ++ D)
behind A x C D p = IsPermutation-trans _ _ _ (IsPermutation-sym _ _ (IsPermutation-middle A x C))
    (IsPermutation-append_right A (x ∷ C) D p)

pub one_more_claimed : (first : ℕ) (lengths words : List ℕ) (i : ℕ) → length words ≡ length lengths
    → slice_index words i < slice_index lengths i
    → IsPermutation ((first + i, slice_index words i) ∷ claimed_places first lengths words)
    (claimed_places first lengths (slice_set words i (slice_index words i + 1)))
one_more_claimed first [] words i same less = absurd (omega arith)
one_more_claimed first (n ∷ lengths) [] i same less = absurd (omega arith)
one_more_claimed first (n ∷ lengths) (w ∷ words) zero same less =
    let rest = claimed_places (suc first) lengths words in
    let now : min w n ≡ w = omega arith in
    let then : min (w + 1) n ≡ suc w = omega arith in
    let at : first + 0 ≡ first = omega arith in
    subst (λ k. IsPermutation ((k, w) ∷ (places_below first (min w n) ++ rest)) (places_below first (min (w + 1) n) ++ rest)) (sym at)
    (subst (λ m. IsPermutation ((first, w) ∷ (places_below first m ++ rest)) (places_below first (min (w + 1) n) ++ rest)) (sym now)
    (subst (λ m. IsPermutation ((first, w) ∷ (places_below first w ++ rest)) (places_below first m ++ rest)) (sym then)
    (IsPermutation-refl ((first, w) ∷ (places_below first w ++ rest)))))
one_more_claimed first (n ∷ lengths) (w ∷ words) (suc i) same less =
    let at : suc first + i ≡ first + suc i = omega arith in
    let shorter : length words ≡ length lengths = omega arith in
    behind (places_below first (min w n)) (first + suc i, slice_index words i) (claimed_places (suc first) lengths words)
    (claimed_places (suc first) lengths (slice_set words i (slice_index words i + 1)))
    (subst (λ k. IsPermutation ((k, slice_index words i) ∷ claimed_places (suc first) lengths words)
    (claimed_places (suc first) lengths (slice_set words i (slice_index words i + 1)))) at
    (one_more_claimed (suc first) lengths words i shorter less))

pub no_more_claimed : (first : ℕ) (lengths words : List ℕ) (i : ℕ) → slice_index lengths i ≤ slice_index words i
    → claimed_places first lengths (slice_set words i (slice_index words i + 1)) ≡ claimed_places first lengths words
no_more_claimed first [] words i more = refl
no_more_claimed first (n ∷ lengths) [] i more = refl
no_more_claimed first (n ∷ lengths) (w ∷ words) zero more =
    let same : min (w + 1) n ≡ min w n = omega arith in
    ap (λ m. places_below first m ++ claimed_places (suc first) lengths words) same
no_more_claimed first (n ∷ lengths) (w ∷ words) (suc i) more =
    ap (λ l. places_below first (min w n) ++ l) (no_more_claimed (suc first) lengths words i more)

pub all_claimed : (first : ℕ) (lengths words : List ℕ) → length words ≡ length lengths
    → ((i : ℕ) → i < length lengths → slice_index lengths i ≤ slice_index words i)
    → claimed_places first lengths words ≡ all_places first lengths
all_claimed first [] words same ends = refl
all_claimed first (n ∷ lengths) [] same ends = absurd (omega arith)
all_claimed first (n ∷ lengths) (w ∷ words) same ends =
    let here : n ≤ w = ends 0 (omega arith) in
    let all : min w n ≡ n = omega arith in
    ap (λ m. places_below first m ++ claimed_places (suc first) lengths words) all
    ∙ ap (λ l. places_below first n ++ l) (all_claimed (suc first) lengths words (omega arith) (λ i h. ends (suc i) (omega arith)))

length-places_below : (list n : ℕ) → length (places_below list n) ≡ n
length-places_below list zero = refl
length-places_below list (suc n) = ap suc (length-places_below list n)

pub few_claimed : (first : ℕ) (lengths words : List ℕ) → length (claimed_places first lengths words) ≤ sum_by (λ n. n) lengths
few_claimed first [] words = omega arith
few_claimed first (n ∷ lengths) [] = omega arith
few_claimed first (n ∷ lengths) (w ∷ words) =
    let both = length-append (places_below first (min w n)) (claimed_places (suc first) lengths words) in
    let front = length-places_below first (min w n) in
    let rest = few_claimed (suc first) lengths words in
    let whole = sum_by-cons (λ n. n) n lengths in
    omega (arith, both, front, rest, whole)
