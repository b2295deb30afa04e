-- The places, notes and parts of all views, after one of them is exchanged.
use Rattle.std.proofs.Common.{◌≡◌, refl, sym, ◌∙◌, ap, subst, arith, ℕ, zero, suc, ◌+◌, ◌<◌, ◌≤◌, List, []}
use Rattle.std.proofs.Common.{◌∷◌, ◌++◌, length, set, append_assoc, append-nil}
use Rattle.std.specs.Prelude.{slice_index, sum_by, IsPermutation}
use Rattle.std.specs.List.{AllByRecursion}
use Rattle.std.proofs.lemmas.List.Sums.{sum_by-cons}
use Rattle.std.proofs.lemmas.List.Sorted.{IsPermutation-trans, IsPermutation-append_right, IsPermutation-append_left}
use Rattle.std.proofs.lemmas.List.Sorted.{IsPermutation-append_comm}
use mathlib.Core.Option.{some, some-ne-none, some-injective}
use lib.ListN.{get_elem?}
use Rattle.overlay_claims.specs.declared.view.View.{View}
use Rattle.overlay_claims.specs.Claims.{places_of, notes_of, parts_of, times, IsFit, IsClaimed}

module _ {X : Type 0} where
  -- two parts in front change places
  pub IsPermutation-swap_parts : (xs ys zs : List X) → IsPermutation (xs ++ (ys ++ zs)) (ys ++ (xs ++ zs))
  IsPermutation-swap_parts xs ys zs =
      subst (λ l. IsPermutation l (ys ++ (xs ++ zs))) (append_assoc xs ys zs)
      (subst (IsPermutation ((xs ++ ys) ++ zs)) (append_assoc ys xs zs) (IsPermutation-append_left zs (xs ++ ys)
      (ys ++ xs) (IsPermutation-append_comm xs ys)))

  pub all_at : (P : X → Type 0) (xs : List X) (i : ℕ) (x : X) → AllByRecursion P xs → get_elem? xs i ≡ some x → P x
  all_at P [] i x all at = absurd (some-ne-none x (sym at))
  all_at P (y ∷ xs) zero x all at = subst P (some-injective y x at) all.0
  all_at P (y ∷ xs) (suc i) x all at = all_at P xs i x all.1 at

  pub all_set : (P : X → Type 0) (xs : List X) (i : ℕ) (x : X) → AllByRecursion P xs → P x → AllByRecursion P (set xs i x)
  all_set P [] i x all new = tt
  all_set P (y ∷ xs) zero x all new = (new, all.1)
  all_set P (y ∷ xs) (suc i) x all new = (all.0, all_set P xs i x all.1 new)

  pub sum_set : (f : X → ℕ) (xs : List X) (i : ℕ) (x y : X) → get_elem? xs i ≡ some x → sum_by f (set xs i y) + f x
      ≡ sum_by f xs + f y
  sum_set f [] i x y at = absurd (some-ne-none x (sym at))
  sum_set f (z ∷ xs) zero x y at =
      let same : f z ≡ f x = ap f (some-injective z x at) in
      let old = sum_by-cons f z xs in
      let new = sum_by-cons f y xs in
      omega (arith, same, old, new)
  sum_set f (z ∷ xs) (suc i) x y at =
      let old = sum_by-cons f z xs in
      let new = sum_by-cons f z (set xs i y) in
      let rest = sum_set f xs i x y at in
      omega (arith, old, new, rest)

  pub at_in : (f : X → ℕ) (xs : List X) (i : ℕ) (x : X) → get_elem? xs i ≡ some x → f x ≤ sum_by f xs
  at_in f [] i x at = absurd (some-ne-none x (sym at))
  at_in f (z ∷ xs) zero x at = let same : f z ≡ f x = ap f (some-injective z x at) in let old = sum_by-cons f z xs in
      omega (arith, same, old)
  at_in f (z ∷ xs) (suc i) x at = let old = sum_by-cons f z xs in let rest = at_in f xs i x at in omega (arith, old, rest)

pub all_index : (P : ℕ → Type 0) (xs : List ℕ) (i : ℕ) → AllByRecursion P xs → i < length xs → P (slice_index xs i)
all_index P [] i all less = absurd (omega arith)
all_index P (x ∷ xs) zero all less = all.0
all_index P (x ∷ xs) (suc i) all less = all_index P xs i all.1 (omega arith)

-- a view's places, exchanged for another's
pub places_set : (views : List View) (i : ℕ) (v w : View) → get_elem? views i ≡ some v
    → IsPermutation (w.places ++ places_of views) (v.places ++ places_of (set views i w))
places_set [] i v w at = absurd (some-ne-none v (sym at))
places_set (x ∷ views) zero v w at =
    subst (λ (u : View). IsPermutation (w.places ++ (u.places ++ places_of views))
    (v.places ++ (w.places ++ places_of views))) (sym (some-injective x v at))
    (IsPermutation-swap_parts w.places v.places (places_of views))
places_set (x ∷ views) (suc i) v w at =
    IsPermutation-trans _ _ _ (IsPermutation-swap_parts w.places x.places (places_of views))
    (IsPermutation-trans _ _ _ (IsPermutation-append_right x.places _ _ (places_set views i v w at))
    (IsPermutation-swap_parts x.places v.places (places_of (set views i w))))

-- there are at most as many notes of a list as parts; and fewer, where one view has fewer
pub few_notes_in_all : (lengths : List ℕ) (list : ℕ) (views : List View) → AllByRecursion (IsFit lengths) views
    → notes_of list views ≤ parts_of views
few_notes_in_all lengths list [] fit = omega arith
few_notes_in_all lengths list (v ∷ views) fit =
    let notes = sum_by-cons (λ (view : View). times list view.notes) v views in
    let parts = sum_by-cons (λ (view : View). view.parts) v views in
    let here = fit.0.few_notes list in
    let rest = few_notes_in_all lengths list views fit.1 in
    omega (arith, notes, parts, here, rest)

pub fewer_notes : (lengths : List ℕ) (list : ℕ) (views : List View) (i : ℕ) (v : View)
    → AllByRecursion (IsFit lengths) views → get_elem? views i ≡ some v
    → times list v.notes < v.parts → notes_of list views < parts_of views
fewer_notes lengths list [] i v fit at less = absurd (some-ne-none v (sym at))
fewer_notes lengths list (x ∷ views) zero v fit at less =
    let notes = sum_by-cons (λ (view : View). times list view.notes) x views in
    let parts = sum_by-cons (λ (view : View). view.parts) x views in
    let here : times list x.notes < x.parts = subst (λ (u : View). times list u.notes < u.parts) (sym (some-injective x v at)) less in
    let rest = few_notes_in_all lengths list views fit.1 in
    omega (arith, notes, parts, here, rest)
fewer_notes lengths list (x ∷ views) (suc i) v fit at less =
    let notes = sum_by-cons (λ (view : View). times list view.notes) x views in
    let parts = sum_by-cons (λ (view : View). view.parts) x views in
    let here = fit.0.few_notes list in
    let rest = fewer_notes lengths list views i v fit.1 at less in
    omega (arith, notes, parts, here, rest)

-- where one view has all parts, the others have no places
pub no_other_places : (lengths : List ℕ) (views : List View) → AllByRecursion (IsFit lengths) views
    → parts_of views ≡ 0 → places_of views ≡ []
no_other_places lengths [] fit none = refl
no_other_places lengths (v ∷ views) fit none =
    let parts = sum_by-cons (λ (view : View). view.parts) v views in
    let rest = no_other_places lengths views fit.1 (omega (arith, parts, none)) in
    let here : v.places ≡ [] = fit.0.spent (omega (arith, parts, none)) in
    ap (λ l. l ++ places_of views) here ∙ rest

pub whole_places : (lengths : List ℕ) (views : List View) (i : ℕ) (v : View) → AllByRecursion (IsFit lengths) views
    → get_elem? views i ≡ some v
    → parts_of views ≤ v.parts → places_of views ≡ v.places
whole_places lengths [] i v fit at whole = absurd (some-ne-none v (sym at))
whole_places lengths (x ∷ views) zero v fit at whole =
    let parts = sum_by-cons (λ (view : View). view.parts) x views in
    let same : x.parts ≡ v.parts = ap (λ (u : View). u.parts) (some-injective x v at) in
    let rest = no_other_places lengths views fit.1 (omega (arith, parts, same, whole)) in
    ap (λ l. x.places ++ l) rest ∙ append-nil x.places ∙ ap (λ (u : View). u.places) (some-injective x v at)
whole_places lengths (x ∷ views) (suc i) v fit at whole =
    let parts = sum_by-cons (λ (view : View). view.parts) x views in
    let mine = at_in (λ (view : View). view.parts) views i v at in
    let here : x.places ≡ [] = fit.0.spent (omega (arith, parts, mine, whole)) in
    ap (λ l. l ++ places_of views) here ∙ whole_places lengths views i v fit.1 at (omega (arith, parts, whole))

-- a word is at most its list's length and the number of the hands
pub word_is_bounded : (lengths words : List ℕ) (views : List View) (list : ℕ) → IsClaimed lengths words views
    → slice_index words list ≤ slice_index lengths list + length lengths
word_is_bounded lengths words views list claimed =
    let bound = claimed.not_beyond list in
    let few = few_notes_in_all lengths list views claimed.fit in
    let whole = claimed.whole in
    omega (arith, bound, few, whole)
