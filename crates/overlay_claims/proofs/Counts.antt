-- Two lists that have each element as often are the same in some order; and what stands before both of such lists may be left out.
use Rattle.std.proofs.Common.{◌≡◌, refl, sym, ◌∙◌, ap, subst, arith, ℕ, ◌+◌, ◌<◌, Bool, true, false, cond, List, []}
use Rattle.std.proofs.Common.{◌∷◌, ◌++◌}
use Rattle.std.specs.Prelude.{count_by, IsPermutation}
use Rattle.std.proofs.lemmas.List.Sums.{sum_by-append, sum_by-cons}
use Rattle.std.proofs.lemmas.List.Sorted.{IsPermutation-refl, IsPermutation-sym, IsPermutation-trans}
use Rattle.std.proofs.lemmas.List.Sorted.{IsPermutation-cons, IsPermutation-middle, sum_by-IsPermutation}

pub by_test : {P : Type 0} (b : Bool) → (b ≡ true → P) → (b ≡ false → P) → P
by_test true when_true when_false = when_true refl
by_test false when_true when_false = when_false refl

module _ {X : Type 0} (eq : X → X → Bool) (same : (x y : X) → eq x y ≡ true → x ≡ y) (itself : (x : X)
    → eq x x ≡ true) where
  abbrev pub count : X → List X → ℕ
  count x ys = count_by (eq x) ys

  pub count-cons : (x y : X) (ys : List X) → count x (y ∷ ys) ≡ cond (eq x y) 1 0 + count x ys
  count-cons x y ys = sum_by-cons _ y ys

  pub count-append : (x : X) (ys zs : List X) → count x (ys ++ zs) ≡ count x ys + count x zs
  count-append x ys zs = sum_by-append _ ys zs

  pub count_itself : (x : X) (ys : List X) → count x (x ∷ ys) ≡ 1 + count x ys
  count_itself x ys = count-cons x x ys ∙ ap (λ b. cond b 1 0 + count x ys) (itself x)

  pub count_found : (x : X) (ys : List X) → 0 < count x ys → (b : List X) × (c : List X) × (ys ≡ b ++ x ∷ c)
  count_found x [] h = absurd (omega arith)
  count_found x (y ∷ ys) h =
      by_test (eq x y)
      (λ (e : eq x y ≡ true). ([], ys, ap (λ z. z ∷ ys) (sym (same x y e))))
      (λ (e : eq x y ≡ false).
      let k : count x (y ∷ ys) ≡ 0 + count x ys = count-cons x y ys ∙ ap (λ b. cond b 1 0 + count x ys) e in
      let f = count_found x ys (omega (arith, k, h)) in
      (y ∷ f.0, f.1, ap (λ l. y ∷ l) f.2))

  pub by_counts : (xs ys : List X) → ((x : X) → count x xs ≡ count x ys) → IsPermutation xs ys
  by_counts [] [] h = IsPermutation-refl []
  by_counts [] (y ∷ ys) h = let a = h y in let b = count_itself y ys in absurd (omega (arith, a, b))
  by_counts (x ∷ xs) ys h =
      let a = h x in
      let b = count_itself x xs in
      let f = count_found x ys (omega (arith, a, b)) in
      let rest = by_counts xs (f.0 ++ f.1) (λ z.
      let whole : count z (x ∷ xs) ≡ count z (f.0 ++ x ∷ f.1) = h z ∙ ap (count z) f.2 in
      let left = count-cons z x xs in
      let right = count-append z f.0 (x ∷ f.1) in
      let one = count-cons z x f.1 in
      let rest = count-append z f.0 f.1 in
      omega (arith, whole, left, right, one, rest)) in
      subst (IsPermutation (x ∷ xs)) (sym f.2)
      (IsPermutation-trans _ _ _ (IsPermutation-cons x xs (f.0 ++ f.1) rest) (IsPermutation-sym _ _ (IsPermutation-middle f.0 x f.1)))

  pub counts_of : (xs ys : List X) → IsPermutation xs ys → (x : X) → count x xs ≡ count x ys
  counts_of xs ys p x = sym (sum_by-IsPermutation _ xs ys p)

  pub IsPermutation-cancel : (zs xs ys : List X) → IsPermutation (zs ++ xs) (zs ++ ys) → IsPermutation xs ys
  IsPermutation-cancel zs xs ys p = by_counts xs ys (λ x.
      let a = counts_of _ _ p x in
      let b = count-append x zs xs in
      let d = count-append x zs ys in
      omega (arith, a, b, d))
