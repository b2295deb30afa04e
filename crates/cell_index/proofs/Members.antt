-- Members of lists that are mapped, filtered and joined, and pairs of them.
use Rattle.std.proofs.Common.{◌≡◌, ◌≢◌, ◌⊎◌, ◌∙◌, inl, inr, ⊎_elim, refl, sym, ap, subst, zero, suc, ◌-◌}
use Rattle.std.proofs.Common.{◌<◌, arith, Bool, true, false, ◌&&◌, cond, List, [], ◌∷◌, ◌++◌, length, map, get_or}
use Rattle.std.specs.List.{filter, Contains, AllPairs}
use Rattle.std.proofs.lemmas.Bool.{cases_lt}
use Rattle.std.proofs.lemmas.List.{length-map, length-append, get_or-map, get_or_append_left, get_or-append_right, get_or_default}
use Rattle.std.proofs.lemmas.List.Elements.{Contains-get_or}

pub by_test : {P : Type 0} (b : Bool) → (b ≡ true → P) → (b ≡ false → P) → P
by_test true when_true when_false = when_true refl
by_test false when_true when_false = when_false refl

-- the first of two tests fails
pub none_test : (r p q : Bool) → r ≡ p → r ≡ false → r ≡ (p && q)
none_test r p q h f = f ∙ ap (λ x. x && q) (sym f ∙ h)

module _ {X : Type 0} where
  first_member : (x : X) (xs : List X) → Contains (x ∷ xs) x
  first_member x xs = (0, omega arith, refl)

  later_member : (x y : X) (xs : List X) → Contains xs y → Contains (x ∷ xs) y
  later_member x y xs h = (suc h.0, omega (arith, h.1), h.2)

  pub either_member : (x y : X) (xs : List X) → Contains (x ∷ xs) y → (x ≡ y) ⊎ Contains xs y
  either_member x y xs (zero, b, e) = inl e
  either_member x y xs (suc k, b, e) = inr (k, omega (arith, b), e)

  no_member : (y : X) → Contains [] y → ⊥
  no_member y (k, b, e) = omega (arith, b)

  pub filtered : (p : X → Bool) (xs : List X) (y : X) → Contains xs y → p y ≡ true → Contains (filter p xs) y
  filtered p [] y h t = absurd (no_member y h)
  filtered p (x ∷ xs) y h t =
      ⊎_elim
      (λ e. subst (λ zs. Contains zs y) (sym (ap (λ b. cond b (x ∷ filter p xs) (filter p xs)) (ap p e ∙ t)))
      (subst (λ z. Contains (z ∷ filter p xs) y) (sym e) (first_member y (filter p xs))))
      (λ later. by_test (p x)
      (λ u. subst (λ zs. Contains zs y) (sym (ap (λ b. cond b (x ∷ filter p xs) (filter p xs)) u))
      (later_member x y (filter p xs) (filtered p xs y later t)))
      (λ u. subst (λ zs. Contains zs y) (sym (ap (λ b. cond b (x ∷ filter p xs) (filter p xs)) u)) (filtered p xs y later t)))
      (either_member x y xs h)

  pub from_filtered : (p : X → Bool) (xs : List X) (y : X) → Contains (filter p xs) y → Contains xs y × (p y ≡ true)
  from_filtered p [] y h = absurd (no_member y h)
  from_filtered p (x ∷ xs) y h =
      by_test (p x)
      (λ u. ⊎_elim
      (λ e. (subst (λ z. Contains (z ∷ xs) y) (sym e) (first_member y xs), sym (ap p e) ∙ u))
      (λ later. (later_member x y xs (from_filtered p xs y later).0, (from_filtered p xs y later).1))
      (either_member x y (filter p xs) (subst (λ zs. Contains zs y) (ap (λ b. cond b (x ∷ filter p xs) (filter p xs)) u) h)))
      (λ u.
      let later : Contains (filter p xs) y = subst (λ zs. Contains zs y) (ap (λ b. cond b (x ∷ filter p xs) (filter p xs)) u) h in
      (later_member x y xs (from_filtered p xs y later).0, (from_filtered p xs y later).1))

  pub mapped : {Y : Type 0} (f : X → Y) (xs : List X) (x : X) → Contains xs x → Contains (map f xs) (f x)
  mapped f xs x h = (h.0, omega (arith, h.1, length-map xs f), get_or-map f xs h.0 x (f x) h.1 ∙ ap f h.2)

  pub from_mapped : {Y : Type 0} (f : X → Y) (xs : List X) (y : Y) → Contains (map f xs) y → (x : X) × Contains xs x × (f x ≡ y)
  from_mapped f [] y (k, b, e) = absurd (omega (arith, b))
  from_mapped f (x ∷ xs) y (zero, b, e) = (x, first_member x xs, e)
  from_mapped f (x ∷ xs) y (suc k, b, e) =
      let later = from_mapped f xs y (k, omega (arith, b), e) in (later.0, later_member x later.0 xs later.1, later.2)

  -- ---- pairs
  pub pairs_joined : (R : X → X → Type 0) (xs ys : List X) → AllPairs R xs → AllPairs R ys
      → ((x y : X) → Contains xs x → Contains ys y → R x y) → AllPairs R (xs ++ ys)
  pairs_joined R xs ys h k across i j d before below =
      ⊎_elim
      (λ left. subst (R (get_or (xs ++ ys) i d)) (sym (get_or_append_left xs ys d j left))
      (subst (λ z. R z (get_or xs j d)) (sym (get_or_append_left xs ys d i (omega (arith, before, left)))) (h i j d before left)))
      (λ right.
      let inside : j - length xs < length ys = omega (arith, right, below, length-append xs ys) in
      subst (R (get_or (xs ++ ys) i d)) (sym (get_or-append_right xs ys (length xs) j d refl right))
      (⊎_elim
      (λ left. subst (λ z. R z (get_or ys (j - length xs) d)) (sym (get_or_append_left xs ys d i left))
      (across (get_or xs i d) (get_or ys (j - length xs) d) (Contains-get_or xs i d left) (Contains-get_or ys (j - length xs) d inside)))
      (λ both. subst (λ z. R z (get_or ys (j - length xs) d)) (sym (get_or-append_right xs ys (length xs) i d refl both))
      (k (i - length xs) (j - length xs) d (omega (arith, before, both)) inside))
      (cases_lt i (length xs))))
      (cases_lt j (length xs))

  pub pairs_mapped : {Y : Type 0} (f : X → Y) (e : X) (xs : List X) → AllPairs (λ x y. f x ≢ f y) xs
      → AllPairs (λ x y. x ≢ y) (map f xs)
  pairs_mapped f e xs h i j d before below =
      let inside : j < length xs = omega (arith, below, length-map xs f) in
      let first : i < length xs = omega (arith, before, inside) in
      λ same. h i j e before inside (sym (get_or-map f xs i e d first) ∙ same ∙ get_or-map f xs j e d inside)

  -- members that are told apart by f are equal where f is
  pub same_member : {Y : Type 0} (f : X → Y) (xs : List X) (x y : X) → AllPairs (λ a b. f a ≢ f b) xs → Contains xs x
      → Contains xs y → f x ≡ f y → x ≡ y
  same_member f xs x y apart h k e =
      ⊎_elim
      (λ less. absurd (apart h.0 k.0 x less k.1 (ap f h.2 ∙ e ∙ sym (ap f (get_or_default xs k.0 x y k.1 ∙ k.2)))))
      (λ not_less. ⊎_elim
      (λ more. absurd (apart k.0 h.0 x more h.1 (ap f (get_or_default xs k.0 x y k.1 ∙ k.2) ∙ sym e ∙ sym (ap f h.2))))
      (λ not_more.
      let place : h.0 ≡ k.0 = omega (arith, not_less, not_more) in
      sym h.2 ∙ ap (λ n. get_or xs n x) place ∙ get_or_default xs k.0 x y k.1 ∙ k.2)
      (cases_lt k.0 h.0))
      (cases_lt h.0 k.0)
