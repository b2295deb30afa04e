-- The least of the corners that are further from 0 than a limit: one corner more.
use Rattle.std.proofs.Common.{◌≡◌, ◌⊎◌, inl, inr, ⊎_elim, refl, sym, subst, arith, Bool, true, false, if◌then◌else◌, ℕ, zero, suc}
use Rattle.std.proofs.Common.{List, [], ◌∷◌, ◌++◌, Option, Some, None}
use Rattle.std.specs.List.{AllByRecursion, Contains}
use Rattle.std.proofs.lemmas.Bool.Decides.{not_from_Decides}
use Rattle.geo_exact.specs.declared.corner.Corner.{Corner}
use Rattle.geo_exact.specs.Order.{is_before}
use Rattle.geo_exact.proofs.corners_and_turns.CornerOrder.{Decides-is_before, before_irreflexive, before_transitive, same_unless_before}
use Rattle.edge_chains.proofs.nodings.NodedEdges.{none_in_nil, Contains-cases}
use Rattle.scaled_rings.specs.Tenfold.{IsUpTo, IsLeastBeyond, IsLeastBeyondOf}

-- what is in a list with one more is in the list or the one
in_first : {X : Type 0} (x : X) (xs : List X) (y : X) → Contains xs y → Contains (x ∷ xs) y
in_first x xs y c = (suc c.0, omega (arith, c.1), c.2)

pub in_push : {X : Type 0} (xs : List X) (x y : X) → Contains (xs ++ x ∷ []) y → Contains xs y ⊎ (x ≡ y)
in_push [] x y c = ⊎_elim (λ e. inr e) (λ d. absurd (none_in_nil y d)) (Contains-cases x [] y c)
in_push (z ∷ zs) x y c =
    ⊎_elim (λ e. inl (zero, omega arith, e)) (λ d. ⊎_elim (λ k. inl (in_first z zs y k)) (λ e. inr e) (in_push zs x y d))
    (Contains-cases z (zs ++ x ∷ []) y c)

last_in : {X : Type 0} (xs : List X) (x : X) → Contains (xs ++ x ∷ []) x
last_in [] x = (zero, omega arith, refl)
last_in (z ∷ zs) x = in_first z (zs ++ x ∷ []) x (last_in zs x)

stays_in : {X : Type 0} (xs : List X) (x y : X) → Contains xs y → Contains (xs ++ x ∷ []) y
stays_in [] x y c = absurd (none_in_nil y c)
stays_in (z ∷ zs) x y c =
    ⊎_elim (λ e. (zero, omega arith, e)) (λ d. in_first z (zs ++ x ∷ []) y (stays_in zs x y d)) (Contains-cases z zs y c)

module _ (most : ℕ) where
  pub near_one : (xs : List Corner) (x : Corner) → AllByRecursion (IsUpTo most) xs → Contains xs x → IsUpTo most x
  near_one [] x h c = absurd (none_in_nil x c)
  near_one (z ∷ zs) x h c = ⊎_elim (λ e. subst (IsUpTo most) e h.0) (λ d. near_one zs x h.1 d) (Contains-cases z zs x c)

  near_push : (xs : List Corner) (x : Corner) → AllByRecursion (IsUpTo most) xs → IsUpTo most x
      → AllByRecursion (IsUpTo most) (xs ++ x ∷ [])
  near_push [] x h n = (n, tt)
  near_push (z ∷ zs) x h n = (h.0, near_push zs x h.1 n)

  -- ---- one corner more
  pub far_near : (xs : List Corner) (x : Corner) (found : Option Corner) → IsUpTo most x → IsLeastBeyondOf most xs found
      → IsLeastBeyondOf most (xs ++ x ∷ []) found
  far_near xs x None n h = near_push xs x h n
  far_near xs x (Some least) n h = record {
    is_one = stays_in xs x least h.is_one;
    is_far = h.is_far;
    is_least = λ other c far. ⊎_elim (λ d. h.is_least other d far) (λ e. absurd (far (subst (IsUpTo most) e n))) (in_push xs x other c);
  }

  pub far_first : (xs : List Corner) (x : Corner) → (IsUpTo most x → ⊥) → AllByRecursion (IsUpTo most) xs
      → IsLeastBeyond most (xs ++ x ∷ []) x
  far_first xs x far h = record {
    is_one = last_in xs x;
    is_far = far;
    is_least = λ other c off. ⊎_elim (λ d. absurd (off (near_one xs other h d)))
        (λ e b. before_irreflexive other x ((Decides-is_before other x).0 b) (sym e)) (in_push xs x other c);
  }

  pub far_lesser : (xs : List Corner) (x least : Corner) → (IsUpTo most x → ⊥) → is_before x least ≡ true
      → IsLeastBeyond most xs least → IsLeastBeyond most (xs ++ x ∷ []) x
  far_lesser xs x least far l h = record {
    is_one = last_in xs x;
    is_far = far;
    is_least = λ other c off. ⊎_elim
        (λ d b. h.is_least other d off (((Decides-is_before other least).1
        (before_transitive other x least ((Decides-is_before other x).0 b) ((Decides-is_before x least).0 l)))))
        (λ e b. before_irreflexive other x ((Decides-is_before other x).0 b) (sym e)) (in_push xs x other c);
  }

  pub far_greater : (xs : List Corner) (x least : Corner) → is_before x least ≡ false → IsLeastBeyond most xs least
      → IsLeastBeyond most (xs ++ x ∷ []) least
  far_greater xs x least l h = record {
    is_one = stays_in xs x least h.is_one;
    is_far = h.is_far;
    is_least = λ other c off. ⊎_elim (λ d. h.is_least other d off)
        (λ e b. not_from_Decides (is_before x least) (Decides-is_before x least) l
        ((Decides-is_before x least).0 (subst (λ (c : Corner). is_before c least ≡ true) (sym e) b)))
        (in_push xs x other c);
  }

  pub far_either : (xs : List Corner) (x least : Corner) → (IsUpTo most x → ⊥) → IsLeastBeyond most xs least
      → IsLeastBeyond most (xs ++ x ∷ []) (if is_before x least then x else least)
  far_either xs x least far h = by (is_before x least) refl
    where
      by : (b : Bool) → is_before x least ≡ b → IsLeastBeyond most (xs ++ x ∷ []) (if b then x else least)
      by true e = far_lesser xs x least far e h
      by false e = far_greater xs x least e h

  -- ---- there is one least at most, and none where all are near
  pub one_far : (xs : List Corner) (c d : Corner) → IsLeastBeyond most xs c → IsLeastBeyond most xs d → c ≡ d
  one_far xs c d h k =
      same_unless_before c d
      (off (is_before c d) (λ b. k.is_least c h.is_one h.is_far b)) (off (is_before d c) (λ b. h.is_least d k.is_one k.is_far b))
    where
      off : (b : Bool) → (b ≡ true → ⊥) → b ≡ false
      off true h = absurd (h refl)
      off false h = refl

  pub none_far : (xs : List Corner) (c : Corner) → AllByRecursion (IsUpTo most) xs → IsLeastBeyond most xs c → ⊥
  none_far xs c h k = k.is_far (near_one xs c h k.is_one)
