-- The least corners beyond limits: the limits, a higher one, lists joined, and corners ten times.
use Rattle.std.proofs.Common.{◌≡◌, ◌≢◌, ◌⊎◌, inl, inr, ⊎_elim, refl, sym, ◌∙◌, ap, subst, arith, ℕ, zero, suc, ◌+◌, ◌-◌, ◌*◌, ◌<◌, ◌≤◌}
use Rattle.std.proofs.Common.{List, [], ◌∷◌, ◌++◌, map, length, get_or, set, Option, Some, None, Bool, true, false, ℤ, pos}
use Rattle.std.specs.Prelude.{IfSome}
use Rattle.std.specs.List.{AllByRecursion, AllZip, Contains}
use Rattle.std.proofs.lemmas.Int.{ints}
use Rattle.std.proofs.lemmas.List.{get_or-set_other, get_or-set_same, map-append}
use Rattle.std.proofs.lemmas.List.Elements.{Contains-append_cases, Contains-append_left, Contains-append_right}
use lib.IntN.{◌*ℤ◌}
use Rattle.geo_exact.specs.declared.corner.Corner.{Corner}
use Rattle.geo_exact.specs.Layers.{NumberedRing}
use Rattle.geo_exact.specs.Limit.{IsWithin}
use Rattle.geo_exact.specs.Order.{is_before}
use Rattle.geo_exact.proofs.corners_and_turns.CornerOrder.{Decides-is_before, before_transitive, same_unless_before}
use Rattle.edge_chains.proofs.nodings.NodedEdges.{Contains-cases, Contains-here, none_in_nil}
use Rattle.scaled_rings.specs.Tenfold.{AreTenTimes, IsLeastBeyond, IsLeastBeyondOf, IsLeastFar, IsLeastFarOf, IsNear, IsTenTimes}
use Rattle.scaled_rings.specs.Tenfold.{IsUpTo, near_limit}
use Rattle.scaled_rings.proofs.Farthest.{near_one}
use Rattle.scaled_rings.proofs.Lists.{near_append}
use Rattle.scaled_rings.proofs.Scaling.{AreNear, are_tens, is_ten, near_of, ten, ten_before, ten_if_ten, tens_of}
use Rattle.fabric_core.specs.Journal.{State}
use Rattle.fabric_core.specs.Tenfold.{IsTenfoldState, corners_of_rows, corners_of_state}
use Rattle.fabric_core.specs.declared.farthest.TheConstants.{LIMITS}
use Rattle.fabric_core.specs.own.Farthest.{AreLeastBeyond, IsTenTimesOf, limit_of}
use Rattle.fabric_core.specs.own.Kept.{Kept}
use Rattle.fabric_core.proofs.rows.RowLists.{Contains-mapped, Contains-from_mapped}
use Rattle.fabric_core.proofs.tens.Rows.{are_tens_of, near_state, ten_rows, ten_state}

-- ---- the limits
positive : (k : ℕ) → 1 ≤ limit_of (suc k)
positive zero = omega arith
positive (suc k) = omega (arith, positive k)

next_of_none : (k : ℕ) → 0 ≡ limit_of k → 1 ≡ limit_of (suc k)
next_of_none zero e = refl
next_of_none (suc k) e = absurd (omega (arith, e, positive k))

next_of_some : (k m : ℕ) → m ≢ 0 → m ≡ limit_of k → m * 10 ≡ limit_of (suc k)
next_of_some zero m n e = absurd (n e)
next_of_some (suc k) m n e = omega (arith, e)

one_more : (k : ℕ) → suc k ≡ k + 1
one_more k = omega arith

pub next_none : (k m : ℕ) → m ≡ 0 → m ≡ limit_of k → 1 ≡ limit_of (k + 1)
next_none k m z e = subst (λ i. 1 ≡ limit_of i) (one_more k) (next_of_none k (sym z ∙ e))

pub next_some : (k m : ℕ) → m ≢ 0 → m ≡ limit_of k → m * 10 ≡ limit_of (k + 1)
next_some k m n e = subst (λ i. m * 10 ≡ limit_of i) (one_more k) (next_of_some k m n e)

up : (k n : ℕ) → k ≤ n → limit_of k ≤ limit_of n
up zero n l = omega arith
up (suc k) zero l = absurd (omega (arith, l))
up (suc zero) (suc n) l = positive n
up (suc (suc k)) (suc zero) l = absurd (omega (arith, l))
up (suc (suc k)) (suc (suc n)) l = omega (arith, up (suc k) (suc n) (omega (arith, l)))

pub rise_next : (k : ℕ) → limit_of k ≤ limit_of (k + 1)
rise_next k = up k (k + 1) (omega arith)

-- those before the last leave room for one more
pub small : (k : ℕ) → k ≤ 10 → limit_of k ≤ 1000000000
small k h = up k 10 h

-- a tenth of a limit is the one before it
tenth : (k : ℕ) → (10 * limit_of k ≤ limit_of (suc k)) × (limit_of (suc k) < 10 * limit_of k + 10)
tenth zero = (omega arith, omega arith)
tenth (suc k) = (omega arith, omega arith)

-- ---- a higher limit
module _ (less most : ℕ) (h : less ≤ most) where
  up_to_more : (c : Corner) → IsUpTo less c → IsUpTo most c
  up_to_more c u = record {
    in_x = record { low = omega (arith, ints, h, u.in_x.low); high = omega (arith, ints, h, u.in_x.high) };
    in_y = record { low = omega (arith, ints, h, u.in_y.low); high = omega (arith, ints, h, u.in_y.high) };
  }

  pub none_behind : (xs : List Corner) → AllByRecursion (IsUpTo less) xs → AllByRecursion (IsUpTo most) xs
  none_behind [] u = tt
  none_behind (x ∷ xs) u = (up_to_more x u.0, none_behind xs u.1)

  pub same_behind : (xs : List Corner) (c : Corner) → (IsUpTo most c → ⊥) → IsLeastBeyond less xs c → IsLeastBeyond most xs c
  same_behind xs c far l = record {
    is_one = l.is_one;
    is_far = far;
    is_least = λ other i off. l.is_least other i (λ u. off (up_to_more other u));
  }

-- ---- lists joined: what is told of the second is told in its place
pub joined_none : (before xs : List Corner) (found : Option Corner) → AllByRecursion IsNear xs → IsLeastFarOf before found
    → IsLeastFarOf (before ++ xs) found
joined_none before xs None n h = near_append before xs h n
joined_none before xs (Some c) n h = record {
  is_one = Contains-append_left before xs c h.is_one;
  is_far = h.is_far;
  is_least = λ other i off. ⊎_elim (λ k. h.is_least other k off) (λ k. absurd (off (near_one near_limit xs other n k)))
      (Contains-append_cases before xs other i);
}

pub joined_some : (before xs : List Corner) (c : Corner) (found : Option Corner) → IsLeastFar xs c
    → IsLeastFarOf (before ++ c ∷ []) found → IsLeastFarOf (before ++ xs) found
joined_some before xs c None l h =
    absurd (l.is_far (near_one near_limit (before ++ c ∷ []) c h (Contains-append_right before (c ∷ []) c (Contains-here c []))))
joined_some before xs c (Some d) l h = record {
  is_one = ⊎_elim (λ k. Contains-append_left before xs d k)
      (λ k. Contains-append_right before xs d (subst (Contains xs) (only k) l.is_one))
      (Contains-append_cases before (c ∷ []) d h.is_one);
  is_far = h.is_far;
  is_least = λ other i off. ⊎_elim (λ k. h.is_least other (Contains-append_left before (c ∷ []) other k) off)
      (λ k. not_before other k off) (Contains-append_cases before xs other i);
}
  where
    only : Contains (c ∷ []) d → c ≡ d
    only k = ⊎_elim (λ e. e) (λ i. absurd (none_in_nil d i)) (Contains-cases c [] d k)

    off : (b : Bool) → (b ≡ true → ⊥) → b ≡ false
    off true n = absurd (n refl)
    off false n = refl

    not_behind : is_before c d ≡ false
    not_behind = off (is_before c d) (h.is_least c (Contains-append_right before (c ∷ []) c (Contains-here c [])) l.is_far)

    not_before : (other : Corner) → Contains xs other → (IsNear other → ⊥) → is_before other d ≡ true → ⊥
    not_before other k far b = by (is_before d c) refl
      where
        by : (t : Bool) → is_before d c ≡ t → ⊥
        by true e =
            l.is_least other k far ((Decides-is_before other c).1
            (before_transitive other d c ((Decides-is_before other d).0 b) ((Decides-is_before d c).0 e)))
        by false e =
            l.is_least other k far (subst (λ z. is_before other z ≡ true) (same_unless_before d c e not_behind) b)

-- ---- corners ten times, and a tenth of the limit
module _ (m n : ℕ) (low : 10 * m ≤ n) (high : n < 10 * m + 10) where
  within_ten : (x y : ℤ) → y ≡ pos 10 *ℤ x → IsWithin m x → IsWithin n y
  within_ten x y e h = record { low = omega (arith, ints, e, h.low, low); high = omega (arith, ints, e, h.high, low) }

  within_tenth : (x y : ℤ) → y ≡ pos 10 *ℤ x → IsWithin n y → IsWithin m x
  within_tenth x y e h = record { low = omega (arith, ints, e, h.low, high); high = omega (arith, ints, e, h.high, high) }

  up_to_ten : (c d : Corner) → IsTenTimes c d → IsUpTo m c → IsUpTo n d
  up_to_ten c d t u = record { in_x = within_ten c.x d.x t.in_x u.in_x; in_y = within_ten c.y d.y t.in_y u.in_y }

  up_to_tenth : (c d : Corner) → IsTenTimes c d → IsUpTo n d → IsUpTo m c
  up_to_tenth c d t u = record { in_x = within_tenth c.x d.x t.in_x u.in_x; in_y = within_tenth c.y d.y t.in_y u.in_y }

  all_ten : (xs ys : List Corner) → AreTenTimes xs ys → AllByRecursion (IsUpTo m) xs → AllByRecursion (IsUpTo n) ys
  all_ten [] [] t u = tt
  all_ten [] (y ∷ ys) t u = absurd t
  all_ten (x ∷ xs) [] t u = absurd t
  all_ten (x ∷ xs) (y ∷ ys) t u = (up_to_ten x y t.0 u.0, all_ten xs ys t.1 u.1)

  least_ten : (xs ys : List Corner) (c d : Corner) → AreTenTimes xs ys → IsTenTimes c d → IsLeastBeyond m xs c → IsLeastBeyond n ys d
  least_ten xs ys c d t k h =
      let is : ys ≡ map ten xs = tens_of xs ys t in let near : AreNear xs = near_of xs ys t in
      let ten_c : d ≡ ten c = ten_if_ten c d k in record {
        is_one = subst (λ zs. Contains zs d) (sym is) (subst (Contains (map ten xs)) (sym ten_c) (Contains-mapped ten xs c h.is_one));
        is_far = λ u. h.is_far (up_to_tenth c d k u);
        is_least = λ other i off b.
            let w = Contains-from_mapped ten xs other (subst (λ zs. Contains zs other) is i) in
            let near_w = near_one near_limit xs w.0 near w.1 in
            h.is_least w.0 w.1 (λ u. off (up_to_ten w.0 other (subst (IsTenTimes w.0) w.2 (is_ten w.0 near_w)) u))
            (sym (ten_before w.0 c near_w (near_one near_limit xs c near h.is_one))
            ∙ ap (λ x. is_before x (ten c)) w.2 ∙ ap (is_before other) (sym ten_c) ∙ b);
      }

  told_ten : (xs ys : List Corner) (found other : Option Corner) → AreTenTimes xs ys → IsTenTimesOf found other
      → IsLeastBeyondOf m xs found → IsLeastBeyondOf n ys other
  told_ten xs ys None other t k h = subst (IsLeastBeyondOf n ys) (sym k) (all_ten xs ys t h)
  told_ten xs ys (Some c) other t k h = subst (IsLeastBeyondOf n ys) (sym k.1) (least_ten xs ys c k.0 t k.2 h)

-- what is told of all limits moves on by one
pub moved_on : (xs ys : List Corner) (least others : List (Option Corner)) → AreTenTimes xs ys
    → IsTenTimesOf (get_or least 0 None) (get_or others 0 None)
    → ((level : ℕ) → level + 1 < LIMITS → IsTenTimesOf (get_or least level None) (get_or others (level + 1) None))
    → AreLeastBeyond xs least → AreLeastBeyond ys others
moved_on xs ys least others t first tens h zero l =
    told_ten 0 0 (omega arith) (omega arith) xs ys (get_or least 0 None) (get_or others 0 None) t first (h 0 l)
moved_on xs ys least others t first tens h (suc level) l =
    told_ten (limit_of level) (limit_of (suc level)) (tenth level).0 (tenth level).1 xs ys (get_or least level None)
    (get_or others (suc level) None) t
    (subst (λ k. IsTenTimesOf (get_or least level None) (get_or others k None)) (sym (one_more level)) (tens level (omega (arith, l))))
    (h level (omega (arith, l)))

-- where all corners are near, so is each that is told
pub told_near : (xs : List Corner) (most : ℕ) (found : Option Corner) → AreNear xs → IsLeastBeyondOf most xs found → IfSome found IsNear
told_near xs most None n h = tt
told_near xs most (Some c) n h = near_one near_limit xs c n h.is_one

-- ---- the least so far of all limits, one more set
same_or_below : (j k : ℕ) → j < k + 1 → (j ≡ k) ⊎ ((j ≢ k) × (j < k))
same_or_below zero zero l = inl refl
same_or_below zero (suc k) l = inr (λ e. omega (arith, e), omega arith)
same_or_below (suc j) zero l = absurd (omega (arith, l))
same_or_below (suc j) (suc k) l = ⊎_elim (λ e. inl (ap suc e)) (λ d. inr (λ e. d.0 (omega (arith, e)), omega (arith, d.1)))
    (same_or_below j k (omega (arith, l)))

pub set_more : {X : Type 0} (P : ℕ → X → Type 0) (xs : List X) (k : ℕ) (x none : X) → k < length xs
    → ((j : ℕ) → j < k → P j (get_or xs j none)) → P k x → (j : ℕ) → j < k + 1 → P j (get_or (set xs k x) j none)
set_more P xs k x none b h p j l = ⊎_elim
    (λ e. subst (λ i. P i (get_or (set xs k x) i none)) (sym e) (subst (P k) (sym (get_or-set_same xs k x none b)) p))
    (λ d. subst (P j) (sym (get_or-set_other xs k j x none d.0)) (h j d.1)) (same_or_below j k l)

pub first_only : (P : ℕ → Type 0) → P 0 → (k : ℕ) → k < 1 → P k
first_only P p zero l = p
first_only P p (suc k) l = absurd (omega (arith, l))

-- ---- the opening of a fabric, ten times
abbrev pub ten_kept : Kept → Kept
ten_kept kept = record kept { rows = ten_rows kept.rows; refined = map ten kept.refined }

corners_ten : (rows : List NumberedRing) → corners_of_rows (ten_rows rows) ≡ map ten (corners_of_rows rows)
corners_ten [] = refl
corners_ten (row ∷ rows) =
    ap (λ cs. map ten row.corners ++ cs) (corners_ten rows) ∙ sym (map-append ten row.corners (corners_of_rows rows))

pub tens_of_state : (state : State) → AreNear (corners_of_state state)
    → AreTenTimes (corners_of_state state) (corners_of_state (ten_state state))
tens_of_state state n =
    subst (AreTenTimes (corners_of_state state))
    (map-append ten (corners_of_rows state.rows) state.refined ∙ ap (λ cs. cs ++ map ten state.refined) (sym (corners_ten state.rows)))
    (are_tens (corners_of_state state) n)

pub ten_of_state : (state : State) → AreNear (corners_of_state state) → IsTenfoldState state (ten_state state)
ten_of_state state n =
    let near = near_state state n in
    record { rows = are_tens_of state.rows near.rows; refined = are_tens state.refined near.refined; next = refl }
