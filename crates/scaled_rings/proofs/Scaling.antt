-- A corner times ten: which corner it is, and that equality and order are kept.
use Rattle.std.proofs.Common.{◌≡◌, ◌⊎◌, inl, inr, refl, sym, ◌∙◌, ap, subst, arith, Bool, true, false, List, [], ◌∷◌}
use Rattle.std.proofs.Common.{map, ◌++◌}
use Rattle.std.specs.List.{AllByRecursion, AllZip}
use Rattle.std.specs.Int.{int_min, int_max}
use Rattle.std.proofs.lemmas.Int.{ints, clamps}
use Rattle.std.proofs.lemmas.Bool.Decides.{not_from_Decides}
use lib.IntN.{ℤ, pos, ◌*ℤ◌, neg_ℤ}
use lib.Signed.{◌≤ℤ◌, ◌<ℤ◌}
use Rattle.geo_exact.specs.declared.corner.Corner.{Corner}
use Rattle.geo_exact.specs.Limit.{IsWithin, limit}
use Rattle.geo_exact.specs.Order.{is_same, is_before, IsBefore}
use Rattle.geo_exact.specs.Places.{origin}
use Rattle.geo_exact.proofs.corners_and_turns.CornerOrder.{Decides-is_same, Decides-is_before, false_where, cases_of}
use Rattle.geo_exact.proofs.corners_and_turns.SameCorner.{corner_same}
use Rattle.scaled_rings.specs.Tenfold.{IsTenTimes, AreTenTimes, IsNear, near_limit}

-- ten times a number, brought into the limits
abbrev pub tenfold : ℤ → ℤ
tenfold z = int_max (neg_ℤ (pos limit)) (int_min (pos limit) (pos 10 *ℤ z))

pub clamped : (z : ℤ) → IsWithin limit (tenfold z)
clamped z = record { low = omega (arith, ints, clamps); high = omega (arith, ints, clamps) }

-- the corner ten times, brought into the limits
unfoldable pub ten : Corner → Corner
ten c = record { x = tenfold c.x; y = tenfold c.y; x_in_range = clamped c.x; y_in_range = clamped c.y }

abbrev pub AreNear : List Corner → Type 0
AreNear corners = AllByRecursion IsNear corners

-- where nothing has to be brought into the limits
pub ten_x : (c : Corner) → IsNear c → (ten c).x ≡ pos 10 *ℤ c.x
unfolding ten
ten_x c h = omega (arith, ints, clamps, h.in_x.low, h.in_x.high)

pub ten_y : (c : Corner) → IsNear c → (ten c).y ≡ pos 10 *ℤ c.y
unfolding ten
ten_y c h = omega (arith, ints, clamps, h.in_y.low, h.in_y.high)

pub ten_origin : ten origin ≡ origin
unfolding ten
ten_origin = corner_same (ten origin) origin refl refl

-- ---- a corner is ten times another where it is `ten` of it, and that is near
pub near_if_ten : (c d : Corner) → IsTenTimes c d → IsNear c
near_if_ten c d h = record {
  in_x = record { low = omega (arith, ints, h.in_x, d.x_in_range.low); high = omega (arith, ints, h.in_x, d.x_in_range.high) };
  in_y = record { low = omega (arith, ints, h.in_y, d.y_in_range.low); high = omega (arith, ints, h.in_y, d.y_in_range.high) };
}

pub ten_if_ten : (c d : Corner) → IsTenTimes c d → d ≡ ten c
ten_if_ten c d h =
    let n = near_if_ten c d h in corner_same d (ten c) (h.in_x ∙ sym (ten_x c n)) (h.in_y ∙ sym (ten_y c n))

pub is_ten : (c : Corner) → IsNear c → IsTenTimes c (ten c)
is_ten c h = record { in_x = ten_x c h; in_y = ten_y c h }

pub near_of : (xs ys : List Corner) → AreTenTimes xs ys → AreNear xs
near_of [] [] h = tt
near_of [] (y ∷ ys) h = absurd h
near_of (x ∷ xs) [] h = absurd h
near_of (x ∷ xs) (y ∷ ys) h = (near_if_ten x y h.0, near_of xs ys h.1)

pub tens_of : (xs ys : List Corner) → AreTenTimes xs ys → ys ≡ map ten xs
tens_of [] [] h = refl
tens_of [] (y ∷ ys) h = absurd h
tens_of (x ∷ xs) [] h = absurd h
tens_of (x ∷ xs) (y ∷ ys) h = let e = ten_if_ten x y h.0 in let f = tens_of xs ys h.1 in cc

pub are_tens : (xs : List Corner) → AreNear xs → AreTenTimes xs (map ten xs)
are_tens [] h = tt
are_tens (x ∷ xs) h = (is_ten x h.0, are_tens xs h.1)

-- ---- equality and order
pub ten_apart : (c d : Corner) → IsNear c → IsNear d → ten c ≡ ten d → c ≡ d
ten_apart c d h k e =
    let x : pos 10 *ℤ c.x ≡ pos 10 *ℤ d.x = sym (ten_x c h) ∙ ap (λ (c : Corner). c.x) e ∙ ten_x d k in
    let y : pos 10 *ℤ c.y ≡ pos 10 *ℤ d.y = sym (ten_y c h) ∙ ap (λ (c : Corner). c.y) e ∙ ten_y d k in
    corner_same c d (omega (arith, ints)) (omega (arith, ints))

pub ten_same : (c d : Corner) → IsNear c → IsNear d → is_same (ten c) (ten d) ≡ is_same c d
ten_same c d h k = split (cases_of (is_same c d) (Decides-is_same c d))
  where
    split : (c ≡ d) ⊎ (is_same c d ≡ false) → is_same (ten c) (ten d) ≡ is_same c d
    split (inl e) = (Decides-is_same (ten c) (ten d)).1 (ap ten e) ∙ sym ((Decides-is_same c d).1 e)
    split (inr n) =
        false_where (is_same (ten c) (ten d)) (Decides-is_same (ten c) (ten d))
        (λ e. not_from_Decides (is_same c d) (Decides-is_same c d) n (ten_apart c d h k e)) ∙ sym n

ten_before_from : (c d : Corner) → IsNear c → IsNear d → IsBefore c d → IsBefore (ten c) (ten d)
ten_before_from c d h k (inl l) = inl (omega (arith, ints, ten_x c h, ten_x d k, l))
ten_before_from c d h k (inr l) =
    inr (omega (arith, ints, ten_x c h, ten_x d k, l.0), omega (arith, ints, ten_y c h, ten_y d k, l.1))

ten_before_to : (c d : Corner) → IsNear c → IsNear d → IsBefore (ten c) (ten d) → IsBefore c d
ten_before_to c d h k (inl l) = inl (omega (arith, ints, ten_x c h, ten_x d k, l))
ten_before_to c d h k (inr l) =
    inr (omega (arith, ints, ten_x c h, ten_x d k, l.0), omega (arith, ints, ten_y c h, ten_y d k, l.1))

pub ten_before : (c d : Corner) → IsNear c → IsNear d → is_before (ten c) (ten d) ≡ is_before c d
ten_before c d h k = split (cases_of (is_before c d) (Decides-is_before c d))
  where
    split : IsBefore c d ⊎ (is_before c d ≡ false) → is_before (ten c) (ten d) ≡ is_before c d
    split (inl l) = (Decides-is_before (ten c) (ten d)).1 (ten_before_from c d h k l) ∙ sym ((Decides-is_before c d).1 l)
    split (inr n) =
        false_where (is_before (ten c) (ten d)) (Decides-is_before (ten c) (ten d))
        (λ l. not_from_Decides (is_before c d) (Decides-is_before c d) n (ten_before_to c d h k l)) ∙ sym n
