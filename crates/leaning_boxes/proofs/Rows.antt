-- A row of places in a line, seen along an axis and by its distance from another line: what it passes by.
use Rattle.std.proofs.Common.{◌≡◌, ◌≢◌, ◌⊎◌, ◌↔◌, inl, inr, refl, sym, ◌∙◌, ap, subst, arith, Bool, true, false, ◌||◌, [], ◌∷◌}
use Rattle.std.specs.Bool.{Decides}
use Rattle.std.specs.Int.{int_min, int_max}
use Rattle.std.proofs.lemmas.Int.{ints, clamps, by_lt_z}
use Rattle.std.proofs.lemmas.Bool.{false≢true}
use Rattle.std.proofs.lemmas.Bool.Decides.{Decides-or}
use lib.IntN.{ℤ, pos, ◌+ℤ◌, ◌-ℤ◌, ◌*ℤ◌, neg_ℤ, *ℤ_comm}
use lib.Signed.{◌<ℤ◌, ◌≤ℤ◌, lt_z}
use Rattle.geo_exact.specs.declared.corner.Corner.{Corner}
use Rattle.geo_exact.specs.Bounds.{RangesMeet}
use Rattle.geo_exact.specs.Turn.{turn}
use Rattle.geo_exact.proofs.corners_and_turns.CornerOrder.{false_where}
use Rattle.geo_exact.proofs.corners_and_turns.TurnLaws.{turn_expr}
use Rattle.geo_exact.proofs.numbers.Differences.{expand}
use Rattle.geo_exact.proofs.numbers.Orders.{Decides-int_lt}
use Rattle.geo_exact.proofs.numbers.Polynomials.{Expr, var, add, mul, sub, same_by}
use Rattle.geo_exact.proofs.numbers.Signs.{mul_not_neg, mul_zero}

-- z is u or v, or between them
abbrev pub IsBetween : ℤ → ℤ → ℤ → Type 0
IsBetween u v z = (int_min u v ≤ℤ z) × (z ≤ℤ int_max u v)

-- a product is between those at the ends
pub product_between : (k l h z : ℤ) → l ≤ℤ z → z ≤ℤ h → IsBetween (k *ℤ l) (k *ℤ h) (k *ℤ z)
product_between k l h z p q = by_lt_z k (pos 0) down up
  where
    up : pos 0 ≤ℤ k → IsBetween (k *ℤ l) (k *ℤ h) (k *ℤ z)
    up n =
        let u : pos 0 ≤ℤ (k *ℤ (z -ℤ l)) = mul_not_neg k (z -ℤ l) n (omega (arith, ints)) in
        let v : pos 0 ≤ℤ (k *ℤ (h -ℤ z)) = mul_not_neg k (h -ℤ z) n (omega (arith, ints)) in
        (omega (arith, ints, clamps, simp expand at u, simp expand at v), omega (arith, ints, clamps, simp expand at u, simp expand at v))

    down : k <ℤ pos 0 → IsBetween (k *ℤ l) (k *ℤ h) (k *ℤ z)
    down n =
        let u : pos 0 ≤ℤ (neg_ℤ k *ℤ (z -ℤ l)) = mul_not_neg (neg_ℤ k) (z -ℤ l) (omega (arith, ints)) (omega (arith, ints)) in
        let v : pos 0 ≤ℤ (neg_ℤ k *ℤ (h -ℤ z)) = mul_not_neg (neg_ℤ k) (h -ℤ z) (omega (arith, ints)) (omega (arith, ints)) in
        (omega (arith, ints, clamps, simp expand at u, simp expand at v), omega (arith, ints, clamps, simp expand at u, simp expand at v))

-- two ranges that nothing is in
abbrev pub RangesAreApart : ℤ → ℤ → ℤ → ℤ → Type 0
RangesAreApart u v w z = (int_max u v <ℤ int_min w z) ⊎ (int_max w z <ℤ int_min u v)

Decides-apart : (u v w z : ℤ) → Decides (lt_z (int_max u v) (int_min w z) || lt_z (int_max w z) (int_min u v)) (RangesAreApart u v w z)
Decides-apart u v w z = Decides-or (lt_z (int_max u v) (int_min w z)) (lt_z (int_max w z) (int_min u v))
    (Decides-int_lt (int_max u v) (int_min w z))
    (Decides-int_lt (int_max w z) (int_min u v))

-- what the test computes
pub apart_or_meeting : (t : Bool) (u v w z : ℤ) → t ≡ (lt_z (int_max u v) (int_min w z) || lt_z (int_max w z) (int_min u v))
    → t ≡ false ↔ RangesMeet u v w z
apart_or_meeting t u v w z e = (meeting, λ m. e ∙ false_where _ (Decides-apart u v w z) (λ apart. not_apart m apart))
  where
    not_apart : RangesMeet u v w z → RangesAreApart u v w z → ⊥
    not_apart m (inl l) = omega (arith, ints, m.1, l)
    not_apart m (inr l) = omega (arith, ints, m.0, l)

    meeting : t ≡ false → RangesMeet u v w z
    meeting f =
        let none : RangesAreApart u v w z → ⊥ = λ apart. false≢true (sym f ∙ e ∙ (Decides-apart u v w z).1 apart) in
        by_lt_z (int_max u v) (int_min w z) (λ l. absurd (none (inl l)))
        (λ n. by_lt_z (int_max w z) (int_min u v) (λ l. absurd (none (inr l))) (λ m. (omega (arith, ints, m), omega (arith, ints, n))))

-- what a test that is true tells
pub apart_from_test : (t : Bool) (u v w z : ℤ) → (t ≡ false ↔ RangesMeet u v w z) → t ≡ true → RangesAreApart u v w z
apart_from_test t u v w z e h =
    by_lt_z (int_max u v) (int_min w z) inl (λ n. by_lt_z (int_max w z) (int_min u v) inr
    (λ m. absurd (false≢true (sym (e.1 (omega (arith, ints, m), omega (arith, ints, n))) ∙ h))))

-- numbers of two ranges that are apart are not the same
pub not_same : (p q : ℤ) (bottom top left right : ℤ) → IsBetween bottom top p → IsBetween left right q
    → RangesAreApart bottom top left right → p ≢ q
not_same p q bottom top left right h k (inl l) e = omega (arith, ints, h.1, k.0, e)
not_same p q bottom top left right h k (inr l) e = omega (arith, ints, h.0, k.1, e)

-- so much way and rise lead to no place so far along and so high
pub not_on_row : (way rise l h f t w z : ℤ) (low high first last : ℤ) → l ≤ℤ w → w ≤ℤ h → f ≤ℤ z → z ≤ℤ t
    → low ≡ way *ℤ l → high ≡ way *ℤ h → first ≡ f *ℤ rise → last ≡ t *ℤ rise
    → RangesAreApart low high first last → way *ℤ w ≢ rise *ℤ z
not_on_row way rise l h f t w z low high first last a b c d e g i j apart =
    let i' = i ∙ *ℤ_comm f rise in
    let j' = j ∙ *ℤ_comm t rise in
    not_same (way *ℤ w) (rise *ℤ z) (way *ℤ l) (way *ℤ h) (rise *ℤ f) (rise *ℤ t)
    (product_between way l h w a b) (product_between rise f t z c d)
    (subst (λ x. RangesAreApart (way *ℤ l) (way *ℤ h) (rise *ℤ f) x) j'
    (subst (λ x. RangesAreApart (way *ℤ l) (way *ℤ h) x last) i'
    (subst (λ x. RangesAreApart (way *ℤ l) x first last) g (subst (λ x. RangesAreApart x high first last) e apart))))

-- ---- turns rise along a line as much as its places go across, or up
abbrev across : Expr
across = sub (var 2) (var 0)

abbrev up : Expr
up = sub (var 3) (var 1)

abbrev rise_of : Expr → Expr → Expr
rise_of x y = sub (turn_expr (var 0) (var 1) (var 2) (var 3) x y) (turn_expr (var 0) (var 1) (var 2) (var 3) (var 4) (var 5))

abbrev turned : Expr
turned = turn_expr (var 4) (var 5) (var 6) (var 7) (var 8) (var 9)

module _ (f t a b c : Corner) (level : turn a b c ≡ pos 0) where
  none_left : (k u v : ℤ) → u ≡ v +ℤ k *ℤ turn a b c → u ≡ v
  none_left k u v e = let z : k *ℤ turn a b c ≡ pos 0 = ap (λ x. k *ℤ x) level ∙ mul_zero k in omega (arith, ints, e, z)

  pub rises_across : (b.x -ℤ a.x) *ℤ (turn f t c -ℤ turn f t a) ≡ (turn f t b -ℤ turn f t a) *ℤ (c.x -ℤ a.x)
  rises_across = none_left (t.x -ℤ f.x) _ _
      (same_by (f.x ∷ f.y ∷ t.x ∷ t.y ∷ a.x ∷ a.y ∷ b.x ∷ b.y ∷ c.x ∷ c.y ∷ [])
      (mul (sub (var 6) (var 4)) (rise_of (var 8) (var 9)))
      (add (mul (rise_of (var 6) (var 7)) (sub (var 8) (var 4))) (mul across turned))
      refl)

  pub rises_up : (b.y -ℤ a.y) *ℤ (turn f t c -ℤ turn f t a) ≡ (turn f t b -ℤ turn f t a) *ℤ (c.y -ℤ a.y)
  rises_up = none_left (t.y -ℤ f.y) _ _
      (same_by (f.x ∷ f.y ∷ t.x ∷ t.y ∷ a.x ∷ a.y ∷ b.x ∷ b.y ∷ c.x ∷ c.y ∷ [])
      (mul (sub (var 7) (var 5)) (rise_of (var 8) (var 9)))
      (add (mul (rise_of (var 6) (var 7)) (sub (var 9) (var 5))) (mul up turned))
      refl)
