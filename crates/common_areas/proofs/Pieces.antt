-- The area between two lines from one level to another, as a sum over rows of a grid.
use Rattle.std.proofs.Common.{◌≡◌, ◌≢◌, refl, subst, ◌∙◌, sym, ap, arith, [], ◌∷◌, ◌⊎◌, inl, inr, Bool, true, false, if◌then◌else◌}
use Rattle.std.proofs.lemmas.Int.{ints, by_lt_z}
use lib.IntN.{ℤ, pos, ◌+ℤ◌, ◌-ℤ◌, ◌*ℤ◌, neg_ℤ}
use lib.Signed.{◌<ℤ◌, ◌≤ℤ◌, le_z}
use Rattle.geo_exact.proofs.numbers.Polynomials.{var, lit, add, mul, neg, sub, same_by}
use Rattle.geo_exact.proofs.numbers.Signs.{mul_pos, mul_neg, mul_not_neg, mul_falling}
use Rattle.geo_exact.proofs.numbers.Orders.{le_of_lt}
use Rattle.common_areas.specs.Fractions.{Fraction}
use Rattle.common_areas.specs.Between.{size, area_of_gaps}
use Rattle.common_areas.specs.Grid.{Divides}
use Rattle.common_areas.proofs.Numbers.{size_not_neg, size_not_pos, size_is_not_neg, size_times, size_of_product}
use Rattle.common_areas.proofs.Numbers.{signed_square, odd_steps, squares_alike, squares_apart, sizes_apart}
use Rattle.common_areas.proofs.Scaled.{IsAt, cancel}

-- a trapezoid: its height, its sides' lengths and what they are at the scale
trapezoid : (H h c W B S M G0 G1 p0 p1 D : ℤ) → pos 0 <ℤ H
    → H *ℤ h ≡ M → H *ℤ G0 ≡ S *ℤ p0 → H *ℤ G1 ≡ S *ℤ p1
    → pos 2 *ℤ H *ℤ c *ℤ B ≡ W *ℤ S → M *ℤ (p0 +ℤ p1) ≡ D
    → h *ℤ (G0 +ℤ G1) *ℤ (W *ℤ H) ≡ B *ℤ D *ℤ (pos 2 *ℤ c)
trapezoid H h c W B S M G0 G1 p0 p1 D Hp eh e0 e1 eb ed = cancel H _ _ Hp (
    same_by (H ∷ h ∷ G0 ∷ G1 ∷ W ∷ [])
    (mul (var 0) (mul (mul (var 1) (add (var 2) (var 3))) (mul (var 4) (var 0))))
    (mul (mul (mul (var 0) (var 1)) (add (mul (var 0) (var 2)) (mul (var 0) (var 3)))) (var 4)) refl
    ∙ ap (λ x. x *ℤ (H *ℤ G0 +ℤ H *ℤ G1) *ℤ W) eh
    ∙ ap (λ x. M *ℤ (x +ℤ H *ℤ G1) *ℤ W) e0
    ∙ ap (λ x. M *ℤ (S *ℤ p0 +ℤ x) *ℤ W) e1
    ∙ same_by (M ∷ S ∷ p0 ∷ p1 ∷ W ∷ [])
    (mul (mul (var 0) (add (mul (var 1) (var 2)) (mul (var 1) (var 3)))) (var 4))
    (mul (mul (var 4) (var 1)) (mul (var 0) (add (var 2) (var 3)))) refl
    ∙ ap (λ x. W *ℤ S *ℤ x) ed
    ∙ ap (λ x. x *ℤ D) (sym eb)
    ∙ same_by (H ∷ c ∷ B ∷ D ∷ [])
    (mul (mul (mul (mul (lit (pos 2)) (var 0)) (var 1)) (var 2)) (var 3))
    (mul (var 0) (mul (mul (var 2) (var 3)) (mul (lit (pos 2)) (var 1)))) refl)

-- two triangles, likewise
triangles : (H h c W B S s M g0 g1 G0 G1 m0 m1 p0 p1 D : ℤ) → pos 0 <ℤ H
    → H *ℤ h ≡ M → H *ℤ g0 ≡ s *ℤ m0 → H *ℤ g1 ≡ s *ℤ m1 → H *ℤ G0 ≡ S *ℤ p0 → H *ℤ G1 ≡ S *ℤ p1
    → pos 2 *ℤ H *ℤ c *ℤ B ≡ W *ℤ S → S *ℤ S ≡ s *ℤ s → m0 *ℤ m0 +ℤ m1 *ℤ m1 ≡ D → p0 +ℤ p1 ≡ M
    → h *ℤ (g0 *ℤ g0 +ℤ g1 *ℤ g1) *ℤ (W *ℤ H) ≡ B *ℤ D *ℤ (pos 2 *ℤ c *ℤ (G0 +ℤ G1))
triangles H h c W B S s M g0 g1 G0 G1 m0 m1 p0 p1 D Hp eh f0 f1 e0 e1 eb es ed ep = cancel (H *ℤ H) _ _ (mul_pos H H Hp Hp) (
    same_by (H ∷ h ∷ g0 ∷ g1 ∷ W ∷ [])
    (mul (mul (var 0) (var 0)) (mul (mul (var 1) (add (mul (var 2) (var 2)) (mul (var 3) (var 3)))) (mul (var 4) (var 0))))
    (mul (mul (mul (var 0) (var 1)) (add (mul (mul (var 0) (var 2)) (mul (var 0) (var 2)))
    (mul (mul (var 0) (var 3)) (mul (var 0) (var 3)))))
    (var 4)) refl
    ∙ ap (λ x. x *ℤ (H *ℤ g0 *ℤ (H *ℤ g0) +ℤ H *ℤ g1 *ℤ (H *ℤ g1)) *ℤ W) eh
    ∙ ap (λ x. M *ℤ (x *ℤ x +ℤ H *ℤ g1 *ℤ (H *ℤ g1)) *ℤ W) f0
    ∙ ap (λ x. M *ℤ (s *ℤ m0 *ℤ (s *ℤ m0) +ℤ x *ℤ x) *ℤ W) f1
    ∙ same_by (M ∷ s ∷ m0 ∷ m1 ∷ W ∷ [])
    (mul (mul (var 0) (add (mul (mul (var 1) (var 2)) (mul (var 1) (var 2))) (mul (mul (var 1) (var 3)) (mul (var 1) (var 3))))) (var 4))
    (mul (mul (mul (var 4) (mul (var 1) (var 1))) (add (mul (var 2) (var 2)) (mul (var 3) (var 3)))) (var 0)) refl
    ∙ ap (λ x. W *ℤ (s *ℤ s) *ℤ x *ℤ M) ed
    ∙ ap (λ x. W *ℤ x *ℤ D *ℤ M) (sym es)
    ∙ ap (λ x. W *ℤ (S *ℤ S) *ℤ D *ℤ x) (sym ep)
    ∙ same_by (W ∷ S ∷ D ∷ p0 ∷ p1 ∷ [])
    (mul (mul (mul (var 0) (mul (var 1) (var 1))) (var 2)) (add (var 3) (var 4)))
    (mul (mul (mul (var 0) (var 1)) (var 2)) (add (mul (var 1) (var 3)) (mul (var 1) (var 4)))) refl
    ∙ ap (λ x. W *ℤ S *ℤ D *ℤ (x +ℤ S *ℤ p1)) (sym e0)
    ∙ ap (λ x. W *ℤ S *ℤ D *ℤ (H *ℤ G0 +ℤ x)) (sym e1)
    ∙ ap (λ x. x *ℤ D *ℤ (H *ℤ G0 +ℤ H *ℤ G1)) (sym eb)
    ∙ same_by (H ∷ c ∷ B ∷ D ∷ G0 ∷ G1 ∷ [])
    (mul (mul (mul (mul (mul (lit (pos 2)) (var 0)) (var 1)) (var 2)) (var 3)) (add (mul (var 0) (var 4)) (mul (var 0) (var 5))))
    (mul (mul (var 0) (var 0)) (mul (mul (var 2) (var 3)) (mul (mul (lit (pos 2)) (var 1)) (add (var 4) (var 5))))) refl)

-- Two lines: from level lo to level hi their gap is (γ + s y) / c. In row k the columns between them are α + (2k + 1) β.
pub record TwoLines (H W c lo hi γ s α β : ℤ) : Type 0 where
  pub H_positive : pos 0 <ℤ H
  pub c_positive : pos 0 <ℤ c
  pub W_not_negative : pos 0 ≤ℤ W
  pub ascends : lo <ℤ hi
  pub at_start : c *ℤ α ≡ W *ℤ γ
  pub widens : pos 2 *ℤ H *ℤ c *ℤ β ≡ W *ℤ s
  pub suits : (s ≡ pos 0) ⊎ Divides s H

-- what the columns between the lines sum to: T tells the sum up to a row
pub record IsSummed (H W c lo hi γ s α β : ℤ) : Type 0 where
  pub T : ℤ → ℤ
  pub steps : (k : ℤ) → size (α +ℤ (pos 2 *ℤ k +ℤ pos 1) *ℤ β) ≡ T (k +ℤ pos 1) -ℤ T k
  pub sum : IsAt (W *ℤ H) (area_of_gaps (hi -ℤ lo) c (γ +ℤ s *ℤ lo) (γ +ℤ s *ℤ hi)) (T (hi *ℤ H) -ℤ T (lo *ℤ H))

-- ---- parallel lines
parallel_steps : (α β k : ℤ) → β ≡ pos 0 → size (α +ℤ (pos 2 *ℤ k +ℤ pos 1) *ℤ β) ≡ size α *ℤ (k +ℤ pos 1) -ℤ size α *ℤ k
parallel_steps α β k e =
    ap (λ x. size (α +ℤ (pos 2 *ℤ k +ℤ pos 1) *ℤ x)) e
    ∙ ap size (same_by (α ∷ k ∷ []) (add (var 0) (mul (add (mul (lit (pos 2)) (var 1)) (lit (pos 1))) (lit (pos 0)))) (var 0) refl)
    ∙ same_by (size α ∷ k ∷ []) (var 0) (sub (mul (var 0) (add (var 1) (lit (pos 1)))) (mul (var 0) (var 1))) refl

square_not_neg : (z : ℤ) → pos 0 ≤ℤ (z *ℤ z)
square_not_neg z = by_lt_z z (pos 0)
    (λ h. mul_falling z z (omega (arith, ints)) (omega (arith, ints)))
    (λ h. mul_not_neg z z h h)

square_pos : (z : ℤ) → z ≢ pos 0 → pos 0 <ℤ (z *ℤ z)
square_pos z h = by_lt_z z (pos 0)
    (λ p. let e : pos 0 <ℤ (neg_ℤ z *ℤ neg_ℤ z) = mul_pos (neg_ℤ z) (neg_ℤ z) (omega (arith, ints)) (omega (arith, ints)) in
    let f : neg_ℤ z *ℤ neg_ℤ z ≡ z *ℤ z = same_by (z ∷ []) (mul (neg (var 0)) (neg (var 0))) (mul (var 0) (var 0)) refl in
    omega (arith, ints, e, f))
    (λ p. by_lt_z (pos 0) z (λ q. mul_pos z z q q) (λ q. absurd (h (omega (arith, ints)))))

-- the fraction of a trapezoid, or of two triangles
abbrev picked : Bool → ℤ → ℤ → ℤ → ℤ → Fraction
picked x h c u v =
    if x
    then record { n = h *ℤ (size u +ℤ size v); d = pos 2 *ℤ c }
    else record { n = h *ℤ (u *ℤ u +ℤ v *ℤ v); d = pos 2 *ℤ c *ℤ (size u +ℤ size v) }

alike_is : (h c u v : ℤ) → pos 0 ≤ℤ (u *ℤ v)
    → area_of_gaps h c u v ≡ (let f : Fraction = record { n = h *ℤ (size u +ℤ size v); d = pos 2 *ℤ c } in f)
alike_is h c u v k =
    let b : true ≡ le_z (pos 0) (u *ℤ v) = omega (arith, ints) in
    sym (ap (λ x. picked x h c u v) b)

apart_is : (h c u v : ℤ) → (u *ℤ v) <ℤ pos 0
    → area_of_gaps h c u v
    ≡ (let f : Fraction = record { n = h *ℤ (u *ℤ u +ℤ v *ℤ v); d = pos 2 *ℤ c *ℤ (size u +ℤ size v) } in f)
apart_is h c u v k =
    let b : false ≡ le_z (pos 0) (u *ℤ v) = omega (arith, ints) in
    sym (ap (λ x. picked x h c u v) b)

twice_positive : (c : ℤ) → pos 0 <ℤ c → pos 0 <ℤ (pos 2 *ℤ c)
twice_positive c h = omega (arith, ints)

parallel_value : (H W c lo hi A G : ℤ) → c *ℤ A ≡ W *ℤ G
    → (hi -ℤ lo) *ℤ (G +ℤ G) *ℤ (W *ℤ H) ≡ (A *ℤ (hi *ℤ H) -ℤ A *ℤ (lo *ℤ H)) *ℤ (pos 2 *ℤ c)
parallel_value H W c lo hi A G e =
    same_by (H ∷ W ∷ lo ∷ hi ∷ G ∷ [])
    (mul (mul (sub (var 3) (var 2)) (add (var 4) (var 4))) (mul (var 1) (var 0)))
    (mul (mul (mul (var 1) (var 4)) (lit (pos 2))) (mul (sub (var 3) (var 2)) (var 0))) refl
    ∙ ap (λ x. x *ℤ pos 2 *ℤ ((hi -ℤ lo) *ℤ H)) (sym e)
    ∙ same_by (H ∷ c ∷ lo ∷ hi ∷ A ∷ [])
    (mul (mul (mul (var 1) (var 4)) (lit (pos 2))) (mul (sub (var 3) (var 2)) (var 0)))
    (mul (sub (mul (var 4) (mul (var 3) (var 0))) (mul (var 4) (mul (var 2) (var 0)))) (mul (lit (pos 2)) (var 1))) refl

no_slope : (γ s y : ℤ) → s ≡ pos 0 → γ +ℤ s *ℤ y ≡ γ
no_slope γ s y e = ap (λ x. γ +ℤ x *ℤ y) e ∙ same_by (γ ∷ y ∷ []) (add (var 0) (mul (lit (pos 0)) (var 1))) (var 0) refl

parallel_sum : (H W c lo hi γ s α β : ℤ) → TwoLines H W c lo hi γ s α β → s ≡ pos 0
    → IsAt (W *ℤ H) (area_of_gaps (hi -ℤ lo) c (γ +ℤ s *ℤ lo) (γ +ℤ s *ℤ hi)) (size α *ℤ (hi *ℤ H) -ℤ size α *ℤ (lo *ℤ H))
parallel_sum H W c lo hi γ s α β l e =
    let sizes : c *ℤ size α ≡ W *ℤ size γ =
    sym (size_times c α (omega (arith, ints, l.c_positive))) ∙ ap size l.at_start ∙ size_times W γ l.W_not_negative in
    subst (λ a. IsAt (W *ℤ H) a (size α *ℤ (hi *ℤ H) -ℤ size α *ℤ (lo *ℤ H)))
    (sym (ap (λ x. area_of_gaps (hi -ℤ lo) c x (γ +ℤ s *ℤ hi)) (no_slope γ s lo e)
    ∙ ap (λ x. area_of_gaps (hi -ℤ lo) c γ x) (no_slope γ s hi e)
    ∙ alike_is (hi -ℤ lo) c γ γ (square_not_neg γ)))
    (record { positive = twice_positive c l.c_positive; value = parallel_value H W c lo hi (size α) (size γ) sizes })

parallel : (H W c lo hi γ s α β : ℤ) → TwoLines H W c lo hi γ s α β → s ≡ pos 0 → IsSummed H W c lo hi γ s α β
parallel H W c lo hi γ s α β l e =
    let two_H_c : pos 0 <ℤ (pos 2 *ℤ H *ℤ c) = mul_pos (pos 2 *ℤ H) c (twice_positive H l.H_positive) l.c_positive in
    let flat : pos 2 *ℤ H *ℤ c *ℤ β ≡ pos 2 *ℤ H *ℤ c *ℤ pos 0 =
    l.widens ∙ ap (λ x. W *ℤ x) e ∙ omega (arith, ints) in
    let b : β ≡ pos 0 = cancel (pos 2 *ℤ H *ℤ c) β (pos 0) two_H_c flat in
    record { T = λ k. size α *ℤ k; steps = λ k. parallel_steps α β k b; sum = parallel_sum H W c lo hi γ s α β l e }

-- ---- lines that cross
-- at the scale the gap at a level is s times how many rows the level is above the crossing
at_scale : (H γ s t y : ℤ) → H ≡ s *ℤ t → H *ℤ (γ +ℤ s *ℤ y) ≡ s *ℤ (y *ℤ H +ℤ t *ℤ γ)
at_scale H γ s t y e =
    same_by (H ∷ γ ∷ s ∷ y ∷ []) (mul (var 0) (add (var 1) (mul (var 2) (var 3))))
    (add (mul (var 0) (var 1)) (mul (var 2) (mul (var 3) (var 0)))) refl
    ∙ ap (λ x. x *ℤ γ +ℤ s *ℤ (y *ℤ H)) e
    ∙ same_by (H ∷ γ ∷ s ∷ t ∷ y ∷ []) (add (mul (mul (var 2) (var 3)) (var 1)) (mul (var 2) (mul (var 4) (var 0))))
    (mul (var 2) (add (mul (var 4) (var 0)) (mul (var 3) (var 1)))) refl

start_is : (H W c γ s t α β : ℤ) → pos 0 <ℤ H → pos 0 <ℤ c → c *ℤ α ≡ W *ℤ γ → pos 2 *ℤ H *ℤ c *ℤ β ≡ W *ℤ s
    → H ≡ s *ℤ t → α ≡ pos 2 *ℤ (t *ℤ γ) *ℤ β
start_is H W c γ s t α β Hp cp ea eb e = cancel (H *ℤ c) _ _ (mul_pos H c Hp cp) (
    same_by (H ∷ c ∷ α ∷ []) (mul (mul (var 0) (var 1)) (var 2)) (mul (var 0) (mul (var 1) (var 2))) refl
    ∙ ap (λ x. H *ℤ x) ea
    ∙ ap (λ x. x *ℤ (W *ℤ γ)) e
    ∙ same_by (s ∷ t ∷ W ∷ γ ∷ []) (mul (mul (var 0) (var 1)) (mul (var 2) (var 3)))
    (mul (mul (var 2) (var 0)) (mul (var 1) (var 3))) refl
    ∙ ap (λ x. x *ℤ (t *ℤ γ)) (sym eb)
    ∙ same_by (H ∷ c ∷ β ∷ t ∷ γ ∷ [])
    (mul (mul (mul (mul (lit (pos 2)) (var 0)) (var 1)) (var 2)) (mul (var 3) (var 4)))
    (mul (mul (var 0) (var 1)) (mul (mul (lit (pos 2)) (mul (var 3) (var 4))) (var 2))) refl)

crossing_steps : (t γ α β k : ℤ) → α ≡ pos 2 *ℤ (t *ℤ γ) *ℤ β
    → size (α +ℤ (pos 2 *ℤ k +ℤ pos 1) *ℤ β)
    ≡ size β *ℤ signed_square (k +ℤ pos 1 +ℤ t *ℤ γ) -ℤ size β *ℤ signed_square (k +ℤ t *ℤ γ)
crossing_steps t γ α β k e =
    ap (λ x. size (x +ℤ (pos 2 *ℤ k +ℤ pos 1) *ℤ β)) e
    ∙ ap size (same_by (t ∷ γ ∷ β ∷ k ∷ [])
    (add (mul (mul (lit (pos 2)) (mul (var 0) (var 1))) (var 2)) (mul (add (mul (lit (pos 2)) (var 3)) (lit (pos 1))) (var 2)))
    (mul (var 2) (add (mul (lit (pos 2)) (add (var 3) (mul (var 0) (var 1)))) (lit (pos 1)))) refl)
    ∙ size_of_product β (pos 2 *ℤ (k +ℤ t *ℤ γ) +ℤ pos 1)
    ∙ ap (λ x. size β *ℤ x) (odd_steps (k +ℤ t *ℤ γ))
    ∙ ap (λ x. size β *ℤ (signed_square x -ℤ signed_square (k +ℤ t *ℤ γ))) (moved k (t *ℤ γ))
    ∙ apart_from (size β) (signed_square (k +ℤ pos 1 +ℤ t *ℤ γ)) (signed_square (k +ℤ t *ℤ γ))
  where
    moved : (u v : ℤ) → u +ℤ v +ℤ pos 1 ≡ u +ℤ pos 1 +ℤ v
    moved u v = omega (arith, ints)

    apart_from : (b u v : ℤ) → b *ℤ (u -ℤ v) ≡ b *ℤ u -ℤ b *ℤ v
    apart_from b u v = same_by (b ∷ u ∷ v ∷ []) (mul (var 0) (sub (var 1) (var 2)))
        (sub (mul (var 0) (var 1)) (mul (var 0) (var 2))) refl

-- what is known of two lines that cross: M rows between the levels, of which the lower is m0 above the crossing, and the higher m1
record Crossing (H W c h g0 g1 s m0 m1 β : ℤ) : Type 0 where
  H_positive : pos 0 <ℤ H
  c_positive : pos 0 <ℤ c
  s_not_zero : s ≢ pos 0
  height : H *ℤ h ≡ m1 -ℤ m0
  height_positive : pos 0 <ℤ (m1 -ℤ m0)
  first : H *ℤ g0 ≡ s *ℤ m0
  second : H *ℤ g1 ≡ s *ℤ m1
  first_size : H *ℤ size g0 ≡ size s *ℤ size m0
  second_size : H *ℤ size g1 ≡ size s *ℤ size m1
  widens : pos 2 *ℤ H *ℤ c *ℤ size β ≡ W *ℤ size s
  signs : H *ℤ H *ℤ (g0 *ℤ g1) ≡ s *ℤ s *ℤ (m0 *ℤ m1)

some_size : (u v : ℤ) → (u *ℤ v) <ℤ pos 0 → pos 0 <ℤ (size u +ℤ size v)
some_size u v k = by_lt_z u (pos 0)
    (λ p. omega (arith, ints, size_not_pos u (omega (arith, ints)), size_is_not_neg v))
    (λ p. by_lt_z (pos 0) u
    (λ q. omega (arith, ints, size_not_neg u p, size_is_not_neg v))
    (λ q. let e : u ≡ pos 0 = omega (arith, ints) in absurd (omega (arith, ints, k, ap (λ x. x *ℤ v) e))))

difference_of : (b u v : ℤ) → b *ℤ (u -ℤ v) ≡ b *ℤ u -ℤ b *ℤ v
difference_of b u v = same_by (b ∷ u ∷ v ∷ []) (mul (var 0) (sub (var 1) (var 2))) (sub (mul (var 0) (var 1)) (mul (var 0) (var 2))) refl

crossing_alike : (H W c h g0 g1 s m0 m1 β : ℤ) → Crossing H W c h g0 g1 s m0 m1 β → pos 0 ≤ℤ (g0 *ℤ g1)
    → IsAt (W *ℤ H) (area_of_gaps h c g0 g1) (size β *ℤ signed_square m1 -ℤ size β *ℤ signed_square m0)
crossing_alike H W c h g0 g1 s m0 m1 β x k =
    let m : pos 0 ≤ℤ (m0 *ℤ m1) = by_lt_z (m0 *ℤ m1) (pos 0)
    (λ p. absurd (omega (
      arith,
      ints,
      x.signs,
      mul_neg (s *ℤ s) (m0 *ℤ m1) (square_pos s x.s_not_zero) p,
      mul_not_neg (H *ℤ H) (g0 *ℤ g1) (omega (arith, ints, mul_pos H H x.H_positive x.H_positive)) k,
    )))
    (λ p. p) in
    subst (λ a. IsAt (W *ℤ H) a (size β *ℤ signed_square m1 -ℤ size β *ℤ signed_square m0))
    (sym (alike_is h c g0 g1 k))
    (record {
      positive = twice_positive c x.c_positive;
      value =
          trapezoid H h c W (size β) (size s) (m1 -ℤ m0) (size g0) (size g1) (size m0) (size m1) (signed_square m1 -ℤ signed_square m0)
          x.H_positive x.height x.first_size x.second_size x.widens (squares_alike m0 m1 m)
          ∙ ap (λ z. z *ℤ (pos 2 *ℤ c)) (difference_of (size β) (signed_square m1) (signed_square m0));
    })

crossing_apart : (H W c h g0 g1 s m0 m1 β : ℤ) → Crossing H W c h g0 g1 s m0 m1 β → (g0 *ℤ g1) <ℤ pos 0
    → IsAt (W *ℤ H) (area_of_gaps h c g0 g1) (size β *ℤ signed_square m1 -ℤ size β *ℤ signed_square m0)
crossing_apart H W c h g0 g1 s m0 m1 β x k =
    let m : (m0 *ℤ m1) <ℤ pos 0 = by_lt_z (m0 *ℤ m1) (pos 0) (λ p. p)
    (λ p. absurd (omega (
      arith,
      ints,
      x.signs,
      mul_not_neg (s *ℤ s) (m0 *ℤ m1) (square_not_neg s) p,
      mul_neg (H *ℤ H) (g0 *ℤ g1) (mul_pos H H x.H_positive x.H_positive) k,
    ))) in
    let low : m0 <ℤ pos 0 = by_lt_z m0 (pos 0) (λ p. p)
    (λ p. absurd (omega (arith, ints, m, mul_not_neg m0 m1 p (omega (arith, ints, x.height_positive))))) in
    let high : pos 0 <ℤ m1 = by_lt_z (pos 0) m1 (λ p. p)
    (λ p. absurd (omega (arith, ints, m, mul_falling m0 m1 (omega (arith, ints)) p))) in
    let sizes : pos 0 <ℤ (size g0 +ℤ size g1) = some_size g0 g1 k in
    let squares : size s *ℤ size s ≡ s *ℤ s = sym (size_of_product s s) ∙ size_not_neg (s *ℤ s) (square_not_neg s) in
    subst (λ a. IsAt (W *ℤ H) a (size β *ℤ signed_square m1 -ℤ size β *ℤ signed_square m0))
    (sym (apart_is h c g0 g1 k))
    (record {
      positive = mul_pos (pos 2 *ℤ c) (size g0 +ℤ size g1) (twice_positive c x.c_positive) sizes;
      value =
          triangles H h c W (size β) (size s) s (m1 -ℤ m0) g0 g1 (size g0) (size g1) m0 m1 (size m0) (size m1)
          (signed_square m1 -ℤ signed_square m0)
          x.H_positive x.height x.first x.second x.first_size x.second_size x.widens squares
          (squares_apart m0 m1 low high) (sizes_apart m0 m1 low high)
          ∙ ap (λ z. z *ℤ (pos 2 *ℤ c *ℤ (size g0 +ℤ size g1))) (difference_of (size β) (signed_square m1) (signed_square m0));
    })

product_at_scale : (H g0 g1 s m0 m1 : ℤ) → H *ℤ g0 ≡ s *ℤ m0 → H *ℤ g1 ≡ s *ℤ m1
    → H *ℤ H *ℤ (g0 *ℤ g1) ≡ s *ℤ s *ℤ (m0 *ℤ m1)
product_at_scale H g0 g1 s m0 m1 h k =
    same_by (H ∷ g0 ∷ g1 ∷ []) (mul (mul (var 0) (var 0)) (mul (var 1) (var 2))) (mul (mul (var 0) (var 1)) (mul (var 0) (var 2))) refl
    ∙ ap (λ x. x *ℤ (H *ℤ g1)) h
    ∙ ap (λ x. s *ℤ m0 *ℤ x) k
    ∙ same_by (s ∷ m0 ∷ m1 ∷ []) (mul (mul (var 0) (var 1)) (mul (var 0) (var 2))) (mul (mul (var 0) (var 0)) (mul (var 1) (var 2))) refl

size_at_scale : (H g s m : ℤ) → pos 0 <ℤ H → H *ℤ g ≡ s *ℤ m → H *ℤ size g ≡ size s *ℤ size m
size_at_scale H g s m Hp e = sym (size_times H g (omega (arith, ints))) ∙ ap size e ∙ size_of_product s m

height_is : (H lo hi z : ℤ) → H *ℤ (hi -ℤ lo) ≡ hi *ℤ H +ℤ z -ℤ (lo *ℤ H +ℤ z)
height_is H lo hi z = same_by (H ∷ lo ∷ hi ∷ z ∷ []) (mul (var 0) (sub (var 2) (var 1)))
    (sub (add (mul (var 2) (var 0)) (var 3)) (add (mul (var 1) (var 0)) (var 3))) refl

crossing_of : (H W c lo hi γ s α β t : ℤ) → TwoLines H W c lo hi γ s α β → s ≢ pos 0 → H ≡ s *ℤ t
    → Crossing H W c (hi -ℤ lo) (γ +ℤ s *ℤ lo) (γ +ℤ s *ℤ hi) s (lo *ℤ H +ℤ t *ℤ γ) (hi *ℤ H +ℤ t *ℤ γ) β
crossing_of H W c lo hi γ s α β t l n e =
    let first : H *ℤ (γ +ℤ s *ℤ lo) ≡ s *ℤ (lo *ℤ H +ℤ t *ℤ γ) = at_scale H γ s t lo e in
    let second : H *ℤ (γ +ℤ s *ℤ hi) ≡ s *ℤ (hi *ℤ H +ℤ t *ℤ γ) = at_scale H γ s t hi e in
    let high : H *ℤ (hi -ℤ lo) ≡ hi *ℤ H +ℤ t *ℤ γ -ℤ (lo *ℤ H +ℤ t *ℤ γ) = height_is H lo hi (t *ℤ γ) in
    let two_H_c : pos 0 <ℤ (pos 2 *ℤ H *ℤ c) = mul_pos (pos 2 *ℤ H) c (twice_positive H l.H_positive) l.c_positive in
    record {
      H_positive = l.H_positive;
      c_positive = l.c_positive;
      s_not_zero = n;
      height = high;
      height_positive = subst (λ z. pos 0 <ℤ z) high (mul_pos H (hi -ℤ lo) l.H_positive (omega (arith, ints, l.ascends)));
      first = first;
      second = second;
      first_size = size_at_scale H (γ +ℤ s *ℤ lo) s (lo *ℤ H +ℤ t *ℤ γ) l.H_positive first;
      second_size = size_at_scale H (γ +ℤ s *ℤ hi) s (hi *ℤ H +ℤ t *ℤ γ) l.H_positive second;
      widens = sym (size_times (pos 2 *ℤ H *ℤ c) β (le_of_lt (pos 0) (pos 2 *ℤ H *ℤ c) two_H_c)) ∙ ap size l.widens
          ∙ size_times W s l.W_not_negative;
      signs = product_at_scale H (γ +ℤ s *ℤ lo) (γ +ℤ s *ℤ hi) s (lo *ℤ H +ℤ t *ℤ γ) (hi *ℤ H +ℤ t *ℤ γ) first second;
    }

crossed : (H W c lo hi γ s α β : ℤ) → TwoLines H W c lo hi γ s α β → s ≢ pos 0 → Divides s H → IsSummed H W c lo hi γ s α β
crossed H W c lo hi γ s α β l n d =
    let x = crossing_of H W c lo hi γ s α β d.factor l n d.is in
    record {
      T = λ k. size β *ℤ signed_square (k +ℤ d.factor *ℤ γ);
      steps = λ k. crossing_steps d.factor γ α β k
          (start_is H W c γ s d.factor α β l.H_positive l.c_positive l.at_start l.widens d.is);
      sum = by_lt_z ((γ +ℤ s *ℤ lo) *ℤ (γ +ℤ s *ℤ hi)) (pos 0)
          (λ p. crossing_apart H W c (hi -ℤ lo) (γ +ℤ s *ℤ lo) (γ +ℤ s *ℤ hi) s
          (lo *ℤ H +ℤ d.factor *ℤ γ) (hi *ℤ H +ℤ d.factor *ℤ γ) β x p)
          (λ p. crossing_alike H W c (hi -ℤ lo) (γ +ℤ s *ℤ lo) (γ +ℤ s *ℤ hi) s
          (lo *ℤ H +ℤ d.factor *ℤ γ) (hi *ℤ H +ℤ d.factor *ℤ γ) β x p);
    }

-- the area between two lines is the sum of the columns between them, row by row
pub summed : (H W c lo hi γ s α β : ℤ) → TwoLines H W c lo hi γ s α β → IsSummed H W c lo hi γ s α β
summed H W c lo hi γ s α β l = elim l.suits [
  | inl e ↦ parallel H W c lo hi γ s α β l e
  | inr d ↦ by_lt_z s (pos 0)
      (λ p. crossed H W c lo hi γ s α β l (λ e. absurd (omega (arith, ints, e, p))) d)
      (λ p. by_lt_z (pos 0) s
      (λ q. crossed H W c lo hi γ s α β l (λ e. absurd (omega (arith, ints, e, q))) d)
      (λ q. parallel H W c lo hi γ s α β l (omega (arith, ints))))
]
