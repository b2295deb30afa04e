-- The area between two edges, as a sum over the cells of a grid.
use Rattle.std.proofs.Common.{◌≡◌, ◌≢◌, ℕ, refl, subst, ◌∙◌, sym, ap, arith, [], ◌∷◌, ◌⊎◌, inl, inr, true, false, if◌then◌else◌}
use Rattle.std.proofs.lemmas.Int.{ints, by_lt_z, int_max_is, int_min_is}
use Rattle.std.specs.Int.{int_min, int_max, int_signum}
use lib.IntN.{ℤ, pos, ◌+ℤ◌, ◌-ℤ◌, ◌*ℤ◌, neg_ℤ}
use lib.Signed.{◌<ℤ◌, ◌≤ℤ◌, lt_z}
use Rattle.geo_exact.specs.Limit.{limit}
use Rattle.geo_exact.specs.Rings.{Edge}
use Rattle.geo_exact.proofs.numbers.Polynomials.{var, lit, add, mul, neg, sub, same_by}
use Rattle.geo_exact.proofs.numbers.Signs.{mul_pos, mul_le}
use Rattle.geo_exact.proofs.numbers.Extremes.{min_of, max_of, max_is_one, min_is_one}
use Rattle.geo_exact.proofs.numbers.Orders.{le_of_lt}
use Rattle.common_areas.specs.Fractions.{whole, times}
use Rattle.common_areas.specs.Between.{size, way, rise, lowest, highest, gap, area_of_gaps, area_between, between}
use Rattle.common_areas.specs.Grid.{sum_around, Grid, Divides, IsShare, parting, SuitsPair, Reaches}
use Rattle.common_areas.proofs.Numbers.{size_not_neg, size_not_pos, way_up, way_down}
use Rattle.common_areas.proofs.Scaled.{IsAt, at_nothing, at_times}
use Rattle.common_areas.proofs.Rows.{around-same, around-nothing, around-times, IsStep, stepped}
use Rattle.common_areas.proofs.Pieces.{TwoLines, IsSummed, summed}
use Rattle.common_areas.proofs.EdgeRows.{before, before_yes, before_no, weight, lower, upper, weight_below, weight_above}
use Rattle.common_areas.proofs.EdgeRows.{weight_within, columns_left, size_by_way, share_of, IsReached, reached, columns_positive}

-- ---- the columns between two edges, in a row
-- -1 in a column that is left of one edge and not of the other, and else 0
abbrev split : ℤ → ℤ → ℤ → ℤ
split X Y j = pos 2 *ℤ before j X *ℤ before j Y -ℤ before j X -ℤ before j Y

split_is : (x y a b z : ℤ) → x ≡ a → y ≡ b → pos 2 *ℤ a *ℤ b -ℤ a -ℤ b ≡ z → pos 2 *ℤ x *ℤ y -ℤ x -ℤ y ≡ z
split_is x y a b z f g h = ap (λ u. pos 2 *ℤ u *ℤ y -ℤ u -ℤ y) f ∙ ap (λ u. pos 2 *ℤ a *ℤ u -ℤ a -ℤ u) g ∙ h

split_steps : (X Y : ℤ) → X ≤ℤ Y → IsStep X Y neg_ℤ (split X Y)
split_steps X Y h = record {
  below = λ j p. split_is (before j X) (before j Y) (pos 1) (pos 1) (pos 0) (before_yes j X p)
      (before_yes j Y (omega (arith, ints))) refl;
  step = λ j p q. split_is (before j X) (before j Y) (pos 0) (pos 1) (neg_ℤ (j +ℤ pos 1) -ℤ neg_ℤ j) (before_no j X p)
      (before_yes j Y q) (omega (arith, ints));
  above = λ j p. split_is (before j X) (before j Y) (pos 0) (pos 0) (pos 0) (before_no j X (omega (arith, ints)))
      (before_no j Y p) refl;
}

split_turned : (X Y j : ℤ) → split X Y j ≡ split Y X j
split_turned X Y j = turned (before j X) (before j Y)
  where
    turned : (x y : ℤ) → pos 2 *ℤ x *ℤ y -ℤ x -ℤ y ≡ pos 2 *ℤ y *ℤ x -ℤ y -ℤ x
    turned x y = same_by (x ∷ y ∷ []) (sub (sub (mul (mul (lit (pos 2)) (var 0)) (var 1)) (var 0)) (var 1))
        (sub (sub (mul (mul (lit (pos 2)) (var 1)) (var 0)) (var 1)) (var 0)) refl

columns_between : (m : ℕ) (X Y : ℤ) → IsReached m X → IsReached m Y → sum_around m (split X Y) ≡ neg_ℤ (size (X -ℤ Y))
columns_between m X Y h k = by_lt_z X Y
    (λ p. let s : size (X -ℤ Y) ≡ neg_ℤ (X -ℤ Y) = size_not_pos (X -ℤ Y) (omega (arith, ints)) in
    stepped X Y neg_ℤ (split X Y) (omega (arith, ints)) (split_steps X Y (omega (arith, ints))) m h.low k.high
    ∙ sym (ap neg_ℤ s ∙ back X Y))
    (λ p. let s : size (X -ℤ Y) ≡ X -ℤ Y = size_not_neg (X -ℤ Y) (omega (arith, ints)) in
    around-same m (split X Y) (split Y X) (split_turned X Y)
    ∙ stepped Y X neg_ℤ (split Y X) p (split_steps Y X p) m k.low h.high
    ∙ sym (ap neg_ℤ s ∙ forth X Y))
  where
    back : (u v : ℤ) → neg_ℤ (neg_ℤ (u -ℤ v)) ≡ neg_ℤ v -ℤ neg_ℤ u
    back u v = omega (arith, ints)

    forth : (u v : ℤ) → neg_ℤ (u -ℤ v) ≡ neg_ℤ u -ℤ neg_ℤ v
    forth u v = omega (arith, ints)

-- what a cell gives for two edges: by their weights in its row, and by whether it is left of each
abbrev pub cell : (w v x y : ℤ) → ℤ
cell w v x y = pos 2 *ℤ (w *ℤ x) *ℤ (v *ℤ y) -ℤ v *ℤ (w *ℤ x) -ℤ w *ℤ (v *ℤ y)

cell_is : (w v x y : ℤ) → cell w v x y ≡ w *ℤ v *ℤ (pos 2 *ℤ x *ℤ y -ℤ x -ℤ y)
cell_is w v x y = same_by (w ∷ v ∷ x ∷ y ∷ [])
    (sub (sub (mul (mul (lit (pos 2)) (mul (var 0) (var 2))) (mul (var 1) (var 3))) (mul (var 1) (mul (var 0) (var 2))))
    (mul (var 0) (mul (var 1) (var 3))))
    (mul (mul (var 0) (var 1)) (sub (sub (mul (mul (lit (pos 2)) (var 2)) (var 3)) (var 2)) (var 3)))
    refl

no_weight : (w u z : ℤ) → w ≡ pos 0 → w *ℤ u ≡ neg_ℤ (w *ℤ z)
no_weight w u z e =
    ap (λ x. x *ℤ u) e
    ∙ same_by (u ∷ z ∷ []) (mul (lit (pos 0)) (var 0)) (neg (mul (lit (pos 0)) (var 1))) refl
    ∙ sym (ap (λ x. neg_ℤ (x *ℤ z)) e)

some_weight : (w u z : ℤ) → u ≡ neg_ℤ z → w *ℤ u ≡ neg_ℤ (w *ℤ z)
some_weight w u z e = ap (λ x. w *ℤ x) e ∙ same_by (w ∷ z ∷ []) (mul (var 0) (neg (var 1))) (neg (mul (var 0) (var 1))) refl

weighed : (m : ℕ) (w X Y : ℤ) → (w ≡ pos 0) ⊎ (IsReached m X × IsReached m Y)
    → w *ℤ sum_around m (split X Y) ≡ neg_ℤ (w *ℤ size (X -ℤ Y))
weighed m w X Y h = elim h [
  | inl e ↦ no_weight w (sum_around m (split X Y)) (size (X -ℤ Y)) e
  | inr r ↦ some_weight w (sum_around m (split X Y)) (size (X -ℤ Y)) (columns_between m X Y r.0 r.1)
]

-- the cells of a row, where both edges go through it or one has no weight there
row_is : (m : ℕ) (w v X Y : ℤ) → (w *ℤ v ≡ pos 0) ⊎ (IsReached m X × IsReached m Y)
    → sum_around m (λ j. cell w v (before j X) (before j Y)) ≡ neg_ℤ (w *ℤ v *ℤ size (X -ℤ Y))
row_is m w v X Y h =
    around-same m (λ j. cell w v (before j X) (before j Y)) (λ j. w *ℤ v *ℤ split X Y j) (λ j. cell_is w v (before j X) (before j Y))
    ∙ around-times m (w *ℤ v) (split X Y)
    ∙ weighed m (w *ℤ v) X Y h

-- ---- the lines of two edges
abbrev cross_of : Edge → ℤ
cross_of e = e.from.x *ℤ e.to.y -ℤ e.to.x *ℤ e.from.y

abbrev run_of : Edge → ℤ
run_of e = e.to.x -ℤ e.from.x

gap_by : (ax ay bx by w r cx cy dx dy v s y : ℤ)
    → w *ℤ (ax *ℤ (by -ℤ y) +ℤ bx *ℤ (y -ℤ ay)) *ℤ s -ℤ v *ℤ (cx *ℤ (dy -ℤ y) +ℤ dx *ℤ (y -ℤ cy)) *ℤ r
    ≡ (w *ℤ (ax *ℤ by -ℤ bx *ℤ ay) *ℤ s -ℤ v *ℤ (cx *ℤ dy -ℤ dx *ℤ cy) *ℤ r)
    +ℤ (w *ℤ (bx -ℤ ax) *ℤ s -ℤ v *ℤ (dx -ℤ cx) *ℤ r) *ℤ y
gap_by ax ay bx by w r cx cy dx dy v s y =
    same_by (ax ∷ ay ∷ bx ∷ by ∷ w ∷ r ∷ cx ∷ cy ∷ dx ∷ dy ∷ v ∷ s ∷ y ∷ [])
    (sub (mul (mul (var 4) (add (mul (var 0) (sub (var 3) (var 12))) (mul (var 2) (sub (var 12) (var 1))))) (var 11))
    (mul (mul (var 10) (add (mul (var 6) (sub (var 9) (var 12))) (mul (var 8) (sub (var 12) (var 7))))) (var 5)))
    (add (sub (mul (mul (var 4) (sub (mul (var 0) (var 3)) (mul (var 2) (var 1)))) (var 11))
    (mul (mul (var 10) (sub (mul (var 6) (var 9)) (mul (var 8) (var 7)))) (var 5)))
    (mul (sub (mul (mul (var 4) (sub (var 2) (var 0))) (var 11)) (mul (mul (var 10) (sub (var 8) (var 6))) (var 5))) (var 12)))
    refl

abbrev start_of : Edge → Edge → ℤ
start_of e f = way e *ℤ cross_of e *ℤ rise f -ℤ way f *ℤ cross_of f *ℤ rise e

abbrev slope_of : Edge → Edge → ℤ
slope_of e f = way e *ℤ run_of e *ℤ rise f -ℤ way f *ℤ run_of f *ℤ rise e

gap_is : (e f : Edge) (y : ℤ) → gap e f y ≡ start_of e f +ℤ slope_of e f *ℤ y
gap_is e f y = gap_by e.from.x e.from.y e.to.x e.to.y (way e) (rise e) f.from.x f.from.y f.to.x f.to.y (way f) (rise f) y

-- two numbers of columns, by the shares of both edges
shares_by : (H r s q p W A B : ℤ) → W ≡ pos 2 *ℤ H *ℤ r *ℤ q → W ≡ pos 2 *ℤ H *ℤ s *ℤ p
    → pos 2 *ℤ H *ℤ (r *ℤ s) *ℤ (q *ℤ A -ℤ p *ℤ B) ≡ W *ℤ (A *ℤ s -ℤ B *ℤ r)
shares_by H r s q p W A B e f =
    same_by (H ∷ r ∷ s ∷ q ∷ p ∷ A ∷ B ∷ [])
    (mul (mul (mul (lit (pos 2)) (var 0)) (mul (var 1) (var 2))) (sub (mul (var 3) (var 5)) (mul (var 4) (var 6))))
    (sub (mul (mul (mul (mul (lit (pos 2)) (var 0)) (var 1)) (var 3)) (mul (var 5) (var 2)))
    (mul (mul (mul (mul (lit (pos 2)) (var 0)) (var 2)) (var 4)) (mul (var 6) (var 1))))
    refl
    ∙ ap (λ x. x *ℤ (A *ℤ s) -ℤ pos 2 *ℤ H *ℤ s *ℤ p *ℤ (B *ℤ r)) (sym e)
    ∙ ap (λ x. W *ℤ (A *ℤ s) -ℤ x *ℤ (B *ℤ r)) (sym f)
    ∙ same_by (W ∷ A ∷ s ∷ B ∷ r ∷ []) (sub (mul (var 0) (mul (var 1) (var 2))) (mul (var 0) (mul (var 3) (var 4))))
    (mul (var 0) (sub (mul (var 1) (var 2)) (mul (var 3) (var 4)))) refl

columns_apart : (H q w E D p v F G k : ℤ)
    → q *ℤ (w *ℤ (pos 2 *ℤ H *ℤ E +ℤ (pos 2 *ℤ k +ℤ pos 1) *ℤ D)) -ℤ p *ℤ (v *ℤ (pos 2 *ℤ H *ℤ F +ℤ (pos 2 *ℤ k +ℤ pos 1) *ℤ G))
    ≡ pos 2 *ℤ H *ℤ (q *ℤ (w *ℤ E) -ℤ p *ℤ (v *ℤ F)) +ℤ (pos 2 *ℤ k +ℤ pos 1) *ℤ (q *ℤ (w *ℤ D) -ℤ p *ℤ (v *ℤ G))
columns_apart H q w E D p v F G k =
    let odd = add (mul (lit (pos 2)) (var 9)) (lit (pos 1)) in
    let two_H = mul (lit (pos 2)) (var 0) in
    same_by (H ∷ q ∷ w ∷ E ∷ D ∷ p ∷ v ∷ F ∷ G ∷ k ∷ [])
    (sub (mul (var 1) (mul (var 2) (add (mul two_H (var 3)) (mul odd (var 4)))))
    (mul (var 5) (mul (var 6) (add (mul two_H (var 7)) (mul odd (var 8))))))
    (add (mul two_H (sub (mul (var 1) (mul (var 2) (var 3))) (mul (var 5) (mul (var 6) (var 7)))))
    (mul odd (sub (mul (var 1) (mul (var 2) (var 4))) (mul (var 5) (mul (var 6) (var 8))))))
    refl

slope_by : (w v D G y z : ℤ) → w *ℤ D *ℤ (v *ℤ z) -ℤ v *ℤ G *ℤ (w *ℤ y) ≡ w *ℤ v *ℤ (D *ℤ z -ℤ G *ℤ y)
slope_by w v D G y z = same_by (w ∷ v ∷ D ∷ G ∷ y ∷ z ∷ [])
    (sub (mul (mul (var 0) (var 2)) (mul (var 1) (var 5))) (mul (mul (var 1) (var 3)) (mul (var 0) (var 4))))
    (mul (mul (var 0) (var 1)) (sub (mul (var 2) (var 5)) (mul (var 3) (var 4)))) refl

slope_is : (e f : Edge) → slope_of e f ≡ way e *ℤ way f *ℤ parting e f
slope_is e f =
    ap (λ x. way e *ℤ run_of e *ℤ x -ℤ way f *ℤ run_of f *ℤ rise e) (size_by_way (f.to.y -ℤ f.from.y))
    ∙ ap (λ x. way e *ℤ run_of e *ℤ (way f *ℤ (f.to.y -ℤ f.from.y)) -ℤ way f *ℤ run_of f *ℤ x) (size_by_way (e.to.y -ℤ e.from.y))
    ∙ slope_by (way e) (way f) (run_of e) (run_of f) (e.to.y -ℤ e.from.y) (f.to.y -ℤ f.from.y)

way_square : (z : ℤ) → z ≢ pos 0 → int_signum z *ℤ int_signum z ≡ pos 1
way_square z h = by_lt_z (pos 0) z
    (λ p. ap (λ x. x *ℤ x) (way_up z p))
    (λ p. by_lt_z z (pos 0) (λ q. ap (λ x. x *ℤ x) (way_down z q)) (λ q. absurd (h (omega (arith, ints)))))

suits_by : (H s w v P : ℤ) → s ≡ w *ℤ v *ℤ P → w *ℤ w ≡ pos 1 → v *ℤ v ≡ pos 1 → (P ≡ pos 0) ⊎ Divides P H
    → (s ≡ pos 0) ⊎ Divides s H
suits_by H s w v P e hw hv h = elim h [
  | inl z ↦ inl (e ∙ ap (λ x. w *ℤ v *ℤ x) z ∙ same_by (w ∷ v ∷ []) (mul (mul (var 0) (var 1)) (lit (pos 0))) (lit (pos 0)) refl)
  | inr d ↦ inr (record {
    factor = w *ℤ v *ℤ d.factor;
    is =
        d.is
        ∙ same_by (P ∷ d.factor ∷ []) (mul (var 0) (var 1)) (mul (mul (lit (pos 1)) (lit (pos 1))) (mul (var 0) (var 1))) refl
        ∙ ap (λ x. x *ℤ pos 1 *ℤ (P *ℤ d.factor)) (sym hw)
        ∙ ap (λ x. w *ℤ w *ℤ x *ℤ (P *ℤ d.factor)) (sym hv)
        ∙ same_by (w ∷ v ∷ P ∷ d.factor ∷ [])
        (mul (mul (mul (var 0) (var 0)) (mul (var 1) (var 1))) (mul (var 2) (var 3)))
        (mul (mul (mul (var 0) (var 1)) (var 2)) (mul (mul (var 0) (var 1)) (var 3))) refl
        ∙ ap (λ x. x *ℤ (w *ℤ v *ℤ d.factor)) (sym e);
  })
]

-- ---- the levels that both edges have
lowest_low : (e f : Edge) → (lower e ≤ℤ lowest e f) × (lower f ≤ℤ lowest e f)
unfolding lower
lowest_low e f = max_of {z = lowest e f} {u = int_min e.from.y e.to.y} {v = int_min f.from.y f.to.y} refl

highest_high : (e f : Edge) → (highest e f ≤ℤ upper e) × (highest e f ≤ℤ upper f)
unfolding upper
highest_high e f = min_of {z = highest e f} {u = int_max e.from.y e.to.y} {v = int_max f.from.y f.to.y} refl

lowest_one : (e f : Edge) → (lowest e f ≡ lower e) ⊎ (lowest e f ≡ lower f)
unfolding lower
lowest_one e f = max_is_one {z = lowest e f} {u = int_min e.from.y e.to.y} {v = int_min f.from.y f.to.y} refl

highest_one : (e f : Edge) → (highest e f ≡ upper e) ⊎ (highest e f ≡ upper f)
unfolding upper
highest_one e f = min_is_one {z = highest e f} {u = int_max e.from.y e.to.y} {v = int_max f.from.y f.to.y} refl

-- the product of the weights: 0 below the lowest level and from the highest one on
weights_below : (H : ℤ) (e f : Edge) (k : ℤ) → pos 0 <ℤ H → k <ℤ (lowest e f *ℤ H) → weight H e k *ℤ weight H f k ≡ pos 0
weights_below H e f k h p = elim (lowest_one e f) [
  | inl z ↦ ap (λ x. x *ℤ weight H f k) (weight_below H e k h (subst (λ x. k <ℤ (x *ℤ H)) z p)) ∙ omega (arith, ints)
  | inr z ↦ ap (λ x. weight H e k *ℤ x) (weight_below H f k h (subst (λ x. k <ℤ (x *ℤ H)) z p)) ∙ omega (arith, ints)
]

weights_above : (H : ℤ) (e f : Edge) (k : ℤ) → pos 0 <ℤ H → (highest e f *ℤ H) ≤ℤ k → weight H e k *ℤ weight H f k ≡ pos 0
weights_above H e f k h p = elim (highest_one e f) [
  | inl z ↦ ap (λ x. x *ℤ weight H f k) (weight_above H e k h (subst (λ x. (x *ℤ H) ≤ℤ k) z p)) ∙ omega (arith, ints)
  | inr z ↦ ap (λ x. weight H e k *ℤ x) (weight_above H f k h (subst (λ x. (x *ℤ H) ≤ℤ k) z p)) ∙ omega (arith, ints)
]

not_below : (u v H k : ℤ) → pos 0 <ℤ H → u ≤ℤ v → (v *ℤ H) ≤ℤ k → (u *ℤ H) ≤ℤ k
not_below u v H k h p q = omega (arith, ints, q, mul_le u v H (omega (arith, ints, h)) p)

not_above_of : (u v H k : ℤ) → pos 0 <ℤ H → v ≤ℤ u → k <ℤ (v *ℤ H) → k <ℤ (u *ℤ H)
not_above_of u v H k h p q = omega (arith, ints, q, mul_le v u H (omega (arith, ints, h)) p)

weights_within : (H : ℤ) (e f : Edge) (k : ℤ) → pos 0 <ℤ H → (lowest e f *ℤ H) ≤ℤ k → k <ℤ (highest e f *ℤ H)
    → weight H e k *ℤ weight H f k ≡ way e *ℤ way f
weights_within H e f k h p q =
    ap (λ x. x *ℤ weight H f k) (weight_within H e k h (not_below (lower e) (lowest e f) H k h (lowest_low e f).0 p)
    (not_above_of (upper e) (highest e f) H k h (highest_high e f).0 q))
    ∙ ap (λ x. way e *ℤ x) (weight_within H f k h (not_below (lower f) (lowest e f) H k h (lowest_low e f).1 p)
    (not_above_of (upper f) (highest e f) H k h (highest_high e f).1 q))

-- in each row both edges go through it within the limit, or one has no weight there
reached_or_none : (grid : Grid) (e f : Edge) (q p k : ℤ) (m : ℕ) → IsShare grid e q → IsShare grid f p
    → (pos limit *ℤ grid.columns) ≤ℤ pos m
    → (weight grid.rows e k *ℤ weight grid.rows f k ≡ pos 0)
    ⊎ (IsReached m (columns_left grid.rows q e k) × IsReached m (columns_left grid.rows p f k))
reached_or_none grid e f q p k m he hf wide =
    by_lt_z k (lowest e f *ℤ grid.rows)
    (λ a. inl (weights_below grid.rows e f k grid.rows_positive a))
    (λ a. by_lt_z k (highest e f *ℤ grid.rows)
    (λ b. inr (
      reached grid e q k m he
          (not_below (lower e) (lowest e f) grid.rows k grid.rows_positive (lowest_low e f).0 a)
          (not_above_of (upper e) (highest e f) grid.rows k grid.rows_positive (highest_high e f).0 b) wide,
      reached grid f p k m hf
          (not_below (lower f) (lowest e f) grid.rows k grid.rows_positive (lowest_low e f).1 a)
          (not_above_of (upper f) (highest e f) grid.rows k grid.rows_positive (highest_high e f).1 b) wide,
    ))
    (λ b. inl (weights_above grid.rows e f k grid.rows_positive b)))

-- ---- the area between two edges
-- what row k gives for the two edges
abbrev row_of : (H q p : ℤ) → Edge → Edge → ℤ → ℤ
row_of H q p e f k = neg_ℤ (weight H e k *ℤ weight H f k *ℤ size (columns_left H q e k -ℤ columns_left H p f k))

no_row : (w z : ℤ) → w ≡ pos 0 → neg_ℤ (w *ℤ z) ≡ pos 0
no_row w z e = ap (λ x. neg_ℤ (x *ℤ z)) e ∙ same_by (z ∷ []) (neg (mul (lit (pos 0)) (var 0))) (lit (pos 0)) refl

-- an edge with a level above another is not level
not_level : (e : Edge) → lower e <ℤ upper e → e.from.y ≢ e.to.y
unfolding lower upper
not_level e h z =
    let a = int_min_is e.from.y e.to.y in
    let b = int_max_is e.from.y e.to.y in
    absurd (omega (arith, ints))

rise_positive : (e : Edge) → e.from.y ≢ e.to.y → pos 0 <ℤ rise e
rise_positive e h = by_lt_z e.from.y e.to.y
    (λ p. omega (arith, ints, size_not_neg (e.to.y -ℤ e.from.y) (omega (arith, ints))))
    (λ p. by_lt_z e.to.y e.from.y
    (λ q. omega (arith, ints, size_not_pos (e.to.y -ℤ e.from.y) (omega (arith, ints))))
    (λ q. absurd (h (omega (arith, ints)))))

no_difference : (u v : ℤ) → u ≢ v → v -ℤ u ≢ pos 0
no_difference u v h e = h (omega (arith, ints))

-- the area between two edges that have levels in common
area_is : (e f : Edge) → lowest e f <ℤ highest e f
    → area_between e f
    ≡ area_of_gaps (highest e f -ℤ lowest e f) (rise e *ℤ rise f) (start_of e f +ℤ slope_of e f *ℤ lowest e f)
    (start_of e f +ℤ slope_of e f *ℤ highest e f)
area_is e f h =
    sym (ap (λ b. if b then area_of_gaps (highest e f -ℤ lowest e f) (rise e *ℤ rise f) (gap e f (lowest e f)) (gap e f (highest e f))
    else whole (pos 0)) (test (lowest e f) (highest e f) h))
    ∙ ap (λ x. area_of_gaps (highest e f -ℤ lowest e f) (rise e *ℤ rise f) x (gap e f (highest e f))) (gap_is e f (lowest e f))
    ∙ ap (λ x. area_of_gaps (highest e f -ℤ lowest e f) (rise e *ℤ rise f) (start_of e f +ℤ slope_of e f *ℤ lowest e f) x)
    (gap_is e f (highest e f))
  where
    test : (u v : ℤ) → u <ℤ v → true ≡ lt_z u v
    test u v h = omega (arith, ints)

no_area : (e f : Edge) → highest e f ≤ℤ lowest e f → area_between e f ≡ whole (pos 0)
no_area e f h =
    sym (ap (λ b. if b then area_of_gaps (highest e f -ℤ lowest e f) (rise e *ℤ rise f) (gap e f (lowest e f)) (gap e f (highest e f))
    else whole (pos 0)) (test (lowest e f) (highest e f) h))
  where
    test : (u v : ℤ) → v ≤ℤ u → false ≡ lt_z u v
    test u v h = omega (arith, ints)

abbrev first_columns : (H q p : ℤ) → Edge → Edge → ℤ
first_columns H q p e f = pos 2 *ℤ H *ℤ (q *ℤ (way e *ℤ cross_of e) -ℤ p *ℤ (way f *ℤ cross_of f))

abbrev more_columns : (q p : ℤ) → Edge → Edge → ℤ
more_columns q p e f = q *ℤ (way e *ℤ run_of e) -ℤ p *ℤ (way f *ℤ run_of f)

two_lines : (grid : Grid) (e f : Edge) (q p : ℤ) → IsShare grid e q → IsShare grid f p → SuitsPair grid e f
    → lowest e f <ℤ highest e f
    → TwoLines grid.rows grid.columns (rise e *ℤ rise f) (lowest e f) (highest e f) (start_of e f) (slope_of e f)
    (first_columns grid.rows q p e f) (more_columns q p e f)
two_lines grid e f q p he hf suits h =
    let H = grid.rows in
    let ne : e.from.y ≢ e.to.y =
    not_level e (passed (lower e) (lowest e f) (highest e f) (upper e) (lowest_low e f).0 h (highest_high e f).0) in
    let nf : f.from.y ≢ f.to.y =
    not_level f (passed (lower f) (lowest e f) (highest e f) (upper f) (lowest_low e f).1 h (highest_high e f).1) in
    let se : grid.columns ≡ pos 2 *ℤ grid.rows *ℤ rise e *ℤ q = share_of grid e q he ne in
    let sf : grid.columns ≡ pos 2 *ℤ grid.rows *ℤ rise f *ℤ p = share_of grid f p hf nf in
    record {
      H_positive = grid.rows_positive;
      c_positive = mul_pos (rise e) (rise f) (rise_positive e ne) (rise_positive f nf);
      W_not_negative = le_of_lt (pos 0) grid.columns (columns_positive grid);
      ascends = h;
      at_start =
          same_by (rise e ∷ rise f ∷ H ∷ (q *ℤ (way e *ℤ cross_of e) -ℤ p *ℤ (way f *ℤ cross_of f)) ∷ [])
          (mul (mul (var 0) (var 1)) (mul (mul (lit (pos 2)) (var 2)) (var 3)))
          (mul (mul (mul (lit (pos 2)) (var 2)) (mul (var 0) (var 1))) (var 3)) refl
          ∙ shares_by H (rise e) (rise f) q p grid.columns (way e *ℤ cross_of e) (way f *ℤ cross_of f) se sf;
      widens = shares_by H (rise e) (rise f) q p grid.columns (way e *ℤ run_of e) (way f *ℤ run_of f) se sf;
      suits = suits_by H (slope_of e f) (way e) (way f) (parting e f) (slope_is e f)
          (way_square (e.to.y -ℤ e.from.y) (no_difference e.from.y e.to.y ne))
          (way_square (f.to.y -ℤ f.from.y) (no_difference f.from.y f.to.y nf)) suits;
    }
  where
    passed : (a b c d : ℤ) → a ≤ℤ b → b <ℤ c → c ≤ℤ d → a <ℤ d
    passed a b c d x y z = omega (arith, ints)

row_steps : (grid : Grid) (e f : Edge) (q p : ℤ)
    (s : IsSummed grid.rows grid.columns (rise e *ℤ rise f) (lowest e f) (highest e f) (start_of e f) (slope_of e f)
    (first_columns grid.rows q p e f) (more_columns q p e f))
    → IsStep (lowest e f *ℤ grid.rows) (highest e f *ℤ grid.rows) (λ k. neg_ℤ (way e *ℤ way f) *ℤ s.T k) (row_of grid.rows q p e f)
unfolding columns_left
row_steps grid e f q p s = record {
  below = λ k h. no_row (weight grid.rows e k *ℤ weight grid.rows f k) (size (columns_left grid.rows q e k -ℤ columns_left grid.rows p f k))
      (weights_below grid.rows e f k grid.rows_positive h);
  step = λ k h i.
      ap (λ x. neg_ℤ (x *ℤ size (columns_left grid.rows q e k -ℤ columns_left grid.rows p f k)))
      (weights_within grid.rows e f k grid.rows_positive h i)
      ∙ ap (λ x. neg_ℤ (way e *ℤ way f *ℤ size x))
      (columns_apart grid.rows q (way e) (cross_of e) (run_of e) p (way f) (cross_of f) (run_of f) k)
      ∙ ap (λ x. neg_ℤ (way e *ℤ way f *ℤ x)) (s.steps k)
      ∙ spread (way e *ℤ way f) (s.T (k +ℤ pos 1)) (s.T k);
  above = λ k h. no_row (weight grid.rows e k *ℤ weight grid.rows f k) (size (columns_left grid.rows q e k -ℤ columns_left grid.rows p f k))
      (weights_above grid.rows e f k grid.rows_positive h);
}
  where
    spread : (w u v : ℤ) → neg_ℤ (w *ℤ (u -ℤ v)) ≡ neg_ℤ w *ℤ u -ℤ neg_ℤ w *ℤ v
    spread w u v = same_by (w ∷ u ∷ v ∷ []) (neg (mul (var 0) (sub (var 1) (var 2))))
        (sub (mul (neg (var 0)) (var 1)) (mul (neg (var 0)) (var 2))) refl

-- the levels that both edges have are within the limit
pub within_rows : (H z : ℤ) (n : ℕ) → pos 0 <ℤ H → neg_ℤ (pos limit) ≤ℤ z → z ≤ℤ pos limit → (pos limit *ℤ H) ≤ℤ pos n
    → (neg_ℤ (pos n) ≤ℤ (z *ℤ H)) × ((z *ℤ H) ≤ℤ pos n)
within_rows H z n h low high wide =
    let negated : neg_ℤ (pos limit) *ℤ H ≡ neg_ℤ (pos limit *ℤ H) =
    same_by (pos limit ∷ H ∷ []) (mul (neg (var 0)) (var 1)) (neg (mul (var 0) (var 1))) refl in (
      omega (arith, ints, wide, negated, mul_le (neg_ℤ (pos limit)) z H (omega (arith, ints, h)) low),
      omega (arith, ints, wide, mul_le z (pos limit) H (omega (arith, ints, h)) high),
    )

pub lower_within : (e : Edge) → neg_ℤ (pos limit) ≤ℤ lower e
unfolding lower
lower_within e = elim (min_is_one {z = int_min e.from.y e.to.y} {u = e.from.y} {v = e.to.y} refl) [
  | inl z ↦ subst (λ x. neg_ℤ (pos limit) ≤ℤ x) (sym z) e.from.y_in_range.low
  | inr z ↦ subst (λ x. neg_ℤ (pos limit) ≤ℤ x) (sym z) e.to.y_in_range.low
]

pub upper_within : (e : Edge) → upper e ≤ℤ pos limit
unfolding upper
upper_within e = elim (max_is_one {z = int_max e.from.y e.to.y} {u = e.from.y} {v = e.to.y} refl) [
  | inl z ↦ subst (λ x. x ≤ℤ pos limit) (sym z) e.from.y_in_range.high
  | inr z ↦ subst (λ x. x ≤ℤ pos limit) (sym z) e.to.y_in_range.high
]

rows_sum : (grid : Grid) (e f : Edge) (q p : ℤ) (n : ℕ) → IsShare grid e q → IsShare grid f p → SuitsPair grid e f
    → (pos limit *ℤ grid.rows) ≤ℤ pos n → lowest e f <ℤ highest e f
    → IsAt (grid.columns *ℤ grid.rows) (between e f) (sum_around n (row_of grid.rows q p e f))
rows_sum grid e f q p n he hf suits high h =
    let l = two_lines grid e f q p he hf suits h in
    let s = summed grid.rows grid.columns (rise e *ℤ rise f) (lowest e f) (highest e f) (start_of e f) (slope_of e f)
    (first_columns grid.rows q p e f) (more_columns q p e f) l in
    let at : IsAt (grid.columns *ℤ grid.rows) (area_between e f) (s.T (highest e f *ℤ grid.rows) -ℤ s.T (lowest e f *ℤ grid.rows)) =
    subst (λ a. IsAt (grid.columns *ℤ grid.rows) a (s.T (highest e f *ℤ grid.rows) -ℤ s.T (lowest e f *ℤ grid.rows)))
    (sym (area_is e f h)) s.sum in
    let low_in = within_rows grid.rows (lowest e f) n grid.rows_positive
    (far (neg_ℤ (pos limit)) (lower e) (lowest e f) (lower_within e) (lowest_low e f).0)
    (near (lowest e f) (highest e f) (upper e) (pos limit) h (highest_high e f).0 (upper_within e)) high in
    let high_in = within_rows grid.rows (highest e f) n grid.rows_positive
    (far' (neg_ℤ (pos limit)) (lower e) (lowest e f) (highest e f) (lower_within e) (lowest_low e f).0 h)
    (far (highest e f) (upper e) (pos limit) (highest_high e f).0 (upper_within e)) high in
    let ordered : (lowest e f *ℤ grid.rows) ≤ℤ (highest e f *ℤ grid.rows) =
    mul_le (lowest e f) (highest e f) grid.rows (le_of_lt (pos 0) grid.rows grid.rows_positive) (le_of_lt (lowest e f) (highest e f) h) in
    subst (λ z. IsAt (grid.columns *ℤ grid.rows) (between e f) z)
    (spread (neg_ℤ (way e *ℤ way f)) (s.T (highest e f *ℤ grid.rows)) (s.T (lowest e f *ℤ grid.rows))
    ∙ sym (stepped (lowest e f *ℤ grid.rows) (highest e f *ℤ grid.rows) (λ k. neg_ℤ (way e *ℤ way f) *ℤ s.T k)
    (row_of grid.rows q p e f) ordered (row_steps grid e f q p s) n low_in.0 high_in.1))
    (at_times (grid.columns *ℤ grid.rows) (neg_ℤ (way e *ℤ way f)) (area_between e f)
    (s.T (highest e f *ℤ grid.rows) -ℤ s.T (lowest e f *ℤ grid.rows)) at)
  where
    spread : (w u v : ℤ) → w *ℤ (u -ℤ v) ≡ w *ℤ u -ℤ w *ℤ v
    spread w u v = same_by (w ∷ u ∷ v ∷ []) (mul (var 0) (sub (var 1) (var 2)))
        (sub (mul (var 0) (var 1)) (mul (var 0) (var 2))) refl

    far : (a b c : ℤ) → a ≤ℤ b → b ≤ℤ c → a ≤ℤ c
    far a b c x y = omega (arith, ints)

    far' : (a b c d : ℤ) → a ≤ℤ b → b ≤ℤ c → c <ℤ d → a ≤ℤ d
    far' a b c d x y z = omega (arith, ints)

    near : (a b c d : ℤ) → a <ℤ b → b ≤ℤ c → c ≤ℤ d → a ≤ℤ d
    near a b c d x y z = omega (arith, ints)

no_rows : (H q p : ℤ) (e f : Edge) (k : ℤ) → pos 0 <ℤ H → highest e f ≤ℤ lowest e f → row_of H q p e f k ≡ pos 0
no_rows H q p e f k Hp h = no_row (weight H e k *ℤ weight H f k) (size (columns_left H q e k -ℤ columns_left H p f k))
    (by_lt_z k (lowest e f *ℤ H) (weights_below H e f k Hp)
    (λ a. weights_above H e f k Hp (not_below (highest e f) (lowest e f) H k Hp h a)))

-- The area between two edges, counted as it is, makes at the scale of the grid's cells the sum of what the cells give.
pub pair_is : (grid : Grid) (e f : Edge) (q p : ℤ) (m n : ℕ) → IsShare grid e q → IsShare grid f p → SuitsPair grid e f
    → Reaches grid m n
    → IsAt (grid.columns *ℤ grid.rows) (between e f)
    (sum_around n (λ k. sum_around m (λ j. cell (weight grid.rows e k) (weight grid.rows f k)
    (before j (columns_left grid.rows q e k)) (before j (columns_left grid.rows p f k)))))
pair_is grid e f q p m n he hf suits wide =
    let by_rows : IsAt (grid.columns *ℤ grid.rows) (between e f) (sum_around n (row_of grid.rows q p e f)) =
    by_lt_z (lowest e f) (highest e f)
    (rows_sum grid e f q p n he hf suits wide.up)
    (λ h. subst (λ z. IsAt (grid.columns *ℤ grid.rows) (between e f) z)
    (sym (around-same n (row_of grid.rows q p e f) (λ k. pos 0) (λ k. no_rows grid.rows q p e f k grid.rows_positive h) ∙ around-nothing n))
    (subst (λ a. IsAt (grid.columns *ℤ grid.rows) (times (neg_ℤ (way e *ℤ way f)) a) (pos 0)) (sym (no_area e f h))
    (subst (λ z. IsAt (grid.columns *ℤ grid.rows) (times (neg_ℤ (way e *ℤ way f)) (whole (pos 0))) z)
    (same_by (neg_ℤ (way e *ℤ way f) ∷ []) (mul (var 0) (lit (pos 0))) (lit (pos 0)) refl)
    (at_times (grid.columns *ℤ grid.rows) (neg_ℤ (way e *ℤ way f)) (whole (pos 0)) (pos 0) (at_nothing (grid.columns *ℤ grid.rows)))))) in
    subst (λ z. IsAt (grid.columns *ℤ grid.rows) (between e f) z)
    (sym (around-same n
    (λ k. sum_around m (λ j. cell (weight grid.rows e k) (weight grid.rows f k)
    (before j (columns_left grid.rows q e k)) (before j (columns_left grid.rows p f k))))
    (row_of grid.rows q p e f)
    (λ k. row_is m (weight grid.rows e k) (weight grid.rows f k) (columns_left grid.rows q e k) (columns_left grid.rows p f k)
    (reached_or_none grid e f q p k m he hf wide.across))))
    by_rows
