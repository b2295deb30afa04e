-- A ring's own area, as a sum over the cells of a grid.
use Rattle.std.proofs.Common.{◌≡◌, ℕ, refl, ◌∙◌, sym, ap, arith, List, [], ◌∷◌, ◌⊎◌, inl, inr}
use Rattle.std.proofs.lemmas.Int.{ints, by_lt_z, int_max_is, int_min_is}
use Rattle.std.specs.List.{AllByRecursion}
use lib.IntN.{ℤ, pos, negsuc, ◌+ℤ◌, ◌-ℤ◌, ◌*ℤ◌, neg_ℤ}
use lib.Signed.{◌≤ℤ◌}
use Rattle.geo_exact.specs.declared.corner.Corner.{Corner}
use Rattle.geo_exact.specs.Limit.{limit}
use Rattle.geo_exact.specs.Rings.{Edge, path, edges, sum_over}
use Rattle.geo_exact.specs.Area.{edge_area2, area2}
use Rattle.geo_exact.specs.Winding.{winding}
use Rattle.geo_exact.proofs.numbers.Polynomials.{Expr, var, lit, add, mul, neg, sub, same_by}
use Rattle.geo_exact.proofs.numbers.Signs.{mul_le}
use Rattle.geo_exact.proofs.numbers.Orders.{le_of_lt}
use Rattle.common_areas.specs.Between.{way, rise}
use Rattle.common_areas.specs.Grid.{sum_around, Grid, middle, IsShare, Reaches}
use Rattle.common_areas.proofs.Numbers.{size_not_neg, size_not_pos, way_up, way_down}
use Rattle.common_areas.proofs.Rows.{around-same, around-times, IsStep, stepped}
use Rattle.common_areas.proofs.EdgeRows.{before, before_yes, before_no, weight, lower, upper, weight_below, weight_above, weight_within}
use Rattle.common_areas.proofs.EdgeRows.{columns_left, share_of, balanced, IsReached, reached, crossings_are}
use Rattle.common_areas.proofs.Pairs.{lower_within, upper_within, within_rows}
use Rattle.common_areas.proofs.Cells.{around-both}

-- ---- a row
counted_steps : (M X : ℤ) → M ≤ℤ X → IsStep M X (λ j. j) (λ j. before j X -ℤ before j M)
counted_steps M X h = record {
  below = λ j p. omega (arith, ints, before_yes j X (omega (arith, ints)), before_yes j M p);
  step = λ j p q. omega (arith, ints, before_yes j X q, before_no j M p);
  above = λ j p. omega (arith, ints, before_no j X p, before_no j M (omega (arith, ints)));
}

-- the columns from the first one to an edge
columns_to : (m : ℕ) (X : ℤ) → IsReached m X → sum_around m (λ j. before j X -ℤ before j (neg_ℤ (pos m))) ≡ X -ℤ neg_ℤ (pos m)
columns_to m X h =
    stepped (neg_ℤ (pos m)) X (λ j. j) (λ j. before j X -ℤ before j (neg_ℤ (pos m))) h.low (counted_steps (neg_ℤ (pos m)) X h.low) m
    (same (neg_ℤ (pos m))) h.high
  where
    same : (z : ℤ) → z ≤ℤ z
    same z = omega (arith, ints)

-- what a cell gives for one edge, beside the first column's border M
abbrev lone : (w x y : ℤ) → ℤ
lone w x y = w *ℤ x -ℤ w *ℤ y

lone_is : (w x y : ℤ) → lone w x y ≡ w *ℤ (x -ℤ y)
lone_is w x y = same_by (w ∷ x ∷ y ∷ []) (sub (mul (var 0) (var 1)) (mul (var 0) (var 2))) (mul (var 0) (sub (var 1) (var 2))) refl

nothing_of : (w u z : ℤ) → w ≡ pos 0 → w *ℤ u ≡ w *ℤ z
nothing_of w u z e = ap (λ x. x *ℤ u) e ∙ same_by (u ∷ z ∷ []) (mul (lit (pos 0)) (var 0)) (mul (lit (pos 0)) (var 1)) refl
    ∙ sym (ap (λ x. x *ℤ z) e)

lone_counted : (m : ℕ) (w X : ℤ) → (w ≡ pos 0) ⊎ IsReached m X
    → w *ℤ sum_around m (λ j. before j X -ℤ before j (neg_ℤ (pos m))) ≡ w *ℤ (X -ℤ neg_ℤ (pos m))
lone_counted m w X h = elim h [
  | inl e ↦ nothing_of w (sum_around m (λ j. before j X -ℤ before j (neg_ℤ (pos m)))) (X -ℤ neg_ℤ (pos m)) e
  | inr r ↦ ap (λ x. w *ℤ x) (columns_to m X r)
]

lone_row : (m : ℕ) (w X : ℤ) → (w ≡ pos 0) ⊎ IsReached m X
    → sum_around m (λ j. lone w (before j X) (before j (neg_ℤ (pos m)))) ≡ w *ℤ (X -ℤ neg_ℤ (pos m))
lone_row m w X h =
    around-same m (λ j. lone w (before j X) (before j (neg_ℤ (pos m)))) (λ j. w *ℤ (before j X -ℤ before j (neg_ℤ (pos m))))
    (λ j. lone_is w (before j X) (before j (neg_ℤ (pos m))))
    ∙ around-times m w (λ j. before j X -ℤ before j (neg_ℤ (pos m)))
    ∙ lone_counted m w X h

pub reached_or_no_weight : (grid : Grid) (e : Edge) (q k : ℤ) (m : ℕ) → IsShare grid e q → (pos limit *ℤ grid.columns) ≤ℤ pos m
    → (weight grid.rows e k ≡ pos 0) ⊎ IsReached m (columns_left grid.rows q e k)
reached_or_no_weight grid e q k m h wide =
    by_lt_z k (lower e *ℤ grid.rows)
    (λ a. inl (weight_below grid.rows e k grid.rows_positive a))
    (λ a. by_lt_z k (upper e *ℤ grid.rows)
    (λ b. inr (reached grid e q k m h a b wide))
    (λ b. inl (weight_above grid.rows e k grid.rows_positive b)))

-- ---- all rows of an edge
abbrev run_up : Edge → ℤ
run_up e = (e.to.y -ℤ e.from.y) *ℤ (e.from.x +ℤ e.to.x)

abbrev row_sum : (w q H E D M k : ℤ) → ℤ
row_sum w q H E D M k = w *ℤ (q *ℤ (w *ℤ (pos 2 *ℤ H *ℤ E *ℤ k +ℤ D *ℤ (k *ℤ k))) -ℤ M *ℤ k)

abbrev row_expr : (w q H E D M k : Expr) → Expr
row_expr w q H E D M k =
    mul w (sub (mul q (mul w (add (mul (mul (mul (lit (pos 2)) H) E) k) (mul D (mul k k))))) (mul M k))

row_step : (w q H E D M k : ℤ)
    → w *ℤ (q *ℤ (w *ℤ (pos 2 *ℤ H *ℤ E +ℤ (pos 2 *ℤ k +ℤ pos 1) *ℤ D)) -ℤ M)
    ≡ row_sum w q H E D M (k +ℤ pos 1) -ℤ row_sum w q H E D M k
row_step w q H E D M k =
    same_by (w ∷ q ∷ H ∷ E ∷ D ∷ M ∷ k ∷ [])
    (mul (var 0)
    (sub (mul (var 1) (mul (var 0) (add (mul (mul (lit (pos 2)) (var 2)) (var 3))
    (mul (add (mul (lit (pos 2)) (var 6)) (lit (pos 1))) (var 4)))))
    (var 5)))
    (sub (row_expr (var 0) (var 1) (var 2) (var 3) (var 4) (var 5) (add (var 6) (lit (pos 1))))
    (row_expr (var 0) (var 1) (var 2) (var 3) (var 4) (var 5) (var 6)))
    refl

weight_times_nothing : (w z : ℤ) → w ≡ pos 0 → w *ℤ z ≡ pos 0
weight_times_nothing w z e = ap (λ x. x *ℤ z) e ∙ omega (arith, ints)

edge_steps : (grid : Grid) (e : Edge) (q M : ℤ)
    → IsStep (lower e *ℤ grid.rows) (upper e *ℤ grid.rows)
    (row_sum (way e) q grid.rows (e.from.x *ℤ e.to.y -ℤ e.to.x *ℤ e.from.y) (e.to.x -ℤ e.from.x) M)
    (λ k. weight grid.rows e k *ℤ (columns_left grid.rows q e k -ℤ M))
unfolding columns_left
edge_steps grid e q M = record {
  below = λ k h. weight_times_nothing (weight grid.rows e k) (columns_left grid.rows q e k -ℤ M)
      (weight_below grid.rows e k grid.rows_positive h);
  step = λ k h i.
      ap (λ x. x *ℤ (columns_left grid.rows q e k -ℤ M)) (weight_within grid.rows e k grid.rows_positive h i)
      ∙ row_step (way e) q grid.rows (e.from.x *ℤ e.to.y -ℤ e.to.x *ℤ e.from.y) (e.to.x -ℤ e.from.x) M k;
  above = λ k h. weight_times_nothing (weight grid.rows e k) (columns_left grid.rows q e k -ℤ M)
      (weight_above grid.rows e k grid.rows_positive h);
}

up_value : (w q H W M ax ay bx by : ℤ) → w ≡ pos 1 → W ≡ pos 2 *ℤ H *ℤ (by -ℤ ay) *ℤ q
    → pos 2 *ℤ (row_sum w q H (ax *ℤ by -ℤ bx *ℤ ay) (bx -ℤ ax) M (by *ℤ H) -ℤ row_sum w q H (ax *ℤ by -ℤ bx *ℤ ay) (bx -ℤ ax) M (ay *ℤ H))
    ≡ W *ℤ H *ℤ ((by -ℤ ay) *ℤ (ax +ℤ bx)) -ℤ pos 2 *ℤ M *ℤ H *ℤ (by -ℤ ay)
up_value w q H W M ax ay bx by ew e =
    let cross = sub (mul (var 3) (var 6)) (mul (var 5) (var 4)) in
    let run = sub (var 5) (var 3) in
    ap (λ v. pos 2 *ℤ (row_sum v q H (ax *ℤ by -ℤ bx *ℤ ay) (bx -ℤ ax) M (by *ℤ H)
    -ℤ row_sum v q H (ax *ℤ by -ℤ bx *ℤ ay) (bx -ℤ ax) M (ay *ℤ H))) ew
    ∙ same_by (q ∷ H ∷ M ∷ ax ∷ ay ∷ bx ∷ by ∷ [])
    (mul (lit (pos 2)) (sub (row_expr (lit (pos 1)) (var 0) (var 1) cross run (var 2) (mul (var 6) (var 1)))
    (row_expr (lit (pos 1)) (var 0) (var 1) cross run (var 2) (mul (var 4) (var 1)))))
    (sub (mul (mul (mul (mul (mul (lit (pos 2)) (var 1)) (sub (var 6) (var 4))) (var 0)) (var 1))
    (mul (sub (var 6) (var 4)) (add (var 3) (var 5))))
    (mul (mul (mul (lit (pos 2)) (var 2)) (var 1)) (sub (var 6) (var 4))))
    refl
    ∙ ap (λ x. x *ℤ H *ℤ ((by -ℤ ay) *ℤ (ax +ℤ bx)) -ℤ pos 2 *ℤ M *ℤ H *ℤ (by -ℤ ay)) (sym e)

down_value : (w q H W M ax ay bx by : ℤ) → w ≡ negsuc 0 → W ≡ pos 2 *ℤ H *ℤ neg_ℤ (by -ℤ ay) *ℤ q
    → pos 2 *ℤ (row_sum w q H (ax *ℤ by -ℤ bx *ℤ ay) (bx -ℤ ax) M (ay *ℤ H) -ℤ row_sum w q H (ax *ℤ by -ℤ bx *ℤ ay) (bx -ℤ ax) M (by *ℤ H))
    ≡ W *ℤ H *ℤ ((by -ℤ ay) *ℤ (ax +ℤ bx)) -ℤ pos 2 *ℤ M *ℤ H *ℤ (by -ℤ ay)
down_value w q H W M ax ay bx by ew e =
    let cross = sub (mul (var 3) (var 6)) (mul (var 5) (var 4)) in
    let run = sub (var 5) (var 3) in
    ap (λ v. pos 2 *ℤ (row_sum v q H (ax *ℤ by -ℤ bx *ℤ ay) (bx -ℤ ax) M (ay *ℤ H)
    -ℤ row_sum v q H (ax *ℤ by -ℤ bx *ℤ ay) (bx -ℤ ax) M (by *ℤ H))) ew
    ∙ same_by (q ∷ H ∷ M ∷ ax ∷ ay ∷ bx ∷ by ∷ [])
    (mul (lit (pos 2)) (sub (row_expr (lit (negsuc 0)) (var 0) (var 1) cross run (var 2) (mul (var 4) (var 1)))
    (row_expr (lit (negsuc 0)) (var 0) (var 1) cross run (var 2) (mul (var 6) (var 1)))))
    (sub (mul (mul (mul (mul (mul (lit (pos 2)) (var 1)) (neg (sub (var 6) (var 4)))) (var 0)) (var 1))
    (mul (sub (var 6) (var 4)) (add (var 3) (var 5))))
    (mul (mul (mul (lit (pos 2)) (var 2)) (var 1)) (sub (var 6) (var 4))))
    refl
    ∙ ap (λ x. x *ℤ H *ℤ ((by -ℤ ay) *ℤ (ax +ℤ bx)) -ℤ pos 2 *ℤ M *ℤ H *ℤ (by -ℤ ay)) (sym e)

-- twice the sum over an edge's rows
edge_rows : (grid : Grid) (e : Edge) (q M : ℤ) (n : ℕ) → IsShare grid e q → (pos limit *ℤ grid.rows) ≤ℤ pos n
    → pos 2 *ℤ sum_around n (λ k. weight grid.rows e k *ℤ (columns_left grid.rows q e k -ℤ M))
    ≡ grid.columns *ℤ grid.rows *ℤ run_up e -ℤ pos 2 *ℤ M *ℤ grid.rows *ℤ (e.to.y -ℤ e.from.y)
unfolding lower upper
edge_rows grid e q M n h wide =
    let H = grid.rows in
    let low_is = int_min_is e.from.y e.to.y in
    let high_is = int_max_is e.from.y e.to.y in
    let ordered : lower e ≤ℤ upper e = omega (arith, ints) in
    let sum_is : sum_around n (λ k. weight grid.rows e k *ℤ (columns_left grid.rows q e k -ℤ M))
    ≡ row_sum (way e) q grid.rows (e.from.x *ℤ e.to.y -ℤ e.to.x *ℤ e.from.y) (e.to.x -ℤ e.from.x) M (upper e *ℤ grid.rows)
    -ℤ row_sum (way e) q grid.rows (e.from.x *ℤ e.to.y -ℤ e.to.x *ℤ e.from.y) (e.to.x -ℤ e.from.x) M (lower e *ℤ grid.rows) =
    stepped (lower e *ℤ grid.rows) (upper e *ℤ grid.rows)
    (row_sum (way e) q grid.rows (e.from.x *ℤ e.to.y -ℤ e.to.x *ℤ e.from.y) (e.to.x -ℤ e.from.x) M)
    (λ k. weight grid.rows e k *ℤ (columns_left grid.rows q e k -ℤ M))
    (mul_le (lower e) (upper e) grid.rows (le_of_lt (pos 0) grid.rows grid.rows_positive) ordered)
    (edge_steps grid e q M) n
    (within_rows grid.rows (lower e) n grid.rows_positive (lower_within e) (omega (arith, ints, ordered, upper_within e)) wide).0
    (within_rows grid.rows (upper e) n grid.rows_positive (omega (arith, ints, ordered, lower_within e)) (upper_within e) wide).1 in
    ap (λ x. pos 2 *ℤ x) sum_is
    ∙ by_lt_z e.from.y e.to.y
    (λ u. let low : lower e ≡ e.from.y = omega (arith, ints) in
    let high : upper e ≡ e.to.y = omega (arith, ints) in
    let rise_is : rise e ≡ e.to.y -ℤ e.from.y = size_not_neg (e.to.y -ℤ e.from.y) (omega (arith, ints)) in
    ends (way e) q grid.rows (e.from.x *ℤ e.to.y -ℤ e.to.x *ℤ e.from.y) (e.to.x -ℤ e.from.x) M (upper e) (lower e) e.to.y e.from.y high low
    ∙ up_value (way e) q grid.rows grid.columns M e.from.x e.from.y e.to.x e.to.y
    (way_up (e.to.y -ℤ e.from.y) (omega (arith, ints)))
    (share_of grid e q h (λ z. absurd (omega (arith, ints, z, u))) ∙ ap (λ x. pos 2 *ℤ grid.rows *ℤ x *ℤ q) rise_is))
    (λ u'. by_lt_z e.to.y e.from.y
    (λ u. let low : lower e ≡ e.to.y = omega (arith, ints) in
    let high : upper e ≡ e.from.y = omega (arith, ints) in
    let rise_is : rise e ≡ neg_ℤ (e.to.y -ℤ e.from.y) = size_not_pos (e.to.y -ℤ e.from.y) (omega (arith, ints)) in
    ends (way e) q grid.rows (e.from.x *ℤ e.to.y -ℤ e.to.x *ℤ e.from.y) (e.to.x -ℤ e.from.x) M (upper e) (lower e) e.from.y e.to.y high low
    ∙ down_value (way e) q grid.rows grid.columns M e.from.x e.from.y e.to.x e.to.y
    (way_down (e.to.y -ℤ e.from.y) (omega (arith, ints)))
    (share_of grid e q h (λ z. absurd (omega (arith, ints, z, u))) ∙ ap (λ x. pos 2 *ℤ grid.rows *ℤ x *ℤ q) rise_is))
    (λ u. let same : upper e ≡ lower e = omega (arith, ints) in
    let flat : e.to.y -ℤ e.from.y ≡ pos 0 = omega (arith, ints) in
    ends (way e) q grid.rows (e.from.x *ℤ e.to.y -ℤ e.to.x *ℤ e.from.y) (e.to.x -ℤ e.from.x) M (upper e) (lower e) (lower e)
    (lower e) same refl
    ∙ none (row_sum (way e) q grid.rows (e.from.x *ℤ e.to.y -ℤ e.to.x *ℤ e.from.y) (e.to.x -ℤ e.from.x) M (lower e *ℤ grid.rows))
    (grid.columns *ℤ grid.rows) (e.from.x +ℤ e.to.x) (pos 2 *ℤ M *ℤ grid.rows)
    ∙ sym (ap (λ y. grid.columns *ℤ grid.rows *ℤ (y *ℤ (e.from.x +ℤ e.to.x)) -ℤ pos 2 *ℤ M *ℤ grid.rows *ℤ y) flat)))
  where
    ends : (w q H E D M a b c d : ℤ) → a ≡ c → b ≡ d
        → pos 2 *ℤ (row_sum w q H E D M (a *ℤ H) -ℤ row_sum w q H E D M (b *ℤ H))
        ≡ pos 2 *ℤ (row_sum w q H E D M (c *ℤ H) -ℤ row_sum w q H E D M (d *ℤ H))
    ends w q H E D M a b c d h k =
        ap (λ x. pos 2 *ℤ (row_sum w q H E D M (x *ℤ H) -ℤ row_sum w q H E D M (b *ℤ H))) h
        ∙ ap (λ x. pos 2 *ℤ (row_sum w q H E D M (c *ℤ H) -ℤ row_sum w q H E D M (x *ℤ H))) k

    none : (t u v w : ℤ) → pos 2 *ℤ (t -ℤ t) ≡ u *ℤ (pos 0 *ℤ v) -ℤ w *ℤ pos 0
    none t u v w = same_by (t ∷ u ∷ v ∷ w ∷ []) (mul (lit (pos 2)) (sub (var 0) (var 0)))
        (sub (mul (var 1) (mul (lit (pos 0)) (var 2))) (mul (var 3) (lit (pos 0)))) refl

-- ---- a whole ring
run_is : (ax ay bx by : ℤ) → (by -ℤ ay) *ℤ (ax +ℤ bx) ≡ ax *ℤ by -ℤ bx *ℤ ay +ℤ (bx *ℤ by -ℤ ax *ℤ ay)
run_is ax ay bx by = same_by (ax ∷ ay ∷ bx ∷ by ∷ []) (mul (sub (var 3) (var 1)) (add (var 0) (var 2)))
    (add (sub (mul (var 0) (var 3)) (mul (var 2) (var 1))) (sub (mul (var 2) (var 3)) (mul (var 0) (var 1)))) refl

runs_along : (from : Corner) (between : List Corner) (to : Corner)
    → sum_over run_up (path from between to) ≡ sum_over edge_area2 (path from between to) +ℤ (to.x *ℤ to.y -ℤ from.x *ℤ from.y)
runs_along from [] to = omega (arith, ints, run_is from.x from.y to.x to.y)
runs_along from (next ∷ rest) to = omega (arith, ints, run_is from.x from.y next.x next.y, runs_along next rest to)

runs_are : (ring : List Corner) → sum_over run_up (edges ring) ≡ area2 ring
runs_are [] = refl
runs_are (first ∷ rest) = runs_along first rest first ∙ back (sum_over edge_area2 (path first rest first)) (first.x *ℤ first.y)
  where
    back : (u v : ℤ) → u +ℤ (v -ℤ v) ≡ u
    back u v = omega (arith, ints)

rises_along : (from : Corner) (between : List Corner) (to : Corner)
    → sum_over (λ e. e.to.y -ℤ e.from.y) (path from between to) ≡ to.y -ℤ from.y
rises_along from [] to = omega (arith, ints)
rises_along from (next ∷ rest) to = omega (arith, ints, rises_along next rest to)

rises_are : (ring : List Corner) → sum_over (λ e. e.to.y -ℤ e.from.y) (edges ring) ≡ pos 0
rises_are [] = refl
rises_are (first ∷ rest) = rises_along first rest first ∙ none first.y
  where
    none : (u : ℤ) → u -ℤ u ≡ pos 0
    none u = omega (arith, ints)

abbrev lone_cell : Grid → (Edge → ℤ) → ℕ → Edge → ℤ → ℤ → ℤ
lone_cell grid share m e k j =
    lone (weight grid.rows e k) (before j (columns_left grid.rows (share e) e k)) (before j (neg_ℤ (pos m)))

edge_cells : (grid : Grid) (share : Edge → ℤ) (m n : ℕ) (e : Edge) → IsShare grid e (share e) → Reaches grid m n
    → pos 2 *ℤ sum_around n (λ k. sum_around m (λ j. lone_cell grid share m e k j))
    ≡ grid.columns *ℤ grid.rows *ℤ run_up e -ℤ pos 2 *ℤ neg_ℤ (pos m) *ℤ grid.rows *ℤ (e.to.y -ℤ e.from.y)
edge_cells grid share m n e h wide =
    ap (λ x. pos 2 *ℤ x) (around-same n (λ k. sum_around m (λ j. lone_cell grid share m e k j))
    (λ k. weight grid.rows e k *ℤ (columns_left grid.rows (share e) e k -ℤ neg_ℤ (pos m)))
    (λ k. lone_row m (weight grid.rows e k) (columns_left grid.rows (share e) e k)
    (reached_or_no_weight grid e (share e) k m h wide.across)))
    ∙ edge_rows grid e (share e) (neg_ℤ (pos m)) n h wide.up

ring_cells : (grid : Grid) (share : Edge → ℤ) (m n : ℕ) (es : List Edge) → AllByRecursion (λ e. IsShare grid e (share e)) es
    → Reaches grid m n
    → pos 2 *ℤ sum_over (λ e. sum_around n (λ k. sum_around m (λ j. lone_cell grid share m e k j))) es
    ≡ grid.columns *ℤ grid.rows *ℤ sum_over run_up es
    -ℤ pos 2 *ℤ neg_ℤ (pos m) *ℤ grid.rows *ℤ sum_over (λ e. e.to.y -ℤ e.from.y) es
ring_cells grid share m n [] h wide = nothing (grid.columns *ℤ grid.rows) (pos 2 *ℤ neg_ℤ (pos m) *ℤ grid.rows)
  where
    nothing : (u v : ℤ) → pos 2 *ℤ pos 0 ≡ u *ℤ pos 0 -ℤ v *ℤ pos 0
    nothing u v = same_by (u ∷ v ∷ []) (mul (lit (pos 2)) (lit (pos 0))) (sub (mul (var 0) (lit (pos 0))) (mul (var 1) (lit (pos 0)))) refl
ring_cells grid share m n (e ∷ es) h wide =
    together (sum_around n (λ k. sum_around m (λ j. lone_cell grid share m e k j)))
    (sum_over (λ e. sum_around n (λ k. sum_around m (λ j. lone_cell grid share m e k j))) es)
    (grid.columns *ℤ grid.rows) (run_up e) (sum_over run_up es) (pos 2 *ℤ neg_ℤ (pos m) *ℤ grid.rows) (e.to.y -ℤ e.from.y)
    (sum_over (λ e. e.to.y -ℤ e.from.y) es)
    (edge_cells grid share m n e h.0 wide) (ring_cells grid share m n es h.1 wide)
  where
    together : (a b u c d v y z : ℤ) → pos 2 *ℤ a ≡ u *ℤ c -ℤ v *ℤ y → pos 2 *ℤ b ≡ u *ℤ d -ℤ v *ℤ z
        → pos 2 *ℤ (a +ℤ b) ≡ u *ℤ (c +ℤ d) -ℤ v *ℤ (y +ℤ z)
    together a b u c d v y z h k =
        same_by (a ∷ b ∷ []) (mul (lit (pos 2)) (add (var 0) (var 1))) (add (mul (lit (pos 2)) (var 0)) (mul (lit (pos 2)) (var 1))) refl
        ∙ ap (λ x. x +ℤ pos 2 *ℤ b) h
        ∙ ap (λ x. u *ℤ c -ℤ v *ℤ y +ℤ x) k
        ∙ same_by (u ∷ c ∷ d ∷ v ∷ y ∷ z ∷ [])
        (add (sub (mul (var 0) (var 1)) (mul (var 3) (var 4))) (sub (mul (var 0) (var 2)) (mul (var 3) (var 5))))
        (sub (mul (var 0) (add (var 1) (var 2))) (mul (var 3) (add (var 4) (var 5)))) refl

lone_sum : (w x : Edge → ℤ) (y : ℤ) (es : List Edge)
    → sum_over (λ e. lone (w e) (x e) y) es ≡ sum_over (λ e. w e *ℤ x e) es -ℤ sum_over w es *ℤ y
lone_sum w x y [] = same_by (y ∷ []) (lit (pos 0)) (sub (lit (pos 0)) (mul (lit (pos 0)) (var 0))) refl
lone_sum w x y (e ∷ es) =
    ap (λ z. lone (w e) (x e) y +ℤ z) (lone_sum w x y es)
    ∙ same_by (w e ∷ x e ∷ y ∷ sum_over (λ e. w e *ℤ x e) es ∷ sum_over w es ∷ [])
    (add (sub (mul (var 0) (var 1)) (mul (var 0) (var 2))) (sub (var 3) (mul (var 4) (var 2))))
    (sub (add (mul (var 0) (var 1)) (var 3)) (mul (add (var 0) (var 4)) (var 2))) refl

-- twice a ring's area is, at the scale, twice the sum of its winding numbers round the middles of all cells
pub area_is : (ring : List Corner) (grid : Grid) (share : Edge → ℤ) (m n : ℕ)
    → AllByRecursion (λ e. IsShare grid e (share e)) (edges ring) → Reaches grid m n
    → pos 2 *ℤ sum_around n (λ k. sum_around m (λ j. winding (middle grid j k) ring)) ≡ grid.columns *ℤ grid.rows *ℤ area2 ring
area_is ring grid share m n h wide =
    ap (λ x. pos 2 *ℤ x)
    (around-same n (λ k. sum_around m (λ j. winding (middle grid j k) ring))
    (λ k. sum_around m (λ j. sum_over (λ e. lone_cell grid share m e k j) (edges ring)))
    (λ k. around-same m (λ j. winding (middle grid j k) ring) (λ j. sum_over (λ e. lone_cell grid share m e k j) (edges ring))
    (λ j. crossings_are grid share j k (edges ring) h
    ∙ sym (lone_sum (λ e. weight grid.rows e k) (λ e. before j (columns_left grid.rows (share e) e k))
    (before j (neg_ℤ (pos m))) (edges ring)
    ∙ ap (λ x. sum_over (λ e. weight grid.rows e k *ℤ before j (columns_left grid.rows (share e) e k)) (edges ring)
    -ℤ x *ℤ before j (neg_ℤ (pos m)))
    (balanced grid.rows k ring)
    ∙ kept (sum_over (λ e. weight grid.rows e k *ℤ before j (columns_left grid.rows (share e) e k)) (edges ring))
    (before j (neg_ℤ (pos m))))))
    ∙ sym (around-both m n (λ e k j. lone_cell grid share m e k j) (edges ring)))
    ∙ ring_cells grid share m n (edges ring) h wide
    ∙ ap (λ x. grid.columns *ℤ grid.rows *ℤ x -ℤ pos 2 *ℤ neg_ℤ (pos m) *ℤ grid.rows *ℤ sum_over (λ e. e.to.y -ℤ e.from.y) (edges ring))
    (runs_are ring)
    ∙ ap (λ x. grid.columns *ℤ grid.rows *ℤ area2 ring -ℤ pos 2 *ℤ neg_ℤ (pos m) *ℤ grid.rows *ℤ x) (rises_are ring)
    ∙ kept' (grid.columns *ℤ grid.rows *ℤ area2 ring) (pos 2 *ℤ neg_ℤ (pos m) *ℤ grid.rows)
  where
    kept : (u v : ℤ) → u -ℤ pos 0 *ℤ v ≡ u
    kept u v = same_by (u ∷ v ∷ []) (sub (var 0) (mul (lit (pos 0)) (var 1))) (var 0) refl

    kept' : (u v : ℤ) → u -ℤ v *ℤ pos 0 ≡ u
    kept' u v = same_by (u ∷ v ∷ []) (sub (var 0) (mul (var 1) (lit (pos 0)))) (var 0) refl
