-- The area common to two rings, as a sum over the cells of a grid.
use Rattle.std.proofs.Common.{◌≡◌, ℕ, refl, subst, ◌∙◌, sym, ap, List, [], ◌∷◌}
use Rattle.std.specs.List.{AllByRecursion}
use lib.IntN.{ℤ, pos, ◌+ℤ◌, ◌-ℤ◌, ◌*ℤ◌}
use Rattle.geo_exact.specs.declared.corner.Corner.{Corner}
use Rattle.geo_exact.specs.Rings.{Edge, edges, sum_over}
use Rattle.geo_exact.specs.Winding.{crossings, winding}
use Rattle.geo_exact.proofs.numbers.Polynomials.{var, lit, add, mul, sub, same_by}
use Rattle.geo_exact.proofs.rings.EdgeSums.{sum_over-same}
use Rattle.common_areas.specs.Between.{between}
use Rattle.common_areas.specs.Common.{sum_shares, common_area2}
use Rattle.common_areas.specs.Grid.{sum_around, Grid, middle, IsShare, SuitsPair, IsFine, Reaches, cells}
use Rattle.common_areas.proofs.Scaled.{IsAt, at_sum}
use Rattle.common_areas.proofs.Rows.{around-same, around-times, around-edges}
use Rattle.common_areas.proofs.EdgeRows.{before, weight, balanced, columns_left, crossings_are}
use Rattle.common_areas.proofs.Pairs.{cell, pair_is}

-- what the cell in column j and row k gives for two edges
abbrev cell_of : Grid → (Edge → ℤ) → Edge → Edge → ℤ → ℤ → ℤ
cell_of grid share e f k j =
    cell (weight grid.rows e k) (weight grid.rows f k) (before j (columns_left grid.rows (share e) e k))
    (before j (columns_left grid.rows (share f) f k))

abbrev all_cells : Grid → (Edge → ℤ) → ℕ → ℕ → Edge → Edge → ℤ
all_cells grid share m n e f = sum_around n (λ k. sum_around m (λ j. cell_of grid share e f k j))

-- ---- the sum over the edges of both, at the scale
with_each : (grid : Grid) (share : Edge → ℤ) (m n : ℕ) (e : Edge) (fs : List Edge) → IsShare grid e (share e)
    → AllByRecursion (λ f. IsShare grid f (share f)) fs → AllByRecursion (SuitsPair grid e) fs → Reaches grid m n
    → AllByRecursion (λ f. IsAt (grid.columns *ℤ grid.rows) (between e f) (all_cells grid share m n e f)) fs
with_each grid share m n e [] he hs ps wide = tt
with_each grid share m n e (f ∷ fs) he hs ps wide =
    (pair_is grid e f (share e) (share f) m n he hs.0 ps.0 wide, with_each grid share m n e fs he hs.1 ps.1 wide)

each_with_each : (grid : Grid) (share : Edge → ℤ) (m n : ℕ) (es fs : List Edge)
    → AllByRecursion (λ e. IsShare grid e (share e)) es → AllByRecursion (λ f. IsShare grid f (share f)) fs
    → AllByRecursion (λ e. AllByRecursion (SuitsPair grid e) fs) es → Reaches grid m n
    → AllByRecursion (λ e. IsAt (grid.columns *ℤ grid.rows) (sum_shares (between e) fs) (sum_over (all_cells grid share m n e) fs)) es
each_with_each grid share m n [] fs hs is ps wide = tt
each_with_each grid share m n (e ∷ es) fs hs is ps wide = (
  at_sum (grid.columns *ℤ grid.rows) (between e) (all_cells grid share m n e) fs (with_each grid share m n e fs hs.0 is ps.0 wide),
  each_with_each grid share m n es fs hs.1 is ps.1 wide,
)

-- ---- the sums exchanged
pub around-both : (m n : ℕ) (c : Edge → ℤ → ℤ → ℤ) (es : List Edge)
    → sum_over (λ e. sum_around n (λ k. sum_around m (c e k))) es ≡ sum_around n (λ k. sum_around m (λ j. sum_over (λ e. c e k j) es))
around-both m n c es =
    around-edges n (λ e k. sum_around m (c e k)) es
    ∙ around-same n (λ k. sum_over (λ e. sum_around m (c e k)) es) (λ k. sum_around m (λ j. sum_over (λ e. c e k j) es))
    (λ k. around-edges m (λ e. c e k) es)

around-pairs : (m n : ℕ) (c : Edge → Edge → ℤ → ℤ → ℤ) (es fs : List Edge)
    → sum_over (λ e. sum_over (λ f. sum_around n (λ k. sum_around m (c e f k))) fs) es
    ≡ sum_around n (λ k. sum_around m (λ j. sum_over (λ e. sum_over (λ f. c e f k j) fs) es))
around-pairs m n c es fs =
    sum_over-same (λ e. sum_over (λ f. sum_around n (λ k. sum_around m (c e f k))) fs)
    (λ e. sum_around n (λ k. sum_around m (λ j. sum_over (λ f. c e f k j) fs))) es (λ e. around-both m n (c e) fs)
    ∙ around-both m n (λ e k j. sum_over (λ f. c e f k j) fs) es

-- ---- one cell, for all edges of both
inner_sum : (a b : ℤ) (w x : Edge → ℤ) (fs : List Edge)
    → sum_over (λ f. pos 2 *ℤ a *ℤ (w f *ℤ x f) -ℤ w f *ℤ a -ℤ b *ℤ (w f *ℤ x f)) fs
    ≡ pos 2 *ℤ a *ℤ sum_over (λ f. w f *ℤ x f) fs -ℤ sum_over w fs *ℤ a -ℤ b *ℤ sum_over (λ f. w f *ℤ x f) fs
inner_sum a b w x [] =
    same_by (a ∷ b ∷ []) (lit (pos 0))
    (sub (sub (mul (mul (lit (pos 2)) (var 0)) (lit (pos 0))) (mul (lit (pos 0)) (var 0))) (mul (var 1) (lit (pos 0)))) refl
inner_sum a b w x (f ∷ fs) =
    ap (λ z. pos 2 *ℤ a *ℤ (w f *ℤ x f) -ℤ w f *ℤ a -ℤ b *ℤ (w f *ℤ x f) +ℤ z) (inner_sum a b w x fs)
    ∙ same_by (a ∷ b ∷ w f ∷ x f ∷ sum_over (λ f. w f *ℤ x f) fs ∷ sum_over w fs ∷ [])
    (add (sub (sub (mul (mul (lit (pos 2)) (var 0)) (mul (var 2) (var 3))) (mul (var 2) (var 0))) (mul (var 1) (mul (var 2) (var 3))))
    (sub (sub (mul (mul (lit (pos 2)) (var 0)) (var 4)) (mul (var 5) (var 0))) (mul (var 1) (var 4))))
    (sub (sub (mul (mul (lit (pos 2)) (var 0)) (add (mul (var 2) (var 3)) (var 4))) (mul (add (var 2) (var 5)) (var 0)))
    (mul (var 1) (add (mul (var 2) (var 3)) (var 4))))
    refl

outer_sum : (D S : ℤ) (w x : Edge → ℤ) (es : List Edge)
    → sum_over (λ e. pos 2 *ℤ (w e *ℤ x e) *ℤ D -ℤ S *ℤ (w e *ℤ x e) -ℤ w e *ℤ D) es
    ≡ pos 2 *ℤ sum_over (λ e. w e *ℤ x e) es *ℤ D -ℤ S *ℤ sum_over (λ e. w e *ℤ x e) es -ℤ sum_over w es *ℤ D
outer_sum D S w x [] =
    same_by (D ∷ S ∷ []) (lit (pos 0))
    (sub (sub (mul (mul (lit (pos 2)) (lit (pos 0))) (var 0)) (mul (var 1) (lit (pos 0)))) (mul (lit (pos 0)) (var 0))) refl
outer_sum D S w x (e ∷ es) =
    ap (λ z. pos 2 *ℤ (w e *ℤ x e) *ℤ D -ℤ S *ℤ (w e *ℤ x e) -ℤ w e *ℤ D +ℤ z) (outer_sum D S w x es)
    ∙ same_by (D ∷ S ∷ w e ∷ x e ∷ sum_over (λ e. w e *ℤ x e) es ∷ sum_over w es ∷ [])
    (add (sub (sub (mul (mul (lit (pos 2)) (mul (var 2) (var 3))) (var 0)) (mul (var 1) (mul (var 2) (var 3)))) (mul (var 2) (var 0)))
    (sub (sub (mul (mul (lit (pos 2)) (var 4)) (var 0)) (mul (var 1) (var 4))) (mul (var 5) (var 0))))
    (sub (sub (mul (mul (lit (pos 2)) (add (mul (var 2) (var 3)) (var 4))) (var 0)) (mul (var 1) (add (mul (var 2) (var 3)) (var 4))))
    (mul (add (var 2) (var 5)) (var 0)))
    refl

-- where the weights of each side cancel out, the cell gives twice the product of the crossings
cell_sum : (w x y : Edge → ℤ) (es fs : List Edge) → sum_over w es ≡ pos 0 → sum_over w fs ≡ pos 0
    → sum_over (λ e. sum_over (λ f. cell (w e) (w f) (x e) (y f)) fs) es
    ≡ pos 2 *ℤ (sum_over (λ e. w e *ℤ x e) es *ℤ sum_over (λ f. w f *ℤ y f) fs)
cell_sum w x y es fs he hf =
    let C = sum_over (λ e. w e *ℤ x e) es in
    let D = sum_over (λ f. w f *ℤ y f) fs in
    sum_over-same (λ e. sum_over (λ f. cell (w e) (w f) (x e) (y f)) fs)
    (λ e. pos 2 *ℤ (w e *ℤ x e) *ℤ sum_over (λ f. w f *ℤ y f) fs -ℤ sum_over w fs *ℤ (w e *ℤ x e)
    -ℤ w e *ℤ sum_over (λ f. w f *ℤ y f) fs) es
    (λ e. inner_sum (w e *ℤ x e) (w e) w y fs)
    ∙ outer_sum D (sum_over w fs) w x es
    ∙ ap (λ z. pos 2 *ℤ C *ℤ D -ℤ z *ℤ C -ℤ sum_over w es *ℤ D) hf
    ∙ ap (λ z. pos 2 *ℤ C *ℤ D -ℤ pos 0 *ℤ C -ℤ z *ℤ D) he
    ∙ same_by (C ∷ D ∷ [])
    (sub (sub (mul (mul (lit (pos 2)) (var 0)) (var 1)) (mul (lit (pos 0)) (var 0))) (mul (lit (pos 0)) (var 1)))
    (mul (lit (pos 2)) (mul (var 0) (var 1))) refl

rings_cell : (grid : Grid) (share : Edge → ℤ) (r s : List Corner) (k j : ℤ)
    → AllByRecursion (λ e. IsShare grid e (share e)) (edges r) → AllByRecursion (λ f. IsShare grid f (share f)) (edges s)
    → sum_over (λ e. sum_over (λ f. cell_of grid share e f k j) (edges s)) (edges r)
    ≡ pos 2 *ℤ (winding (middle grid j k) r *ℤ winding (middle grid j k) s)
rings_cell grid share r s k j hr hs =
    cell_sum (λ e. weight grid.rows e k) (λ e. before j (columns_left grid.rows (share e) e k))
    (λ e. before j (columns_left grid.rows (share e) e k)) (edges r) (edges s)
    (balanced grid.rows k r) (balanced grid.rows k s)
    ∙ ap (λ z. pos 2 *ℤ (z *ℤ sum_over (λ f. weight grid.rows f k *ℤ before j (columns_left grid.rows (share f) f k)) (edges s)))
    (sym (crossings_are grid share j k (edges r) hr))
    ∙ ap (λ z. pos 2 *ℤ (crossings (middle grid j k) (edges r) *ℤ z)) (sym (crossings_are grid share j k (edges s) hs))

-- the area common to two rings, at the scale of a fine grid's cells
pub common_is : (r s : List Corner) (grid : Grid) (m n : ℕ) → IsFine grid (edges r) (edges s) → Reaches grid m n
    → IsAt (grid.columns *ℤ grid.rows) (common_area2 r s) (pos 2 *ℤ cells grid m n r s)
common_is r s grid m n fine wide =
    let share = fine.share in
    let W_H = grid.columns *ℤ grid.rows in
    subst (λ z. IsAt (grid.columns *ℤ grid.rows) (common_area2 r s) z)
    (around-pairs m n (cell_of grid fine.share) (edges r) (edges s)
    ∙ around-same n
    (λ k. sum_around m (λ j. sum_over (λ e. sum_over (λ f. cell_of grid fine.share e f k j) (edges s)) (edges r)))
    (λ k. pos 2 *ℤ sum_around m (λ j. winding (middle grid j k) r *ℤ winding (middle grid j k) s))
    (λ k. around-same m
    (λ j. sum_over (λ e. sum_over (λ f. cell_of grid fine.share e f k j) (edges s)) (edges r))
    (λ j. pos 2 *ℤ (winding (middle grid j k) r *ℤ winding (middle grid j k) s))
    (λ j. rings_cell grid fine.share r s k j fine.first fine.second)
    ∙ around-times m (pos 2) (λ j. winding (middle grid j k) r *ℤ winding (middle grid j k) s))
    ∙ around-times n (pos 2) (λ k. sum_around m (λ j. winding (middle grid j k) r *ℤ winding (middle grid j k) s)))
    (at_sum (grid.columns *ℤ grid.rows) (λ e. sum_shares (between e) (edges s))
    (λ e. sum_over (all_cells grid fine.share m n e) (edges s)) (edges r)
    (each_with_each grid fine.share m n (edges r) (edges s) fine.first fine.second fine.pairs wide))
