-- Laws of common areas, from counts of cells: where they are positive, and how they add up.
use Rattle.std.proofs.Common.{◌≡◌, ℕ, refl, subst, ◌∙◌, sym, ap, arith, List, [], ◌∷◌, ◌++◌}
use Rattle.std.proofs.lemmas.Int.{ints, by_lt_z}
use Rattle.std.specs.List.{AllByRecursion}
use lib.IntN.{ℤ, pos, ◌+ℤ◌, ◌*ℤ◌}
use lib.Signed.{◌<ℤ◌, ◌≤ℤ◌}
use Rattle.geo_exact.specs.declared.corner.Corner.{Corner}
use Rattle.geo_exact.specs.Point.{Point}
use Rattle.geo_exact.specs.Rings.{Edge, edges}
use Rattle.geo_exact.specs.Turn.{IsOnRing}
use Rattle.geo_exact.specs.Winding.{winding}
use Rattle.geo_exact.specs.Area.{area2}
use Rattle.geo_exact.specs.Interiors.{InteriorsMeet}
use Rattle.geo_exact.proofs.numbers.Polynomials.{var, lit, add, mul, same_by}
use Rattle.geo_exact.proofs.numbers.Signs.{mul_pos, mul_not_neg, pos_of_mul, not_neg_of_mul}
use Rattle.geo_exact.proofs.numbers.Orders.{le_of_lt}
use Rattle.common_areas.specs.Fractions.{Fraction, whole, AreEqual}
use Rattle.common_areas.specs.Common.{common_area2}
use Rattle.common_areas.specs.Grid.{sum_around, Grid, middle, IsShare, SuitsPair, IsFine, Reaches, cells}
use Rattle.common_areas.specs.Sums.{WindsOnce, all_edges_of, sum_of_windings, common_with, MakeUpOffEdges, IsCoveredBy}
use Rattle.common_areas.proofs.Scaled.{IsAt, at_nothing, at_plus, cancel}
use Rattle.common_areas.proofs.Rows.{around-same, around-nothing, around-plus}
use Rattle.common_areas.proofs.EdgeRows.{columns_positive}
use Rattle.common_areas.proofs.Cells.{common_is}
use Rattle.common_areas.proofs.FineGrids.{fine_grid}
use Rattle.common_areas.proofs.Areas.{area_is}
use Rattle.common_areas.proofs.OffEdges.{off_ring, some_positive, none_negative}

-- ---- where a common area is positive
both_one : (u v : ℤ) → (pos 0 ≤ℤ u) × (u ≤ℤ pos 1) → (pos 0 ≤ℤ v) × (v ≤ℤ pos 1) → pos 0 <ℤ (u *ℤ v)
    → (pos 1 ≤ℤ u) × (pos 1 ≤ℤ v)
both_one u v hu hv h = (
  by_lt_z (pos 0) u (λ p. omega (arith, ints, p))
      (λ p. let e : u ≡ pos 0 = omega (arith, ints, p, hu.0) in absurd (omega (arith, ints, h, ap (λ x. x *ℤ v) e))),
  by_lt_z (pos 0) v (λ p. omega (arith, ints, p))
      (λ p. let e : v ≡ pos 0 = omega (arith, ints, p, hv.0) in absurd (omega (arith, ints, h, ap (λ x. u *ℤ x) e))),
)

count_positive : (n d M c : ℤ) → pos 0 <ℤ n → pos 0 <ℤ d → pos 0 <ℤ M → n *ℤ M ≡ pos 2 *ℤ c *ℤ d → pos 0 <ℤ c
count_positive n d M c np dp Mp e = pos_of_mul (pos 2 *ℤ d) c (omega (arith, ints, dp))
    (subst (λ x. pos 0 <ℤ x) (e ∙ same_by (c ∷ d ∷ []) (mul (mul (lit (pos 2)) (var 0)) (var 1))
    (mul (mul (lit (pos 2)) (var 1)) (var 0)) refl) (mul_pos n M np Mp))

pub positive_meets : (r s : List Corner) → WindsOnce r → WindsOnce s → pos 0 <ℤ (common_area2 r s).n → InteriorsMeet r s
positive_meets r s hr hs h =
    let g = fine_grid (edges r) (edges s) in
    let grid = g.0 in
    let at = common_is r s g.0 g.1 g.2 g.3 g.4 in
    let count : pos 0 <ℤ cells g.0 g.1 g.2 r s = count_positive (common_area2 r s).n (common_area2 r s).d
    (grid.columns *ℤ grid.rows) (cells g.0 g.1 g.2 r s) h at.positive
    (mul_pos grid.columns grid.rows (columns_positive grid) grid.rows_positive) at.value in
    let row = some_positive g.2 (λ k. sum_around g.1 (λ j. winding (middle g.0 j k) r *ℤ winding (middle g.0 j k) s)) count in
    let column = some_positive g.1 (λ j. winding (middle g.0 j row.0) r *ℤ winding (middle g.0 j row.0) s) row.1 in
    let p : Point = middle g.0 column.0 row.0 in
    let off_r : ¬ IsOnRing p r = off_ring g.0 g.3.share column.0 row.0 r g.3.first in
    let off_s : ¬ IsOnRing p s = off_ring g.0 g.3.share column.0 row.0 s g.3.second in
    let ones = both_one (winding p r) (winding p s) (hr p off_r) (hs p off_s) column.1 in (
      p,
      record { off_edges = off_r; is_wound = ones.0 },
      record { off_edges = off_s; is_wound = ones.1 },
    )

-- a common area of rings that wind once is not negative
product_not_negative : (u v : ℤ) → pos 0 ≤ℤ u → pos 0 ≤ℤ v → pos 0 ≤ℤ (u *ℤ v)
product_not_negative u v h k = mul_not_neg u v h k

pub not_negative : (r s : List Corner) → WindsOnce r → WindsOnce s → pos 0 ≤ℤ (common_area2 r s).n
not_negative r s hr hs =
    let g = fine_grid (edges r) (edges s) in
    let grid = g.0 in
    let at = common_is r s g.0 g.1 g.2 g.3 g.4 in
    let count : pos 0 ≤ℤ cells g.0 g.1 g.2 r s = none_negative g.2
    (λ k. sum_around g.1 (λ j. winding (middle g.0 j k) r *ℤ winding (middle g.0 j k) s))
    (λ k. none_negative g.1 (λ j. winding (middle g.0 j k) r *ℤ winding (middle g.0 j k) s)
    (λ j. product_not_negative (winding (middle g.0 j k) r) (winding (middle g.0 j k) s)
    (hr (middle g.0 j k) (off_ring g.0 g.3.share j k r g.3.first)).0
    (hs (middle g.0 j k) (off_ring g.0 g.3.share j k s g.3.second)).0)) in
    not_neg_of_mul (grid.columns *ℤ grid.rows) (common_area2 r s).n
    (mul_pos grid.columns grid.rows (columns_positive grid) grid.rows_positive)
    (subst (λ x. pos 0 ≤ℤ x) (sym at.value ∙ turned (common_area2 r s).n (grid.columns *ℤ grid.rows))
    (mul_not_neg (pos 2 *ℤ cells g.0 g.1 g.2 r s) (common_area2 r s).d (omega (arith, ints, count))
    (le_of_lt (pos 0) (common_area2 r s).d at.positive)))
  where
    turned : (u v : ℤ) → u *ℤ v ≡ v *ℤ u
    turned u v = omega (arith, ints)

-- ---- how common areas add up
all_front : (P : Edge → Type 0) (xs ys : List Edge) → AllByRecursion P (xs ++ ys) → AllByRecursion P xs
all_front P [] ys h = tt
all_front P (x ∷ xs) ys h = (h.0, all_front P xs ys h.1)

all_behind : (P : Edge → Type 0) (xs ys : List Edge) → AllByRecursion P (xs ++ ys) → AllByRecursion P ys
all_behind P [] ys h = h
all_behind P (x ∷ xs) ys h = all_behind P xs ys h.1

all_mapped : (P Q : Edge → Type 0) → ((e : Edge) → P e → Q e) → (es : List Edge) → AllByRecursion P es → AllByRecursion Q es
all_mapped P Q h [] k = tt
all_mapped P Q h (e ∷ es) k = (h e k.0, all_mapped P Q h es k.1)

fine_front : (grid : Grid) (es xs ys : List Edge) → IsFine grid es (xs ++ ys) → IsFine grid es xs
fine_front grid es xs ys h = record {
  share = h.share;
  first = h.first;
  second = all_front (λ f. IsShare grid f (h.share f)) xs ys h.second;
  pairs = all_mapped (λ e. AllByRecursion (SuitsPair grid e) (xs ++ ys)) (λ e. AllByRecursion (SuitsPair grid e) xs)
      (λ e k. all_front (SuitsPair grid e) xs ys k) es h.pairs;
}

fine_behind : (grid : Grid) (es xs ys : List Edge) → IsFine grid es (xs ++ ys) → IsFine grid es ys
fine_behind grid es xs ys h = record {
  share = h.share;
  first = h.first;
  second = all_behind (λ f. IsShare grid f (h.share f)) xs ys h.second;
  pairs = all_mapped (λ e. AllByRecursion (SuitsPair grid e) (xs ++ ys)) (λ e. AllByRecursion (SuitsPair grid e) ys)
      (λ e k. all_behind (SuitsPair grid e) xs ys k) es h.pairs;
}

-- the cells of a ring with several others
cells_with : Grid → ℕ → ℕ → List Corner → List (List Corner) → ℤ
cells_with grid m n r parts =
    sum_around n (λ k. sum_around m (λ j. winding (middle grid j k) r *ℤ sum_of_windings (middle grid j k) parts))

cells_more : (grid : Grid) (m n : ℕ) (r part : List Corner) (parts : List (List Corner))
    → pos 2 *ℤ cells grid m n r part +ℤ pos 2 *ℤ cells_with grid m n r parts ≡ pos 2 *ℤ cells_with grid m n r (part ∷ parts)
unfolding cells_with
cells_more grid m n r part parts =
    doubled (cells grid m n r part) (cells_with grid m n r parts)
    ∙ ap (λ x. pos 2 *ℤ x)
    (sym (around-plus n (λ k. sum_around m (λ j. winding (middle grid j k) r *ℤ winding (middle grid j k) part))
    (λ k. sum_around m (λ j. winding (middle grid j k) r *ℤ sum_of_windings (middle grid j k) parts)))
    ∙ around-same n
    (λ k. sum_around m (λ j. winding (middle grid j k) r *ℤ winding (middle grid j k) part)
    +ℤ sum_around m (λ j. winding (middle grid j k) r *ℤ sum_of_windings (middle grid j k) parts))
    (λ k. sum_around m (λ j. winding (middle grid j k) r *ℤ sum_of_windings (middle grid j k) (part ∷ parts)))
    (λ k. sym (around-plus m (λ j. winding (middle grid j k) r *ℤ winding (middle grid j k) part)
    (λ j. winding (middle grid j k) r *ℤ sum_of_windings (middle grid j k) parts))
    ∙ around-same m
    (λ j. winding (middle grid j k) r *ℤ winding (middle grid j k) part
    +ℤ winding (middle grid j k) r *ℤ sum_of_windings (middle grid j k) parts)
    (λ j. winding (middle grid j k) r *ℤ sum_of_windings (middle grid j k) (part ∷ parts))
    (λ j. together (winding (middle grid j k) r) (winding (middle grid j k) part) (sum_of_windings (middle grid j k) parts))))
  where
    doubled : (u v : ℤ) → pos 2 *ℤ u +ℤ pos 2 *ℤ v ≡ pos 2 *ℤ (u +ℤ v)
    doubled u v = omega (arith, ints)

    together : (u v w : ℤ) → u *ℤ v +ℤ u *ℤ w ≡ u *ℤ (v +ℤ w)
    together u v w = same_by (u ∷ v ∷ w ∷ []) (add (mul (var 0) (var 1)) (mul (var 0) (var 2))) (mul (var 0) (add (var 1) (var 2))) refl

no_cells : (grid : Grid) (m n : ℕ) (r : List Corner) → pos 0 ≡ pos 2 *ℤ cells_with grid m n r []
unfolding cells_with
no_cells grid m n r =
    sym (ap (λ x. pos 2 *ℤ x)
    (around-same n (λ k. sum_around m (λ j. winding (middle grid j k) r *ℤ pos 0)) (λ k. pos 0)
    (λ k. around-same m (λ j. winding (middle grid j k) r *ℤ pos 0) (λ j. pos 0) (λ j. nothing (winding (middle grid j k) r))
    ∙ around-nothing m)
    ∙ around-nothing n))
  where
    nothing : (u : ℤ) → u *ℤ pos 0 ≡ pos 0
    nothing u = omega (arith, ints)

with_parts : (r : List Corner) (parts : List (List Corner)) (grid : Grid) (m n : ℕ) → IsFine grid (edges r) (all_edges_of parts)
    → Reaches grid m n → IsAt (grid.columns *ℤ grid.rows) (common_with r parts) (pos 2 *ℤ cells_with grid m n r parts)
with_parts r [] grid m n fine wide =
    subst (λ z. IsAt (grid.columns *ℤ grid.rows) (whole (pos 0)) z) (no_cells grid m n r) (at_nothing (grid.columns *ℤ grid.rows))
with_parts r (part ∷ parts) grid m n fine wide =
    subst (λ z. IsAt (grid.columns *ℤ grid.rows) (common_with r (part ∷ parts)) z) (cells_more grid m n r part parts)
    (at_plus (grid.columns *ℤ grid.rows) (common_area2 r part) (common_with r parts)
    (pos 2 *ℤ cells grid m n r part) (pos 2 *ℤ cells_with grid m n r parts)
    (common_is r part grid m n (fine_front grid (edges r) (edges part) (all_edges_of parts) fine) wide)
    (with_parts r parts grid m n (fine_behind grid (edges r) (edges part) (all_edges_of parts) fine) wide))

at_equal : (M : ℤ) (a b : Fraction) (z w : ℤ) → pos 0 <ℤ M → z ≡ w → IsAt M a z → IsAt M b w → AreEqual a b
at_equal M a b z w Mp e h k = cancel M (a.n *ℤ b.d) (b.n *ℤ a.d) Mp (
    same_by (M ∷ a.n ∷ b.d ∷ []) (mul (var 0) (mul (var 1) (var 2))) (mul (mul (var 1) (var 0)) (var 2)) refl
    ∙ ap (λ x. x *ℤ b.d) (h.value ∙ ap (λ x. x *ℤ a.d) e)
    ∙ same_by (w ∷ a.d ∷ b.d ∷ []) (mul (mul (var 0) (var 1)) (var 2)) (mul (mul (var 0) (var 2)) (var 1)) refl
    ∙ ap (λ x. x *ℤ a.d) (sym k.value)
    ∙ same_by (M ∷ b.n ∷ a.d ∷ []) (mul (mul (var 1) (var 0)) (var 2)) (mul (var 0) (mul (var 1) (var 2))) refl)

off_all : (grid : Grid) (share : Edge → ℤ) (j k : ℤ) (parts : List (List Corner))
    → AllByRecursion (λ e. IsShare grid e (share e)) (all_edges_of parts)
    → AllByRecursion (λ part. ¬ IsOnRing (middle grid j k) part) parts
off_all grid share j k [] h = tt
off_all grid share j k (part ∷ parts) h = (
  off_ring grid share j k part (all_front (λ e. IsShare grid e (share e)) (edges part) (all_edges_of parts) h),
  off_all grid share j k parts (all_behind (λ e. IsShare grid e (share e)) (edges part) (all_edges_of parts) h),
)

same_cells : (grid : Grid) (m n : ℕ) (r ring : List Corner) (parts : List (List Corner))
    → ((j k : ℤ) → sum_of_windings (middle grid j k) parts ≡ winding (middle grid j k) ring)
    → cells_with grid m n r parts ≡ cells grid m n r ring
unfolding cells_with
same_cells grid m n r ring parts h =
    around-same n (λ k. sum_around m (λ j. winding (middle grid j k) r *ℤ sum_of_windings (middle grid j k) parts))
    (λ k. sum_around m (λ j. winding (middle grid j k) r *ℤ winding (middle grid j k) ring))
    (λ k. around-same m (λ j. winding (middle grid j k) r *ℤ sum_of_windings (middle grid j k) parts)
    (λ j. winding (middle grid j k) r *ℤ winding (middle grid j k) ring)
    (λ j. ap (λ x. winding (middle grid j k) r *ℤ x) (h j k)))

-- the areas common with rings that together go round each place as one ring does sum to the area common with that
pub additive : (r ring : List Corner) (parts : List (List Corner)) → MakeUpOffEdges parts ring
    → AreEqual (common_with r parts) (common_area2 r ring)
additive r ring parts h =
    let g = fine_grid (edges r) (edges ring ++ all_edges_of parts) in
    let front = fine_front g.0 (edges r) (edges ring) (all_edges_of parts) g.3 in
    let behind = fine_behind g.0 (edges r) (edges ring) (all_edges_of parts) g.3 in
    at_equal (g.0.columns *ℤ g.0.rows) (common_with r parts) (common_area2 r ring)
    (pos 2 *ℤ cells_with g.0 g.1 g.2 r parts) (pos 2 *ℤ cells g.0 g.1 g.2 r ring)
    (mul_pos g.0.columns g.0.rows (columns_positive g.0) g.0.rows_positive)
    (ap (λ x. pos 2 *ℤ x) (same_cells g.0 g.1 g.2 r ring parts
    (λ j k. h (middle g.0 j k) (off_ring g.0 front.share j k ring front.second) (off_all g.0 behind.share j k parts behind.second))))
    (with_parts r parts g.0 g.1 g.2 behind g.4)
    (common_is r ring g.0 g.1 g.2 front g.4)

-- ---- a ring that is covered by another
all_of : (u v : ℤ) → (pos 0 ≤ℤ u) × (u ≤ℤ pos 1) → (pos 1 ≤ℤ u → v ≡ pos 1) → u *ℤ v ≡ u
all_of u v h k = by_lt_z u (pos 1)
    (λ p. let e : u ≡ pos 0 = omega (arith, ints, p, h.0) in ap (λ x. x *ℤ v) e
    ∙ same_by (v ∷ []) (mul (lit (pos 0)) (var 0)) (lit (pos 0)) refl ∙ sym e)
    (λ p. ap (λ x. u *ℤ x) (k p) ∙ same_by (u ∷ []) (mul (var 0) (lit (pos 1))) (var 0) refl)

whole_by : (M n d c A : ℤ) → pos 0 <ℤ M → n *ℤ M ≡ pos 2 *ℤ c *ℤ d → pos 2 *ℤ c ≡ M *ℤ A → n *ℤ pos 1 ≡ A *ℤ d
whole_by M n d c A Mp e f = cancel M (n *ℤ pos 1) (A *ℤ d) Mp (
    same_by (M ∷ n ∷ []) (mul (var 0) (mul (var 1) (lit (pos 1)))) (mul (var 1) (var 0)) refl
    ∙ e ∙ ap (λ x. x *ℤ d) f
    ∙ same_by (M ∷ A ∷ d ∷ []) (mul (mul (var 0) (var 1)) (var 2)) (mul (var 0) (mul (var 1) (var 2))) refl)

pub covered : (r s : List Corner) → WindsOnce r → IsCoveredBy r s → AreEqual (common_area2 r s) (whole (area2 r))
covered r s once h =
    let g = fine_grid (edges r) (edges s) in
    let at = common_is r s g.0 g.1 g.2 g.3 g.4 in
    let same : cells g.0 g.1 g.2 r s ≡ sum_around g.2 (λ k. sum_around g.1 (λ j. winding (middle g.0 j k) r)) =
    around-same g.2 (λ k. sum_around g.1 (λ j. winding (middle g.0 j k) r *ℤ winding (middle g.0 j k) s))
    (λ k. sum_around g.1 (λ j. winding (middle g.0 j k) r))
    (λ k. around-same g.1 (λ j. winding (middle g.0 j k) r *ℤ winding (middle g.0 j k) s) (λ j. winding (middle g.0 j k) r)
    (λ j. let off_r : ¬ IsOnRing (middle g.0 j k) r = off_ring g.0 g.3.share j k r g.3.first in
    all_of (winding (middle g.0 j k) r) (winding (middle g.0 j k) s) (once (middle g.0 j k) off_r)
    (λ p. h (middle g.0 j k) (record { off_edges = off_r; is_wound = p }) (off_ring g.0 g.3.share j k s g.3.second)))) in
    whole_by (g.0.columns *ℤ g.0.rows) (common_area2 r s).n (common_area2 r s).d (cells g.0 g.1 g.2 r s) (area2 r)
    (mul_pos g.0.columns g.0.rows (columns_positive g.0) g.0.rows_positive) at.value
    (ap (λ x. pos 2 *ℤ x) same ∙ area_is r g.0 g.3.share g.1 g.2 g.3.first g.4)

-- ---- a ring that is covered by several others together
equal_through : (a b c : Fraction) → pos 0 <ℤ b.d → AreEqual a b → AreEqual b c → AreEqual a c
equal_through a b c h e f = cancel b.d (a.n *ℤ c.d) (c.n *ℤ a.d) h (
    same_by (b.d ∷ a.n ∷ c.d ∷ []) (mul (var 0) (mul (var 1) (var 2))) (mul (mul (var 1) (var 0)) (var 2)) refl
    ∙ ap (λ x. x *ℤ c.d) e
    ∙ same_by (b.n ∷ a.d ∷ c.d ∷ []) (mul (mul (var 0) (var 1)) (var 2)) (mul (mul (var 0) (var 2)) (var 1)) refl
    ∙ ap (λ x. x *ℤ a.d) f
    ∙ same_by (c.n ∷ b.d ∷ a.d ∷ []) (mul (mul (var 0) (var 1)) (var 2)) (mul (var 1) (mul (var 0) (var 2))) refl)

pub denominator_positive : (r s : List Corner) → pos 0 <ℤ (common_area2 r s).d
denominator_positive r s =
    let g = fine_grid (edges r) (edges s) in (common_is r s g.0 g.1 g.2 g.3 g.4).positive

pub added_to_whole : (r ring : List Corner) (parts : List (List Corner)) → MakeUpOffEdges parts ring → WindsOnce r → IsCoveredBy r ring
    → AreEqual (common_with r parts) (whole (area2 r))
added_to_whole r ring parts h once k =
    equal_through (common_with r parts) (common_area2 r ring) (whole (area2 r)) (denominator_positive r ring)
    (additive r ring parts h) (covered r ring once k)
