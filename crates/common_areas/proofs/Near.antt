-- Near a place off the edges, in a fine grid, is the middle of a cell that the rings go round as often.
use Rattle.std.proofs.Common.{◌≡◌, ℕ, zero, suc, ◌<◌, refl, subst, ◌∙◌, sym, ap, arith, List, [], ◌∷◌, inl, inr}
use Rattle.std.proofs.lemmas.Int.{ints, by_lt_z, quot-rem, rem_below, int_max_is, int_min_is}
use Rattle.std.specs.Int.{int_min, int_max}
use Rattle.std.specs.Int.RustNames.{int_div, int_rem, unsigned_abs}
use Rattle.std.specs.List.{AllByRecursion}
use lib.IntN.{ℤ, pos, negsuc, ◌+ℤ◌, ◌-ℤ◌, ◌*ℤ◌, neg_ℤ}
use lib.Signed.{◌<ℤ◌, ◌≤ℤ◌}
use Rattle.geo_exact.specs.declared.corner.Corner.{Corner}
use Rattle.geo_exact.specs.Limit.{IsWithin, limit}
use Rattle.geo_exact.specs.Point.{Point}
use Rattle.geo_exact.specs.Rings.{Edge, edges, sum_over}
use Rattle.geo_exact.specs.Segments.{IsOnSegment}
use Rattle.geo_exact.specs.Turn.{turn_at, IsOnEdge, IsOnSome, IsOnRing}
use Rattle.geo_exact.specs.Winding.{winding, IsInterior}
use Rattle.geo_exact.specs.Interiors.{InteriorsMeet}
use Rattle.geo_exact.proofs.numbers.Polynomials.{var, lit, add, mul, neg, sub, same_by}
use Rattle.geo_exact.proofs.numbers.Signs.{mul_pos, mul_le, mul_lt, mul_not_neg, pos_of_mul, convex}
use Rattle.geo_exact.proofs.numbers.Orders.{le_of_lt}
use Rattle.geo_exact.proofs.rings.Ways.{winding_along}
use Rattle.common_areas.specs.Between.{size}
use Rattle.common_areas.specs.Common.{common_area2}
use Rattle.common_areas.specs.Grid.{sum_around, Grid, middle, IsShare, SuitsPair, parting, IsFine, Reaches, cells}
use Rattle.common_areas.specs.Sums.{WindsOnce}
use Rattle.common_areas.proofs.Numbers.{size_not_neg, size_not_pos}
use Rattle.common_areas.proofs.EdgeRows.{before, before_yes, before_no, weight, lower, upper, weight_below, weight_above, balanced}
use Rattle.common_areas.proofs.EdgeRows.{columns_left, crossings_are, columns_positive}
use Rattle.common_areas.proofs.Pairs.{lower_within, upper_within}
use Rattle.common_areas.proofs.Areas.{reached_or_no_weight}
use Rattle.common_areas.proofs.Cells.{common_is}
use Rattle.common_areas.proofs.FineGrids.{all_mapped, fine_grid, reaches}
use Rattle.common_areas.proofs.OffEdges.{off_ring, none_negative}

-- ---- a finer grid
finer : (grid : Grid) (c : ℤ) → pos 0 <ℤ c → Grid
finer grid c h = record {
  rows = c *ℤ grid.rows;
  columns = c *ℤ grid.columns;
  d = pos 2 *ℤ (c *ℤ grid.columns) *ℤ (c *ℤ grid.rows);
  d_is = refl;
  rows_positive = mul_pos c grid.rows h grid.rows_positive;
  d_positive =
      mul_pos (pos 2 *ℤ (c *ℤ grid.columns)) (c *ℤ grid.rows)
      (mul_pos (pos 2) (c *ℤ grid.columns) (omega (arith, ints)) (mul_pos c grid.columns h (columns_positive grid)))
      (mul_pos c grid.rows h grid.rows_positive);
}

finer_share : (grid : Grid) (c : ℤ) (h : pos 0 <ℤ c) (e : Edge) (q : ℤ) → IsShare grid e q → IsShare (finer grid c h) e q
unfolding finer
finer_share grid c h e q s = record {
  divides = elim s.divides [
    | inl z ↦ inl z
    | inr d ↦ inr (scaled c grid.columns grid.rows (size (e.to.y -ℤ e.from.y)) q d)
  ];
}
  where
    scaled : (c W H r q : ℤ) → W ≡ pos 2 *ℤ H *ℤ r *ℤ q → c *ℤ W ≡ pos 2 *ℤ (c *ℤ H) *ℤ r *ℤ q
    scaled c W H r q e = ap (λ x. c *ℤ x) e
        ∙ same_by (c ∷ H ∷ r ∷ q ∷ []) (mul (var 0) (mul (mul (mul (lit (pos 2)) (var 1)) (var 2)) (var 3)))
        (mul (mul (mul (lit (pos 2)) (mul (var 0) (var 1))) (var 2)) (var 3)) refl

finer_pair : (grid : Grid) (c : ℤ) (h : pos 0 <ℤ c) (e f : Edge) → SuitsPair grid e f → SuitsPair (finer grid c h) e f
unfolding finer
finer_pair grid c h e f s = elim s [
  | inl z ↦ inl z
  | inr d ↦ inr (record {
    factor = c *ℤ d.factor;
    is = ap (λ x. c *ℤ x) d.is
        ∙ same_by (c ∷ parting e f ∷ d.factor ∷ []) (mul (var 0) (mul (var 1) (var 2))) (mul (var 1) (mul (var 0) (var 2))) refl;
  })
]

finer_fine : (grid : Grid) (c : ℤ) (h : pos 0 <ℤ c) (es fs : List Edge) → IsFine grid es fs → IsFine (finer grid c h) es fs
finer_fine grid c h es fs i = record {
  share = i.share;
  first = all_mapped (λ e. IsShare grid e (i.share e)) (λ e. IsShare (finer grid c h) e (i.share e))
      (λ e. finer_share grid c h e (i.share e)) es i.first;
  second = all_mapped (λ e. IsShare grid e (i.share e)) (λ e. IsShare (finer grid c h) e (i.share e))
      (λ e. finer_share grid c h e (i.share e)) fs i.second;
  pairs = all_mapped (λ e. AllByRecursion (SuitsPair grid e) fs) (λ e. AllByRecursion (SuitsPair (finer grid c h) e) fs)
      (λ e. all_mapped (SuitsPair grid e) (SuitsPair (finer grid c h) e) (finer_pair grid c h e) fs) es i.pairs;
}

-- ---- whole numbers below fractions
record Floor (a d : ℤ) : Type 0 where
  q : ℤ
  low : (d *ℤ q) ≤ℤ a
  high : a <ℤ (d *ℤ (q +ℤ pos 1))

above_size : (z : ℤ) → z ≤ℤ size z
above_size z = by_lt_z z (pos 0)
    (λ p. let s : size z ≡ neg_ℤ z = size_not_pos z (omega (arith, ints)) in omega (arith, ints, s))
    (λ p. let s : size z ≡ z = size_not_neg z p in omega (arith, ints, s))

below_size : (z : ℤ) → neg_ℤ z ≤ℤ size z
below_size z = by_lt_z z (pos 0)
    (λ p. let s : size z ≡ neg_ℤ z = size_not_pos z (omega (arith, ints)) in omega (arith, ints, s))
    (λ p. let s : size z ≡ z = size_not_neg z p in omega (arith, ints, s))

floor_of : (a d : ℤ) → pos 0 <ℤ d → Floor a d
floor_of a d dp =
    let whole = quot-rem a d in
    let below : unsigned_abs (int_rem a d) < unsigned_abs d =
    rem_below a d (omega (arith, ints, dp, size_not_neg d (le_of_lt (pos 0) d dp))) in
    let small : size (int_rem a d) <ℤ d = omega (arith, ints, below, size_not_neg d (le_of_lt (pos 0) d dp)) in
    by_lt_z (int_rem a d) (pos 0)
    (λ p. record {
      q = int_div a d -ℤ pos 1;
      low = omega (arith, ints, whole, small, below_size (int_rem a d), less d (int_div a d));
      high = omega (arith, ints, whole, p, same d (int_div a d));
    })
    (λ p. record {
      q = int_div a d;
      low = omega (arith, ints, whole, p, turned d (int_div a d));
      high = omega (arith, ints, whole, small, above_size (int_rem a d), more d (int_div a d));
    })
  where
    less : (d q : ℤ) → d *ℤ (q -ℤ pos 1) ≡ q *ℤ d -ℤ d
    less d q = same_by (d ∷ q ∷ []) (mul (var 0) (sub (var 1) (lit (pos 1)))) (sub (mul (var 1) (var 0)) (var 0)) refl

    same : (d q : ℤ) → d *ℤ (q -ℤ pos 1 +ℤ pos 1) ≡ q *ℤ d
    same d q = same_by (d ∷ q ∷ []) (mul (var 0) (add (sub (var 1) (lit (pos 1))) (lit (pos 1)))) (mul (var 1) (var 0)) refl

    turned : (d q : ℤ) → d *ℤ q ≡ q *ℤ d
    turned d q = omega (arith, ints)

    more : (d q : ℤ) → d *ℤ (q +ℤ pos 1) ≡ q *ℤ d +ℤ d
    more d q = same_by (d ∷ q ∷ []) (mul (var 0) (add (var 1) (lit (pos 1)))) (add (mul (var 1) (var 0)) (var 0)) refl

-- ---- near places
record IsNear (p m : Point) (W H : ℤ) : Type 0 where
  d_is : m.d ≡ pos 2 *ℤ W *ℤ H
  x_low : neg_ℤ (H *ℤ p.d) ≤ℤ (m.x *ℤ p.d -ℤ p.x *ℤ m.d)
  x_high : (m.x *ℤ p.d -ℤ p.x *ℤ m.d) ≤ℤ (H *ℤ p.d)
  y_low : neg_ℤ (W *ℤ p.d) ≤ℤ (m.y *ℤ p.d -ℤ p.y *ℤ m.d)
  y_high : (m.y *ℤ p.d -ℤ p.y *ℤ m.d) ≤ℤ (W *ℤ p.d)

-- how far the middle of the cell of a place is from it, in one direction: A is the number of parts there, B in the other
offset : (A B D x d i : ℤ) → pos 0 ≤ℤ B → D ≡ pos 2 *ℤ B *ℤ A → (d *ℤ i) ≤ℤ (x *ℤ A) → (x *ℤ A) <ℤ (d *ℤ (i +ℤ pos 1))
    → (neg_ℤ (B *ℤ d) ≤ℤ ((pos 2 *ℤ i +ℤ pos 1) *ℤ B *ℤ d -ℤ x *ℤ D)) × (((pos 2 *ℤ i +ℤ pos 1) *ℤ B *ℤ d -ℤ x *ℤ D) ≤ℤ (B *ℤ d))
offset A B D x d i Bp eD low high =
    let step : d *ℤ (i +ℤ pos 1) ≡ d *ℤ i +ℤ d =
    same_by (d ∷ i ∷ []) (mul (var 0) (add (var 1) (lit (pos 1)))) (add (mul (var 0) (var 1)) (var 0)) refl in
    let is : (pos 2 *ℤ (d *ℤ i) +ℤ d -ℤ pos 2 *ℤ (x *ℤ A)) *ℤ B ≡ (pos 2 *ℤ i +ℤ pos 1) *ℤ B *ℤ d -ℤ x *ℤ D =
    same_by (A ∷ B ∷ x ∷ d ∷ i ∷ [])
    (mul (sub (add (mul (lit (pos 2)) (mul (var 3) (var 4))) (var 3)) (mul (lit (pos 2)) (mul (var 2) (var 0)))) (var 1))
    (sub (mul (mul (add (mul (lit (pos 2)) (var 4)) (lit (pos 1))) (var 1)) (var 3))
    (mul (var 2) (mul (mul (lit (pos 2)) (var 1)) (var 0)))) refl
    ∙ ap (λ z. (pos 2 *ℤ i +ℤ pos 1) *ℤ B *ℤ d -ℤ x *ℤ z) (sym eD) in
    let lows : neg_ℤ d *ℤ B ≡ neg_ℤ (B *ℤ d) = same_by (d ∷ B ∷ []) (mul (neg (var 0)) (var 1)) (neg (mul (var 1) (var 0))) refl in
    let highs : d *ℤ B ≡ B *ℤ d = same_by (d ∷ B ∷ []) (mul (var 0) (var 1)) (mul (var 1) (var 0)) refl in
    let below : (neg_ℤ d *ℤ B) ≤ℤ ((pos 2 *ℤ (d *ℤ i) +ℤ d -ℤ pos 2 *ℤ (x *ℤ A)) *ℤ B) =
    mul_le (neg_ℤ d) (pos 2 *ℤ (d *ℤ i) +ℤ d -ℤ pos 2 *ℤ (x *ℤ A)) B Bp (omega (arith, ints, high, step)) in
    let above : ((pos 2 *ℤ (d *ℤ i) +ℤ d -ℤ pos 2 *ℤ (x *ℤ A)) *ℤ B) ≤ℤ (d *ℤ B) =
    mul_le (pos 2 *ℤ (d *ℤ i) +ℤ d -ℤ pos 2 *ℤ (x *ℤ A)) d B Bp (omega (arith, ints, low)) in (
      subst (λ z. z ≤ℤ ((pos 2 *ℤ i +ℤ pos 1) *ℤ B *ℤ d -ℤ x *ℤ D)) lows (subst (λ z. (neg_ℤ d *ℤ B) ≤ℤ z) is below),
      subst (λ z. ((pos 2 *ℤ i +ℤ pos 1) *ℤ B *ℤ d -ℤ x *ℤ D) ≤ℤ z) highs (subst (λ z. z ≤ℤ (d *ℤ B)) is above),
    )

record NearMiddle (grid : Grid) (p : Point) : Type 0 where
  j : ℤ
  k : ℤ
  near : IsNear p (middle grid j k) grid.columns grid.rows

near_middle : (grid : Grid) (p : Point) → NearMiddle grid p
near_middle grid p =
    let fx = floor_of (p.x *ℤ grid.columns) p.d p.d_positive in
    let fy = floor_of (p.y *ℤ grid.rows) p.d p.d_positive in
    let other : grid.d ≡ pos 2 *ℤ grid.rows *ℤ grid.columns =
    grid.d_is
    ∙ same_by (grid.columns ∷ grid.rows ∷ []) (mul (mul (lit (pos 2)) (var 0)) (var 1))
    (mul (mul (lit (pos 2)) (var 1)) (var 0)) refl in
    let x = offset grid.columns grid.rows grid.d p.x p.d fx.q (le_of_lt (pos 0) grid.rows grid.rows_positive) other fx.low fx.high in
    let y = offset grid.rows grid.columns grid.d p.y p.d fy.q (le_of_lt (pos 0) grid.columns (columns_positive grid))
    grid.d_is fy.low fy.high in
    record {
      j = fx.q;
      k = fy.q;
      near = record { d_is = grid.d_is; x_low = x.0; x_high = x.1; y_low = y.0; y_high = y.1 };
    }

-- a measure of places that is linear
abbrev measure : (a b c : ℤ) → Point → ℤ
measure a b c p = a *ℤ p.x +ℤ b *ℤ p.y +ℤ c *ℤ p.d

record IsSmall (N a : ℤ) : Type 0 where
  low : neg_ℤ N ≤ℤ a
  high : a ≤ℤ N

small_product : (N D a u : ℤ) → IsSmall N a → pos 0 ≤ℤ D → neg_ℤ D ≤ℤ u → u ≤ℤ D → neg_ℤ (D *ℤ N) ≤ℤ (a *ℤ u)
small_product N D a u h Dp low high = by_lt_z a (pos 0)
    (λ p. let first : (u *ℤ neg_ℤ a) ≤ℤ (D *ℤ neg_ℤ a) = mul_le u D (neg_ℤ a) (omega (arith, ints, p)) high in
    let second : (neg_ℤ a *ℤ D) ≤ℤ (N *ℤ D) = mul_le (neg_ℤ a) N D Dp (omega (arith, ints, h.low)) in
    let one : u *ℤ neg_ℤ a ≡ neg_ℤ (a *ℤ u) = same_by (u ∷ a ∷ []) (mul (var 0) (neg (var 1))) (neg (mul (var 1) (var 0))) refl in
    let two : D *ℤ neg_ℤ a ≡ neg_ℤ a *ℤ D = same_by (D ∷ a ∷ []) (mul (var 0) (neg (var 1))) (mul (neg (var 1)) (var 0)) refl in
    omega (arith, ints, first, second, one, two, turned N D))
    (λ p. let first : (neg_ℤ D *ℤ a) ≤ℤ (u *ℤ a) = mul_le (neg_ℤ D) u a p low in
    let second : (a *ℤ D) ≤ℤ (N *ℤ D) = mul_le a N D Dp h.high in
    let one : neg_ℤ D *ℤ a ≡ neg_ℤ (a *ℤ D) = same_by (D ∷ a ∷ []) (mul (neg (var 0)) (var 1)) (neg (mul (var 1) (var 0))) refl in
    omega (arith, ints, first, second, one, turned N D, turned u a))
  where
    turned : (u v : ℤ) → u *ℤ v ≡ v *ℤ u
    turned u v = omega (arith, ints)

-- what is positive at a place is so at one near it, where the parts are many
near_positive : (a b c N W H : ℤ) (p m : Point) → IsSmall N a → IsSmall N b → IsNear p m W H → pos 0 <ℤ W → pos 0 <ℤ H
    → (N *ℤ p.d) <ℤ W → (N *ℤ p.d) <ℤ H → pos 0 <ℤ measure a b c p → pos 0 <ℤ measure a b c m
near_positive a b c N W H p m ha hb near Wp Hp w h positive =
    let dp : pos 0 ≤ℤ p.d = le_of_lt (pos 0) p.d p.d_positive in
    let moved : p.d *ℤ measure a b c m ≡ measure a b c p *ℤ m.d +ℤ a *ℤ (m.x *ℤ p.d -ℤ p.x *ℤ m.d) +ℤ b *ℤ (m.y *ℤ p.d -ℤ p.y *ℤ m.d) =
    same_by (a ∷ b ∷ c ∷ p.x ∷ p.y ∷ p.d ∷ m.x ∷ m.y ∷ m.d ∷ [])
    (mul (var 5) (add (add (mul (var 0) (var 6)) (mul (var 1) (var 7))) (mul (var 2) (var 8))))
    (add (add (mul (add (add (mul (var 0) (var 3)) (mul (var 1) (var 4))) (mul (var 2) (var 5))) (var 8))
    (mul (var 0) (sub (mul (var 6) (var 5)) (mul (var 3) (var 8))))) (mul (var 1) (sub (mul (var 7) (var 5)) (mul (var 4) (var 8)))))
    refl in
    let large : (pos 1 *ℤ m.d) ≤ℤ (measure a b c p *ℤ m.d) =
    mul_le (pos 1) (measure a b c p) m.d (le_of_lt (pos 0) m.d m.d_positive) (omega (arith, ints, positive)) in
    let in_x : neg_ℤ (H *ℤ p.d *ℤ N) ≤ℤ (a *ℤ (m.x *ℤ p.d -ℤ p.x *ℤ m.d)) =
    small_product N (H *ℤ p.d) a (m.x *ℤ p.d -ℤ p.x *ℤ m.d) ha (mul_not_neg H p.d (le_of_lt (pos 0) H Hp) dp) near.x_low near.x_high in
    let in_y : neg_ℤ (W *ℤ p.d *ℤ N) ≤ℤ (b *ℤ (m.y *ℤ p.d -ℤ p.y *ℤ m.d)) =
    small_product N (W *ℤ p.d) b (m.y *ℤ p.d -ℤ p.y *ℤ m.d) hb (mul_not_neg W p.d (le_of_lt (pos 0) W Wp) dp) near.y_low near.y_high in
    let first : (N *ℤ p.d *ℤ H) <ℤ (W *ℤ H) = mul_lt (N *ℤ p.d) W H Hp w in
    let second : (N *ℤ p.d *ℤ W) <ℤ (H *ℤ W) = mul_lt (N *ℤ p.d) H W Wp h in
    let one : H *ℤ p.d *ℤ N ≡ N *ℤ p.d *ℤ H = rotated H p.d N in
    let two : W *ℤ p.d *ℤ N ≡ N *ℤ p.d *ℤ W = rotated W p.d N in
    let three : pos 2 *ℤ W *ℤ H ≡ W *ℤ H +ℤ H *ℤ W =
    same_by (W ∷ H ∷ []) (mul (mul (lit (pos 2)) (var 0)) (var 1)) (add (mul (var 0) (var 1)) (mul (var 1) (var 0))) refl in
    let four : pos 1 *ℤ m.d ≡ m.d = same_by (m.d ∷ []) (mul (lit (pos 1)) (var 0)) (var 0) refl in
    pos_of_mul p.d (measure a b c m) p.d_positive
    (summed (p.d *ℤ measure a b c m) (measure a b c p *ℤ m.d) (a *ℤ (m.x *ℤ p.d -ℤ p.x *ℤ m.d)) (b *ℤ (m.y *ℤ p.d -ℤ p.y *ℤ m.d))
    m.d (H *ℤ p.d *ℤ N) (W *ℤ p.d *ℤ N) (W *ℤ H) (H *ℤ W) moved
    (subst (λ z. z ≤ℤ (measure a b c p *ℤ m.d)) four large) in_x in_y (near.d_is ∙ three)
    (subst (λ z. z <ℤ (W *ℤ H)) (sym one) first) (subst (λ z. z <ℤ (H *ℤ W)) (sym two) second))
  where
    rotated : (u v w : ℤ) → u *ℤ v *ℤ w ≡ w *ℤ v *ℤ u
    rotated u v w = same_by (u ∷ v ∷ w ∷ []) (mul (mul (var 0) (var 1)) (var 2)) (mul (mul (var 2) (var 1)) (var 0)) refl

    summed : (t l x y d e f g h : ℤ) → t ≡ l +ℤ x +ℤ y → d ≤ℤ l → neg_ℤ e ≤ℤ x → neg_ℤ f ≤ℤ y → d ≡ g +ℤ h → e <ℤ g → f <ℤ h → pos 0 <ℤ t
    summed t l x y d e f g h a b c i j k m = omega (arith, ints, a, b, c, i, j, k, m)

-- and at each place between
between_positive : (a b c : ℤ) (t p m : Point) → IsOnSegment t p m → pos 0 <ℤ measure a b c p → pos 0 <ℤ measure a b c m
    → pos 0 <ℤ measure a b c t
between_positive a b c t p m s hp hm =
    let some : pos 0 <ℤ (s.m +ℤ s.n) = by_lt_z (pos 0) (s.m +ℤ s.n) (λ x. x)
    (λ x. let one : s.m ≡ pos 0 = omega (arith, ints, x, s.m_not_negative, s.n_not_negative) in
    let two : s.n ≡ pos 0 = omega (arith, ints, x, s.m_not_negative, s.n_not_negative) in
    let none : s.k *ℤ t.d ≡ pos 0 = s.in_d ∙ ap (λ z. z *ℤ p.d +ℤ s.n *ℤ m.d) one ∙ ap (λ z. pos 0 *ℤ p.d +ℤ z *ℤ m.d) two
    ∙ same_by (p.d ∷ m.d ∷ []) (add (mul (lit (pos 0)) (var 0)) (mul (lit (pos 0)) (var 1))) (lit (pos 0)) refl in
    absurd (omega (arith, ints, none, mul_pos s.k t.d s.k_positive t.d_positive))) in
    let is : s.k *ℤ measure a b c t ≡ s.m *ℤ measure a b c p +ℤ s.n *ℤ measure a b c m =
    same_by (a ∷ b ∷ c ∷ s.k ∷ t.x ∷ t.y ∷ t.d ∷ [])
    (mul (var 3) (add (add (mul (var 0) (var 4)) (mul (var 1) (var 5))) (mul (var 2) (var 6))))
    (add (add (mul (var 0) (mul (var 3) (var 4))) (mul (var 1) (mul (var 3) (var 5)))) (mul (var 2) (mul (var 3) (var 6)))) refl
    ∙ ap (λ z. a *ℤ z +ℤ b *ℤ (s.k *ℤ t.y) +ℤ c *ℤ (s.k *ℤ t.d)) s.in_x
    ∙ ap (λ z. a *ℤ (s.m *ℤ p.x +ℤ s.n *ℤ m.x) +ℤ b *ℤ z +ℤ c *ℤ (s.k *ℤ t.d)) s.in_y
    ∙ ap (λ z. a *ℤ (s.m *ℤ p.x +ℤ s.n *ℤ m.x) +ℤ b *ℤ (s.m *ℤ p.y +ℤ s.n *ℤ m.y) +ℤ c *ℤ z) s.in_d
    ∙ same_by (a ∷ b ∷ c ∷ s.m ∷ s.n ∷ p.x ∷ p.y ∷ p.d ∷ m.x ∷ m.y ∷ m.d ∷ [])
    (add (add (mul (var 0) (add (mul (var 3) (var 5)) (mul (var 4) (var 8))))
    (mul (var 1) (add (mul (var 3) (var 6)) (mul (var 4) (var 9)))))
    (mul (var 2) (add (mul (var 3) (var 7)) (mul (var 4) (var 10)))))
    (add (mul (var 3) (add (add (mul (var 0) (var 5)) (mul (var 1) (var 6))) (mul (var 2) (var 7))))
    (mul (var 4) (add (add (mul (var 0) (var 8)) (mul (var 1) (var 9))) (mul (var 2) (var 10))))) refl in
    pos_of_mul s.k (measure a b c t) s.k_positive
    (subst (λ z. pos 0 <ℤ z) (sym is) (convex s.m s.n (measure a b c p) (measure a b c m) s.m_not_negative s.n_not_negative some hp hm))

-- ---- an edge that a place is not on
abbrev spread : ℤ
spread = pos 2 *ℤ pos limit

turn_measure : (a b : Corner) (p : Point)
    → turn_at a b p ≡ measure (a.y -ℤ b.y) (b.x -ℤ a.x) ((b.y -ℤ a.y) *ℤ a.x -ℤ (b.x -ℤ a.x) *ℤ a.y) p
turn_measure a b p = same_by (a.x ∷ a.y ∷ b.x ∷ b.y ∷ p.x ∷ p.y ∷ p.d ∷ [])
    (sub (mul (sub (var 2) (var 0)) (sub (var 5) (mul (var 1) (var 6)))) (mul (sub (var 3) (var 1)) (sub (var 4) (mul (var 0) (var 6)))))
    (add (add (mul (sub (var 1) (var 3)) (var 4)) (mul (sub (var 2) (var 0)) (var 5)))
    (mul (sub (mul (sub (var 3) (var 1)) (var 0)) (mul (sub (var 2) (var 0)) (var 1))) (var 6))) refl

back_measure : (a b : Corner) (p : Point)
    → neg_ℤ (turn_at a b p) ≡ measure (b.y -ℤ a.y) (a.x -ℤ b.x) ((b.x -ℤ a.x) *ℤ a.y -ℤ (b.y -ℤ a.y) *ℤ a.x) p
back_measure a b p = same_by (a.x ∷ a.y ∷ b.x ∷ b.y ∷ p.x ∷ p.y ∷ p.d ∷ [])
    (neg (sub (mul (sub (var 2) (var 0)) (sub (var 5) (mul (var 1) (var 6))))
    (mul (sub (var 3) (var 1)) (sub (var 4) (mul (var 0) (var 6))))))
    (add (add (mul (sub (var 3) (var 1)) (var 4)) (mul (sub (var 0) (var 2)) (var 5)))
    (mul (sub (mul (sub (var 2) (var 0)) (var 1)) (mul (sub (var 3) (var 1)) (var 0))) (var 6))) refl

record Chosen (grid : Grid) (p m : Point) : Type 0 where
  near : IsNear p m grid.columns grid.rows
  wide : (spread *ℤ p.d) <ℤ grid.columns
  high : (spread *ℤ p.d) <ℤ grid.rows

chosen_positive : (grid : Grid) (p m t : Point) → Chosen grid p m → IsOnSegment t p m → (a b c : ℤ) → IsSmall spread a → IsSmall spread b
    → pos 0 <ℤ measure a b c p → pos 0 <ℤ measure a b c t
chosen_positive grid p m t ch s a b c ha hb h =
    between_positive a b c t p m s h
    (near_positive a b c spread grid.columns grid.rows p m ha hb ch.near (columns_positive grid) grid.rows_positive ch.wide ch.high h)

apart : (u v : ℤ) → pos 0 <ℤ v → u ≡ v → u ≡ pos 0 → ⊥
apart u v h e z = omega (arith, ints, h, e, z)

off_way : (grid : Grid) (a b : Corner) (p m t : Point) → Chosen grid p m → ¬ IsOnEdge p a b → IsOnSegment t p m → IsOnEdge t a b → ⊥
off_way grid a b p m t ch off s on =
    let ax = a.x_in_range in
    let ay = a.y_in_range in
    let bx = b.x_in_range in
    let by = b.y_in_range in
    let mx = int_min_is a.x b.x in
    let nx = int_max_is a.x b.x in
    let my = int_min_is a.y b.y in
    let ny = int_max_is a.y b.y in
    let nothing : IsSmall spread (pos 0) = record { low = omega (arith, ints); high = omega (arith, ints) } in
    let one : IsSmall spread (pos 1) = record { low = omega (arith, ints); high = omega (arith, ints) } in
    let minus : IsSmall spread (negsuc 0) = record { low = omega (arith, ints); high = omega (arith, ints) } in
    by_lt_z (pos 0) (turn_at a b p)
    (λ h. apart (turn_at a b t) (measure (a.y -ℤ b.y) (b.x -ℤ a.x) ((b.y -ℤ a.y) *ℤ a.x -ℤ (b.x -ℤ a.x) *ℤ a.y) t)
    (chosen_positive grid p m t ch s (a.y -ℤ b.y) (b.x -ℤ a.x) ((b.y -ℤ a.y) *ℤ a.x -ℤ (b.x -ℤ a.x) *ℤ a.y)
    (small a.y b.y ay by) (small b.x a.x bx ax) (subst (λ z. pos 0 <ℤ z) (turn_measure a b p) h))
    (turn_measure a b t) on.on_line)
    (λ h. by_lt_z (turn_at a b p) (pos 0)
    (λ i. apart (neg_ℤ (turn_at a b t)) (measure (b.y -ℤ a.y) (a.x -ℤ b.x) ((b.x -ℤ a.x) *ℤ a.y -ℤ (b.y -ℤ a.y) *ℤ a.x) t)
    (chosen_positive grid p m t ch s (b.y -ℤ a.y) (a.x -ℤ b.x) ((b.x -ℤ a.x) *ℤ a.y -ℤ (b.y -ℤ a.y) *ℤ a.x)
    (small b.y a.y by ay) (small a.x b.x ax bx) (subst (λ z. pos 0 <ℤ z) (back_measure a b p) (turned (turn_at a b p) i)))
    (back_measure a b t) (ap neg_ℤ on.on_line))
    (λ i. by_lt_z p.x (int_min a.x b.x *ℤ p.d)
    (λ u. too_far (int_min a.x b.x) t.x t.y t.d
    (chosen_positive grid p m t ch s (negsuc 0) (pos 0) (int_min a.x b.x) minus nothing (far (int_min a.x b.x) p.x p.y p.d u)) on.from_x)
    (λ u. by_lt_z (int_max a.x b.x *ℤ p.d) p.x
    (λ v. too_far' (int_max a.x b.x) t.x t.y t.d
    (chosen_positive grid p m t ch s (pos 1) (pos 0) (neg_ℤ (int_max a.x b.x)) one nothing (far' (int_max a.x b.x) p.x p.y p.d v)) on.to_x)
    (λ v. by_lt_z p.y (int_min a.y b.y *ℤ p.d)
    (λ w. too_low (int_min a.y b.y) t.x t.y t.d
    (chosen_positive grid p m t ch s (pos 0) (negsuc 0) (int_min a.y b.y) nothing minus (low (int_min a.y b.y) p.x p.y p.d w)) on.from_y)
    (λ w. by_lt_z (int_max a.y b.y *ℤ p.d) p.y
    (λ x. too_low' (int_max a.y b.y) t.x t.y t.d
    (chosen_positive grid p m t ch s (pos 0) (pos 1) (neg_ℤ (int_max a.y b.y)) nothing one (low' (int_max a.y b.y) p.x p.y p.d x)) on.to_y)
    (λ x. off (record { on_line = same (turn_at a b p) i h; from_x = u; to_x = v; from_y = w; to_y = x })))))))
  where
    small : (u v : ℤ) → IsWithin limit u → IsWithin limit v → IsSmall spread (u -ℤ v)
    small u v h k =
        record { low = omega (arith, ints, h.low, h.high, k.low, k.high); high = omega (arith, ints, h.low, h.high, k.low, k.high) }

    turned : (z : ℤ) → z <ℤ pos 0 → pos 0 <ℤ neg_ℤ z
    turned z h = omega (arith, ints)

    same : (z : ℤ) → pos 0 ≤ℤ z → z ≤ℤ pos 0 → z ≡ pos 0
    same z h k = omega (arith, ints)

    far : (u x y d : ℤ) → x <ℤ (u *ℤ d) → pos 0 <ℤ (negsuc 0 *ℤ x +ℤ pos 0 *ℤ y +ℤ u *ℤ d)
    far u x y d h = omega (arith, ints, h)

    far' : (u x y d : ℤ) → (u *ℤ d) <ℤ x → pos 0 <ℤ (pos 1 *ℤ x +ℤ pos 0 *ℤ y +ℤ neg_ℤ u *ℤ d)
    far' u x y d h = let e : neg_ℤ u *ℤ d ≡ neg_ℤ (u *ℤ d) =
        same_by (u ∷ d ∷ []) (mul (neg (var 0)) (var 1)) (neg (mul (var 0) (var 1))) refl in
        omega (arith, ints, h, e)

    low : (u x y d : ℤ) → y <ℤ (u *ℤ d) → pos 0 <ℤ (pos 0 *ℤ x +ℤ negsuc 0 *ℤ y +ℤ u *ℤ d)
    low u x y d h = omega (arith, ints, h)

    low' : (u x y d : ℤ) → (u *ℤ d) <ℤ y → pos 0 <ℤ (pos 0 *ℤ x +ℤ pos 1 *ℤ y +ℤ neg_ℤ u *ℤ d)
    low' u x y d h = let e : neg_ℤ u *ℤ d ≡ neg_ℤ (u *ℤ d) =
        same_by (u ∷ d ∷ []) (mul (neg (var 0)) (var 1)) (neg (mul (var 0) (var 1))) refl in
        omega (arith, ints, h, e)

    too_far : (u x y d : ℤ) → pos 0 <ℤ (negsuc 0 *ℤ x +ℤ pos 0 *ℤ y +ℤ u *ℤ d) → (u *ℤ d) ≤ℤ x → ⊥
    too_far u x y d h k = omega (arith, ints, h, k)

    too_far' : (u x y d : ℤ) → pos 0 <ℤ (pos 1 *ℤ x +ℤ pos 0 *ℤ y +ℤ neg_ℤ u *ℤ d) → x ≤ℤ (u *ℤ d) → ⊥
    too_far' u x y d h k = let e : neg_ℤ u *ℤ d ≡ neg_ℤ (u *ℤ d) =
        same_by (u ∷ d ∷ []) (mul (neg (var 0)) (var 1)) (neg (mul (var 0) (var 1))) refl in
        omega (arith, ints, h, k, e)

    too_low : (u x y d : ℤ) → pos 0 <ℤ (pos 0 *ℤ x +ℤ negsuc 0 *ℤ y +ℤ u *ℤ d) → (u *ℤ d) ≤ℤ y → ⊥
    too_low u x y d h k = omega (arith, ints, h, k)

    too_low' : (u x y d : ℤ) → pos 0 <ℤ (pos 0 *ℤ x +ℤ pos 1 *ℤ y +ℤ neg_ℤ u *ℤ d) → y ≤ℤ (u *ℤ d) → ⊥
    too_low' u x y d h k = let e : neg_ℤ u *ℤ d ≡ neg_ℤ (u *ℤ d) =
        same_by (u ∷ d ∷ []) (mul (neg (var 0)) (var 1)) (neg (mul (var 0) (var 1))) refl in
        omega (arith, ints, h, k, e)

off_ways : (grid : Grid) (p m t : Point) → Chosen grid p m → (es : List Edge) → ¬ IsOnSome p es → IsOnSegment t p m → ¬ IsOnSome t es
off_ways grid p m t ch [] off s on = on
off_ways grid p m t ch (e ∷ es) off s on = elim on [
  | inl o ↦ off_way grid e.from e.to p m t ch (λ x. off (inl x)) s o
  | inr o ↦ off_ways grid p m t ch es (λ x. off (inr x)) s o
]

-- the middle near a place off a ring has the place's winding number
same_winding : (grid : Grid) (p m : Point) (ring : List Corner) → Chosen grid p m → ¬ IsOnRing p ring → winding p ring ≡ winding m ring
same_winding grid p m ring ch off = winding_along p m ring (λ t s. off_ways grid p m t ch (edges ring) off s)

-- ---- cells outside the limits
zero_sum : (w x : Edge → ℤ) (es : List Edge) → AllByRecursion (λ e. w e *ℤ x e ≡ pos 0) es → sum_over (λ e. w e *ℤ x e) es ≡ pos 0
zero_sum w x [] h = refl
zero_sum w x (e ∷ es) h = omega (arith, ints, h.0, zero_sum w x es h.1)

full_sum : (w x : Edge → ℤ) (es : List Edge) → AllByRecursion (λ e. w e *ℤ x e ≡ w e) es → sum_over (λ e. w e *ℤ x e) es ≡ sum_over w es
full_sum w x [] h = refl
full_sum w x (e ∷ es) h = omega (arith, ints, h.0, full_sum w x es h.1)

none_at : (w x : ℤ) → w ≡ pos 0 → w *ℤ x ≡ pos 0
none_at w x e = ap (λ z. z *ℤ x) e ∙ omega (arith, ints)

none_by : (w x : ℤ) → x ≡ pos 0 → w *ℤ x ≡ pos 0
none_by w x e = ap (λ z. w *ℤ z) e ∙ omega (arith, ints)

row_above : (grid : Grid) (share : Edge → ℤ) (m n : ℕ) (j k : ℤ) → Reaches grid m n → pos n ≤ℤ k → (es : List Edge)
    → AllByRecursion (λ e. weight grid.rows e k *ℤ before j (columns_left grid.rows (share e) e k) ≡ pos 0) es
row_above grid share m n j k wide h [] = tt
row_above grid share m n j k wide h (e ∷ es) = (
  none_at (weight grid.rows e k) (before j (columns_left grid.rows (share e) e k))
      (weight_above grid.rows e k grid.rows_positive
      (omega (
        arith,
        ints,
        h,
        wide.up,
        mul_le (upper e) (pos limit) grid.rows (le_of_lt (pos 0) grid.rows grid.rows_positive)
            (upper_within e),
      ))),
  row_above grid share m n j k wide h es,
)

row_below : (grid : Grid) (share : Edge → ℤ) (m n : ℕ) (j k : ℤ) → Reaches grid m n → k <ℤ neg_ℤ (pos n) → (es : List Edge)
    → AllByRecursion (λ e. weight grid.rows e k *ℤ before j (columns_left grid.rows (share e) e k) ≡ pos 0) es
row_below grid share m n j k wide h [] = tt
row_below grid share m n j k wide h (e ∷ es) = (
  none_at (weight grid.rows e k) (before j (columns_left grid.rows (share e) e k))
      (weight_below grid.rows e k grid.rows_positive
      (omega (
        arith,
        ints,
        h,
        wide.up,
        negated,
        mul_le (neg_ℤ (pos limit)) (lower e) grid.rows
            (le_of_lt (pos 0) grid.rows grid.rows_positive) (lower_within e),
      ))),
  row_below grid share m n j k wide h es,
)
  where
    negated : neg_ℤ (pos limit) *ℤ grid.rows ≡ neg_ℤ (pos limit *ℤ grid.rows)
    negated = same_by (pos limit ∷ grid.rows ∷ []) (mul (neg (var 0)) (var 1)) (neg (mul (var 0) (var 1))) refl

column_behind : (grid : Grid) (share : Edge → ℤ) (m n : ℕ) (j k : ℤ) → Reaches grid m n → pos m ≤ℤ j → (es : List Edge)
    → AllByRecursion (λ e. IsShare grid e (share e)) es
    → AllByRecursion (λ e. weight grid.rows e k *ℤ before j (columns_left grid.rows (share e) e k) ≡ pos 0) es
column_behind grid share m n j k wide h [] hs = tt
column_behind grid share m n j k wide h (e ∷ es) hs = (
  elim (reached_or_no_weight grid e (share e) k m hs.0 wide.across) [
    | inl z ↦ none_at (weight grid.rows e k) (before j (columns_left grid.rows (share e) e k)) z
    | inr r ↦ none_by (weight grid.rows e k) (before j (columns_left grid.rows (share e) e k))
        (before_no j (columns_left grid.rows (share e) e k) (omega (arith, ints, h, r.high)))
  ],
  column_behind grid share m n j k wide h es hs.1,
)

column_before : (grid : Grid) (share : Edge → ℤ) (m n : ℕ) (j k : ℤ) → Reaches grid m n → j <ℤ neg_ℤ (pos m) → (es : List Edge)
    → AllByRecursion (λ e. IsShare grid e (share e)) es
    → AllByRecursion (λ e. weight grid.rows e k *ℤ before j (columns_left grid.rows (share e) e k) ≡ weight grid.rows e k) es
column_before grid share m n j k wide h [] hs = tt
column_before grid share m n j k wide h (e ∷ es) hs = (
  elim (reached_or_no_weight grid e (share e) k m hs.0 wide.across) [
    | inl z ↦ none_at (weight grid.rows e k) (before j (columns_left grid.rows (share e) e k)) z ∙ sym z
    | inr r ↦ ap (λ x. weight grid.rows e k *ℤ x) (before_yes j (columns_left grid.rows (share e) e k) (omega (arith, ints, h, r.low)))
        ∙ once (weight grid.rows e k)
  ],
  column_before grid share m n j k wide h es hs.1,
)
  where
    once : (z : ℤ) → z *ℤ pos 1 ≡ z
    once z = omega (arith, ints)

record IsInGrid (m n : ℕ) (j k : ℤ) : Type 0 where
  j_low : neg_ℤ (pos m) ≤ℤ j
  j_high : j <ℤ pos m
  k_low : neg_ℤ (pos n) ≤ℤ k
  k_high : k <ℤ pos n

-- where a ring goes round a middle, the middle is within the limits
in_grid : (grid : Grid) (share : Edge → ℤ) (m n : ℕ) (j k : ℤ) (ring : List Corner)
    → AllByRecursion (λ e. IsShare grid e (share e)) (edges ring) → Reaches grid m n
    → pos 1 ≤ℤ winding (middle grid j k) ring → IsInGrid m n j k
in_grid grid share m n j k ring hs wide h =
    let nothing : sum_over (λ e. weight grid.rows e k *ℤ before j (columns_left grid.rows (share e) e k)) (edges ring) ≡ pos 0 → ⊥ =
    λ z. let e : winding (middle grid j k) ring ≡ pos 0 = crossings_are grid share j k (edges ring) hs ∙ z in omega (arith, ints, e, h) in
    record {
      j_low = by_lt_z j (neg_ℤ (pos m)) (λ p. absurd (nothing (full_sum (λ e. weight grid.rows e k)
          (λ e. before j (columns_left grid.rows (share e) e k)) (edges ring)
          (column_before grid share m n j k wide p (edges ring) hs) ∙ balanced grid.rows k ring))) (λ p. p);
      j_high = by_lt_z j (pos m) (λ p. p) (λ p. absurd (nothing (zero_sum (λ e. weight grid.rows e k)
          (λ e. before j (columns_left grid.rows (share e) e k)) (edges ring) (column_behind grid share m n j k wide p (edges ring) hs))));
      k_low = by_lt_z k (neg_ℤ (pos n)) (λ p. absurd (nothing (zero_sum (λ e. weight grid.rows e k)
          (λ e. before j (columns_left grid.rows (share e) e k)) (edges ring) (row_below grid share m n j k wide p (edges ring)))))
          (λ p. p);
      k_high = by_lt_z k (pos n) (λ p. p) (λ p. absurd (nothing (zero_sum (λ e. weight grid.rows e k)
          (λ e. before j (columns_left grid.rows (share e) e k)) (edges ring) (row_above grid share m n j k wide p (edges ring)))));
    }

-- ---- where the interiors meet
one_positive : (n : ℕ) (f : ℤ → ℤ) → ((k : ℤ) → pos 0 ≤ℤ f k) → (k : ℤ) → neg_ℤ (pos n) ≤ℤ k → k <ℤ pos n → pos 0 <ℤ f k
    → pos 0 <ℤ sum_around n f
one_positive zero f h k low high p = absurd (omega (arith, ints, low, high))
one_positive (suc n) f h k low high p = by_lt_z k (pos n)
    (λ q. by_lt_z k (neg_ℤ (pos n))
    (λ r. let e : k ≡ negsuc n = omega (arith, ints, low, r) in
    let last : pos 0 <ℤ f (negsuc n) = subst (λ z. pos 0 <ℤ f z) e p in
    omega (arith, ints, last, h (pos n), none_negative n f h))
    (λ r. omega (arith, ints, one_positive n f h k r q p, h (pos n), h (negsuc n))))
    (λ q. let e : k ≡ pos n = omega (arith, ints, high, q) in
    let last : pos 0 <ℤ f (pos n) = subst (λ z. pos 0 <ℤ f z) e p in
    omega (arith, ints, last, h (negsuc n), none_negative n f h))

positive_from : (n d M c : ℤ) → pos 0 <ℤ M → pos 0 <ℤ d → pos 0 <ℤ c → n *ℤ M ≡ pos 2 *ℤ c *ℤ d → pos 0 <ℤ n
positive_from n d M c Mp dp cp e = pos_of_mul M n Mp
    (subst (λ z. pos 0 <ℤ z) (sym e ∙ turned n M) (mul_pos (pos 2 *ℤ c) d (omega (arith, ints, cp)) dp))
  where
    turned : (u v : ℤ) → u *ℤ v ≡ v *ℤ u
    turned u v = omega (arith, ints)

product_not_negative : (u v : ℤ) → (pos 0 ≤ℤ u) × (u ≤ℤ pos 1) → (pos 0 ≤ℤ v) × (v ≤ℤ pos 1) → pos 0 ≤ℤ (u *ℤ v)
product_not_negative u v h k = mul_not_neg u v h.0 k.0

product_positive : (u v : ℤ) → pos 1 ≤ℤ u → pos 1 ≤ℤ v → pos 0 <ℤ (u *ℤ v)
product_positive u v h k = mul_pos u v (omega (arith, ints, h)) (omega (arith, ints, k))

positive_in : (r s : List Corner) → WindsOnce r → WindsOnce s → (p : Point) → IsInterior p r → IsInterior p s → (grid : Grid)
    → IsFine grid (edges r) (edges s) → (spread *ℤ p.d) <ℤ grid.columns → (spread *ℤ p.d) <ℤ grid.rows
    → pos 0 <ℤ (common_area2 r s).n
positive_in r s once_r once_s p in_r in_s grid fine wide high =
    let m = unsigned_abs (pos limit *ℤ grid.columns) in
    let n = unsigned_abs (pos limit *ℤ grid.rows) in
    let reach = reaches grid in
    let at = common_is r s grid m n fine reach in
    let near = near_middle grid p in
    let ch : Chosen grid p (middle grid near.j near.k) = record { near = near.near; wide = wide; high = high } in
    let round_r : pos 1 ≤ℤ winding (middle grid near.j near.k) r =
    subst (λ z. pos 1 ≤ℤ z) (same_winding grid p (middle grid near.j near.k) r ch in_r.off_edges) in_r.is_wound in
    let round_s : pos 1 ≤ℤ winding (middle grid near.j near.k) s =
    subst (λ z. pos 1 ≤ℤ z) (same_winding grid p (middle grid near.j near.k) s ch in_s.off_edges) in_s.is_wound in
    let within = in_grid grid fine.share m n near.j near.k r fine.first reach round_r in
    let each : (k j : ℤ) → pos 0 ≤ℤ (winding (middle grid j k) r *ℤ winding (middle grid j k) s) =
    λ k j. product_not_negative (winding (middle grid j k) r) (winding (middle grid j k) s)
    (once_r (middle grid j k) (off_ring grid fine.share j k r fine.first))
    (once_s (middle grid j k) (off_ring grid fine.share j k s fine.second)) in
    let row : pos 0 <ℤ sum_around m (λ j. winding (middle grid j near.k) r *ℤ winding (middle grid j near.k) s) =
    one_positive m (λ j. winding (middle grid j near.k) r *ℤ winding (middle grid j near.k) s) (each near.k) near.j
    within.j_low within.j_high
    (product_positive (winding (middle grid near.j near.k) r) (winding (middle grid near.j near.k) s) round_r round_s) in
    let count : pos 0 <ℤ cells grid m n r s =
    one_positive n (λ k. sum_around m (λ j. winding (middle grid j k) r *ℤ winding (middle grid j k) s))
    (λ k. none_negative m (λ j. winding (middle grid j k) r *ℤ winding (middle grid j k) s) (each k))
    near.k within.k_low within.k_high row in
    positive_from (common_area2 r s).n (common_area2 r s).d (grid.columns *ℤ grid.rows) (cells grid m n r s)
    (mul_pos grid.columns grid.rows (columns_positive grid) grid.rows_positive) at.positive count at.value

enough : (u v : ℤ) → pos 0 ≤ℤ u → pos 0 <ℤ v → u <ℤ ((u +ℤ pos 1) *ℤ v)
enough u v h k =
    let more : (pos 1 *ℤ (u +ℤ pos 1)) ≤ℤ (v *ℤ (u +ℤ pos 1)) =
    mul_le (pos 1) v (u +ℤ pos 1) (omega (arith, ints, h)) (omega (arith, ints, k)) in
    let turned : v *ℤ (u +ℤ pos 1) ≡ (u +ℤ pos 1) *ℤ v =
    same_by (u ∷ v ∷ []) (mul (var 1) (add (var 0) (lit (pos 1)))) (mul (add (var 0) (lit (pos 1))) (var 1)) refl in
    let one : pos 1 *ℤ (u +ℤ pos 1) ≡ u +ℤ pos 1 =
    same_by (u ∷ []) (mul (lit (pos 1)) (add (var 0) (lit (pos 1)))) (add (var 0) (lit (pos 1))) refl in
    first_below (pos 1 *ℤ (u +ℤ pos 1)) u (v *ℤ (u +ℤ pos 1)) ((u +ℤ pos 1) *ℤ v) one more turned
  where
    first_below : (a u b c : ℤ) → a ≡ u +ℤ pos 1 → a ≤ℤ b → b ≡ c → u <ℤ c
    first_below a u b c e h f = omega (arith, ints, e, h, f)

-- the area common to two rings that wind once is positive where some place is interior to both
pub meeting_is_positive : (r s : List Corner) → WindsOnce r → WindsOnce s → InteriorsMeet r s → pos 0 <ℤ (common_area2 r s).n
unfolding finer
meeting_is_positive r s once_r once_s meet =
    let p = meet.0 in
    let g = fine_grid (edges r) (edges s) in
    let up : pos 0 ≤ℤ (spread *ℤ meet.0.d) =
    mul_not_neg spread meet.0.d (omega (arith, ints)) (le_of_lt (pos 0) meet.0.d meet.0.d_positive) in
    let cp : pos 0 <ℤ (spread *ℤ meet.0.d +ℤ pos 1) = above (spread *ℤ meet.0.d) up in
    positive_in r s once_r once_s meet.0 meet.1 meet.2 (finer g.0 (spread *ℤ meet.0.d +ℤ pos 1) cp)
    (finer_fine g.0 (spread *ℤ meet.0.d +ℤ pos 1) cp (edges r) (edges s) g.3)
    (enough (spread *ℤ meet.0.d) g.0.columns up (columns_positive g.0))
    (enough (spread *ℤ meet.0.d) g.0.rows up g.0.rows_positive)
  where
    above : (u : ℤ) → pos 0 ≤ℤ u → pos 0 <ℤ (u +ℤ pos 1)
    above u h = omega (arith, ints, h)
