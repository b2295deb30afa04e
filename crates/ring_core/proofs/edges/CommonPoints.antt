-- A common point of two edges, from the turns and the boxes of their ends.
use Rattle.std.proofs.Common.{◌≡◌, ◌⊎◌, ◌∙◌, sym, ap, arith, inl, inr, [], ◌∷◌, refl}
use Rattle.std.proofs.lemmas.Int.{ints, by_lt_z, clamps}
use Rattle.std.specs.Int.{int_min, int_max}
use lib.IntN.{ℤ, pos, ◌-ℤ◌, ◌*ℤ◌, neg_ℤ, *ℤ_comm}
use lib.Signed.{◌<ℤ◌, ◌≤ℤ◌}
use Rattle.geo_exact.specs.declared.corner.Corner.{Corner}
use Rattle.geo_exact.specs.Point.{Point, corner_point}
use Rattle.geo_exact.specs.Turn.{turn, turn_at, IsOnEdge}
use Rattle.geo_exact.proofs.numbers.Differences.{expand}
use Rattle.geo_exact.proofs.numbers.Signs.{mul_not_neg, not_neg_of_mul, mul_not_pos, mul_sinking}
use Rattle.geo_exact.proofs.numbers.Polynomials.{Expr, var, lit, add, mul, neg, same_by}
use Rattle.geo_exact.proofs.corners_and_turns.TurnLaws.{turn_at_expr, turn_expr, turn_swap}
use Rattle.geo_exact.proofs.corners_and_turns.CornerPoints.{on_edge_from_box}
use Rattle.geo_exact.proofs.numbers.Orders.{le_of_lt}
use Rattle.geo_exact.proofs.corners_and_turns.OnEdge.{min_left, min_right, max_left, max_right, on_edge_back, on_edge_start}
use Rattle.ring_core.specs.own.EdgePairs.{HaveCommonPoint}
use Rattle.ring_core.proofs.edges.EdgePoints.{AreOneSide}
use Rattle.geo_exact.specs.Bounds.{RangesMeet}

-- ---- the point that divides the edge from a to b as s to -t
abbrev divided : (a b : Corner) (s t : ℤ) → pos 0 <ℤ (s -ℤ t) → Point
divided a b s t h = record { x = b.x *ℤ s -ℤ a.x *ℤ t; y = b.y *ℤ s -ℤ a.y *ℤ t; d = s -ℤ t; d_positive = h }

mean_low : (u v s t : ℤ) → v ≤ℤ u → t ≤ℤ pos 0 → (v *ℤ (s -ℤ t)) ≤ℤ (v *ℤ s -ℤ u *ℤ t)
mean_low u v s t o k = simp expand (omega (arith, ints, simp expand at (mul_not_pos (u -ℤ v) t (omega (arith, ints)) k)))

mean_low_first : (u v s t : ℤ) → u ≤ℤ v → pos 0 ≤ℤ s → (u *ℤ (s -ℤ t)) ≤ℤ (v *ℤ s -ℤ u *ℤ t)
mean_low_first u v s t o k = simp expand (omega (arith, ints, simp expand at (mul_not_neg (v -ℤ u) s (omega (arith, ints)) k)))

mean_high : (u v s t : ℤ) → v ≤ℤ u → pos 0 ≤ℤ s → (v *ℤ s -ℤ u *ℤ t) ≤ℤ (u *ℤ (s -ℤ t))
mean_high u v s t o k = simp expand (omega (arith, ints, simp expand at (mul_not_neg (u -ℤ v) s (omega (arith, ints)) k)))

mean_high_last : (u v s t : ℤ) → u ≤ℤ v → t ≤ℤ pos 0 → (v *ℤ s -ℤ u *ℤ t) ≤ℤ (v *ℤ (s -ℤ t))
mean_high_last u v s t o k = simp expand (omega (arith, ints, simp expand at (mul_not_pos (v -ℤ u) t (omega (arith, ints)) k)))

abbrev InRange : ℤ → ℤ → ℤ → ℤ → Type 0
InRange u v d w = ((int_min u v *ℤ d) ≤ℤ w) × (w ≤ℤ (int_max u v *ℤ d))

divided_in_range : (u v s t : ℤ) → pos 0 ≤ℤ s → t ≤ℤ pos 0 → InRange u v (s -ℤ t) (v *ℤ s -ℤ u *ℤ t)
divided_in_range u v s t h k =
    by_lt_z v u
    (λ o. let q : v ≤ℤ u = le_of_lt v u o in
    (rw (min_right u v q) (mean_low u v s t q k), rw (max_left u v q) (mean_high u v s t q h)))
    (λ q. (rw (min_left u v q) (mean_low_first u v s t q h), rw (max_right u v q) (mean_high_last u v s t q k)))

divided_on_line : (a b : Corner) (s t : ℤ) (h : pos 0 <ℤ (s -ℤ t)) → turn_at a b (divided a b s t h) ≡ pos 0
divided_on_line a b s t h =
    same_by (a.x ∷ a.y ∷ b.x ∷ b.y ∷ s ∷ t ∷ [])
    (turn_at_expr (var 0) (var 1) (var 2) (var 3)
    (add (mul (var 2) (var 4)) (neg (mul (var 0) (var 5)))) (add (mul (var 3) (var 4)) (neg (mul (var 1) (var 5))))
    (add (var 4) (neg (var 5))))
    (lit (pos 0))
    refl

-- the turns of the ends of each edge along the other: expressions over the corners a, b, c, d
abbrev along_cd_a : Expr
along_cd_a = turn_expr (var 4) (var 5) (var 6) (var 7) (var 0) (var 1)

abbrev along_cd_b : Expr
along_cd_b = turn_expr (var 4) (var 5) (var 6) (var 7) (var 2) (var 3)

abbrev along_ab_c : Expr
along_ab_c = turn_expr (var 0) (var 1) (var 2) (var 3) (var 4) (var 5)

abbrev along_ab_d : Expr
along_ab_d = turn_expr (var 0) (var 1) (var 2) (var 3) (var 6) (var 7)

module _ (a b c d : Corner) where
  same_d : turn c d a -ℤ turn c d b ≡ neg_ℤ (turn a b c) -ℤ neg_ℤ (turn a b d)
  same_d =
      same_by (a.x ∷ a.y ∷ b.x ∷ b.y ∷ c.x ∷ c.y ∷ d.x ∷ d.y ∷ [])
      (add along_cd_a (neg along_cd_b)) (add (neg along_ab_c) (neg (neg along_ab_d))) refl

  same_x : b.x *ℤ turn c d a -ℤ a.x *ℤ turn c d b ≡ d.x *ℤ neg_ℤ (turn a b c) -ℤ c.x *ℤ neg_ℤ (turn a b d)
  same_x =
      same_by (a.x ∷ a.y ∷ b.x ∷ b.y ∷ c.x ∷ c.y ∷ d.x ∷ d.y ∷ [])
      (add (mul (var 2) along_cd_a) (neg (mul (var 0) along_cd_b))) (add (mul (var 6) (neg along_ab_c))
      (neg (mul (var 4) (neg along_ab_d)))) refl

  same_y : b.y *ℤ turn c d a -ℤ a.y *ℤ turn c d b ≡ d.y *ℤ neg_ℤ (turn a b c) -ℤ c.y *ℤ neg_ℤ (turn a b d)
  same_y =
      same_by (a.x ∷ a.y ∷ b.x ∷ b.y ∷ c.x ∷ c.y ∷ d.x ∷ d.y ∷ [])
      (add (mul (var 3) along_cd_a) (neg (mul (var 1) along_cd_b))) (add (mul (var 7) (neg along_ab_c))
      (neg (mul (var 5) (neg along_ab_d)))) refl

  -- where the line a b meets the line c d
  on_other_line : (h : pos 0 <ℤ (turn c d a -ℤ turn c d b)) → turn_at c d (divided a b (turn c d a) (turn c d b) h) ≡ pos 0
  on_other_line h =
      same_by (a.x ∷ a.y ∷ b.x ∷ b.y ∷ c.x ∷ c.y ∷ d.x ∷ d.y ∷ [])
      (turn_at_expr (var 4) (var 5) (var 6) (var 7)
      (add (mul (var 2) along_cd_a) (neg (mul (var 0) along_cd_b)))
      (add (mul (var 3) along_cd_a) (neg (mul (var 1) along_cd_b)))
      (add along_cd_a (neg along_cd_b)))
      (lit (pos 0))
      refl

carried : (u v d d' w w' : ℤ) → d ≡ d' → w ≡ w' → InRange u v d' w' → InRange u v d w
carried u v d d' w w' e f h = rw (e, f) h

negative : (t : ℤ) → t ≤ℤ pos 0 → pos 0 ≤ℤ neg_ℤ t
negative t h = omega (arith, ints)

positive : (t : ℤ) → pos 0 ≤ℤ t → neg_ℤ t ≤ℤ pos 0
positive t h = omega (arith, ints)

-- edges that cross or touch on lines that aren't parallel
crossed : (a b c d : Corner) → pos 0 <ℤ (turn c d a -ℤ turn c d b) → pos 0 ≤ℤ turn c d a → turn c d b ≤ℤ pos 0
    → turn a b c ≤ℤ pos 0 → pos 0 ≤ℤ turn a b d → HaveCommonPoint a b c d
crossed a b c d h s t u v =
    let x = divided_in_range a.x b.x (turn c d a) (turn c d b) s t in
    let y = divided_in_range a.y b.y (turn c d a) (turn c d b) s t in
    let between : (e f : ℤ) → InRange e f (neg_ℤ (turn a b c) -ℤ neg_ℤ (turn a b d)) (f *ℤ neg_ℤ (turn a b c)
    -ℤ e *ℤ neg_ℤ (turn a b d)) =
    λ e f. divided_in_range e f (neg_ℤ (turn a b c)) (neg_ℤ (turn a b d)) (negative (turn a b c) u) (positive (turn a b d) v) in
    let z : InRange c.x d.x (turn c d a -ℤ turn c d b) (b.x *ℤ turn c d a -ℤ a.x *ℤ turn c d b) =
    carried c.x d.x _ _ _ _ (same_d a b c d) (same_x a b c d) (between c.x d.x) in
    let w : InRange c.y d.y (turn c d a -ℤ turn c d b) (b.y *ℤ turn c d a -ℤ a.y *ℤ turn c d b) =
    carried c.y d.y _ _ _ _ (same_d a b c d) (same_y a b c d) (between c.y d.y) in (
      divided a b (turn c d a) (turn c d b) h,
      record { on_line = divided_on_line a b (turn c d a) (turn c d b) h; from_x = x.0; to_x = x.1; from_y = y.0; to_y = y.1 },
      record { on_line = on_other_line a b c d h; from_x = z.0; to_x = z.1; from_y = w.0; to_y = w.1 },
    )

-- ---- edges on one line
times-sub : (k m n : ℤ) → k *ℤ (m -ℤ n) ≡ k *ℤ m -ℤ k *ℤ n
times-sub k m n = simp expand

-- n is to m as l is to k
share : (k l m n : ℤ) → pos 0 <ℤ k → pos 0 ≤ℤ l → l ≤ℤ k → k *ℤ n ≡ m *ℤ l → ((pos 0 ≤ℤ n) × (n ≤ℤ m))
    ⊎ ((m ≤ℤ n) × (n ≤ℤ pos 0))
share k l m n h p q e =
    let whole : m *ℤ (k -ℤ l) ≡ k *ℤ (m -ℤ n) = omega (arith, ints, e, times-sub m k l, times-sub k m n, *ℤ_comm k m) in
    by_lt_z m (pos 0)
    (λ o. let m_low : m ≤ℤ pos 0 = le_of_lt m (pos 0) o in
    let rest : (m *ℤ (k -ℤ l)) ≤ℤ pos 0 = mul_sinking m (k -ℤ l) m_low (omega (arith, ints)) in
    let i : pos 0 ≤ℤ (n -ℤ m) = not_neg_of_mul k (n -ℤ m) h (omega (arith, ints, whole, times-sub k n m, times-sub k m n, rest)) in
    let j : pos 0 ≤ℤ (pos 0 -ℤ n) =
    not_neg_of_mul k (pos 0 -ℤ n) h (omega (arith, ints, e, times-sub k (pos 0) n, mul_sinking m l m_low p)) in
    inr (omega (arith, ints), omega (arith, ints)))
    (λ o. let rest : pos 0 ≤ℤ (m *ℤ (k -ℤ l)) = mul_not_neg m (k -ℤ l) o (omega (arith, ints)) in
    let i : pos 0 ≤ℤ (m -ℤ n) = not_neg_of_mul k (m -ℤ n) h (omega (arith, ints, whole, rest)) in
    inl (not_neg_of_mul k n h (omega (arith, ints, e, mul_not_neg m l o p)), omega (arith, ints)))

spans : (u v w : ℤ) → ((pos 0 ≤ℤ (w -ℤ u)) × ((w -ℤ u) ≤ℤ (v -ℤ u)))
    ⊎ (((v -ℤ u) ≤ℤ (w -ℤ u)) × ((w -ℤ u) ≤ℤ pos 0))
    → (int_min u v ≤ℤ w) × (w ≤ℤ int_max u v)
spans u v w h = elim h [
  | inl q ↦ let i = q.0 in let j = q.1 in (omega (arith, ints, clamps), omega (arith, ints, clamps))
  | inr q ↦ let i = q.0 in let j = q.1 in (omega (arith, ints, clamps), omega (arith, ints, clamps))
]

ordered : (u v w : ℤ) → u ≤ℤ w → w ≤ℤ v → (int_min u v ≤ℤ w) × (w ≤ℤ int_max u v)
ordered u v w h k = (omega (arith, ints, clamps), omega (arith, ints, clamps))

level : (k n m l t : ℤ) → k *ℤ n -ℤ m *ℤ l ≡ t → t ≡ pos 0 → k *ℤ n ≡ m *ℤ l
level k n m l t e h = omega (arith, ints)

-- a corner on the line of an edge, and between its ends in x
pub on_edge_by_x : (a b c : Corner) → a.x <ℤ b.x → a.x ≤ℤ c.x → c.x ≤ℤ b.x → turn a b c ≡ pos 0
    → IsOnEdge (corner_point c) a b
on_edge_by_x a b c o p q e =
    on_edge_from_box a b c e (ordered a.x b.x c.x p q)
    (spans a.y b.y c.y (share (b.x -ℤ a.x) (c.x -ℤ a.x) (b.y -ℤ a.y) (c.y -ℤ a.y) (omega (arith, ints))
    (omega (arith, ints)) (omega (arith, ints))
    (level (b.x -ℤ a.x) (c.y -ℤ a.y) (b.y -ℤ a.y) (c.x -ℤ a.x) (turn a b c) refl e)))

-- and in y
pub on_edge_by_y : (a b c : Corner) → a.y <ℤ b.y → a.y ≤ℤ c.y → c.y ≤ℤ b.y → turn a b c ≡ pos 0
    → IsOnEdge (corner_point c) a b
on_edge_by_y a b c o p q e =
    on_edge_from_box a b c e
    (spans a.x b.x c.x (share (b.y -ℤ a.y) (c.y -ℤ a.y) (b.x -ℤ a.x) (c.x -ℤ a.x) (omega (arith, ints))
    (omega (arith, ints)) (omega (arith, ints))
    (sym (level (b.x -ℤ a.x) (c.y -ℤ a.y) (b.y -ℤ a.y) (c.x -ℤ a.x) (turn a b c) refl e))))
    (ordered a.y b.y c.y p q)

pub swap_edges : (a b c d : Corner) → HaveCommonPoint c d a b → HaveCommonPoint a b c d
swap_edges a b c d h = (h.0, h.2, h.1)

pub turn_first : (a b c d : Corner) → HaveCommonPoint b a c d → HaveCommonPoint a b c d
turn_first a b c d h = (h.0, on_edge_back b a h.0 h.1, h.2)

pub turn_second : (a b c d : Corner) → HaveCommonPoint a b d c → HaveCommonPoint a b c d
turn_second a b c d h = (h.0, h.1, on_edge_back d c h.0 h.2)

-- all four corners are on one line
pub record AreOnOneLine (a b c d : Corner) : Type 0 where
  pub ab_c : turn a b c ≡ pos 0
  pub ab_d : turn a b d ≡ pos 0
  pub cd_a : turn c d a ≡ pos 0
  pub cd_b : turn c d b ≡ pos 0

line_swap : (a b c d : Corner) → AreOnOneLine a b c d → AreOnOneLine c d a b
line_swap a b c d h = record { ab_c = h.cd_a; ab_d = h.cd_b; cd_a = h.ab_c; cd_b = h.ab_d }

line_turn : (a b c d : Corner) → AreOnOneLine a b c d → AreOnOneLine b a c d
line_turn a b c d h = record {
  ab_c = turn_swap a b c ∙ ap neg_ℤ h.ab_c;
  ab_d = turn_swap a b d ∙ ap neg_ℤ h.ab_d;
  cd_a = h.cd_b;
  cd_b = h.cd_a;
}

line_turn_second : (a b c d : Corner) → AreOnOneLine a b c d → AreOnOneLine a b d c
line_turn_second a b c d h = line_swap d c a b (line_turn c d a b (line_swap a b c d h))

overlap_swap : (u v s t : ℤ) → RangesMeet u v s t → RangesMeet s t u v
overlap_swap u v s t h = (h.1, h.0)

overlap_turn : (u v s t : ℤ) → RangesMeet u v s t → RangesMeet v u s t
overlap_turn u v s t h = let i = h.0 in let j = h.1 in (omega (arith, ints, clamps), omega (arith, ints, clamps))

overlap_turn_second : (u v s t : ℤ) → RangesMeet u v s t → RangesMeet u v t s
overlap_turn_second u v s t h = let i = h.0 in let j = h.1 in (omega (arith, ints, clamps), omega (arith, ints, clamps))

overlap_low : (u v s t : ℤ) → u ≤ℤ v → s ≤ℤ t → RangesMeet u v s t → u ≤ℤ t
overlap_low u v s t o p h = let i = h.0 in omega (arith, ints, clamps)

overlap_high : (u v s t : ℤ) → u ≤ℤ v → s ≤ℤ t → RangesMeet u v s t → s ≤ℤ v
overlap_high u v s t o p h = let i = h.1 in omega (arith, ints, clamps)

lt_le : (u v w : ℤ) → u <ℤ v → v ≤ℤ w → u <ℤ w
lt_le u v w h k = omega (arith, ints)

in_order_x : (a b c d : Corner) → AreOnOneLine a b c d → a.x <ℤ b.x → c.x ≤ℤ d.x → RangesMeet a.x b.x c.x d.x
    → HaveCommonPoint a b c d
in_order_x a b c d h o q r =
    let low : a.x ≤ℤ d.x = overlap_low a.x b.x c.x d.x (le_of_lt a.x b.x o) q r in
    let high : c.x ≤ℤ b.x = overlap_high a.x b.x c.x d.x (le_of_lt a.x b.x o) q r in
    by_lt_z c.x a.x
    (λ p. (corner_point a, on_edge_start a b, on_edge_by_x c d a (lt_le c.x a.x d.x p low) (le_of_lt c.x a.x p) low h.cd_a))
    (λ p. (corner_point c, on_edge_by_x a b c o p high h.ab_c, on_edge_start c d))

-- edges on one line, the first rising in x
along_x : (a b c d : Corner) → AreOnOneLine a b c d → a.x <ℤ b.x → RangesMeet a.x b.x c.x d.x → HaveCommonPoint a b c d
along_x a b c d h o r =
    by_lt_z d.x c.x
    (λ p. turn_second a b c d (in_order_x a b d c (line_turn_second a b c d h) o (le_of_lt d.x c.x p)
    (overlap_turn_second a.x b.x c.x d.x r)))
    (λ p. in_order_x a b c d h o p r)

in_order_y : (a b c d : Corner) → AreOnOneLine a b c d → a.y <ℤ b.y → c.y ≤ℤ d.y → RangesMeet a.y b.y c.y d.y
    → HaveCommonPoint a b c d
in_order_y a b c d h o q r =
    let low : a.y ≤ℤ d.y = overlap_low a.y b.y c.y d.y (le_of_lt a.y b.y o) q r in
    let high : c.y ≤ℤ b.y = overlap_high a.y b.y c.y d.y (le_of_lt a.y b.y o) q r in
    by_lt_z c.y a.y
    (λ p. (corner_point a, on_edge_start a b, on_edge_by_y c d a (lt_le c.y a.y d.y p low) (le_of_lt c.y a.y p) low h.cd_a))
    (λ p. (corner_point c, on_edge_by_y a b c o p high h.ab_c, on_edge_start c d))

-- edges on one line, the first rising in y
along_y : (a b c d : Corner) → AreOnOneLine a b c d → a.y <ℤ b.y → RangesMeet a.y b.y c.y d.y → HaveCommonPoint a b c d
along_y a b c d h o r =
    by_lt_z d.y c.y
    (λ p. turn_second a b c d (in_order_y a b d c (line_turn_second a b c d h) o (le_of_lt d.y c.y p)
    (overlap_turn_second a.y b.y c.y d.y r)))
    (λ p. in_order_y a b c d h o p r)

-- two edges of no length
single : (a b c d : Corner) → AreOnOneLine a b c d → RangesMeet a.x b.x c.x d.x → RangesMeet a.y b.y c.y d.y
    → b.x ≤ℤ a.x → a.x ≤ℤ b.x → d.x ≤ℤ c.x → c.x ≤ℤ d.x → b.y ≤ℤ a.y → a.y ≤ℤ b.y → d.y ≤ℤ c.y
    → c.y ≤ℤ d.y → HaveCommonPoint a b c d
single a b c d h r s k l m n k' l' m' n' =
    (corner_point a, on_edge_start a b, on_edge_from_box c d a h.cd_a (met a.x b.x c.x d.x r k l m n) (met a.y b.y c.y d.y s k' l' m' n'))
  where
    met : (u v s t : ℤ) → RangesMeet u v s t → v ≤ℤ u → u ≤ℤ v → t ≤ℤ s → s ≤ℤ t → (int_min s t ≤ℤ u)
        × (u ≤ℤ int_max s t)
    met u v s t g o p q w = let i = g.0 in let j = g.1 in (omega (arith, ints, clamps), omega (arith, ints, clamps))

on_one_line : (a b c d : Corner) → AreOnOneLine a b c d → RangesMeet a.x b.x c.x d.x → RangesMeet a.y b.y c.y d.y
    → HaveCommonPoint a b c d
on_one_line a b c d h r s =
    by_lt_z a.x b.x (λ o. along_x a b c d h o r)
    (λ k. by_lt_z b.x a.x (λ o. turn_first a b c d (along_x b a c d (line_turn a b c d h) o (overlap_turn a.x b.x c.x d.x r)))
    (λ l. by_lt_z c.x d.x (λ o. swap_edges a b c d (along_x c d a b (line_swap a b c d h) o (overlap_swap a.x b.x c.x d.x r)))
    (λ m. by_lt_z d.x c.x (λ o. second_turned (along_x d c a b turned o (overlap_turn c.x d.x a.x b.x (overlap_swap a.x b.x c.x d.x r))))
    (λ n. by_lt_z a.y b.y (λ o. along_y a b c d h o s)
    (λ k'. by_lt_z b.y a.y (λ o. turn_first a b c d (along_y b a c d (line_turn a b c d h) o (overlap_turn a.y b.y c.y d.y s)))
    (λ l'. by_lt_z c.y d.y (λ o. swap_edges a b c d (along_y c d a b (line_swap a b c d h) o (overlap_swap a.y b.y c.y d.y s)))
    (λ m'. by_lt_z d.y c.y (λ o. second_turned (along_y d c a b turned o (overlap_turn c.y d.y a.y b.y (overlap_swap a.y b.y c.y d.y s))))
    (λ n'. single a b c d h r s k l m n k' l' m' n'))))))))
  where
    turned : AreOnOneLine d c a b
    turned = line_turn c d a b (line_swap a b c d h)

    second_turned : HaveCommonPoint d c a b → HaveCommonPoint a b c d
    second_turned g = swap_edges a b c d (turn_first c d a b g)

-- ---- the three cases together
-- s and t are not both above 0, nor both below it, and s - t is above it
signs : (s t : ℤ) → ((pos 0 <ℤ s) × (pos 0 <ℤ t) → ⊥) → ((s <ℤ pos 0) × (t <ℤ pos 0) → ⊥) → pos 0 <ℤ (s -ℤ t)
    → (pos 0 ≤ℤ s) × (t ≤ℤ pos 0)
signs s t up down h = (
  by_lt_z s (pos 0) (λ q. absurd (down (q, (let i : t <ℤ pos 0 = omega (arith, ints) in i)))) (λ q. q),
  by_lt_z (pos 0) t (λ q. absurd (up ((let i : pos 0 <ℤ s = omega (arith, ints) in i), q))) (λ q. q),
)

both_zero : (s t : ℤ) → ((pos 0 <ℤ s) × (pos 0 <ℤ t) → ⊥) → ((s <ℤ pos 0) × (t <ℤ pos 0) → ⊥)
    → (s -ℤ t) ≤ℤ pos 0 → pos 0 ≤ℤ (s -ℤ t) → (s ≡ pos 0) × (t ≡ pos 0)
both_zero s t up down h k =
    by_lt_z (pos 0) s (λ q. absurd (up (q, (let i : pos 0 <ℤ t = omega (arith, ints) in i))))
    (λ p. by_lt_z s (pos 0) (λ q. absurd (down (q, (let i : t <ℤ pos 0 = omega (arith, ints) in i))))
    (λ q. (omega (arith, ints), omega (arith, ints))))

falls : (u v z : ℤ) → z ≡ neg_ℤ u -ℤ neg_ℤ v → pos 0 <ℤ z → pos 0 <ℤ (v -ℤ u)
falls u v z e h = omega (arith, ints)

rises : (u v z : ℤ) → z ≡ neg_ℤ u -ℤ neg_ℤ v → z <ℤ pos 0 → pos 0 <ℤ (u -ℤ v)
rises u v z e h = omega (arith, ints)

flat_high : (u v z : ℤ) → z ≡ neg_ℤ u -ℤ neg_ℤ v → pos 0 ≤ℤ z → (u -ℤ v) ≤ℤ pos 0
flat_high u v z e h = omega (arith, ints)

flat_low : (u v z : ℤ) → z ≡ neg_ℤ u -ℤ neg_ℤ v → z ≤ℤ pos 0 → pos 0 ≤ℤ (u -ℤ v)
flat_low u v z e h = omega (arith, ints)

below : (s t : ℤ) → (s -ℤ t) <ℤ pos 0 → pos 0 <ℤ (t -ℤ s)
below s t h = omega (arith, ints)

-- edges whose boxes overlap, and neither of which has the other's ends on one side, have a common point
pub have_common_point : (a b c d : Corner) → RangesMeet a.x b.x c.x d.x → RangesMeet a.y b.y c.y d.y
    → (AreOneSide a b c d → ⊥) → (AreOneSide c d a b → ⊥) → HaveCommonPoint a b c d
have_common_point a b c d r s off_ab off_cd =
    by_lt_z (pos 0) (turn c d a -ℤ turn c d b)
    (λ h. let ends = signs (turn c d a) (turn c d b) (λ q. off_cd (inl q)) (λ q. off_cd (inr q)) h in
    let fall = falls (turn a b c) (turn a b d) (turn c d a -ℤ turn c d b) (same_d a b c d) h in
    let other = signs (turn a b d) (turn a b c) (λ q. off_ab (inl (q.1, q.0))) (λ q. off_ab (inr (q.1, q.0))) fall in
    crossed a b c d h ends.0 ends.1 other.1 other.0)
    (λ k. by_lt_z (turn c d a -ℤ turn c d b) (pos 0)
    (λ h. let g : pos 0 <ℤ (turn c d b -ℤ turn c d a) = below (turn c d a) (turn c d b) h in
    let ends = signs (turn c d b) (turn c d a) (λ q. off_cd (inl (q.1, q.0))) (λ q. off_cd (inr (q.1, q.0))) g in
    let rise = rises (turn a b c) (turn a b d) (turn c d a -ℤ turn c d b) (same_d a b c d) h in
    let other = signs (turn a b c) (turn a b d) (λ q. off_ab (inl q)) (λ q. off_ab (inr q)) rise in
    let c_low : turn b a c ≤ℤ pos 0 = rw (turn_swap a b c) (positive (turn a b c) other.0) in
    let d_high : pos 0 ≤ℤ turn b a d = rw (turn_swap a b d) (negative (turn a b d) other.1) in
    turn_first a b c d (crossed b a c d g ends.0 ends.1 c_low d_high))
    (λ h. let cd = both_zero (turn c d a) (turn c d b) (λ q. off_cd (inl q)) (λ q. off_cd (inr q)) k h in
    let high = flat_high (turn a b c) (turn a b d) (turn c d a -ℤ turn c d b) (same_d a b c d) h in
    let low = flat_low (turn a b c) (turn a b d) (turn c d a -ℤ turn c d b) (same_d a b c d) k in
    let ab = both_zero (turn a b c) (turn a b d) (λ q. off_ab (inl q)) (λ q. off_ab (inr q)) high low in
    on_one_line a b c d (record { ab_c = ab.0; ab_d = ab.1; cd_a = cd.0; cd_b = cd.1 }) r s))
