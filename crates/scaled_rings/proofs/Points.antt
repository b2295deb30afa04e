-- Places and rings ten times as large: turns, edges that a point lies on, winding numbers, areas.
use Rattle.std.proofs.Common.{◌≡◌, ◌⊎◌, ◌↔◌, inl, inr, refl, sym, ◌∙◌, ap, subst, arith, Bool, true, false, if◌then◌else◌}
use Rattle.std.proofs.Common.{ℕ, List, [], ◌∷◌, map}
use Rattle.std.specs.List.{AllByRecursion}
use Rattle.std.specs.Int.{int_min, int_max}
use Rattle.std.proofs.lemmas.Int.{ints, clamps}
use lib.IntN.{ℤ, pos, negsuc, ◌+ℤ◌, ◌-ℤ◌, ◌*ℤ◌, neg_ℤ}
use lib.Signed.{◌≤ℤ◌, ◌<ℤ◌, lt_z, le_z}
use Rattle.geo_exact.specs.declared.corner.Corner.{Corner}
use Rattle.geo_exact.specs.Point.{Point, IsPlaceOf, corner_point}
use Rattle.geo_exact.specs.Rings.{Edge, edges, sum_over}
use Rattle.geo_exact.specs.Turn.{turn_at, IsOnEdge, IsOnSome, IsOnRing}
use Rattle.geo_exact.specs.Winding.{is_not_above, crossing, crossings, winding}
use Rattle.geo_exact.specs.Area.{edge_area2, area2}
use Rattle.geo_exact.specs.Segments.{IsStrictlyInside}
use Rattle.geo_exact.proofs.numbers.Polynomials.{Expr, var, lit, add, mul, neg, same_by}
use Rattle.geo_exact.proofs.numbers.Signs.{mul_pos, zero_factor, same_positive, same_negative}
use Rattle.geo_exact.proofs.corners_and_turns.TurnLaws.{turn_at_expr}
use Rattle.scaled_rings.specs.Tenfold.{IsNear}
use Rattle.scaled_rings.proofs.Scaling.{ten, ten_x, ten_y, ten_apart, AreNear}
use Rattle.scaled_rings.proofs.Lists.{ten_edge, IsNearEdge, AreNearEdges, edges_ten, near_edges}

-- the place that is a tenth of p
abbrev pub tenth : Point → Point
tenth p = record { x = p.x; y = p.y; d = pos 10 *ℤ p.d; d_positive = mul_pos (pos 10) p.d (record { lt = tt }) p.d_positive }

-- ---- turns
turn_numbers : (ax ay bx by x y d : ℤ)
    → (pos 10 *ℤ bx -ℤ pos 10 *ℤ ax) *ℤ (y -ℤ (pos 10 *ℤ ay) *ℤ d) -ℤ (pos 10 *ℤ by -ℤ pos 10 *ℤ ay) *ℤ (x -ℤ (pos 10 *ℤ ax) *ℤ d)
    ≡ pos 10 *ℤ ((bx -ℤ ax) *ℤ (y -ℤ ay *ℤ (pos 10 *ℤ d)) -ℤ (by -ℤ ay) *ℤ (x -ℤ ax *ℤ (pos 10 *ℤ d)))
turn_numbers ax ay bx by x y d =
    same_by (ax ∷ ay ∷ bx ∷ by ∷ x ∷ y ∷ d ∷ [])
    (turn_at_expr (mul (lit (pos 10)) (var 0)) (mul (lit (pos 10)) (var 1)) (mul (lit (pos 10)) (var 2)) (mul (lit (pos 10)) (var 3))
    (var 4) (var 5) (var 6))
    (mul (lit (pos 10)) (turn_at_expr (var 0) (var 1) (var 2) (var 3) (var 4) (var 5) (mul (lit (pos 10)) (var 6))))
    refl

abbrev turn_formula : (ax ay bx by x y d : ℤ) → ℤ
turn_formula ax ay bx by x y d = (bx -ℤ ax) *ℤ (y -ℤ ay *ℤ d) -ℤ (by -ℤ ay) *ℤ (x -ℤ ax *ℤ d)

pub turn_ten : (a b : Corner) (p : Point) → IsNear a → IsNear b → turn_at (ten a) (ten b) p ≡ pos 10 *ℤ turn_at a b (tenth p)
turn_ten a b p h k =
    let e : turn_formula (ten a).x (ten a).y (ten b).x (ten b).y p.x p.y p.d
    ≡ turn_formula (pos 10 *ℤ a.x) (pos 10 *ℤ a.y) (pos 10 *ℤ b.x) (pos 10 *ℤ b.y) p.x p.y p.d =
    formula_same (ten_x a h) (ten_y a h) (ten_x b k) (ten_y b k) in
    e ∙ turn_numbers a.x a.y b.x b.y p.x p.y p.d
  where
    formula_same : {ax ay bx by cx cy dx dy : ℤ} → ax ≡ cx → ay ≡ cy → bx ≡ dx → by ≡ dy
        → turn_formula ax ay bx by p.x p.y p.d ≡ turn_formula cx cy dx dy p.x p.y p.d
    formula_same i j m n = cc

-- ---- numbers times a denominator
times_ten : (z d : ℤ) → (pos 10 *ℤ z) *ℤ d ≡ z *ℤ (pos 10 *ℤ d)
times_ten z d = same_by (z ∷ d ∷ []) (mul (mul (lit (pos 10)) (var 0)) (var 1)) (mul (var 0) (mul (lit (pos 10)) (var 1))) refl

min_ten : (u v s t d : ℤ) → u ≡ pos 10 *ℤ s → v ≡ pos 10 *ℤ t → int_min u v *ℤ d ≡ int_min s t *ℤ (pos 10 *ℤ d)
min_ten u v s t d e f =
    let g : int_min u v ≡ pos 10 *ℤ int_min s t = omega (arith, ints, clamps) in ap (λ z. z *ℤ d) g ∙ times_ten (int_min s t) d

max_ten : (u v s t d : ℤ) → u ≡ pos 10 *ℤ s → v ≡ pos 10 *ℤ t → int_max u v *ℤ d ≡ int_max s t *ℤ (pos 10 *ℤ d)
max_ten u v s t d e f =
    let g : int_max u v ≡ pos 10 *ℤ int_max s t = omega (arith, ints, clamps) in ap (λ z. z *ℤ d) g ∙ times_ten (int_max s t) d

-- ---- points on edges
pub on_edge_ten : (a b : Corner) (p : Point) → IsNear a → IsNear b → IsOnEdge p (ten a) (ten b) ↔ IsOnEdge (tenth p) a b
on_edge_ten a b p h k = (
  λ e. record {
    on_line = zero_factor (pos 10) (turn_at a b (tenth p)) (record { lt = tt }) (sym (turn_ten a b p h k) ∙ e.on_line);
    from_x = subst (λ z. z ≤ℤ p.x) (min_ten (ten a).x (ten b).x a.x b.x p.d (ten_x a h) (ten_x b k)) e.from_x;
    to_x = subst (λ z. p.x ≤ℤ z) (max_ten (ten a).x (ten b).x a.x b.x p.d (ten_x a h) (ten_x b k)) e.to_x;
    from_y = subst (λ z. z ≤ℤ p.y) (min_ten (ten a).y (ten b).y a.y b.y p.d (ten_y a h) (ten_y b k)) e.from_y;
    to_y = subst (λ z. p.y ≤ℤ z) (max_ten (ten a).y (ten b).y a.y b.y p.d (ten_y a h) (ten_y b k)) e.to_y;
  },
  λ e. record {
    on_line = turn_ten a b p h k ∙ ap (λ z. pos 10 *ℤ z) e.on_line;
    from_x = subst (λ z. z ≤ℤ p.x) (sym (min_ten (ten a).x (ten b).x a.x b.x p.d (ten_x a h) (ten_x b k))) e.from_x;
    to_x = subst (λ z. p.x ≤ℤ z) (sym (max_ten (ten a).x (ten b).x a.x b.x p.d (ten_x a h) (ten_x b k))) e.to_x;
    from_y = subst (λ z. z ≤ℤ p.y) (sym (min_ten (ten a).y (ten b).y a.y b.y p.d (ten_y a h) (ten_y b k))) e.from_y;
    to_y = subst (λ z. p.y ≤ℤ z) (sym (max_ten (ten a).y (ten b).y a.y b.y p.d (ten_y a h) (ten_y b k))) e.to_y;
  },
)

pub on_some_ten : (es : List Edge) (p : Point) → AreNearEdges es → IsOnSome p (map ten_edge es) ↔ IsOnSome (tenth p) es
on_some_ten [] p h = (λ e. e, λ e. e)
on_some_ten (e ∷ es) p h =
    let one = on_edge_ten e.from e.to p h.0.from h.0.to in let rest = on_some_ten es p h.1 in (
      λ k. elim k [ inl l ↦ inl (one.0 l) | inr l ↦ inr (rest.0 l) ],
      λ k. elim k [ inl l ↦ inl (one.1 l) | inr l ↦ inr (rest.1 l) ],
    )

pub on_ring_ten : (ring : List Corner) (p : Point) → AreNear ring → IsOnRing p (map ten ring) ↔ IsOnRing (tenth p) ring
on_ring_ten ring p h = let s = on_some_ten (edges ring) p (near_edges ring h) in (
  λ k. s.0 (subst (IsOnSome p) (edges_ten ring) k),
  λ k. subst (IsOnSome p) (sym (edges_ten ring)) (s.1 k),
)

pub place_ten : (c : Corner) (p : Point) → IsNear c → IsPlaceOf p (ten c) ↔ IsPlaceOf (tenth p) c
place_ten c p h = (
  λ e. record { same_x = e.same_x ∙ x; same_y = e.same_y ∙ y },
  λ e. record { same_x = e.same_x ∙ sym x; same_y = e.same_y ∙ sym y },
)
  where
    x : (ten c).x *ℤ p.d ≡ c.x *ℤ (pos 10 *ℤ p.d)
    x = ap (λ z. z *ℤ p.d) (ten_x c h) ∙ times_ten c.x p.d

    y : (ten c).y *ℤ p.d ≡ c.y *ℤ (pos 10 *ℤ p.d)
    y = ap (λ z. z *ℤ p.d) (ten_y c h) ∙ times_ten c.y p.d

-- ---- winding numbers
above_ten : (a : Corner) (p : Point) → IsNear a → is_not_above (ten a) p ≡ is_not_above a (tenth p)
above_ten a p h = ap (λ z. le_z z p.y) (ap (λ z. z *ℤ p.d) (ten_y a h) ∙ times_ten a.y p.d)

abbrev chosen : (u v s t : Bool) → ℤ
chosen u v s t =
    if u then (if v then pos 0 else (if s then pos 1 else pos 0)) else (if v then (if t then negsuc 0 else pos 0) else pos 0)

one_times : (z : ℤ) → pos 1 *ℤ z ≡ z
one_times z = omega (arith, ints)

crossing_ten : (a b : Corner) (p : Point) → IsNear a → IsNear b → crossing p (ten a) (ten b) ≡ crossing (tenth p) a b
crossing_ten a b p h k =
    let t = one_times (turn_at (ten a) (ten b) p) ∙ turn_ten a b p h k in
    let s : lt_z (pos 0) (turn_at (ten a) (ten b) p) ≡ lt_z (pos 0) (turn_at a b (tenth p)) =
    same_positive (pos 1) (pos 10) (turn_at (ten a) (ten b) p) (turn_at a b (tenth p)) (record { lt = tt }) (record { lt = tt }) t in
    let n : lt_z (turn_at (ten a) (ten b) p) (pos 0) ≡ lt_z (turn_at a b (tenth p)) (pos 0) =
    same_negative (pos 1) (pos 10) (turn_at (ten a) (ten b) p) (turn_at a b (tenth p)) (record { lt = tt }) (record { lt = tt }) t in
    chosen_same (above_ten a p h) (above_ten b p k) s n
  where
    chosen_same : {u v s t w x y z : Bool} → u ≡ w → v ≡ x → s ≡ y → t ≡ z → chosen u v s t ≡ chosen w x y z
    chosen_same e f g i = cc

crossings_ten : (es : List Edge) (p : Point) → AreNearEdges es → crossings p (map ten_edge es) ≡ crossings (tenth p) es
crossings_ten [] p h = refl
crossings_ten (e ∷ es) p h =
    ap (λ z. z +ℤ crossings p (map ten_edge es)) (crossing_ten e.from e.to p h.0.from h.0.to)
    ∙ ap (λ z. crossing (tenth p) e.from e.to +ℤ z) (crossings_ten es p h.1)

pub winding_ten : (ring : List Corner) (p : Point) → AreNear ring → winding p (map ten ring) ≡ winding (tenth p) ring
winding_ten ring p h = ap (crossings p) (edges_ten ring) ∙ crossings_ten (edges ring) p (near_edges ring h)

-- ---- areas
area_numbers : (ax ay bx by : ℤ) → (pos 10 *ℤ ax) *ℤ (pos 10 *ℤ by) -ℤ (pos 10 *ℤ bx) *ℤ (pos 10 *ℤ ay)
    ≡ pos 100 *ℤ (ax *ℤ by -ℤ bx *ℤ ay)
area_numbers ax ay bx by =
    same_by (ax ∷ ay ∷ bx ∷ by ∷ [])
    (add (mul (mul t (var 0)) (mul t (var 3))) (neg (mul (mul t (var 2)) (mul t (var 1)))))
    (mul (lit (pos 100)) (add (mul (var 0) (var 3)) (neg (mul (var 2) (var 1)))))
    refl
  where
    t : Expr
    t = lit (pos 10)

edge_area_ten : (e : Edge) → IsNearEdge e → edge_area2 (ten_edge e) ≡ pos 100 *ℤ edge_area2 e
edge_area_ten e h =
    same (ten_x e.from h.from) (ten_y e.from h.from) (ten_x e.to h.to) (ten_y e.to h.to)
    ∙ area_numbers e.from.x e.from.y e.to.x e.to.y
  where
    same : {ax ay bx by cx cy dx dy : ℤ} → ax ≡ cx → ay ≡ cy → bx ≡ dx → by ≡ dy → ax *ℤ by -ℤ bx *ℤ ay ≡ cx *ℤ dy -ℤ dx *ℤ cy
    same i j m n = cc

areas_ten : (es : List Edge) → AreNearEdges es → sum_over edge_area2 (map ten_edge es) ≡ pos 100 *ℤ sum_over edge_area2 es
areas_ten [] h = refl
areas_ten (e ∷ es) h = omega (arith, ints, edge_area_ten e h.0, areas_ten es h.1)

pub area_ten : (ring : List Corner) → AreNear ring → area2 (map ten ring) ≡ pos 100 *ℤ area2 ring
area_ten ring h = ap (sum_over edge_area2) (edges_ten ring) ∙ areas_ten (edges ring) (near_edges ring h)

-- ---- corners on edges
corner_numbers : (ax ay bx by x y : ℤ)
    → (pos 10 *ℤ bx -ℤ pos 10 *ℤ ax) *ℤ (pos 10 *ℤ y -ℤ (pos 10 *ℤ ay) *ℤ pos 1)
    -ℤ (pos 10 *ℤ by -ℤ pos 10 *ℤ ay) *ℤ (pos 10 *ℤ x -ℤ (pos 10 *ℤ ax) *ℤ pos 1)
    ≡ pos 100 *ℤ ((bx -ℤ ax) *ℤ (y -ℤ ay *ℤ pos 1) -ℤ (by -ℤ ay) *ℤ (x -ℤ ax *ℤ pos 1))
corner_numbers ax ay bx by x y =
    same_by (ax ∷ ay ∷ bx ∷ by ∷ x ∷ y ∷ [])
    (turn_at_expr (mul t (var 0)) (mul t (var 1)) (mul t (var 2)) (mul t (var 3)) (mul t (var 4)) (mul t (var 5)) (lit (pos 1)))
    (mul (lit (pos 100)) (turn_at_expr (var 0) (var 1) (var 2) (var 3) (var 4) (var 5) (lit (pos 1))))
    refl
  where
    t : Expr
    t = lit (pos 10)

corner_turn : (a b c : Corner) → IsNear a → IsNear b → IsNear c
    → turn_at (ten a) (ten b) (corner_point (ten c)) ≡ pos 100 *ℤ turn_at a b (corner_point c)
corner_turn a b c h k l =
    same (ten_x a h) (ten_y a h) (ten_x b k) (ten_y b k) (ten_x c l) (ten_y c l) ∙ corner_numbers a.x a.y b.x b.y c.x c.y
  where
    same : {ax ay bx by x y cx cy dx dy u v : ℤ} → ax ≡ cx → ay ≡ cy → bx ≡ dx → by ≡ dy → x ≡ u → y ≡ v
        → turn_formula ax ay bx by x y (pos 1) ≡ turn_formula cx cy dx dy u v (pos 1)
    same i j m n o p = cc

low_ten : (u v w s t z : ℤ) → u ≡ pos 10 *ℤ s → v ≡ pos 10 *ℤ t → w ≡ pos 10 *ℤ z → (int_min s t *ℤ pos 1) ≤ℤ z
    → (int_min u v *ℤ pos 1) ≤ℤ w
low_ten u v w s t z e f g h = omega (arith, ints, clamps)

high_ten : (u v w s t z : ℤ) → u ≡ pos 10 *ℤ s → v ≡ pos 10 *ℤ t → w ≡ pos 10 *ℤ z → z ≤ℤ (int_max s t *ℤ pos 1)
    → w ≤ℤ (int_max u v *ℤ pos 1)
high_ten u v w s t z e f g h = omega (arith, ints, clamps)

pub strictly_ten : (c a b : Corner) → IsNear c → IsNear a → IsNear b → IsStrictlyInside c a b → IsStrictlyInside (ten c) (ten a) (ten b)
strictly_ten c a b l h k s = record {
  on_edge = record {
    on_line = corner_turn a b c h k l ∙ ap (λ z. pos 100 *ℤ z) s.on_edge.on_line;
    from_x = low_ten (ten a).x (ten b).x (ten c).x a.x b.x c.x (ten_x a h) (ten_x b k) (ten_x c l) s.on_edge.from_x;
    to_x = high_ten (ten a).x (ten b).x (ten c).x a.x b.x c.x (ten_x a h) (ten_x b k) (ten_x c l) s.on_edge.to_x;
    from_y = low_ten (ten a).y (ten b).y (ten c).y a.y b.y c.y (ten_y a h) (ten_y b k) (ten_y c l) s.on_edge.from_y;
    to_y = high_ten (ten a).y (ten b).y (ten c).y a.y b.y c.y (ten_y a h) (ten_y b k) (ten_y c l) s.on_edge.to_y;
  };
  not_start = λ e. s.not_start (ten_apart c a l h e);
  not_end = λ e. s.not_end (ten_apart c b l k e);
}
