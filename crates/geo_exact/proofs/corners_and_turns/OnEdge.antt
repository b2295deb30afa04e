-- When a point lies on an edge.
use Rattle.std.proofs.Common.{◌≡◌, ◌∙◌, sym, ap, refl, arith, true, false, [], ◌∷◌}
use Rattle.std.proofs.lemmas.Int.{ints, by_lt_z, clamps}
use Rattle.std.specs.Int.{int_min, int_max}
use lib.IntN.{ℤ, pos, ◌+ℤ◌, ◌-ℤ◌, ◌*ℤ◌, neg_ℤ}
use lib.Signed.{◌<ℤ◌, ◌≤ℤ◌, lt_z}
use Rattle.geo_exact.specs.declared.corner.Corner.{Corner}
use Rattle.geo_exact.specs.Point.{Point, corner_point}
use Rattle.geo_exact.specs.Turn.{turn, turn_at, IsOnEdge}
use Rattle.geo_exact.proofs.numbers.Differences.{expand}
use Rattle.geo_exact.proofs.numbers.Orders.{le_of_lt, lt_not_ge}
use Rattle.geo_exact.proofs.numbers.Signs.{mul_le, mul_zero, convex}
use Rattle.geo_exact.proofs.numbers.Polynomials.{var, lit, add, mul, neg, same_by}
use Rattle.geo_exact.proofs.corners_and_turns.TurnLaws.{turn_expr, turn_at_expr, turn_at_back}
use Rattle.geo_exact.proofs.corners_and_turns.CornerPoints.{on_edge_from_box}

-- ---- the lesser and the greater of two numbers
pub min_left : (u v : ℤ) → u ≤ℤ v → int_min u v ≡ u
min_left u v h = omega (arith, ints, clamps)

pub min_right : (u v : ℤ) → v ≤ℤ u → int_min u v ≡ v
min_right u v h = omega (arith, ints, clamps)

pub max_left : (u v : ℤ) → v ≤ℤ u → int_max u v ≡ u
max_left u v h = omega (arith, ints, clamps)

pub max_right : (u v : ℤ) → u ≤ℤ v → int_max u v ≡ v
max_right u v h = omega (arith, ints, clamps)

pub min_swap : (u v : ℤ) → int_min u v ≡ int_min v u
min_swap u v = omega (arith, ints, clamps)

pub max_swap : (u v : ℤ) → int_max u v ≡ int_max v u
max_swap u v = omega (arith, ints, clamps)

-- a weighed mean of u and v is x: x is neither below both nor above both
pub mean_low : (k l u v x : ℤ) → pos 0 ≤ℤ k → pos 0 ≤ℤ l → pos 0 <ℤ (k +ℤ l)
    → k *ℤ (u -ℤ x) +ℤ l *ℤ (v -ℤ x) ≡ pos 0
    → x <ℤ u → x <ℤ v → ⊥
mean_low k l u v x hk hl h e p q =
    omega (arith, ints, e, convex k l (u -ℤ x) (v -ℤ x) hk hl h (omega (arith, ints)) (omega (arith, ints)))

pub mean_high : (k l u v x : ℤ) → pos 0 ≤ℤ k → pos 0 ≤ℤ l → pos 0 <ℤ (k +ℤ l)
    → k *ℤ (u -ℤ x) +ℤ l *ℤ (v -ℤ x) ≡ pos 0
    → u <ℤ x → v <ℤ x → ⊥
mean_high k l u v x hk hl h e p q =
    let i : pos 0 <ℤ (k *ℤ (x -ℤ u) +ℤ l *ℤ (x -ℤ v)) = convex k l (x -ℤ u) (x -ℤ v) hk hl h (omega (arith, ints))
    (omega (arith, ints)) in
    omega (arith, ints, simp expand at e, simp expand at i)

pub min_reaches : (u v d x : ℤ) → pos 0 <ℤ d → (x <ℤ (u *ℤ d) → x <ℤ (v *ℤ d) → ⊥) → (int_min u v *ℤ d) ≤ℤ x
min_reaches u v d x h never = by_lt_z v u
    (λ p. let e : true ≡ lt_z v u = omega (arith, ints) in
    rw (sym e) (by_lt_z x (v *ℤ d)
    (λ q. absurd (never (omega (arith, ints, mul_le v u d (omega (arith, ints)) (omega (arith, ints)))) q)) (λ q. q)))
    (λ p. let e : false ≡ lt_z v u = omega (arith, ints) in
    rw (sym e) (by_lt_z x (u *ℤ d) (λ q. absurd (never q (omega (arith, ints, mul_le u v d (omega (arith, ints)) p)))) (λ q. q)))

pub max_reaches : (u v d x : ℤ) → pos 0 <ℤ d → ((u *ℤ d) <ℤ x → (v *ℤ d) <ℤ x → ⊥) → x ≤ℤ (int_max u v *ℤ d)
max_reaches u v d x h never = by_lt_z v u
    (λ p. let e : true ≡ lt_z v u = omega (arith, ints) in
    rw (sym e) (by_lt_z (u *ℤ d) x
    (λ q. absurd (never q (omega (arith, ints, mul_le v u d (omega (arith, ints)) (omega (arith, ints)))))) (λ q. q)))
    (λ p. let e : false ≡ lt_z v u = omega (arith, ints) in
    rw (sym e) (by_lt_z (v *ℤ d) x (λ q. absurd (never (omega (arith, ints, mul_le u v d (omega (arith, ints)) p)) q)) (λ q. q)))

-- an edge has no direction for the points on it
pub on_edge_back : (a b : Corner) (p : Point) → IsOnEdge p a b → IsOnEdge p b a
on_edge_back a b p h =
    record {
      on_line = turn_at_back a b p ∙ ap neg_ℤ h.on_line;
      from_x = rw (min_swap a.x b.x) at h.from_x;
      to_x = rw (max_swap a.x b.x) at h.to_x;
      from_y = rw (min_swap a.y b.y) at h.from_y;
      to_y = rw (max_swap a.y b.y) at h.to_y;
    }

-- ---- the ends of an edge
-- they are on its line
pub starts_on : (a b : Corner) → turn a b a ≡ pos 0
starts_on a b = same_by (a.x ∷ a.y ∷ b.x ∷ b.y ∷ []) (turn_expr (var 0) (var 1) (var 2) (var 3) (var 0) (var 1)) (lit (pos 0)) refl

pub ends_on : (a b : Corner) → turn a b b ≡ pos 0
ends_on a b = same_by (a.x ∷ a.y ∷ b.x ∷ b.y ∷ []) (turn_expr (var 0) (var 1) (var 2) (var 3) (var 2) (var 3)) (lit (pos 0)) refl

first_in_range : (u v : ℤ) → (int_min u v ≤ℤ u) × (u ≤ℤ int_max u v)
first_in_range u v = (omega (arith, ints, clamps), omega (arith, ints, clamps))

-- and on it
pub on_edge_start : (a b : Corner) → IsOnEdge (corner_point a) a b
on_edge_start a b = on_edge_from_box a b a (starts_on a b) (first_in_range a.x b.x) (first_in_range a.y b.y)

pub on_edge_end : (a b : Corner) → IsOnEdge (corner_point b) a b
on_edge_end a b = on_edge_back b a (corner_point b) (on_edge_start b a)

-- ---- points at a height between the ends of an edge
-- the edge at the height of p, weighed by the heights of its ends
heights_weigh : (a b : Corner) (p : Point)
    → (b.y *ℤ p.d -ℤ p.y) *ℤ (a.x *ℤ p.d -ℤ p.x) +ℤ (p.y -ℤ a.y *ℤ p.d) *ℤ (b.x *ℤ p.d -ℤ p.x)
    ≡ p.d *ℤ turn_at a b p
heights_weigh a b p =
    same_by (a.x ∷ a.y ∷ b.x ∷ b.y ∷ p.x ∷ p.y ∷ p.d ∷ [])
    (add
    (mul (add (mul (var 3) (var 6)) (neg (var 5))) (add (mul (var 0) (var 6)) (neg (var 4))))
    (mul (add (var 5) (neg (mul (var 1) (var 6)))) (add (mul (var 2) (var 6)) (neg (var 4)))))
    (mul (var 6) (turn_at_expr (var 0) (var 1) (var 2) (var 3) (var 4) (var 5) (var 6)))
    refl

-- a point on the line of an edge, at a height between its ends', is on the edge
pub on_edge_between : (a b : Corner) (p : Point) → turn_at a b p ≡ pos 0 → (a.y *ℤ p.d) ≤ℤ p.y → p.y <ℤ (b.y *ℤ p.d)
    → IsOnEdge p a b
on_edge_between a b p e low high =
    let mean : (b.y *ℤ p.d -ℤ p.y) *ℤ (a.x *ℤ p.d -ℤ p.x) +ℤ (p.y -ℤ a.y *ℤ p.d) *ℤ (b.x *ℤ p.d -ℤ p.x) ≡ pos 0 =
    heights_weigh a b p ∙ ap (λ t. p.d *ℤ t) e ∙ mul_zero p.d in
    let k : pos 0 ≤ℤ (b.y *ℤ p.d -ℤ p.y) = apart p.y (b.y *ℤ p.d) high in
    let l : pos 0 ≤ℤ (p.y -ℤ a.y *ℤ p.d) = over (a.y *ℤ p.d) p.y low in
    let s : pos 0 <ℤ ((b.y *ℤ p.d -ℤ p.y) +ℤ (p.y -ℤ a.y *ℤ p.d)) = total (a.y *ℤ p.d) p.y (b.y *ℤ p.d) low high in
    record {
      on_line = e;
      from_x = min_reaches a.x b.x p.d p.x p.d_positive (mean_low (b.y *ℤ p.d -ℤ p.y) (p.y -ℤ a.y *ℤ p.d) (a.x *ℤ p.d)
          (b.x *ℤ p.d) p.x k l s mean);
      to_x = max_reaches a.x b.x p.d p.x p.d_positive (mean_high (b.y *ℤ p.d -ℤ p.y) (p.y -ℤ a.y *ℤ p.d) (a.x *ℤ p.d)
          (b.x *ℤ p.d) p.x k l s mean);
      from_y = min_reaches a.y b.y p.d p.y p.d_positive (λ i j. lt_not_ge p.y (a.y *ℤ p.d) i low);
      to_y = max_reaches a.y b.y p.d p.y p.d_positive (λ i j. lt_not_ge (b.y *ℤ p.d) p.y j (le_of_lt p.y (b.y *ℤ p.d) high));
    }
  where
    apart : (u v : ℤ) → u <ℤ v → pos 0 ≤ℤ (v -ℤ u)
    apart u v h = omega (arith, ints)

    over : (u v : ℤ) → u ≤ℤ v → pos 0 ≤ℤ (v -ℤ u)
    over u v h = omega (arith, ints)

    total : (u v w : ℤ) → u ≤ℤ v → v <ℤ w → pos 0 <ℤ ((w -ℤ v) +ℤ (v -ℤ u))
    total u v w h k = omega (arith, ints)
