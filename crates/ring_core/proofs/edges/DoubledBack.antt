-- When the path from a over b to c doubles back at b: then one of its ends lies on the other edge.
use Rattle.std.proofs.Common.{◌≡◌, ◌⊎◌, ◌∙◌, ap, arith, inl, inr, [], ◌∷◌, refl}
use Rattle.std.proofs.lemmas.Int.{ints, by_lt_z}
use Rattle.std.specs.Int.{int_min, int_max}
use lib.IntN.{ℤ, pos, ◌-ℤ◌, ◌*ℤ◌, neg_ℤ}
use lib.Signed.{◌<ℤ◌, ◌≤ℤ◌}
use Rattle.geo_exact.specs.declared.corner.Corner.{Corner}
use Rattle.geo_exact.specs.Point.{Point, IsPlaceOf, corner_point}
use Rattle.geo_exact.specs.Turn.{turn, turn_at, IsOnEdge}
use Rattle.geo_exact.proofs.numbers.Signs.{zero_factor, zero_of_mul}
use Rattle.geo_exact.proofs.numbers.Polynomials.{var, add, mul, neg, same_by}
use Rattle.geo_exact.proofs.corners_and_turns.TurnLaws.{turn_at_expr, turn_expr, turn_cycle, turn_swap}
use Rattle.geo_exact.proofs.numbers.Orders.{le_of_lt, le_both}
use Rattle.geo_exact.proofs.corners_and_turns.OnEdge.{min_left, min_swap, max_left, max_swap, on_edge_back, on_edge_start, on_edge_end}
use Rattle.ring_core.specs.own.EdgePairs.{DoublesBack}
use Rattle.ring_core.proofs.edges.CommonPoints.{on_edge_by_x, on_edge_by_y}

-- one of the ends lies on the other edge, and not at b
abbrev pub EndDoublesBack : Corner → Corner → Corner → Type 0
EndDoublesBack a b c =
    (IsOnEdge (corner_point c) a b × (¬ IsPlaceOf (corner_point c) b))
    ⊎ (IsOnEdge (corner_point a) c b × (¬ IsPlaceOf (corner_point a) b))

pub doubles_back_by_end : (a b c : Corner) → EndDoublesBack a b c → DoublesBack a b c
doubles_back_by_end a b c h = elim h [
  | inl q ↦ (corner_point c, q.0, on_edge_end b c, q.1)
  | inr q ↦ (corner_point a, on_edge_start a b, on_edge_back c b (corner_point a) q.0, q.1)
]

apart_above : (u v : ℤ) → u <ℤ v → v ≡ u *ℤ pos 1 → ⊥
apart_above u v h e = omega (arith, ints)

apart_below : (u v : ℤ) → v <ℤ u → v ≡ u *ℤ pos 1 → ⊥
apart_below u v h e = omega (arith, ints)

-- an edge from u that reaches above u ends above it
ends_above : (u v d w : ℤ) → (u *ℤ d) <ℤ w → w ≤ℤ (int_max u v *ℤ d) → u <ℤ v
ends_above u v d w h k = by_lt_z u v (λ q. q) (λ q. let e : w ≤ℤ (u *ℤ d) = rw (max_left u v q) at k in
    absurd (omega (arith, ints)))

ends_below : (u v d w : ℤ) → w <ℤ (u *ℤ d) → (int_min u v *ℤ d) ≤ℤ w → v <ℤ u
ends_below u v d w h k = by_lt_z v u (λ q. q) (λ q. let e : (u *ℤ d) ≤ℤ w = rw (min_left u v q) at k in
    absurd (omega (arith, ints)))

line_x : (a b c : Corner) (p : Point) → (p.x -ℤ b.x *ℤ p.d) *ℤ turn a b c ≡ (c.x -ℤ b.x) *ℤ turn_at a b p
    -ℤ (b.x -ℤ a.x) *ℤ turn_at b c p
line_x a b c p =
    same_by (a.x ∷ a.y ∷ b.x ∷ b.y ∷ c.x ∷ c.y ∷ p.x ∷ p.y ∷ p.d ∷ [])
    (mul (add (var 6) (neg (mul (var 2) (var 8)))) (turn_expr (var 0) (var 1) (var 2) (var 3) (var 4) (var 5)))
    (add
    (mul (add (var 4) (neg (var 2))) (turn_at_expr (var 0) (var 1) (var 2) (var 3) (var 6) (var 7) (var 8)))
    (neg (mul (add (var 2) (neg (var 0))) (turn_at_expr (var 2) (var 3) (var 4) (var 5) (var 6) (var 7) (var 8)))))
    refl

line_y : (a b c : Corner) (p : Point) → (p.y -ℤ b.y *ℤ p.d) *ℤ turn a b c ≡ (c.y -ℤ b.y) *ℤ turn_at a b p
    -ℤ (b.y -ℤ a.y) *ℤ turn_at b c p
line_y a b c p =
    same_by (a.x ∷ a.y ∷ b.x ∷ b.y ∷ c.x ∷ c.y ∷ p.x ∷ p.y ∷ p.d ∷ [])
    (mul (add (var 7) (neg (mul (var 3) (var 8)))) (turn_expr (var 0) (var 1) (var 2) (var 3) (var 4) (var 5)))
    (add
    (mul (add (var 5) (neg (var 3))) (turn_at_expr (var 0) (var 1) (var 2) (var 3) (var 6) (var 7) (var 8)))
    (neg (mul (add (var 3) (neg (var 1))) (turn_at_expr (var 2) (var 3) (var 4) (var 5) (var 6) (var 7) (var 8)))))
    refl

vanishes : (l m s t z : ℤ) → z ≡ l *ℤ s -ℤ m *ℤ t → s ≡ pos 0 → t ≡ pos 0 → z ≡ pos 0
vanishes l m s t z e h k = e ∙ rw (h, k) (omega (arith, ints))

turn_end : (a b c : Corner) → turn a b c ≡ pos 0 → turn b c a ≡ pos 0
turn_end a b c e = turn_cycle a b c ∙ e

turn_back : (a b c : Corner) → turn a b c ≡ pos 0 → turn b a c ≡ pos 0
turn_back a b c e = turn_swap a b c ∙ ap neg_ℤ e

turn_round : (a b c : Corner) → turn a b c ≡ pos 0 → turn c b a ≡ pos 0
turn_round a b c e = turn_back b c a (turn_end a b c e)

above_x : (a b c : Corner) (p : Point) → IsOnEdge p a b → IsOnEdge p b c → (b.x *ℤ p.d) <ℤ p.x → EndDoublesBack a b c
above_x a b c p h k o =
    let first : b.x <ℤ a.x = ends_above b.x a.x p.d p.x o (rw (max_swap b.x a.x) h.to_x) in
    let second : b.x <ℤ c.x = ends_above b.x c.x p.d p.x o k.to_x in
    let line : turn a b c ≡ pos 0 =
    zero_factor (p.x -ℤ b.x *ℤ p.d) (turn a b c) (omega (arith, ints))
    (vanishes (c.x -ℤ b.x) (b.x -ℤ a.x) (turn_at a b p) (turn_at b c p) _ (line_x a b c p) h.on_line k.on_line) in
    by_lt_z a.x c.x
    (λ q. let on : IsOnEdge (corner_point a) b c = on_edge_by_x b c a second (le_of_lt b.x a.x first)
    (le_of_lt a.x c.x q) (turn_end a b c line) in
    inr (on_edge_back b c (corner_point a) on, λ r. apart_above b.x a.x first r.same_x))
    (λ q. let on : IsOnEdge (corner_point c) b a = on_edge_by_x b a c first (le_of_lt b.x c.x second) q (turn_back a b c line) in
    inl (on_edge_back b a (corner_point c) on, λ r. apart_above b.x c.x second r.same_x))

below_x : (a b c : Corner) (p : Point) → IsOnEdge p a b → IsOnEdge p b c → p.x <ℤ (b.x *ℤ p.d) → EndDoublesBack a b c
below_x a b c p h k o =
    let first : a.x <ℤ b.x = ends_below b.x a.x p.d p.x o (rw (min_swap b.x a.x) h.from_x) in
    let second : c.x <ℤ b.x = ends_below b.x c.x p.d p.x o k.from_x in
    let line : turn a b c ≡ pos 0 =
    zero_of_mul (p.x -ℤ b.x *ℤ p.d) (turn a b c) (λ same. omega (arith, ints, same))
    (vanishes (c.x -ℤ b.x) (b.x -ℤ a.x) (turn_at a b p) (turn_at b c p) _ (line_x a b c p) h.on_line k.on_line) in
    by_lt_z c.x a.x
    (λ q. inr (
      on_edge_by_x c b a second (le_of_lt c.x a.x q) (le_of_lt a.x b.x first) (turn_round a b c line),
      λ r. apart_below b.x a.x first r.same_x,
    ))
    (λ q. inl (on_edge_by_x a b c first q (le_of_lt c.x b.x second) line, λ r. apart_below b.x c.x second r.same_x))

above_y : (a b c : Corner) (p : Point) → IsOnEdge p a b → IsOnEdge p b c → (b.y *ℤ p.d) <ℤ p.y → EndDoublesBack a b c
above_y a b c p h k o =
    let first : b.y <ℤ a.y = ends_above b.y a.y p.d p.y o (rw (max_swap b.y a.y) h.to_y) in
    let second : b.y <ℤ c.y = ends_above b.y c.y p.d p.y o k.to_y in
    let line : turn a b c ≡ pos 0 =
    zero_factor (p.y -ℤ b.y *ℤ p.d) (turn a b c) (omega (arith, ints))
    (vanishes (c.y -ℤ b.y) (b.y -ℤ a.y) (turn_at a b p) (turn_at b c p) _ (line_y a b c p) h.on_line k.on_line) in
    by_lt_z a.y c.y
    (λ q. let on : IsOnEdge (corner_point a) b c = on_edge_by_y b c a second (le_of_lt b.y a.y first)
    (le_of_lt a.y c.y q) (turn_end a b c line) in
    inr (on_edge_back b c (corner_point a) on, λ r. apart_above b.y a.y first r.same_y))
    (λ q. let on : IsOnEdge (corner_point c) b a = on_edge_by_y b a c first (le_of_lt b.y c.y second) q (turn_back a b c line) in
    inl (on_edge_back b a (corner_point c) on, λ r. apart_above b.y c.y second r.same_y))

below_y : (a b c : Corner) (p : Point) → IsOnEdge p a b → IsOnEdge p b c → p.y <ℤ (b.y *ℤ p.d) → EndDoublesBack a b c
below_y a b c p h k o =
    let first : a.y <ℤ b.y = ends_below b.y a.y p.d p.y o (rw (min_swap b.y a.y) h.from_y) in
    let second : c.y <ℤ b.y = ends_below b.y c.y p.d p.y o k.from_y in
    let line : turn a b c ≡ pos 0 =
    zero_of_mul (p.y -ℤ b.y *ℤ p.d) (turn a b c) (λ same. omega (arith, ints, same))
    (vanishes (c.y -ℤ b.y) (b.y -ℤ a.y) (turn_at a b p) (turn_at b c p) _ (line_y a b c p) h.on_line k.on_line) in
    by_lt_z c.y a.y
    (λ q. inr (
      on_edge_by_y c b a second (le_of_lt c.y a.y q) (le_of_lt a.y b.y first) (turn_round a b c line),
      λ r. apart_below b.y a.y first r.same_y,
    ))
    (λ q. inl (on_edge_by_y a b c first q (le_of_lt c.y b.y second) line, λ r. apart_below b.y c.y second r.same_y))

pub end_of_doubling_back : (a b c : Corner) → DoublesBack a b c → EndDoublesBack a b c
end_of_doubling_back a b c h =
    let p = h.0 in
    by_lt_z (b.x *ℤ p.d) p.x (λ o. above_x a b c p h.1 h.2 o)
    (λ k. by_lt_z p.x (b.x *ℤ p.d) (λ o. below_x a b c p h.1 h.2 o)
    (λ l. by_lt_z (b.y *ℤ p.d) p.y (λ o. above_y a b c p h.1 h.2 o)
    (λ m. by_lt_z p.y (b.y *ℤ p.d) (λ o. below_y a b c p h.1 h.2 o)
    (λ n. absurd (h.3 (record { same_x = le_both p.x (b.x *ℤ p.d) k l; same_y = le_both p.y (b.y *ℤ p.d) m n }))))))
