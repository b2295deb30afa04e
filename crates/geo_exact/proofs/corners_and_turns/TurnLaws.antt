-- Identities of turns, at corners and at rational points.
use Rattle.std.proofs.Common.{◌≡◌, refl, ◌∙◌, sym, arith, [], ◌∷◌}
use Rattle.std.proofs.lemmas.Int.{ints}
use Rattle.std.specs.Int.{int_min, int_max}
use lib.IntN.{pos, ◌+ℤ◌, ◌-ℤ◌, ◌*ℤ◌, neg_ℤ}
use lib.Signed.{◌≤ℤ◌}
use Rattle.geo_exact.specs.declared.corner.Corner.{Corner}
pub use Rattle.geo_exact.specs.Point.{Point, corner_point}
use Rattle.geo_exact.specs.Turn.{turn, turn_at, IsOnEdge}
use Rattle.geo_exact.proofs.numbers.Polynomials.{Expr, var, lit, add, mul, neg, same_by}

-- ---- identities of turns; the definitions once more, over expressions
abbrev pub turn_at_expr : Expr → Expr → Expr → Expr → Expr → Expr → Expr → Expr
turn_at_expr ax ay bx by px py d =
    add (mul (add bx (neg ax)) (add py (neg (mul ay d)))) (neg (mul (add by (neg ay)) (add px (neg (mul ax d)))))

abbrev pub turn_expr : Expr → Expr → Expr → Expr → Expr → Expr → Expr
turn_expr ax ay bx by cx cy =
    add (mul (add bx (neg ax)) (add cy (neg ay))) (neg (mul (add by (neg ay)) (add cx (neg ax))))

pub turn_at_back : (a b : Corner) (p : Point) → turn_at b a p ≡ neg_ℤ (turn_at a b p)
turn_at_back a b p =
    same_by (a.x ∷ a.y ∷ b.x ∷ b.y ∷ p.x ∷ p.y ∷ p.d ∷ [])
    (turn_at_expr (var 2) (var 3) (var 0) (var 1) (var 4) (var 5) (var 6))
    (neg (turn_at_expr (var 0) (var 1) (var 2) (var 3) (var 4) (var 5) (var 6)))
    refl

pub turn_at_corner : (a b c : Corner) → turn_at a b (corner_point c) ≡ turn a b c
turn_at_corner a b c =
    same_by (a.x ∷ a.y ∷ b.x ∷ b.y ∷ c.x ∷ c.y ∷ [])
    (turn_at_expr (var 0) (var 1) (var 2) (var 3) (var 4) (var 5) (lit (pos 1)))
    (turn_expr (var 0) (var 1) (var 2) (var 3) (var 4) (var 5))
    refl

pub turn_cycle : (a b c : Corner) → turn b c a ≡ turn a b c
turn_cycle a b c =
    same_by (a.x ∷ a.y ∷ b.x ∷ b.y ∷ c.x ∷ c.y ∷ [])
    (turn_expr (var 2) (var 3) (var 4) (var 5) (var 0) (var 1))
    (turn_expr (var 0) (var 1) (var 2) (var 3) (var 4) (var 5))
    refl

pub turn_swap : (a b c : Corner) → turn b a c ≡ neg_ℤ (turn a b c)
turn_swap a b c =
    same_by (a.x ∷ a.y ∷ b.x ∷ b.y ∷ c.x ∷ c.y ∷ [])
    (turn_expr (var 2) (var 3) (var 0) (var 1) (var 4) (var 5))
    (neg (turn_expr (var 0) (var 1) (var 2) (var 3) (var 4) (var 5)))
    refl

-- the turns at p of the three edges of a triangle sum up to the triangle's
pub turn_at_cycle : (a b c : Corner) (p : Point) → turn_at a b p +ℤ turn_at b c p +ℤ turn_at c a p ≡ p.d *ℤ turn a b c
turn_at_cycle a b c p =
    same_by (a.x ∷ a.y ∷ b.x ∷ b.y ∷ c.x ∷ c.y ∷ p.x ∷ p.y ∷ p.d ∷ [])
    (add
    (add
    (turn_at_expr (var 0) (var 1) (var 2) (var 3) (var 6) (var 7) (var 8))
    (turn_at_expr (var 2) (var 3) (var 4) (var 5) (var 6) (var 7) (var 8)))
    (turn_at_expr (var 4) (var 5) (var 0) (var 1) (var 6) (var 7) (var 8)))
    (mul (var 8) (turn_expr (var 0) (var 1) (var 2) (var 3) (var 4) (var 5)))
    refl

-- p is the mean of the corners, weighed by the turns at p of the edges opposite them: in y, and in x
pub weighed_y : (a b c : Corner) (p : Point)
    → turn_at b c p *ℤ (a.y *ℤ p.d -ℤ p.y) +ℤ turn_at c a p *ℤ (b.y *ℤ p.d -ℤ p.y) +ℤ turn_at a b p *ℤ
    (c.y *ℤ p.d -ℤ p.y) ≡ pos 0
weighed_y a b c p =
    same_by (a.x ∷ a.y ∷ b.x ∷ b.y ∷ c.x ∷ c.y ∷ p.x ∷ p.y ∷ p.d ∷ [])
    (add
    (add
    (mul (turn_at_expr (var 2) (var 3) (var 4) (var 5) (var 6) (var 7) (var 8)) (add (mul (var 1) (var 8)) (neg (var 7))))
    (mul (turn_at_expr (var 4) (var 5) (var 0) (var 1) (var 6) (var 7) (var 8)) (add (mul (var 3) (var 8)) (neg (var 7)))))
    (mul (turn_at_expr (var 0) (var 1) (var 2) (var 3) (var 6) (var 7) (var 8)) (add (mul (var 5) (var 8)) (neg (var 7)))))
    (lit (pos 0))
    refl

pub weighed_x : (a b c : Corner) (p : Point)
    → turn_at b c p *ℤ (a.x *ℤ p.d -ℤ p.x) +ℤ turn_at c a p *ℤ (b.x *ℤ p.d -ℤ p.x) +ℤ turn_at a b p *ℤ
    (c.x *ℤ p.d -ℤ p.x) ≡ pos 0
weighed_x a b c p =
    same_by (a.x ∷ a.y ∷ b.x ∷ b.y ∷ c.x ∷ c.y ∷ p.x ∷ p.y ∷ p.d ∷ [])
    (add
    (add
    (mul (turn_at_expr (var 2) (var 3) (var 4) (var 5) (var 6) (var 7) (var 8)) (add (mul (var 0) (var 8)) (neg (var 6))))
    (mul (turn_at_expr (var 4) (var 5) (var 0) (var 1) (var 6) (var 7) (var 8)) (add (mul (var 2) (var 8)) (neg (var 6)))))
    (mul (turn_at_expr (var 0) (var 1) (var 2) (var 3) (var 6) (var 7) (var 8)) (add (mul (var 4) (var 8)) (neg (var 6)))))
    (lit (pos 0))
    refl

-- the turns at p of the edge and of its part up to b, from m on
pub turn_at_end : (a b m : Corner) (p : Point)
    → (b.y -ℤ a.y) *ℤ turn_at m b p -ℤ (b.y -ℤ m.y) *ℤ turn_at a b p ≡ (p.y -ℤ b.y *ℤ p.d) *ℤ turn a b m
turn_at_end a b m p =
    same_by (a.x ∷ a.y ∷ b.x ∷ b.y ∷ m.x ∷ m.y ∷ p.x ∷ p.y ∷ p.d ∷ [])
    (add
    (mul (add (var 3) (neg (var 1))) (turn_at_expr (var 4) (var 5) (var 2) (var 3) (var 6) (var 7) (var 8)))
    (neg (mul (add (var 3) (neg (var 5))) (turn_at_expr (var 0) (var 1) (var 2) (var 3) (var 6) (var 7) (var 8)))))
    (mul (add (var 7) (neg (mul (var 3) (var 8)))) (turn_expr (var 0) (var 1) (var 2) (var 3) (var 4) (var 5)))
    refl

-- and of its part from a, up to m
pub turn_at_start : (a b m : Corner) (p : Point)
    → (b.y -ℤ a.y) *ℤ turn_at a m p -ℤ (m.y -ℤ a.y) *ℤ turn_at a b p ≡ (a.y *ℤ p.d -ℤ p.y) *ℤ turn a b m
turn_at_start a b m p =
    same_by (a.x ∷ a.y ∷ b.x ∷ b.y ∷ m.x ∷ m.y ∷ p.x ∷ p.y ∷ p.d ∷ [])
    (add
    (mul (add (var 3) (neg (var 1))) (turn_at_expr (var 0) (var 1) (var 4) (var 5) (var 6) (var 7) (var 8)))
    (neg (mul (add (var 5) (neg (var 1))) (turn_at_expr (var 0) (var 1) (var 2) (var 3) (var 6) (var 7) (var 8)))))
    (mul (add (mul (var 1) (var 8)) (neg (var 7))) (turn_expr (var 0) (var 1) (var 2) (var 3) (var 4) (var 5)))
    refl

-- a corner on an edge is on its line, at heights between its ends'
pub corner_on_line : (a b m : Corner) → IsOnEdge (corner_point m) a b → turn a b m ≡ pos 0
corner_on_line a b m h = sym (turn_at_corner a b m) ∙ h.on_line

pub corner_from_y : (a b m : Corner) → IsOnEdge (corner_point m) a b → int_min a.y b.y ≤ℤ m.y
corner_from_y a b m h = omega (arith, ints, h.from_y)

pub corner_to_y : (a b m : Corner) → IsOnEdge (corner_point m) a b → m.y ≤ℤ int_max a.y b.y
corner_to_y a b m h = omega (arith, ints, h.to_y)
