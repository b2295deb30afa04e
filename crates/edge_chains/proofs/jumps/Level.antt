-- The two points beside a level edge, and how each edge of fully noded rings crosses there.
use Rattle.std.proofs.Common.{◌≡◌, ◌⊎◌, inl, inr, ⊎_elim, refl, sym, ◌∙◌, ap, subst, arith, if◌then◌else◌}
use Rattle.std.proofs.Common.{◌&&◌, ℤ, pos, negsuc, ◌-ℤ◌, ◌*ℤ◌, List, [], ◌∷◌}
use Rattle.std.specs.Bool.{Decides}
use Rattle.std.specs.Ordering.{int_eq}
use Rattle.std.proofs.lemmas.Int.{ints, clamps, by_lt_z}
use Rattle.std.proofs.lemmas.Bool.Decides.{Decides-and, Decides-int_eq}
use lib.Signed.{◌<ℤ◌, ◌≤ℤ◌, lt_z}
use Rattle.geo_exact.specs.declared.corner.Corner.{Corner}
use Rattle.geo_exact.specs.Point.{Point}
use Rattle.geo_exact.specs.Turn.{turn, IsOnEdge}
use Rattle.geo_exact.specs.Winding.{crossing}
use Rattle.geo_exact.specs.Segments.{IsStrictlyInside, IsOnSegment}
use Rattle.geo_exact.proofs.corners_and_turns.SameCorner.{corner_same}
use Rattle.geo_exact.proofs.corners_and_turns.CornerOrder.{false_where}
use Rattle.geo_exact.proofs.corners_and_turns.TurnLaws.{turn_at_corner}
use Rattle.geo_exact.proofs.corners_and_turns.OnEdge.{on_edge_back}
use Rattle.geo_exact.proofs.rings.EdgeSums.{edge_of}
use Rattle.geo_exact.proofs.numbers.Orders.{Decides-int_lt}
use Rattle.geo_exact.proofs.numbers.Signs.{mul_pos, mul_neg}
use Rattle.geo_exact.proofs.numbers.Polynomials.{Expr, var, lit, mul, sub, same_by}
use Rattle.edge_chains.specs.Net.{net_of_edges}
use Rattle.edge_chains.specs.Jump.{Joins}
use Rattle.edge_chains.proofs.edges.Segments.{above_has_none, below_has_none, farther_has_none, nearer_has_none}
use Rattle.edge_chains.proofs.jumps.Beside.{near, cross, step_past, step_short, IsShort, AreLeft, AreRight}
use Rattle.edge_chains.proofs.jumps.Beside.{AreOnOneSide, AreOnSide, near_side, near_next_side, one_side}
use Rattle.edge_chains.proofs.jumps.EdgeJumps.{AreClear, AreClear-back, strictly_at_height, equal_x, equal_y}
use Rattle.edge_chains.proofs.jumps.EdgeJumps.{IsHigher, IsLower, up_one, up_none, down_one, down_none, none_below, none_above}
use Rattle.edge_chains.proofs.jumps.EdgeJumps.{up_alike, net_none, net_one, IsEdgeJump, jump_of, no_jump, jump_back}
use Rattle.edge_chains.proofs.jumps.EdgeJumps.{one_side_has_none, joins_back}

abbrev pub above_of : Corner → Corner → Point
above_of a b = near a b (pos 0) (pos 1)

abbrev pub below_of : Corner → Corner → Point
below_of a b = near a b (pos 0) (negsuc 0)

-- a level edge, from left to right
pub record IsLevel (a b : Corner) : Type 0 where
  pub same_height : b.y ≡ a.y
  pub to_right : a.x <ℤ b.x

short_up : IsShort (pos 0) (pos 1)
short_up u v = record { low = omega (arith, ints); high = omega (arith, ints) }

short_down : IsShort (pos 0) (negsuc 0)
short_down u v = record { low = omega (arith, ints); high = omega (arith, ints) }

-- ---- on which side of an edge the two points are
-- an edge that passes a's height has both on one side
past_sides : (a b u v : Corner) → AreClear a b u v → u.y <ℤ a.y → a.y <ℤ v.y → AreOnOneSide u v (above_of a b) (below_of a b)
past_sides a b u v h l k =
    ⊎_elim (λ s. s.0)
    (λ t. absurd (h.a_is_out (strictly_at_height u v a t (omega (arith, ints)) k (λ e. omega (arith, ints, equal_y e)))))
    (one_side (turn u v a) u v (above_of a b) (below_of a b)
    (near_side u v a b (pos 0) (pos 1) (pos 0) (negsuc 0) short_up short_down))

-- the turn from u v to a, where u and a are at one height, as two products
abbrev start_expr : Expr
start_expr = sub (mul (sub (var 1) (var 0)) (sub (var 4) (var 4))) (mul (sub (var 2) (var 4)) (sub (var 3) (var 0)))

start_turn : (ux uy vx vy ax ay : ℤ) → uy ≡ ay
    → ((vx -ℤ ux) *ℤ (ay -ℤ uy) -ℤ (vy -ℤ uy) *ℤ (ax -ℤ ux) ≡ (ux -ℤ ax) *ℤ (vy -ℤ ay))
    × ((vx -ℤ ux) *ℤ (ay -ℤ uy) -ℤ (vy -ℤ uy) *ℤ (ax -ℤ ux) ≡ (ax -ℤ ux) *ℤ (ay -ℤ vy))
start_turn ux uy vx vy ax ay e =
    let t = ap (λ z. (vx -ℤ ux) *ℤ (ay -ℤ z) -ℤ (vy -ℤ z) *ℤ (ax -ℤ ux)) e in
    let unknowns : List ℤ = ux ∷ vx ∷ vy ∷ ax ∷ ay ∷ [] in (
      t ∙ same_by unknowns start_expr (mul (sub (var 0) (var 3)) (sub (var 2) (var 4))) refl,
      t ∙ same_by unknowns start_expr (mul (sub (var 3) (var 0)) (sub (var 4) (var 2))) refl,
    )

-- how the directions of u v and a b turn, where a and b are at one height, and u is too
level_cross : (ux uy vx vy ax ay bx by : ℤ) → by ≡ ay → uy ≡ ay
    → (vx -ℤ ux) *ℤ (by -ℤ ay) -ℤ (vy -ℤ uy) *ℤ (bx -ℤ ax) ≡ (bx -ℤ ax) *ℤ (ay -ℤ vy)
level_cross ux uy vx vy ax ay bx by e f =
    ap (λ z. (vx -ℤ ux) *ℤ (z -ℤ ay) -ℤ (vy -ℤ uy) *ℤ (bx -ℤ ax)) e
    ∙ ap (λ z. (vx -ℤ ux) *ℤ (ay -ℤ ay) -ℤ (vy -ℤ z) *ℤ (bx -ℤ ax)) f
    ∙ same_by (ux ∷ vx ∷ vy ∷ ax ∷ ay ∷ bx ∷ [])
    (sub (mul (sub (var 1) (var 0)) (sub (var 4) (var 4))) (mul (sub (var 2) (var 4)) (sub (var 5) (var 3))))
    (mul (sub (var 5) (var 3)) (sub (var 4) (var 2))) refl

-- a number that is a positive multiple of z names the side that z names
side_of_factor : (k z t : ℤ) (u v : Corner) (l r : Point) → t ≡ k *ℤ z → pos 0 <ℤ k → AreOnSide t u v l r
    → AreOnSide z u v l r
side_of_factor k z t u v l r e h s = record {
  left = λ p. s.left (subst (λ w. pos 0 <ℤ w) (sym e) (mul_pos k z h p));
  right = λ p. s.right (subst (λ w. w <ℤ pos 0) (sym e) (mul_neg k z h p));
}

-- an edge that begins at a's height has both on the side that its way up or down says: where it begins right of a, both are
-- left of the way up; where it begins at a or left of it, both are right of the way up
start_sides : (a b u v : Corner) → IsLevel a b → u.y ≡ a.y
    → ((a.x <ℤ u.x) × AreOnSide (v.y -ℤ a.y) u v (above_of a b) (below_of a b))
    ⊎ ((u.x ≤ℤ a.x) × AreOnSide (a.y -ℤ v.y) u v (above_of a b) (below_of a b))
start_sides a b u v f e =
    let t = start_turn u.x u.y v.x v.y a.x a.y e in
    let s = near_side u v a b (pos 0) (pos 1) (pos 0) (negsuc 0) short_up short_down in
    by_lt_z a.x u.x
    -- right of a
    (λ p. inl (p, side_of_factor (u.x -ℤ a.x) (v.y -ℤ a.y) (turn u v a) u v (above_of a b) (below_of a b) t.0 (omega (arith, ints)) s))
    (λ p. by_lt_z u.x a.x
    -- left of a
    (λ q. inr (p, side_of_factor (a.x -ℤ u.x) (a.y -ℤ v.y) (turn u v a) u v (above_of a b) (below_of a b) t.1 (omega (arith, ints)) s))
    -- at a: the turn is 0, and the directions turn
    (λ q. let none : turn u v a ≡ pos 0 = t.1 ∙ no_factor a.x u.x (a.y -ℤ v.y) p q in
    inr (
      p,
      side_of_factor (b.x -ℤ a.x) (a.y -ℤ v.y) (cross u v a b) u v (above_of a b) (below_of a b)
          (level_cross u.x u.y v.x v.y a.x a.y b.x b.y f.same_height e) (omega (arith, ints, f.to_right))
          (near_next_side u v a b (pos 0) (pos 1) (pos 0) (negsuc 0) short_up short_down none),
    )))
  where
    no_factor : (x y z : ℤ) → y ≤ℤ x → x ≤ℤ y → (x -ℤ y) *ℤ z ≡ pos 0
    no_factor x y z h k = let e : x -ℤ y ≡ pos 0 = omega (arith, ints) in rw e (omega (arith, ints))

-- of an edge that goes up from a's height
rising_sides : (a b u v : Corner) → IsLevel a b → u.y ≡ a.y → a.y <ℤ v.y
    → ((a.x <ℤ u.x) × AreLeft u v (above_of a b) (below_of a b)) ⊎ ((u.x ≤ℤ a.x) × AreRight u v (above_of a b) (below_of a b))
rising_sides a b u v f e k =
    ⊎_elim (λ s. inl (s.0, s.1.left (omega (arith, ints)))) (λ s. inr (s.0, s.1.right (omega (arith, ints))))
    (start_sides a b u v f e)

-- of an edge that goes down from a's height
falling_sides : (a b u v : Corner) → IsLevel a b → u.y ≡ a.y → v.y <ℤ a.y
    → ((a.x <ℤ u.x) × AreRight u v (above_of a b) (below_of a b)) ⊎ ((u.x ≤ℤ a.x) × AreLeft u v (above_of a b) (below_of a b))
falling_sides a b u v f e k =
    ⊎_elim (λ s. inl (s.0, s.1.right (omega (arith, ints)))) (λ s. inr (s.0, s.1.left (omega (arith, ints))))
    (start_sides a b u v f e)

-- ---- what a corner right of a at its height takes off: the sum round a ring is 0
abbrev pub shift : Corner → Corner → ℤ
shift a w = if int_eq w.y a.y && lt_z a.x w.x then negsuc 0 else pos 0

Decides-right : (a w : Corner) → Decides (int_eq w.y a.y && lt_z a.x w.x) ((w.y ≡ a.y) × (a.x <ℤ w.x))
Decides-right a w = Decides-and (int_eq w.y a.y) (lt_z a.x w.x) (Decides-int_eq w.y a.y) (Decides-int_lt a.x w.x)

shift_one : (a w : Corner) → w.y ≡ a.y → a.x <ℤ w.x → shift a w ≡ negsuc 0
shift_one a w h k = ap (λ t. if t then negsuc 0 else pos 0) ((Decides-right a w).1 (h, k))

shift_none : (a w : Corner) → ((w.y ≡ a.y) × (a.x <ℤ w.x) → ⊥) → shift a w ≡ pos 0
shift_none a w h = ap (λ t. if t then negsuc 0 else pos 0) (false_where (int_eq w.y a.y && lt_z a.x w.x) (Decides-right a w) h)

other_height : (a w : Corner) → (w.y ≡ a.y → ⊥) → shift a w ≡ pos 0
other_height a w h = shift_none a w (λ e. h e.0)

-- ---- heights
-- the point above is higher than a corner that isn't above a, and lower than one that is
above_higher : (a b w : Corner) → IsLevel a b → w.y ≤ℤ a.y → IsHigher (above_of a b) w
above_higher a b w f h = omega (arith, ints, f.same_height)

above_lower : (a b w : Corner) → IsLevel a b → a.y <ℤ w.y → IsLower (above_of a b) w
above_lower a b w f h = omega (arith, ints, f.same_height)

-- the point below is higher than a corner that is below a, and lower than one that isn't
below_higher : (a b w : Corner) → IsLevel a b → w.y <ℤ a.y → IsHigher (below_of a b) w
below_higher a b w f h = omega (arith, ints, f.same_height)

below_lower : (a b w : Corner) → IsLevel a b → a.y ≤ℤ w.y → IsLower (below_of a b) w
below_lower a b w f h = omega (arith, ints, f.same_height)

-- how an edge, or the turned edge, lies to a's height; of those at this height, where they begin
data Lies (a u v : Corner) : Type 0 where
  under : u.y <ℤ a.y → v.y <ℤ a.y → Lies a u v
  past : u.y <ℤ a.y → a.y <ℤ v.y → Lies a u v
  over : a.y <ℤ u.y → a.y <ℤ v.y → Lies a u v
  rising : u.y ≡ a.y → a.y <ℤ v.y → Lies a u v
  falling : u.y ≡ a.y → v.y <ℤ a.y → Lies a u v
  along : u.y ≡ a.y → v.y ≡ a.y → u.x ≤ℤ a.x → Lies a u v
  behind : u.y ≡ a.y → v.y ≡ a.y → a.x <ℤ u.x → a.x <ℤ v.x → Lies a u v

-- a number is below another, the same or above it
by_height : {P : Type 0} (y h : ℤ) → (y <ℤ h → P) → (y ≡ h → P) → (h <ℤ y → P) → P
by_height y h f g k = by_lt_z y h f (λ p. by_lt_z h y k (λ q. g (omega (arith, ints))))

lies_level : (a u v : Corner) → u.y ≡ a.y → v.y ≡ a.y → Lies a u v ⊎ Lies a v u
lies_level a u v e g = by_lt_z a.x u.x
    (λ i. by_lt_z a.x v.x (λ j. inl (behind e g i j)) (λ j. inr (along g e j)))
    (λ i. inl (along e g i))

lies : (a u v : Corner) → Lies a u v ⊎ Lies a v u
lies a u v = by_height u.y a.y
    (λ p. by_height v.y a.y (λ q. inl (under p q)) (λ q. inr (falling q p)) (λ q. inl (past p q)))
    (λ p. by_height v.y a.y (λ q. inl (falling p q)) (λ q. lies_level a u v p q) (λ q. inl (rising p q)))
    (λ p. by_height v.y a.y (λ q. inr (past q p)) (λ q. inr (rising q p)) (λ q. inl (over p q)))

-- ---- an edge along a's height
-- three corners at one height are on a line
level_line : (ux uy vx vy cx cy : ℤ) → vy ≡ uy → cy ≡ uy
    → (vx -ℤ ux) *ℤ (cy -ℤ uy) -ℤ (vy -ℤ uy) *ℤ (cx -ℤ ux) ≡ pos 0
level_line ux uy vx vy cx cy e f =
    ap (λ z. (vx -ℤ ux) *ℤ (cy -ℤ uy) -ℤ (z -ℤ uy) *ℤ (cx -ℤ ux)) e
    ∙ ap (λ z. (vx -ℤ ux) *ℤ (z -ℤ uy) -ℤ (uy -ℤ uy) *ℤ (cx -ℤ ux)) f
    ∙ same_by (ux ∷ uy ∷ vx ∷ cx ∷ [])
    (sub (mul (sub (var 2) (var 0)) (sub (var 1) (var 1))) (mul (sub (var 1) (var 1)) (sub (var 3) (var 0))))
    (lit (pos 0)) refl

-- a corner between the ends of a level edge, at its height, is inside the edge
inside_level : (u v c : Corner) → v.y ≡ u.y → c.y ≡ u.y → u.x <ℤ c.x → c.x <ℤ v.x → IsStrictlyInside c u v
inside_level u v c e f l k = record {
  on_edge = record {
    on_line = turn_at_corner u v c ∙ level_line u.x u.y v.x v.y c.x c.y e f;
    from_x = omega (arith, ints, clamps);
    to_x = omega (arith, ints, clamps);
    from_y = omega (arith, ints, clamps);
    to_y = omega (arith, ints, clamps);
  };
  not_start = λ s. omega (arith, ints, equal_x s);
  not_end = λ s. omega (arith, ints, equal_x s);
}

-- an edge at a's height, from a or left of it to the right, is the edge a b
is_the_edge : (a b u v : Corner) → IsLevel a b → AreClear a b u v → u.y ≡ a.y → v.y ≡ a.y → u.x ≤ℤ a.x → a.x <ℤ v.x
    → (u ≡ a) × (v ≡ b)
is_the_edge a b u v f h e g l k = (
  -- u left of a: a would be inside u v
  by_lt_z u.x a.x (λ p. absurd (h.a_is_out (inside_level u v a (g ∙ sym e) (sym e) p k)))
      (λ p. corner_same u a (omega (arith, ints)) e),
  by_lt_z v.x b.x
      -- v left of b: it would be inside a b
      (λ p. absurd (h.v_is_out (inside_level a b v f.same_height g k p)))
      (λ p. by_lt_z b.x v.x
      -- b left of v: it would be inside u v
      (λ q. absurd (h.b_is_out (inside_level u v b (g ∙ sym e) (f.same_height ∙ sym e) (omega (arith, ints, f.to_right)) q)))
      (λ q. corner_same v b (omega (arith, ints)) (g ∙ sym f.same_height))),
)

-- ---- crossings
abbrev LevelJump : Corner → Corner → Corner → Corner → Type 0
LevelJump a b u v = IsEdgeJump (shift a) (above_of a b) (below_of a b) a b u v

-- an edge that ends at another height is neither a b nor b a
no_end : (a b u v : Corner) → IsLevel a b → (v.y ≡ a.y → ⊥) → net_of_edges (edge_of u v ∷ []) a b ≡ pos 0
no_end a b u v f h = net_none a b u v (λ e. h (equal_y e.1 ∙ f.same_height)) (λ e. h (equal_y e.1))

-- an edge at a's height crosses at neither point
none_level : (a b u v : Corner) → IsLevel a b → u.y ≡ a.y → v.y ≡ a.y
    → (crossing (above_of a b) u v ≡ pos 0) × (crossing (below_of a b) u v ≡ pos 0)
none_level a b u v f e g = (
  none_below (above_of a b) u v (above_higher a b u f (omega (arith, ints))) (above_higher a b v f (omega (arith, ints))),
  none_above (below_of a b) u v (below_lower a b u f (omega (arith, ints))) (below_lower a b v f (omega (arith, ints))),
)

jump_rising : (a b u v : Corner) → IsLevel a b → u.y ≡ a.y → a.y <ℤ v.y → LevelJump a b u v
jump_rising a b u v f e k =
    let i = above_higher a b u f (omega (arith, ints)) in
    let j = above_lower a b v f k in
    let below = none_above (below_of a b) u v (below_lower a b u f (omega (arith, ints))) (below_lower a b v f (omega (arith, ints))) in
    let end = other_height a v (λ d. omega (arith, ints)) in
    let net = no_end a b u v f (λ d. omega (arith, ints)) in
    ⊎_elim
    (λ s. jump_of (shift a) (above_of a b) (below_of a b) a b u v
    (up_one (above_of a b) u v i j s.1.0) below end (shift_one a u e s.0) net refl)
    (λ s. jump_of (shift a) (above_of a b) (below_of a b) a b u v
    (up_none (above_of a b) u v i j s.1.0) below end (shift_none a u (λ d. omega (arith, ints, d.1, s.0))) net refl)
    (rising_sides a b u v f e k)

jump_falling : (a b u v : Corner) → IsLevel a b → u.y ≡ a.y → v.y <ℤ a.y → LevelJump a b u v
jump_falling a b u v f e k =
    let i = below_lower a b u f (omega (arith, ints)) in
    let j = below_higher a b v f k in
    let above = none_below (above_of a b) u v (above_higher a b u f (omega (arith, ints))) (above_higher a b v f (omega (arith, ints))) in
    let end = other_height a v (λ d. omega (arith, ints)) in
    let net = no_end a b u v f (λ d. omega (arith, ints)) in
    ⊎_elim
    (λ s. jump_of (shift a) (above_of a b) (below_of a b) a b u v
    above (down_one (below_of a b) u v i j s.1.1) end (shift_one a u e s.0) net refl)
    (λ s. jump_of (shift a) (above_of a b) (below_of a b) a b u v
    above (down_none (below_of a b) u v i j s.1.1) end (shift_none a u (λ d. omega (arith, ints, d.1, s.0))) net refl)
    (falling_sides a b u v f e k)

jump_along : (a b u v : Corner) → IsLevel a b → AreClear a b u v → u.y ≡ a.y → v.y ≡ a.y → u.x ≤ℤ a.x
    → LevelJump a b u v
jump_along a b u v f h e g l =
    let none = none_level a b u v f e g in
    let start = shift_none a u (λ s. let m = s.1 in omega (arith, ints)) in
    by_lt_z a.x v.x
    -- it ends right of a: it is the edge a b
    (λ p. jump_of (shift a) (above_of a b) (below_of a b) a b u v none.0 none.1 (shift_one a v g p) start
    (net_one a b u v (is_the_edge a b u v f h e g l p) (λ t. omega (arith, ints, f.to_right, equal_x t.0))) refl)
    -- it ends at a or left of it
    (λ p. jump_of (shift a) (above_of a b) (below_of a b) a b u v none.0 none.1
    (shift_none a v (λ s. let m = s.1 in omega (arith, ints))) start
    (net_none a b u v (λ t. omega (arith, ints, f.to_right, equal_x t.1)) (λ t. omega (arith, ints, f.to_right, equal_x t.0))) refl)

jump_lying : (a b u v : Corner) → IsLevel a b → AreClear a b u v → Lies a u v → LevelJump a b u v
jump_lying a b u v f h (under p q) =
    no_jump (shift a) (above_of a b) (below_of a b) a b u v
    (none_below (above_of a b) u v (above_higher a b u f (omega (arith, ints))) (above_higher a b v f (omega (arith, ints)))
    ∙ sym (none_below (below_of a b) u v (below_higher a b u f p) (below_higher a b v f q)))
    (other_height a v (λ d. omega (arith, ints)) ∙ sym (other_height a u (λ d. omega (arith, ints))))
    (no_end a b u v f (λ d. omega (arith, ints)))
jump_lying a b u v f h (past p q) =
    no_jump (shift a) (above_of a b) (below_of a b) a b u v
    (up_alike u v (above_of a b) (below_of a b) (above_higher a b u f (omega (arith, ints))) (below_higher a b u f p)
    (above_lower a b v f q) (below_lower a b v f (omega (arith, ints))) (past_sides a b u v h p q))
    (other_height a v (λ d. omega (arith, ints)) ∙ sym (other_height a u (λ d. omega (arith, ints))))
    (no_end a b u v f (λ d. omega (arith, ints)))
jump_lying a b u v f h (over p q) =
    no_jump (shift a) (above_of a b) (below_of a b) a b u v
    (none_above (above_of a b) u v (above_lower a b u f p) (above_lower a b v f q)
    ∙ sym (none_above (below_of a b) u v (below_lower a b u f (omega (arith, ints))) (below_lower a b v f (omega (arith, ints)))))
    (other_height a v (λ d. omega (arith, ints)) ∙ sym (other_height a u (λ d. omega (arith, ints))))
    (no_end a b u v f (λ d. omega (arith, ints)))
jump_lying a b u v f h (rising p q) = jump_rising a b u v f p q
jump_lying a b u v f h (falling p q) = jump_falling a b u v f p q
jump_lying a b u v f h (along p q i) = jump_along a b u v f h p q i
jump_lying a b u v f h (behind p q i j) =
    let none = none_level a b u v f p q in
    jump_of (shift a) (above_of a b) (below_of a b) a b u v none.0 none.1 (shift_one a v q j) (shift_one a u p i)
    (net_none a b u v (λ t. omega (arith, ints, equal_x t.0)) (λ t. omega (arith, ints, equal_x t.1))) refl

-- each clear edge changes by its net count and by what its ends take off
pub level_jump : (a b u v : Corner) → IsLevel a b → AreClear a b u v → LevelJump a b u v
level_jump a b u v f h =
    ⊎_elim (λ s. jump_lying a b u v f h s)
    (λ s. jump_back (shift a) (above_of a b) (below_of a b) a b u v (jump_lying a b v u f (AreClear-back a b u v h) s))
    (lies a u v)

-- ---- the edges that the segment between the two points meets
meets_under : (a b u v : Corner) (q : Point) → IsLevel a b → u.y <ℤ a.y → v.y <ℤ a.y
    → IsOnSegment q (above_of a b) (below_of a b) → ¬ IsOnEdge q u v
meets_under a b u v q f h k s = above_has_none u v q (above_of a b) (below_of a b) s
    (above_higher a b u f (omega (arith, ints))) (below_higher a b u f h)
    (above_higher a b v f (omega (arith, ints))) (below_higher a b v f k)

meets_over : (a b u v : Corner) (q : Point) → IsLevel a b → a.y <ℤ u.y → a.y <ℤ v.y
    → IsOnSegment q (above_of a b) (below_of a b) → ¬ IsOnEdge q u v
meets_over a b u v q f h k s = below_has_none u v q (above_of a b) (below_of a b) s
    (above_lower a b u f h) (below_lower a b u f (omega (arith, ints)))
    (above_lower a b v f k) (below_lower a b v f (omega (arith, ints)))

-- an edge at a's height that begins at a or left of it, and meets the segment, is the edge a b
meets_along : (a b u v : Corner) (q : Point) → IsLevel a b → AreClear a b u v → u.y ≡ a.y → v.y ≡ a.y → u.x ≤ℤ a.x
    → IsOnSegment q (above_of a b) (below_of a b) → IsOnEdge q u v → (u ≡ a) × (v ≡ b)
meets_along a b u v q f h e g l s o = by_lt_z a.x v.x
    (λ p. is_the_edge a b u v f h e g l p)
    (λ p. let i = step_past a.x b.x u.x f.to_right l in let j = step_past a.x b.x v.x f.to_right p in
    absurd (farther_has_none u v q (above_of a b) (below_of a b) s i i j j o))

meets_behind : (a b u v : Corner) (q : Point) → a.x <ℤ u.x → a.x <ℤ v.x → IsOnSegment q (above_of a b) (below_of a b)
    → ¬ IsOnEdge q u v
meets_behind a b u v q h k s =
    let i = step_short a.x b.x u.x a.x_in_range b.x_in_range h in
    let j = step_short a.x b.x v.x a.x_in_range b.x_in_range k in
    nearer_has_none u v q (above_of a b) (below_of a b) s i i j j

meets_lying : (a b u v : Corner) (q : Point) → IsLevel a b → AreClear a b u v → Lies a u v
    → IsOnSegment q (above_of a b) (below_of a b) → IsOnEdge q u v → Joins (edge_of u v) a b
meets_lying a b u v q f h (under i j) s e = absurd (meets_under a b u v q f i j s e)
meets_lying a b u v q f h (past i j) s e =
    absurd (one_side_has_none u v (above_of a b) (below_of a b) q (past_sides a b u v h i j) s e)
meets_lying a b u v q f h (over i j) s e = absurd (meets_over a b u v q f i j s e)
meets_lying a b u v q f h (rising i j) s e =
    absurd (one_side_has_none u v (above_of a b) (below_of a b) q
    (⊎_elim (λ o. inl o.1) (λ o. inr o.1) (rising_sides a b u v f i j)) s e)
meets_lying a b u v q f h (falling i j) s e =
    absurd (one_side_has_none u v (above_of a b) (below_of a b) q
    (⊎_elim (λ o. inr o.1) (λ o. inl o.1) (falling_sides a b u v f i j)) s e)
meets_lying a b u v q f h (along i j k) s e = inl (meets_along a b u v q f h i j k s e)
meets_lying a b u v q f h (behind i j k m) s e = absurd (meets_behind a b u v q k m s e)

-- a clear edge that it meets is the edge a b, in one direction or the other
pub level_meets : (a b u v : Corner) (q : Point) → IsLevel a b → AreClear a b u v
    → IsOnSegment q (above_of a b) (below_of a b) → IsOnEdge q u v → Joins (edge_of u v) a b
level_meets a b u v q f h s e =
    ⊎_elim (λ o. meets_lying a b u v q f h o s e)
    (λ o. joins_back a b u v (meets_lying a b v u q f (AreClear-back a b u v h) o s (on_edge_back u v q e)))
    (lies a u v)
