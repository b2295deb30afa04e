-- The two points beside an edge that isn't level, and how each edge of fully noded rings crosses there.
use Rattle.std.proofs.Common.{◌≡◌, ◌⊎◌, inl, inr, ⊎_elim, refl, sym, ◌∙◌, ap, subst, arith, ℤ, pos, negsuc}
use Rattle.std.proofs.Common.{◌-ℤ◌, ◌*ℤ◌, neg_ℤ, [], ◌∷◌}
use Rattle.std.proofs.lemmas.Int.{ints, by_lt_z}
use lib.Signed.{◌<ℤ◌, ◌≤ℤ◌}
use Rattle.geo_exact.specs.declared.corner.Corner.{Corner}
use Rattle.geo_exact.specs.Point.{Point}
use Rattle.geo_exact.specs.Turn.{turn, turn_at, IsOnEdge}
use Rattle.geo_exact.specs.Order.{is_same}
use Rattle.geo_exact.specs.Segments.{IsOnSegment}
use Rattle.geo_exact.proofs.corners_and_turns.SameCorner.{corner_same}
use Rattle.geo_exact.proofs.corners_and_turns.CornerOrder.{cases_of, Decides-is_same}
use Rattle.geo_exact.proofs.corners_and_turns.TurnLaws.{turn_cycle, turn_swap}
use Rattle.geo_exact.proofs.corners_and_turns.OnEdge.{on_edge_back, starts_on}
use Rattle.geo_exact.proofs.rings.EdgeSums.{edge_of}
use Rattle.geo_exact.proofs.numbers.Signs.{zero_of_mul}
use Rattle.geo_exact.proofs.numbers.Polynomials.{var, lit, add, mul, neg, same_by}
use Rattle.edge_chains.specs.Jump.{Joins}
use Rattle.edge_chains.proofs.edges.Segments.{above_has_none, below_has_none}
use Rattle.edge_chains.proofs.jumps.Beside.{near, cross, push, turn_near, last_one, step_past, step_short, IsShort}
use Rattle.edge_chains.proofs.jumps.Beside.{AreOnOneSide, near_side, near_next_side, one_side}
use Rattle.edge_chains.proofs.jumps.EdgeJumps.{AreClear, AreClear-back, strictly_at_height, equal_y, IsHigher, IsLower}
use Rattle.edge_chains.proofs.jumps.EdgeJumps.{up_one, up_none, none_below, none_above, up_alike, net_none, net_one}
use Rattle.edge_chains.proofs.jumps.EdgeJumps.{IsEdgeJump, jump_of, no_jump, jump_back, one_side_has_none, joins_back}

abbrev pub left_of : Corner → Corner → Point
left_of a b = near a b (negsuc 0) (pos 0)

abbrev pub right_of : Corner → Corner → Point
right_of a b = near a b (pos 1) (pos 0)

short_left : IsShort (negsuc 0) (pos 0)
short_left u v = record { low = omega (arith, ints); high = omega (arith, ints) }

short_right : IsShort (pos 1) (pos 0)
short_right u v = record { low = omega (arith, ints); high = omega (arith, ints) }

-- ---- the edge a b itself
-- an edge that passes a's height at a begins there
starts_there : (a b u v : Corner) → AreClear a b u v → turn u v a ≡ pos 0 → u.y ≤ℤ a.y → a.y <ℤ v.y → u ≡ a
starts_there a b u v h t l k =
    ⊎_elim (λ e. e)
    (λ n. absurd (h.a_is_out (strictly_at_height u v a t l k (λ e. let m = (Decides-is_same u a).1 (sym e) in cc))))
    (cases_of (is_same u a) (Decides-is_same u a))

swap_turn : (a b c : Corner) → turn a c b ≡ neg_ℤ (turn a b c)
swap_turn a b c = turn_cycle b a c ∙ turn_swap a b c

-- the turn from a v to b, where v and b are at one height
level_turn : (ax ay bx by vx vy : ℤ) → vy ≡ by → (vx -ℤ ax) *ℤ (by -ℤ ay) -ℤ (vy -ℤ ay) *ℤ (bx -ℤ ax)
    ≡ (by -ℤ ay) *ℤ (vx -ℤ bx)
level_turn ax ay bx by vx vy e =
    ap (λ z. (vx -ℤ ax) *ℤ (by -ℤ ay) -ℤ (z -ℤ ay) *ℤ (bx -ℤ ax)) e
    ∙ same_by (ax ∷ ay ∷ bx ∷ by ∷ vx ∷ [])
    (add (mul (add (var 4) (neg (var 0))) (add (var 3) (neg (var 1)))) (neg (mul (add (var 3) (neg (var 1))) (add (var 2) (neg (var 0))))))
    (mul (add (var 3) (neg (var 1))) (add (var 4) (neg (var 2)))) refl

-- an edge from a that goes up along the edge a b is that edge
ends_there : (a b v : Corner) → a.y <ℤ b.y → AreClear a b a v → a.y <ℤ v.y → turn a v b ≡ pos 0 → v ≡ b
ends_there a b v up h k t = by_lt_z v.y b.y
    -- v is lower than b: it would be inside a b
    (λ p. absurd (h.v_is_out (strictly_at_height a b v (swap_turn a v b ∙ ap neg_ℤ t) (omega (arith, ints)) p
    (λ e. omega (arith, ints, equal_y e)))))
    (λ p. by_lt_z b.y v.y
    -- b is lower than v: it would be inside a v
    (λ q. absurd (h.b_is_out (strictly_at_height a v b t (omega (arith, ints)) q (λ e. omega (arith, ints, equal_y e)))))
    -- they are at one height
    (λ q. let y : v.y ≡ b.y = omega (arith, ints) in
    corner_same v b (same v.x b.x (zero_of_mul (b.y -ℤ a.y) (v.x -ℤ b.x) (λ z. omega (arith, ints))
    (sym (level_turn a.x a.y b.x b.y v.x v.y y) ∙ t))) y))
  where
    same : (u v : ℤ) → u -ℤ v ≡ pos 0 → u ≡ v
    same u v h = omega (arith, ints)

-- ---- the sides of an edge
-- both points are on one side of u v, and P doesn't hold; or P does, and u v passes between them
abbrev Sides : Corner → Corner → Point → Point → Type 0 → Type 0
Sides u v l r P = (AreOnOneSide u v l r × (P → ⊥)) ⊎ (P × (pos 0 <ℤ turn_at u v l) × (turn_at u v r <ℤ pos 0))

pub cross_itself : (a b : Corner) → cross a b a b ≡ pos 0
cross_itself a b =
    same_by (a.x ∷ a.y ∷ b.x ∷ b.y ∷ [])
    (add (mul (add (var 2) (neg (var 0))) (add (var 3) (neg (var 1))))
    (neg (mul (add (var 3) (neg (var 1))) (add (var 2) (neg (var 0)))))) (lit (pos 0)) refl

-- where the directions of a v and a b don't turn, a v turns to a near point as to its push
turn_aside : (a b v : Corner) (ex ey : ℤ) → cross a v a b ≡ pos 0 → turn_at a v (near a b ex ey) ≡ push a v ex ey
turn_aside a b v ex ey p = turn_near a v a b ex ey ∙ last_one (turn a v a) (cross a v a b) (push a v ex ey) (starts_on a v) p

-- of an edge from a that goes up: it passes between the two points only as the edge a b
sides_from_start : (a b v : Corner) → a.y <ℤ b.y → AreClear a b a v → a.y <ℤ v.y
    → Sides a v (left_of a b) (right_of a b) ((a ≡ a) × (v ≡ b))
sides_from_start a b v up h k =
    ⊎_elim
    -- the directions of a v and a b turn
    (λ s. inl (s.0, λ e. s.1 (ap (λ c. cross a c a b) e.1 ∙ cross_itself a b)))
    -- they don't
    (λ p. inr (
      (refl, ends_there a b v up h k p),
      subst (λ z. pos 0 <ℤ z) (sym (turn_aside a b v (negsuc 0) (pos 0) p)) (omega (arith, ints)),
      subst (λ z. z <ℤ pos 0) (sym (turn_aside a b v (pos 1) (pos 0) p)) (omega (arith, ints)),
    ))
    (one_side (cross a v a b) a v (left_of a b) (right_of a b)
    (near_next_side a v a b (negsuc 0) (pos 0) (pos 1) (pos 0) short_left short_right (starts_on a v)))

-- of an edge that goes up past a's height: it passes between the two points only as the edge a b
steep_sides : (a b u v : Corner) → a.y <ℤ b.y → AreClear a b u v → u.y ≤ℤ a.y → a.y <ℤ v.y
    → Sides u v (left_of a b) (right_of a b) ((u ≡ a) × (v ≡ b))
steep_sides a b u v up h l k =
    ⊎_elim
    -- a is off the line of u v
    (λ s. inl (s.0, λ e. s.1 (ap (λ c. turn c v a) e.0 ∙ starts_on a v)))
    -- it is on the line: u v begins at a
    (λ t. let e = starts_there a b u v h t l k in
    subst (λ c. Sides c v (left_of a b) (right_of a b) ((c ≡ a) × (v ≡ b))) (sym e)
    (sides_from_start a b v up (subst (λ c. AreClear a b c v) e h) k))
    (one_side (turn u v a) u v (left_of a b) (right_of a b)
    (near_side u v a b (negsuc 0) (pos 0) (pos 1) (pos 0) short_left short_right))

-- ---- heights, which both points have alike
higher : (a b w : Corner) → a.y <ℤ b.y → w.y ≤ℤ a.y → IsHigher (left_of a b) w
higher a b w up h = step_past a.y b.y w.y up h

lower : (a b w : Corner) → a.y <ℤ w.y → IsLower (left_of a b) w
lower a b w h = step_short a.y b.y w.y a.y_in_range b.y_in_range h

-- how an edge, or the turned edge, lies to a's height
data Lies (a u v : Corner) : Type 0 where
  under : u.y ≤ℤ a.y → v.y ≤ℤ a.y → Lies a u v
  past : u.y ≤ℤ a.y → a.y <ℤ v.y → Lies a u v
  over : a.y <ℤ u.y → a.y <ℤ v.y → Lies a u v

lies : (a u v : Corner) → Lies a u v ⊎ Lies a v u
lies a u v = by_lt_z a.y u.y
    (λ p. by_lt_z a.y v.y (λ q. inl (over p q)) (λ q. inr (past q p)))
    (λ p. by_lt_z a.y v.y (λ q. inl (past p q)) (λ q. inl (under p q)))

-- ---- crossings
-- all corners are equally high: what an edge changes is its net count alone
abbrev pub flat : Corner → ℤ
flat c = pos 0

abbrev SteepJump : Corner → Corner → Corner → Corner → Type 0
SteepJump a b u v = IsEdgeJump flat (left_of a b) (right_of a b) a b u v

-- of an edge that goes up past both points
jump_past : (a b u v : Corner) → a.y <ℤ b.y → AreClear a b u v → u.y ≤ℤ a.y → a.y <ℤ v.y → SteepJump a b u v
jump_past a b u v up h l k =
    let i = higher a b u up l in
    let j = lower a b v k in
    let never : (u ≡ b) × (v ≡ a) → ⊥ = λ e. omega (arith, ints, equal_y e.0) in
    ⊎_elim
    (λ s. no_jump flat (left_of a b) (right_of a b) a b u v
    (up_alike u v (left_of a b) (right_of a b) i i j j s.0) refl (net_none a b u v s.1 never))
    (λ s. jump_of flat (left_of a b) (right_of a b) a b u v
    (up_one (left_of a b) u v i j s.1) (up_none (right_of a b) u v i j s.2) refl refl (net_one a b u v s.0 never) refl)
    (steep_sides a b u v up h l k)

jump_lying : (a b u v : Corner) → a.y <ℤ b.y → AreClear a b u v → Lies a u v → SteepJump a b u v
jump_lying a b u v up h (under p q) =
    no_jump flat (left_of a b) (right_of a b) a b u v
    (none_below (left_of a b) u v (higher a b u up p) (higher a b v up q)
    ∙ sym (none_below (right_of a b) u v (higher a b u up p) (higher a b v up q))) refl
    (net_none a b u v (λ e. omega (arith, ints, equal_y e.1)) (λ e. omega (arith, ints, equal_y e.0)))
jump_lying a b u v up h (past p q) = jump_past a b u v up h p q
jump_lying a b u v up h (over p q) =
    no_jump flat (left_of a b) (right_of a b) a b u v
    (none_above (left_of a b) u v (lower a b u p) (lower a b v q)
    ∙ sym (none_above (right_of a b) u v (lower a b u p) (lower a b v q))) refl
    (net_none a b u v (λ e. omega (arith, ints, equal_y e.0)) (λ e. omega (arith, ints, equal_y e.1)))

-- each clear edge changes by its net count
pub steep_jump : (a b u v : Corner) → a.y <ℤ b.y → AreClear a b u v → SteepJump a b u v
steep_jump a b u v up h =
    ⊎_elim (λ s. jump_lying a b u v up h s)
    (λ s. jump_back flat (left_of a b) (right_of a b) a b u v (jump_lying a b v u up (AreClear-back a b u v h) s))
    (lies a u v)

-- ---- the edges that the segment between the two points meets
meets_lying : (a b u v : Corner) (q : Point) → a.y <ℤ b.y → AreClear a b u v → Lies a u v
    → IsOnSegment q (left_of a b) (right_of a b) → IsOnEdge q u v → Joins (edge_of u v) a b
meets_lying a b u v q up h (under i j) s e =
    let k = higher a b u up i in
    let m = higher a b v up j in
    absurd (above_has_none u v q (left_of a b) (right_of a b) s k k m m e)
meets_lying a b u v q up h (past i j) s e =
    ⊎_elim (λ o. absurd (one_side_has_none u v (left_of a b) (right_of a b) q o.0 s e)) (λ o. inl o.0)
    (steep_sides a b u v up h i j)
meets_lying a b u v q up h (over i j) s e =
    let k = lower a b u i in
    let m = lower a b v j in
    absurd (below_has_none u v q (left_of a b) (right_of a b) s k k m m e)

-- a clear edge that it meets is the edge a b, in one direction or the other
pub steep_meets : (a b u v : Corner) (q : Point) → a.y <ℤ b.y → AreClear a b u v
    → IsOnSegment q (left_of a b) (right_of a b) → IsOnEdge q u v → Joins (edge_of u v) a b
steep_meets a b u v q up h s e =
    ⊎_elim (λ o. meets_lying a b u v q up h o s e)
    (λ o. joins_back a b u v (meets_lying a b v u q up (AreClear-back a b u v h) o s (on_edge_back u v q e)))
    (lies a u v)
