-- How the crossings of one edge u v differ between two points beside another edge a b.
use Rattle.std.proofs.Common.{◌≡◌, inl, inr, sym, ◌∙◌, ap, subst, refl, arith, Bool, true, false, if◌then◌else◌}
use Rattle.std.proofs.Common.{◌+◌, ℤ, pos, negsuc, ◌+ℤ◌, ◌-ℤ◌, ◌*ℤ◌, neg_ℤ, [], ◌∷◌}
use Rattle.std.proofs.lemmas.Int.{ints}
use lib.Signed.{◌<ℤ◌, ◌≤ℤ◌, lt_z, le_z}
use Rattle.geo_exact.specs.declared.corner.Corner.{Corner}
use Rattle.geo_exact.specs.Point.{Point, corner_point}
use Rattle.geo_exact.specs.Turn.{turn, turn_at, IsOnEdge}
use Rattle.geo_exact.specs.Winding.{crossing}
use Rattle.geo_exact.specs.Segments.{IsStrictlyInside, IsOnSegment}
use Rattle.geo_exact.proofs.numbers.Orders.{Decides-int_lt, Decides-int_le}
use Rattle.geo_exact.proofs.rings.EdgeSums.{edge_of}
use Rattle.geo_exact.proofs.rings.Crossings.{crossed, crossing_back}
use Rattle.geo_exact.proofs.corners_and_turns.TurnLaws.{turn_at_corner, turn_at_back}
use Rattle.geo_exact.proofs.corners_and_turns.OnEdge.{on_edge_between}
use Rattle.geo_exact.proofs.corners_and_turns.CornerOrder.{false_where}
use Rattle.edge_chains.specs.Counts.{is_same_edge}
use Rattle.edge_chains.specs.Jump.{Joins}
use Rattle.edge_chains.specs.Net.{net_of_edges}
use Rattle.edge_chains.proofs.nets.Changes.{Decides-is_same_edge, net_of_turned}
use Rattle.edge_chains.proofs.edges.Parts.{strictly_back}
use Rattle.edge_chains.proofs.edges.Segments.{left_has_none, right_has_none}
use Rattle.edge_chains.proofs.jumps.Beside.{AreOnOneSide}

-- neither end of the edge a b is inside the edge u v, nor the other way round
pub record AreClear (a b u v : Corner) : Type 0 where
  pub a_is_out : ¬ IsStrictlyInside a u v
  pub b_is_out : ¬ IsStrictlyInside b u v
  pub u_is_out : ¬ IsStrictlyInside u a b
  pub v_is_out : ¬ IsStrictlyInside v a b

pub AreClear-back : (a b u v : Corner) → AreClear a b u v → AreClear a b v u
AreClear-back a b u v h = record {
  a_is_out = λ i. h.a_is_out (strictly_back a v u i);
  b_is_out = λ i. h.b_is_out (strictly_back b v u i);
  u_is_out = h.v_is_out;
  v_is_out = h.u_is_out;
}

-- equal corners have equal coordinates
pub equal_x : {c d : Corner} → c ≡ d → c.x ≡ d.x
equal_x e = ap (λ (s : Corner). s.x) e

pub equal_y : {c d : Corner} → c ≡ d → c.y ≡ d.y
equal_y e = ap (λ (s : Corner). s.y) e

-- a corner on the line of an edge, at a height between those of its ends, is inside the edge
pub strictly_at_height : (u v c : Corner) → turn u v c ≡ pos 0 → u.y ≤ℤ c.y → c.y <ℤ v.y → (c ≡ u → ⊥)
    → IsStrictlyInside c u v
strictly_at_height u v c t l h n = record {
  on_edge = on_edge_between u v (corner_point c) (turn_at_corner u v c ∙ t) (omega (arith, ints)) (omega (arith, ints));
  not_start = n;
  not_end = λ e. omega (arith, ints, equal_y e);
}

-- ---- how an edge crosses the ray from one point
-- p is higher than the corner w
abbrev pub IsHigher : Point → Corner → Type 0
IsHigher p w = (w.y *ℤ p.d) <ℤ p.y

-- p is lower than the corner w
abbrev pub IsLower : Point → Corner → Type 0
IsLower p w = p.y <ℤ (w.y *ℤ p.d)

not_above : (p : Point) (w : Corner) → IsHigher p w → le_z (w.y *ℤ p.d) p.y ≡ true
not_above p w h = (Decides-int_le (w.y *ℤ p.d) p.y).1 (omega (arith, ints))

is_above : (p : Point) (w : Corner) → IsLower p w → le_z (w.y *ℤ p.d) p.y ≡ false
is_above p w h = let e : false ≡ le_z (w.y *ℤ p.d) p.y = omega (arith, ints) in sym e

-- an edge that goes up past p with p on its left crosses once
pub up_one : (p : Point) (u v : Corner) → IsHigher p u → IsLower p v → pos 0 <ℤ turn_at u v p → crossing p u v ≡ pos 1
up_one p u v h k l =
    ap (λ x. crossed x (le_z (v.y *ℤ p.d) p.y) (turn_at u v p)) (not_above p u h)
    ∙ ap (λ x. crossed true x (turn_at u v p)) (is_above p v k)
    ∙ ap (λ x. if x then pos 1 else pos 0) ((Decides-int_lt (pos 0) (turn_at u v p)).1 l)

-- one that goes up past p with p on its right doesn't cross
pub up_none : (p : Point) (u v : Corner) → IsHigher p u → IsLower p v → turn_at u v p <ℤ pos 0 → crossing p u v ≡ pos 0
up_none p u v h k l =
    let none : false ≡ lt_z (pos 0) (turn_at u v p) = omega (arith, ints) in
    ap (λ x. crossed x (le_z (v.y *ℤ p.d) p.y) (turn_at u v p)) (not_above p u h)
    ∙ ap (λ x. crossed true x (turn_at u v p)) (is_above p v k)
    ∙ ap (λ x. if x then pos 1 else pos 0) (sym none)

-- one that goes down past p with p on its right crosses once the other way
pub down_one : (p : Point) (u v : Corner) → IsLower p u → IsHigher p v → turn_at u v p <ℤ pos 0 → crossing p u v ≡ negsuc 0
down_one p u v h k l =
    crossing_back p v u
    ∙ ap neg_ℤ (up_one p v u k h (subst (λ z. pos 0 <ℤ z) (sym (turn_at_back u v p)) (omega (arith, ints))))

-- one that goes down past p with p on its left doesn't cross
pub down_none : (p : Point) (u v : Corner) → IsLower p u → IsHigher p v → pos 0 <ℤ turn_at u v p → crossing p u v ≡ pos 0
down_none p u v h k l =
    crossing_back p v u
    ∙ ap neg_ℤ (up_none p v u k h (subst (λ z. z <ℤ pos 0) (sym (turn_at_back u v p)) (omega (arith, ints))))

-- an edge with both ends below p doesn't cross, nor one with both ends above it
pub none_below : (p : Point) (u v : Corner) → IsHigher p u → IsHigher p v → crossing p u v ≡ pos 0
none_below p u v h k =
    ap (λ x. crossed x (le_z (v.y *ℤ p.d) p.y) (turn_at u v p)) (not_above p u h)
    ∙ ap (λ x. crossed true x (turn_at u v p)) (not_above p v k)

pub none_above : (p : Point) (u v : Corner) → IsLower p u → IsLower p v → crossing p u v ≡ pos 0
none_above p u v h k =
    ap (λ x. crossed x (le_z (v.y *ℤ p.d) p.y) (turn_at u v p)) (is_above p u h)
    ∙ ap (λ x. crossed false x (turn_at u v p)) (is_above p v k)

-- an edge that goes up past two points on one side of it crosses alike at both
pub up_alike : (u v : Corner) (l r : Point) → IsHigher l u → IsHigher r u → IsLower l v → IsLower r v
    → AreOnOneSide u v l r → crossing l u v ≡ crossing r u v
up_alike u v l r h i j k (inl s) = up_one l u v h j s.0 ∙ sym (up_one r u v i k s.1)
up_alike u v l r h i j k (inr s) = up_none l u v h j s.0 ∙ sym (up_none r u v i k s.1)

-- ---- the net count of one edge
-- an edge that is neither a b nor b a counts nothing
pub net_none : (a b u v : Corner) → ((u ≡ a) × (v ≡ b) → ⊥) → ((u ≡ b) × (v ≡ a) → ⊥)
    → net_of_edges (edge_of u v ∷ []) a b ≡ pos 0
net_none a b u v h k =
    read (is_same_edge (u, v) (a, b)) (is_same_edge (u, v) (b, a)) (false_where (is_same_edge (u, v) (a, b))
    (Decides-is_same_edge (u, v) (a, b)) h)
    (false_where (is_same_edge (u, v) (b, a)) (Decides-is_same_edge (u, v) (b, a)) k)
  where
    read : (p q : Bool) → p ≡ false → q ≡ false → pos ((if p then 1 else 0) + 0) -ℤ pos ((if q then 1 else 0) + 0) ≡ pos 0
    read true q e f = cc
    read false true e f = cc
    read false false e f = refl

-- the edge a b itself counts 1
pub net_one : (a b u v : Corner) → (u ≡ a) × (v ≡ b) → ((u ≡ b) × (v ≡ a) → ⊥) → net_of_edges (edge_of u v ∷ []) a b
    ≡ pos 1
net_one a b u v h k =
    read (is_same_edge (u, v) (a, b)) (is_same_edge (u, v) (b, a)) ((Decides-is_same_edge (u, v) (a, b)).1 h)
    (false_where (is_same_edge (u, v) (b, a)) (Decides-is_same_edge (u, v) (b, a)) k)
  where
    read : (p q : Bool) → p ≡ true → q ≡ false → pos ((if p then 1 else 0) + 0) -ℤ pos ((if q then 1 else 0) + 0) ≡ pos 1
    read true true e f = cc
    read true false e f = refl
    read false q e f = cc

-- ---- how the crossings differ
-- from l to r the crossings of u v change by what `height` gains along it and by its net count
abbrev pub IsEdgeJump : (Corner → ℤ) → Point → Point → Corner → Corner → Corner → Corner → Type 0
IsEdgeJump height l r a b u v = crossing l u v -ℤ crossing r u v
    ≡ (height v -ℤ height u) +ℤ net_of_edges (edge_of u v ∷ []) a b

-- so they do where the values of the five terms say it
pub jump_of : (height : Corner → ℤ) (l r : Point) (a b u v : Corner) {x y z w n : ℤ}
    → crossing l u v ≡ x → crossing r u v ≡ y → height v ≡ z → height u ≡ w → net_of_edges (edge_of u v ∷ []) a b ≡ n
    → x -ℤ y ≡ (z -ℤ w) +ℤ n → IsEdgeJump height l r a b u v
jump_of height l r a b u v e f g h k s = cc

-- and where both crossings are alike, both ends equally high, and the net count is 0
pub no_jump : (height : Corner → ℤ) (l r : Point) (a b u v : Corner)
    → crossing l u v ≡ crossing r u v → height v ≡ height u → net_of_edges (edge_of u v ∷ []) a b ≡ pos 0
    → IsEdgeJump height l r a b u v
no_jump height l r a b u v e f g =
    nothing (crossing l u v) (crossing r u v) (height v) (height u) (net_of_edges (edge_of u v ∷ []) a b) e f g
  where
    nothing : (x y z w n : ℤ) → x ≡ y → z ≡ w → n ≡ pos 0 → x -ℤ y ≡ (z -ℤ w) +ℤ n
    nothing x y z w n e f g = omega (arith, ints)

-- the edge turned round changes by the opposite
pub jump_back : (height : Corner → ℤ) (l r : Point) (a b u v : Corner) → IsEdgeJump height l r a b v u
    → IsEdgeJump height l r a b u v
jump_back height l r a b u v h =
    back (crossing l u v) (crossing r u v) (crossing l v u) (crossing r v u) (height u) (height v)
    (net_of_edges (edge_of u v ∷ []) a b) (net_of_edges (edge_of v u ∷ []) a b)
    (crossing_back l v u) (crossing_back r v u) (net_of_turned v u a b) h
  where
    back : (l r l' r' u v n n' : ℤ) → l ≡ neg_ℤ l' → r ≡ neg_ℤ r' → n ≡ neg_ℤ n' → l' -ℤ r' ≡ (u -ℤ v) +ℤ n'
        → l -ℤ r ≡ (v -ℤ u) +ℤ n
    back l r l' r' u v n n' a b c d = omega (arith, ints)

-- ---- whether an edge meets the segment between two points
-- one with both points on one side of it doesn't
pub one_side_has_none : (u v : Corner) (l r q : Point) → AreOnOneSide u v l r → IsOnSegment q l r → ¬ IsOnEdge q u v
one_side_has_none u v l r q (inl p) s = left_has_none u v q l r s p.0 p.1
one_side_has_none u v l r q (inr p) s = right_has_none u v q l r s p.0 p.1

-- an edge joins what the turned edge joins
pub joins_back : (a b u v : Corner) → Joins (edge_of v u) a b → Joins (edge_of u v) a b
joins_back a b u v (inl j) = inr (j.1, j.0)
joins_back a b u v (inr j) = inl (j.1, j.0)
