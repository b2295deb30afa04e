-- A point moved a little, off every line through two corners, with everything else about it kept.
use Rattle.std.proofs.Common.{◌≡◌, ◌∙◌, sym, ap, refl, arith, true, false, List, [], ◌∷◌, inl, inr, ◌*◌}
use Rattle.std.proofs.lemmas.Int.{ints, by_lt_z, clamps}
use Rattle.std.specs.Int.{int_min, int_max}
use lib.IntN.{ℤ, pos, negsuc, ◌+ℤ◌, ◌-ℤ◌, ◌*ℤ◌, neg_ℤ, *ℤ_comm}
use lib.Signed.{◌<ℤ◌, ◌≤ℤ◌, lt_z, le_z}
use Rattle.geo_exact.specs.declared.corner.Corner.{Corner}
use Rattle.geo_exact.specs.Point.{Point}
use Rattle.geo_exact.specs.Rings.{Edge, edges}
use Rattle.geo_exact.specs.Turn.{turn_at, IsOnEdge, IsOnSome}
use Rattle.geo_exact.specs.Winding.{is_not_above, crossing, crossings, winding, IsInterior}
use Rattle.geo_exact.specs.Interiors.{InteriorsMeet}
use Rattle.geo_exact.specs.Limit.{IsWithin, limit}
use Rattle.geo_exact.proofs.numbers.Differences.{expand}
use Rattle.geo_exact.proofs.numbers.Signs.{zero_factor, mul_pos, mul_neg, mul_le, mul_lt}
use Rattle.geo_exact.proofs.numbers.Polynomials.{var, add, mul, neg, same_by}
use Rattle.geo_exact.proofs.corners_and_turns.TurnLaws.{turn_at_expr}
use Rattle.geo_exact.proofs.corners_and_turns.SameCorner.{corner_same}
use Rattle.geo_exact.proofs.numbers.Orders.{Decides-int_le, le_of_lt, le_both, positive_not_zero}
use Rattle.geo_exact.proofs.rings.Crossings.{crossed, crossed_kept}

-- ---- the bounds, over plain numbers: w and h are the width and the height of an edge, within r
least : (d r n : ℤ) → pos 0 <ℤ d → pos 1 ≤ℤ r → (d *ℤ (r +ℤ r)) <ℤ n → (d <ℤ n) × (r <ℤ n) × (pos 0 <ℤ n)
least d r n hd hr hn =
    let i : (pos 1 *ℤ (r +ℤ r)) ≤ℤ (d *ℤ (r +ℤ r)) = mul_le (pos 1) d (r +ℤ r) (omega (arith, ints)) (omega (arith, ints)) in
    let j : (pos 1 *ℤ d) ≤ℤ ((r +ℤ r) *ℤ d) = mul_le (pos 1) (r +ℤ r) d (omega (arith, ints)) (omega (arith, ints)) in
    let k : (r +ℤ r) *ℤ d ≡ d *ℤ (r +ℤ r) = *ℤ_comm (r +ℤ r) d in (
      below_all d ((r +ℤ r) *ℤ d) (d *ℤ (r +ℤ r)) n j k hn,
      twice r (d *ℤ (r +ℤ r)) n hr i hn,
      positive r (d *ℤ (r +ℤ r)) n hr i hn,
    )
  where
    below_all : (u v w m : ℤ) → (pos 1 *ℤ u) ≤ℤ v → v ≡ w → w <ℤ m → u <ℤ m
    below_all u v w m a b c = omega (arith, ints)

    twice : (u v m : ℤ) → pos 1 ≤ℤ u → (pos 1 *ℤ (u +ℤ u)) ≤ℤ v → v <ℤ m → u <ℤ m
    twice u v m a b c = omega (arith, ints)

    positive : (u v m : ℤ) → pos 1 ≤ℤ u → (pos 1 *ℤ (u +ℤ u)) ≤ℤ v → v <ℤ m → pos 0 <ℤ m
    positive u v m a b c = omega (arith, ints)

record IsSmall (r z : ℤ) : Type 0 where
  low : neg_ℤ r ≤ℤ z
  high : z ≤ℤ r

slope : (r n w h : ℤ) → pos 1 ≤ℤ r → pos 0 <ℤ n → IsSmall r w → IsSmall r h
    → IsSmall ((r +ℤ r) *ℤ n) (w -ℤ h *ℤ n)
slope r n w h hr hn hw hh =
    let a : (pos 1 *ℤ r) ≤ℤ (n *ℤ r) = mul_le (pos 1) n r (omega (arith, ints)) (omega (arith, ints)) in
    let b : (h *ℤ n) ≤ℤ (r *ℤ n) = mul_le h r n (omega (arith, ints)) hh.high in
    let c : (neg_ℤ r *ℤ n) ≤ℤ (h *ℤ n) = mul_le (neg_ℤ r) h n (omega (arith, ints)) hh.low in
    let e : n *ℤ r ≡ r *ℤ n = *ℤ_comm n r in
    record {
      low = simp expand (omega (arith, ints, hw.low, a, b, e));
      high = simp expand (omega (arith, ints, hw.high, a, e, simp expand at c));
    }

-- the change of a turn is less than n times n
drift : (d r n w h : ℤ) → pos 0 <ℤ d → pos 1 ≤ℤ r → (d *ℤ (r +ℤ r)) <ℤ n → IsSmall r w → IsSmall r h
    → (neg_ℤ (n *ℤ n) <ℤ (d *ℤ (w -ℤ h *ℤ n))) × ((d *ℤ (w -ℤ h *ℤ n)) <ℤ (n *ℤ n))
drift d r n w h hd hr hn hw hh =
    let m : pos 0 <ℤ n = (least d r n hd hr hn).2 in
    let s : IsSmall ((r +ℤ r) *ℤ n) (w -ℤ h *ℤ n) = slope r n w h hr m hw hh in
    let top : ((w -ℤ h *ℤ n) *ℤ d) ≤ℤ (((r +ℤ r) *ℤ n) *ℤ d) =
    mul_le (w -ℤ h *ℤ n) ((r +ℤ r) *ℤ n) d (le_of_lt (pos 0) d hd) s.high in
    let bottom : (neg_ℤ ((r +ℤ r) *ℤ n) *ℤ d) ≤ℤ ((w -ℤ h *ℤ n) *ℤ d) =
    mul_le (neg_ℤ ((r +ℤ r) *ℤ n)) (w -ℤ h *ℤ n) d (le_of_lt (pos 0) d hd) s.low in
    let far : ((d *ℤ (r +ℤ r)) *ℤ n) <ℤ (n *ℤ n) = mul_lt (d *ℤ (r +ℤ r)) n n m hn in
    let e : (w -ℤ h *ℤ n) *ℤ d ≡ d *ℤ (w -ℤ h *ℤ n) = *ℤ_comm (w -ℤ h *ℤ n) d in
    let f : ((r +ℤ r) *ℤ n) *ℤ d ≡ (d *ℤ (r +ℤ r)) *ℤ n =
    same_by (d ∷ r ∷ n ∷ []) (mul (mul (add (var 1) (var 1)) (var 2)) (var 0))
    (mul (mul (var 0) (add (var 1) (var 1))) (var 2)) refl in
    let g : neg_ℤ ((r +ℤ r) *ℤ n) *ℤ d ≡ neg_ℤ ((d *ℤ (r +ℤ r)) *ℤ n) =
    same_by (d ∷ r ∷ n ∷ []) (mul (neg (mul (add (var 1) (var 1)) (var 2))) (var 0))
    (neg (mul (mul (var 0) (add (var 1) (var 1))) (var 2))) refl in
    (under ((d *ℤ (r +ℤ r)) *ℤ n) (n *ℤ n) _ _ _ far g bottom e, over ((d *ℤ (r +ℤ r)) *ℤ n) (n *ℤ n) _ _ _ far f top e)
  where
    under : (k nn z y x : ℤ) → k <ℤ nn → z ≡ neg_ℤ k → z ≤ℤ y → y ≡ x → neg_ℤ nn <ℤ x
    under k nn z y x a b c q = omega (arith, ints)

    over : (k nn z y x : ℤ) → k <ℤ nn → z ≡ k → y ≤ℤ z → y ≡ x → x <ℤ nn
    over k nn z y x a b c q = omega (arith, ints)

-- a turn t that is not 0 keeps its sign
keeps_left : (nn t s : ℤ) → pos 0 <ℤ nn → neg_ℤ nn <ℤ s → pos 0 <ℤ t → pos 0 <ℤ (t *ℤ nn +ℤ s)
keeps_left nn t s hn hs ht = omega (arith, ints, mul_le (pos 1) t nn (omega (arith, ints)) (omega (arith, ints)))

keeps_right : (nn t s : ℤ) → pos 0 <ℤ nn → s <ℤ nn → t <ℤ pos 0 → (t *ℤ nn +ℤ s) <ℤ pos 0
keeps_right nn t s hn hs ht = omega (arith, ints, mul_le t (negsuc 0) nn (omega (arith, ints)) (omega (arith, ints)))

-- the slope of the move is no edge's
not_level : (r n w h : ℤ) → r <ℤ n → pos 0 <ℤ n → IsSmall r w → w -ℤ h *ℤ n ≡ pos 0
    → (w ≡ pos 0 → h ≡ pos 0 → ⊥) → ⊥
not_level r n w h hr hn hw e apart =
    by_lt_z (pos 0) h
    (λ p. omega (arith, ints, hw.high, e, mul_le (pos 1) h n (omega (arith, ints)) (omega (arith, ints))))
    (λ p. by_lt_z h (pos 0)
    (λ q. omega (arith, ints, hw.low, e, mul_le h (negsuc 0) n (omega (arith, ints)) (omega (arith, ints))))
    (λ q. let z : h ≡ pos 0 = omega (arith, ints) in apart (omega (arith, ints, rw z at e)) z))

-- ---- the moved point
-- n, so large that no line through two corners lies between p and its neighbour at the distance 1 / n
abbrev steps : Point → ℤ
steps p = p.d *ℤ (pos (2 * limit) +ℤ pos (2 * limit)) +ℤ pos 1

last_step : (z : ℤ) → z <ℤ (z +ℤ pos 1)
last_step z = omega (arith, ints)

steps_far : (p : Point) → (p.d *ℤ (pos (2 * limit) +ℤ pos (2 * limit))) <ℤ steps p
steps_far p = last_step (p.d *ℤ (pos (2 * limit) +ℤ pos (2 * limit)))

steps_least : (p : Point) → (p.d <ℤ steps p) × (pos (2 * limit) <ℤ steps p) × (pos 0 <ℤ steps p)
steps_least p = least p.d (pos (2 * limit)) (steps p) p.d_positive (omega (arith, ints)) (steps_far p)

square_pos : (p : Point) → pos 0 <ℤ (steps p *ℤ steps p)
square_pos p = mul_pos (steps p) (steps p) (steps_least p).2 (steps_least p).2

-- p moved by 1 / n to the east and 1 / (n * n) to the north
pub moved : Point → Point
moved p = record {
  x = p.x *ℤ (steps p *ℤ steps p) +ℤ p.d *ℤ steps p;
  y = p.y *ℤ (steps p *ℤ steps p) +ℤ p.d;
  d = p.d *ℤ (steps p *ℤ steps p);
  d_positive = mul_pos p.d (steps p *ℤ steps p) p.d_positive (square_pos p);
}

moved_turn : (a b : Corner) (p : Point)
    → turn_at a b (moved p) ≡ turn_at a b p *ℤ (steps p *ℤ steps p) +ℤ p.d *ℤ ((b.x -ℤ a.x) -ℤ (b.y -ℤ a.y) *ℤ steps p)
unfolding moved
moved_turn a b p =
    same_by (a.x ∷ a.y ∷ b.x ∷ b.y ∷ p.x ∷ p.y ∷ p.d ∷ steps p ∷ [])
    (turn_at_expr (var 0) (var 1) (var 2) (var 3)
    (add (mul (var 4) (mul (var 7) (var 7))) (mul (var 6) (var 7)))
    (add (mul (var 5) (mul (var 7) (var 7))) (var 6))
    (mul (var 6) (mul (var 7) (var 7))))
    (add
    (mul (turn_at_expr (var 0) (var 1) (var 2) (var 3) (var 4) (var 5) (var 6)) (mul (var 7) (var 7)))
    (mul (var 6) (add (add (var 2) (neg (var 0))) (neg (mul (add (var 3) (neg (var 1))) (var 7))))))
    refl

height_moved : (a : Corner) (p : Point)
    → a.y *ℤ (moved p).d -ℤ (moved p).y ≡ (a.y *ℤ p.d -ℤ p.y) *ℤ (steps p *ℤ steps p) -ℤ p.d
unfolding moved
height_moved a p =
    same_by (a.y ∷ p.y ∷ p.d ∷ steps p ∷ [])
    (add (mul (var 0) (mul (var 2) (mul (var 3) (var 3)))) (neg (add (mul (var 1) (mul (var 3) (var 3))) (var 2))))
    (add (mul (add (mul (var 0) (var 2)) (neg (var 1))) (mul (var 3) (var 3))) (neg (var 2)))
    refl

square_far : (d n : ℤ) → d <ℤ n → pos 0 <ℤ n → d <ℤ (n *ℤ n)
square_far d n h k = omega (arith, ints, mul_le (pos 1) n n (omega (arith, ints)) (omega (arith, ints)))

same_height : (u y nn d v z : ℤ) → v -ℤ z ≡ (u -ℤ y) *ℤ nn -ℤ d → pos 0 <ℤ d → d <ℤ nn → le_z v z ≡ le_z u y
same_height u y nn d v z e h k =
    by_lt_z y u
    (λ p. let i : (pos 1 *ℤ nn) ≤ℤ ((u -ℤ y) *ℤ nn) = mul_le (pos 1) (u -ℤ y) nn (omega (arith, ints)) (omega (arith, ints)) in
    let x : false ≡ le_z v z = omega (arith, ints) in sym x ∙ omega (arith, ints))
    (λ p. let i : ((u -ℤ y) *ℤ nn) ≤ℤ (pos 0 *ℤ nn) = mul_le (u -ℤ y) (pos 0) nn (omega (arith, ints)) (omega (arith, ints)) in
    let x : true ≡ le_z v z = omega (arith, ints) in sym x ∙ omega (arith, ints))

other_height : (u y nn d v z : ℤ) → v -ℤ z ≡ (u -ℤ y) *ℤ nn -ℤ d → pos 0 <ℤ d → d <ℤ nn → v ≡ z → ⊥
other_height u y nn d v z e h k f =
    by_lt_z y u
    (λ p. omega (arith, ints, e, f, mul_le (pos 1) (u -ℤ y) nn (omega (arith, ints)) (omega (arith, ints))))
    (λ p. omega (arith, ints, e, f, mul_le (u -ℤ y) (pos 0) nn (omega (arith, ints)) (omega (arith, ints))))

-- the same corners are above it
pub moved_height : (a : Corner) (p : Point) → is_not_above a (moved p) ≡ is_not_above a p
moved_height a p =
    same_height (a.y *ℤ p.d) p.y (steps p *ℤ steps p) p.d (a.y *ℤ (moved p).d) (moved p).y (height_moved a p) p.d_positive
    (square_far p.d (steps p) (steps_least p).0 (steps_least p).2)

-- and none is at its height
pub moved_off_height : (a : Corner) (p : Point) → a.y *ℤ (moved p).d ≡ (moved p).y → ⊥
moved_off_height a p =
    other_height (a.y *ℤ p.d) p.y (steps p *ℤ steps p) p.d (a.y *ℤ (moved p).d) (moved p).y (height_moved a p) p.d_positive
    (square_far p.d (steps p) (steps_least p).0 (steps_least p).2)

apart_small : (u v : ℤ) → IsWithin limit u → IsWithin limit v → IsSmall (pos (2 * limit)) (v -ℤ u)
apart_small u v h k = record { low = omega (arith, ints, h.high, k.low); high = omega (arith, ints, h.low, k.high) }

turn_drift : (a b : Corner) (p : Point)
    → (neg_ℤ (steps p *ℤ steps p) <ℤ (p.d *ℤ ((b.x -ℤ a.x) -ℤ (b.y -ℤ a.y) *ℤ steps p)))
    × ((p.d *ℤ ((b.x -ℤ a.x) -ℤ (b.y -ℤ a.y) *ℤ steps p)) <ℤ (steps p *ℤ steps p))
turn_drift a b p =
    drift p.d (pos (2 * limit)) (steps p) (b.x -ℤ a.x) (b.y -ℤ a.y) p.d_positive (omega (arith, ints)) (steps_far p)
    (apart_small a.x b.x a.x_in_range b.x_in_range)
    (apart_small a.y b.y a.y_in_range b.y_in_range)

-- a point left of an edge stays left of it
pub moved_left : (a b : Corner) (p : Point) → pos 0 <ℤ turn_at a b p → pos 0 <ℤ turn_at a b (moved p)
moved_left a b p h =
    rw (moved_turn a b p)
    (keeps_left (steps p *ℤ steps p) (turn_at a b p) (p.d *ℤ ((b.x -ℤ a.x) -ℤ (b.y -ℤ a.y) *ℤ steps p)) (square_pos p)
    (turn_drift a b p).0 h)

pub moved_right : (a b : Corner) (p : Point) → turn_at a b p <ℤ pos 0 → turn_at a b (moved p) <ℤ pos 0
moved_right a b p h =
    rw (moved_turn a b p)
    (keeps_right (steps p *ℤ steps p) (turn_at a b p) (p.d *ℤ ((b.x -ℤ a.x) -ℤ (b.y -ℤ a.y) *ℤ steps p))
    (square_pos p) (turn_drift a b p).1 h)

off_line : (a b : Corner) (p : Point) → (b.x -ℤ a.x ≡ pos 0 → b.y -ℤ a.y ≡ pos 0 → ⊥) → turn_at a b (moved p) ≡ pos 0
    → ⊥
off_line a b p apart e =
    by_lt_z (pos 0) (turn_at a b p)
    (λ q. positive_not_zero (turn_at a b (moved p)) (moved_left a b p q) e)
    (λ q. by_lt_z (turn_at a b p) (pos 0)
    (λ r. below (turn_at a b (moved p)) (moved_right a b p r) e)
    (λ r. not_level (pos (2 * limit)) (steps p) (b.x -ℤ a.x) (b.y -ℤ a.y) (steps_least p).1 (steps_least p).2
    (apart_small a.x b.x a.x_in_range b.x_in_range)
    (zero_factor p.d ((b.x -ℤ a.x) -ℤ (b.y -ℤ a.y) *ℤ steps p) p.d_positive
    (rest (turn_at a b p) (steps p *ℤ steps p) (p.d *ℤ ((b.x -ℤ a.x) -ℤ (b.y -ℤ a.y) *ℤ steps p)) (turn_at a b (moved p))
    (moved_turn a b p) e (le_both (turn_at a b p) (pos 0) q r)))
    apart))
  where
    below : (t : ℤ) → t <ℤ pos 0 → t ≡ pos 0 → ⊥
    below t h i = omega (arith, ints)

    rest : (t nn s z : ℤ) → z ≡ t *ℤ nn +ℤ s → z ≡ pos 0 → t ≡ pos 0 → s ≡ pos 0
    rest t nn s z h i k = omega (arith, ints, i, rw k at h)

-- the moved point is on no line through two corners, however many lines are looked at: nothing cites this and meet_off_lines yet;
-- they are kept for shapes that are joined, where points are looked at off the lines of all edges at once
pub moved_off_line : (a b : Corner) (p : Point) → (a ≡ b → ⊥) → turn_at a b (moved p) ≡ pos 0 → ⊥
moved_off_line a b p apart = off_line a b p (λ x y. apart (corner_same a b (same b.x a.x x) (same b.y a.y y)))
  where
    same : (u v : ℤ) → u -ℤ v ≡ pos 0 → v ≡ u
    same u v e = omega (arith, ints)

-- nor on any edge, also one whose ends are the same
pub moved_off_edge : (a b : Corner) (p : Point) → IsOnEdge (moved p) a b → ⊥
moved_off_edge a b p h =
    off_line a b p
    (λ x y. moved_off_height a p
    (le_both (a.y *ℤ (moved p).d) (moved p).y (rw (lowest a.y b.y y) at h.from_y) (rw (highest a.y b.y y) at h.to_y)))
    h.on_line
  where
    lowest : (u v : ℤ) → v -ℤ u ≡ pos 0 → int_min u v ≡ u
    lowest u v e = omega (arith, ints, clamps)

    highest : (u v : ℤ) → v -ℤ u ≡ pos 0 → int_max u v ≡ u
    highest u v e = omega (arith, ints, clamps)

pub moved_off_some : (es : List Edge) (p : Point) → IsOnSome (moved p) es → ⊥
moved_off_some [] p h = h
moved_off_some (edge ∷ es) p (inl h) = moved_off_edge edge.from edge.to p h
moved_off_some (edge ∷ es) p (inr h) = moved_off_some es p h

same_left : (t z : ℤ) → (pos 0 <ℤ t → pos 0 <ℤ z) → (t <ℤ pos 0 → z <ℤ pos 0) → (t ≡ pos 0 → z <ℤ pos 0)
    → lt_z (pos 0) z ≡ lt_z (pos 0) t
same_left t z l r on =
    by_lt_z (pos 0) t
    (λ p. let q : pos 0 <ℤ z = l p in let x : true ≡ lt_z (pos 0) z = omega (arith, ints) in sym x ∙ omega (arith, ints))
    (λ p. let q : z <ℤ pos 0 = by_lt_z t (pos 0) r (λ i. on (omega (arith, ints))) in
    let x : false ≡ lt_z (pos 0) z = omega (arith, ints) in sym x ∙ omega (arith, ints))

same_right : (t z : ℤ) → (pos 0 <ℤ t → pos 0 <ℤ z) → (t <ℤ pos 0 → z <ℤ pos 0) → (t ≡ pos 0 → pos 0 <ℤ z)
    → lt_z z (pos 0) ≡ lt_z t (pos 0)
same_right t z l r on =
    by_lt_z t (pos 0)
    (λ p. let q : z <ℤ pos 0 = r p in let x : true ≡ lt_z z (pos 0) = omega (arith, ints) in sym x ∙ omega (arith, ints))
    (λ p. let q : pos 0 <ℤ z = by_lt_z (pos 0) t l (λ i. on (omega (arith, ints))) in
    let x : false ≡ lt_z z (pos 0) = omega (arith, ints) in sym x ∙ omega (arith, ints))

-- from the line of an edge upward the move goes to the right of it, and from one downward to the left
goes_right : (r t nn d n w h z : ℤ) → z ≡ t *ℤ nn +ℤ d *ℤ (w -ℤ h *ℤ n) → pos 0 <ℤ d → r <ℤ n → pos 0 <ℤ n
    → IsSmall r w → pos 0 <ℤ h
    → t ≡ pos 0 → z <ℤ pos 0
goes_right r t nn d n w h z e hd hr hn hw hh k =
    let i : (pos 1 *ℤ n) ≤ℤ (h *ℤ n) = mul_le (pos 1) h n (omega (arith, ints)) (omega (arith, ints)) in
    omega (arith, ints, rw k at e, mul_neg d (w -ℤ h *ℤ n) hd (omega (arith, ints, hw.high)))

goes_left : (r t nn d n w h z : ℤ) → z ≡ t *ℤ nn +ℤ d *ℤ (w -ℤ h *ℤ n) → pos 0 <ℤ d → r <ℤ n → pos 0 <ℤ n
    → IsSmall r w → h <ℤ pos 0
    → t ≡ pos 0 → pos 0 <ℤ z
goes_left r t nn d n w h z e hd hr hn hw hh k =
    let i : (h *ℤ n) ≤ℤ (negsuc 0 *ℤ n) = mul_le h (negsuc 0) n (omega (arith, ints)) (omega (arith, ints)) in
    omega (arith, ints, rw k at e, mul_pos d (w -ℤ h *ℤ n) hd (omega (arith, ints, hw.low)))

-- an edge from a height that is not above y to one that is goes upward
rises : (u v y d : ℤ) → pos 0 <ℤ d → (u *ℤ d) ≤ℤ y → y <ℤ (v *ℤ d) → u <ℤ v
rises u v y d hd h k = by_lt_z u v (λ p. p) (λ p. omega (arith, ints, mul_le v u d (omega (arith, ints)) p))

moved_from_up : (a b : Corner) (p : Point) → a.y <ℤ b.y → turn_at a b p ≡ pos 0 → turn_at a b (moved p) <ℤ pos 0
moved_from_up a b p h =
    goes_right (pos (2 * limit)) (turn_at a b p) (steps p *ℤ steps p) p.d (steps p) (b.x -ℤ a.x) (b.y -ℤ a.y)
    (turn_at a b (moved p)) (moved_turn a b p)
    p.d_positive (steps_least p).1 (steps_least p).2 (apart_small a.x b.x a.x_in_range b.x_in_range) (omega (arith, ints, h))

moved_from_down : (a b : Corner) (p : Point) → b.y <ℤ a.y → turn_at a b p ≡ pos 0 → pos 0 <ℤ turn_at a b (moved p)
moved_from_down a b p h =
    goes_left (pos (2 * limit)) (turn_at a b p) (steps p *ℤ steps p) p.d (steps p) (b.x -ℤ a.x) (b.y -ℤ a.y)
    (turn_at a b (moved p)) (moved_turn a b p)
    p.d_positive (steps_least p).1 (steps_least p).2 (apart_small a.x b.x a.x_in_range b.x_in_range) (omega (arith, ints, h))

is_above : (u v : ℤ) → le_z u v ≡ false → v <ℤ u
is_above u v h = omega (arith, ints)

-- the same edges cross the ray, also those that p is on
pub moved_crossing : (a b : Corner) (p : Point) → crossing (moved p) a b ≡ crossing p a b
moved_crossing a b p =
    ap (λ l. crossed l (is_not_above b (moved p)) (turn_at a b (moved p))) (moved_height a p)
    ∙ ap (λ l. crossed (is_not_above a p) l (turn_at a b (moved p))) (moved_height b p)
    ∙ crossed_kept (is_not_above a p) (is_not_above b p) (turn_at a b p) (turn_at a b (moved p))
    (λ x y. same_left (turn_at a b p) (turn_at a b (moved p)) (moved_left a b p) (moved_right a b p)
    (moved_from_up a b p (rises a.y b.y p.y p.d p.d_positive ((Decides-int_le (a.y *ℤ p.d) p.y).0 x) (is_above (b.y *ℤ p.d) p.y y))))
    (λ x y. same_right (turn_at a b p) (turn_at a b (moved p)) (moved_left a b p) (moved_right a b p)
    (moved_from_down a b p (rises b.y a.y p.y p.d p.d_positive ((Decides-int_le (b.y *ℤ p.d) p.y).0 y) (is_above (a.y *ℤ p.d) p.y x))))

pub moved_crossings : (es : List Edge) (p : Point) → crossings (moved p) es ≡ crossings p es
moved_crossings [] p = refl
moved_crossings (edge ∷ es) p =
    ap (λ z. z +ℤ crossings (moved p) es) (moved_crossing edge.from edge.to p)
    ∙ ap (λ z. crossing p edge.from edge.to +ℤ z) (moved_crossings es p)

pub moved_winding : (ring : List Corner) (p : Point) → winding (moved p) ring ≡ winding p ring
moved_winding ring p = moved_crossings (edges ring) p

pub moved_interior : (ring : List Corner) (p : Point) → IsInterior p ring → IsInterior (moved p) ring
moved_interior ring p h = record { off_edges = moved_off_some (edges ring) p; is_wound = rw (moved_winding ring p) h.is_wound }

-- where interiors meet, they meet at a point that is on no line through two corners
pub meet_off_lines : (r s : List Corner) → InteriorsMeet r s
    → (q : Point) × IsInterior q r × IsInterior q s × ((a b : Corner) → (a ≡ b → ⊥) → turn_at a b q ≡ pos 0 → ⊥)
meet_off_lines r s m = (moved m.0, moved_interior r m.0 m.1, moved_interior s m.0 m.2, λ a b apart. moved_off_line a b m.0 apart)
