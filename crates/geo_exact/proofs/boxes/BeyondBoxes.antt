-- A place beyond the box of a ring's corners is on no edge of the ring, and the ring does not go round it.
use Rattle.std.proofs.Common.{◌≡◌, refl, sym, arith, Bool, true, false, if◌then◌else◌, List, [], ◌∷◌, inl, inr}
use Rattle.std.specs.Int.{int_min, int_max}
use Rattle.std.specs.List.{All, AllByRecursion}
use Rattle.std.proofs.lemmas.Int.{ints, by_lt_z}
use Rattle.std.proofs.lemmas.List.Elements.{All-weaker, recursion_from_All}
use lib.IntN.{ℤ, pos, ◌-ℤ◌, ◌*ℤ◌}
use lib.Signed.{◌<ℤ◌, ◌≤ℤ◌, lt_z, le_z}
use Rattle.geo_exact.specs.declared.bounds.Bounds.{Bounds}
use Rattle.geo_exact.specs.declared.corner.Corner.{Corner}
use Rattle.geo_exact.specs.Bounds.{HoldsCorner, IsBeyondBox}
use Rattle.geo_exact.specs.Point.{Point}
use Rattle.geo_exact.specs.Rings.{Edge, path, edges, sum_over}
use Rattle.geo_exact.specs.Turn.{turn_at, IsOnEdge, IsOnSome, IsOnRing}
use Rattle.geo_exact.specs.Winding.{crossing, winding}
use Rattle.geo_exact.proofs.numbers.Signs.{pos_of_mul, mul_le, mul_pos, mul_not_neg, mul_not_pos, mul_falling, mul_neg_pos}
use Rattle.geo_exact.proofs.numbers.Extremes.{above_max, below_min}
use Rattle.geo_exact.proofs.numbers.Orders.{le_of_lt, lt_not_ge}
use Rattle.geo_exact.proofs.rings.EdgeSums.{edge_of}
use Rattle.geo_exact.proofs.rings.Crossings.{crossed}
use Rattle.geo_exact.proofs.rings.Triangles.{turn_at_heights, not_above, is_above}

-- ---- the crossing of an edge, from whether its ends are not above p, and from the turn t
abbrev one_if : Bool → ℤ
one_if b = if b then pos 1 else pos 0

is_left : (t : ℤ) → pos 0 <ℤ t → true ≡ lt_z (pos 0) t
is_left t h = omega (arith, ints)

is_right : (t : ℤ) → t <ℤ pos 0 → true ≡ lt_z t (pos 0)
is_right t h = omega (arith, ints)

not_left : (t : ℤ) → t <ℤ pos 0 → false ≡ lt_z (pos 0) t
not_left t h = omega (arith, ints)

not_right : (t : ℤ) → pos 0 <ℤ t → false ≡ lt_z t (pos 0)
not_right t h = omega (arith, ints)

-- all edges that cross do so to the right of p, or none of them
each_crosses : (la lb : Bool) (t : ℤ) → (la ≡ true → lb ≡ false → pos 0 <ℤ t)
    → (la ≡ false → lb ≡ true → t <ℤ pos 0)
    → crossed la lb t ≡ one_if la -ℤ one_if lb
each_crosses true true t up down = refl
each_crosses true false t up down = rw (sym (is_left t (up refl refl))) refl
each_crosses false true t up down = rw (sym (is_right t (down refl refl))) refl
each_crosses false false t up down = refl

none_crosses : (la lb : Bool) (t : ℤ) → (la ≡ true → lb ≡ false → t <ℤ pos 0)
    → (la ≡ false → lb ≡ true → pos 0 <ℤ t)
    → crossed la lb t ≡ pos 0 -ℤ pos 0
none_crosses true true t up down = refl
none_crosses true false t up down = rw (sym (not_left t (up refl refl))) refl
none_crosses false true t up down = rw (sym (not_right t (down refl refl))) refl
none_crosses false false t up down = refl

both_below : (la lb : Bool) (t : ℤ) → la ≡ true → lb ≡ true → crossed la lb t ≡ pos 0 -ℤ pos 0
both_below la lb t a b = rw (a, b) refl

both_above : (la lb : Bool) (t : ℤ) → la ≡ false → lb ≡ false → crossed la lb t ≡ pos 0 -ℤ pos 0
both_above la lb t a b = rw (a, b) refl

-- ---- the turn t at p, from how far p is east of the ends of an edge, k and l, and how far above p these are, y and z
positive : (d t k l y z : ℤ) → pos 0 <ℤ d → d *ℤ t ≡ k *ℤ y -ℤ l *ℤ z → pos 0 <ℤ (k *ℤ y -ℤ l *ℤ z)
    → pos 0 <ℤ t
positive d t k l y z h e i = pos_of_mul d t h (rw e i)

negative : (d t k l y z : ℤ) → pos 0 <ℤ d → d *ℤ t ≡ k *ℤ y -ℤ l *ℤ z → (k *ℤ y -ℤ l *ℤ z) <ℤ pos 0
    → t <ℤ pos 0
negative d t k l y z h e i = below_zero t (λ j. none (d *ℤ t) (k *ℤ y -ℤ l *ℤ z) e i (keeps d t h j))
  where
    keeps : (d t : ℤ) → pos 0 <ℤ d → pos 0 ≤ℤ t → pos 0 ≤ℤ (d *ℤ t)
    keeps d t h j = mul_not_neg d t (omega (arith, ints)) j

    none : (u v : ℤ) → u ≡ v → v <ℤ pos 0 → pos 0 ≤ℤ u → ⊥
    none u v e i j = omega (arith, ints)

    below_zero : (t : ℤ) → (pos 0 ≤ℤ t → ⊥) → t <ℤ pos 0
    below_zero t h = by_lt_z t (pos 0) (λ p. p) (λ p. absurd (h p))

west_up : (k l y z : ℤ) → k <ℤ pos 0 → l <ℤ pos 0 → y ≤ℤ pos 0 → pos 0 <ℤ z → pos 0 <ℤ (k *ℤ y -ℤ l *ℤ z)
west_up k l y z hk hl hy hz = omega (arith, ints, mul_falling k y (omega (arith, ints)) hy, mul_neg_pos l z hl hz)

west_down : (k l y z : ℤ) → k <ℤ pos 0 → l <ℤ pos 0 → pos 0 <ℤ y → z ≤ℤ pos 0 → (k *ℤ y -ℤ l *ℤ z) <ℤ pos 0
west_down k l y z hk hl hy hz = omega (arith, ints, mul_neg_pos k y hk hy, mul_falling l z (omega (arith, ints)) hz)

east_up : (k l y z : ℤ) → pos 0 <ℤ k → pos 0 <ℤ l → y ≤ℤ pos 0 → pos 0 <ℤ z → (k *ℤ y -ℤ l *ℤ z) <ℤ pos 0
east_up k l y z hk hl hy hz = omega (arith, ints, mul_not_pos k y (omega (arith, ints)) hy, mul_pos l z hl hz)

east_down : (k l y z : ℤ) → pos 0 <ℤ k → pos 0 <ℤ l → pos 0 <ℤ y → z ≤ℤ pos 0 → pos 0 <ℤ (k *ℤ y -ℤ l *ℤ z)
east_down k l y z hk hl hy hz = omega (arith, ints, mul_pos k y hk hy, mul_not_pos l z (omega (arith, ints)) hz)

short_of : (x u : ℤ) → x <ℤ u → (x -ℤ u) <ℤ pos 0
short_of x u h = omega (arith, ints)

past : (x u : ℤ) → u <ℤ x → pos 0 <ℤ (x -ℤ u)
past x u h = omega (arith, ints)

below : (u y : ℤ) → u <ℤ y → le_z u y ≡ true
below u y h = sym (let e : true ≡ le_z u y = omega (arith, ints) in e)

above : (u y : ℤ) → y <ℤ u → le_z u y ≡ false
above u y h = sym (let e : false ≡ le_z u y = omega (arith, ints) in e)

-- ---- sums round a ring
module _ (Here : Corner → Type 0) where
  telescopes : (measure : Edge → ℤ) (height : Corner → ℤ)
      → ((a b : Corner) → Here a → Here b → measure (edge_of a b) ≡ height a -ℤ height b)
      → (from to : Corner) (rest : List Corner) → Here from → AllByRecursion Here rest → Here to
      → sum_over measure (path from rest to) ≡ height from -ℤ height to
  telescopes measure height each from to [] f all t = omega (arith, ints, each from to f t)
  telescopes measure height each from to (next ∷ rest) f all t =
      omega (arith, ints, each from next f all.0, telescopes measure height each next to rest all.0 all.1 t)

  round_ring : (measure : Edge → ℤ) (height : Corner → ℤ)
      → ((a b : Corner) → Here a → Here b → measure (edge_of a b) ≡ height a -ℤ height b)
      → (ring : List Corner) → AllByRecursion Here ring → sum_over measure (edges ring) ≡ pos 0
  round_ring measure height each [] all = refl
  round_ring measure height each (first ∷ rest) all =
      omega (arith, ints, telescopes measure height each first first rest all.0 all.1 all.0)

  off_path : (p : Point) → ((a b : Corner) → Here a → Here b → ¬ IsOnEdge p a b)
      → (from to : Corner) (rest : List Corner) → Here from → AllByRecursion Here rest → Here to
      → ¬ IsOnSome p (path from rest to)
  off_path p each from to [] f all t (inl on) = each from to f t on
  off_path p each from to [] f all t (inr on) = on
  off_path p each from to (next ∷ rest) f all t (inl on) = each from next f all.0 on
  off_path p each from to (next ∷ rest) f all t (inr on) = off_path p each next to rest all.0 all.1 t on

  off_ring : (p : Point) → ((a b : Corner) → Here a → Here b → ¬ IsOnEdge p a b)
      → (ring : List Corner) → AllByRecursion Here ring → ¬ IsOnRing p ring
  off_ring p each [] all on = on
  off_ring p each (first ∷ rest) all on = off_path p each first first rest all.0 all.1 all.0 on

-- ---- all corners are on one side of p
abbrev IsOff : Point → List Corner → Type 0
IsOff p ring = (¬ IsOnRing p ring) × (winding p ring ≡ pos 0)

module _ (p : Point) where
  abbrev high : Corner → ℤ
  high c = c.y *ℤ p.d

  abbrev rise : Corner → ℤ
  rise c = high c -ℤ p.y

  abbrev lead : Corner → ℤ
  lead c = p.x -ℤ c.x *ℤ p.d

  west_of : (ring : List Corner) → AllByRecursion (λ c. p.x <ℤ (c.x *ℤ p.d)) ring → IsOff p ring
  west_of ring all = (
    off_ring (λ c. p.x <ℤ (c.x *ℤ p.d)) p
        (λ a b f t on. lt_not_ge p.x (int_min a.x b.x *ℤ p.d) ((below_min a.x b.x p.d p.x p.d_positive refl).1 (f, t))
        on.from_x) ring all,
    round_ring (λ c. p.x <ℤ (c.x *ℤ p.d)) (λ edge. crossing p edge.from edge.to) (λ c. one_if (le_z (high c) p.y))
        (λ a b f t. each_crosses (le_z (high a) p.y) (le_z (high b) p.y) (turn_at a b p)
        (λ u v. positive p.d (turn_at a b p) (lead b) (lead a) (rise a) (rise b) p.d_positive (turn_at_heights a b p)
        (west_up (lead b) (lead a) (rise a) (rise b) (short_of p.x (b.x *ℤ p.d) t) (short_of p.x (a.x *ℤ p.d) f)
        (not_above (high a) p.y u) (is_above (high b) p.y v)))
        (λ u v. negative p.d (turn_at a b p) (lead b) (lead a) (rise a) (rise b) p.d_positive (turn_at_heights a b p)
        (west_down (lead b) (lead a) (rise a) (rise b) (short_of p.x (b.x *ℤ p.d) t) (short_of p.x (a.x *ℤ p.d) f)
        (is_above (high a) p.y u) (not_above (high b) p.y v))))
        ring all,
  )

  east_of : (ring : List Corner) → AllByRecursion (λ c. (c.x *ℤ p.d) <ℤ p.x) ring → IsOff p ring
  east_of ring all = (
    off_ring (λ c. (c.x *ℤ p.d) <ℤ p.x) p
        (λ a b f t on. lt_not_ge (int_max a.x b.x *ℤ p.d) p.x ((above_max a.x b.x p.d p.x p.d_positive refl).1 (f, t)) on.to_x) ring all,
    round_ring (λ c. (c.x *ℤ p.d) <ℤ p.x) (λ edge. crossing p edge.from edge.to) (λ c. pos 0)
        (λ a b f t. none_crosses (le_z (high a) p.y) (le_z (high b) p.y) (turn_at a b p)
        (λ u v. negative p.d (turn_at a b p) (lead b) (lead a) (rise a) (rise b) p.d_positive (turn_at_heights a b p)
        (east_up (lead b) (lead a) (rise a) (rise b) (past p.x (b.x *ℤ p.d) t) (past p.x (a.x *ℤ p.d) f)
        (not_above (high a) p.y u) (is_above (high b) p.y v)))
        (λ u v. positive p.d (turn_at a b p) (lead b) (lead a) (rise a) (rise b) p.d_positive (turn_at_heights a b p)
        (east_down (lead b) (lead a) (rise a) (rise b) (past p.x (b.x *ℤ p.d) t) (past p.x (a.x *ℤ p.d) f)
        (is_above (high a) p.y u) (not_above (high b) p.y v))))
        ring all,
  )

  south_of : (ring : List Corner) → AllByRecursion (λ c. p.y <ℤ (c.y *ℤ p.d)) ring → IsOff p ring
  south_of ring all = (
    off_ring (λ c. p.y <ℤ (c.y *ℤ p.d)) p
        (λ a b f t on. lt_not_ge p.y (int_min a.y b.y *ℤ p.d) ((below_min a.y b.y p.d p.y p.d_positive refl).1 (f, t))
        on.from_y) ring all,
    round_ring (λ c. p.y <ℤ (c.y *ℤ p.d)) (λ edge. crossing p edge.from edge.to) (λ c. pos 0)
        (λ a b f t. both_above (le_z (high a) p.y) (le_z (high b) p.y) (turn_at a b p) (above (high a) p.y f)
        (above (high b) p.y t)) ring all,
  )

  north_of : (ring : List Corner) → AllByRecursion (λ c. (c.y *ℤ p.d) <ℤ p.y) ring → IsOff p ring
  north_of ring all = (
    off_ring (λ c. (c.y *ℤ p.d) <ℤ p.y) p
        (λ a b f t on. lt_not_ge (int_max a.y b.y *ℤ p.d) p.y ((above_max a.y b.y p.d p.y p.d_positive refl).1 (f, t)) on.to_y) ring all,
    round_ring (λ c. (c.y *ℤ p.d) <ℤ p.y) (λ edge. crossing p edge.from edge.to) (λ c. pos 0)
        (λ a b f t. both_below (le_z (high a) p.y) (le_z (high b) p.y) (turn_at a b p) (below (high a) p.y f)
        (below (high b) p.y t)) ring all,
  )

lt_le : (u v w : ℤ) → u <ℤ v → v ≤ℤ w → u <ℤ w
lt_le u v w h k = omega (arith, ints)

le_lt : (u v w : ℤ) → u ≤ℤ v → v <ℤ w → u <ℤ w
le_lt u v w h k = omega (arith, ints)

module _ (p : Point) (box : Bounds) (ring : List Corner) (all : All (HoldsCorner box) ring) where
  not_negative : pos 0 ≤ℤ p.d
  not_negative = le_of_lt (pos 0) p.d p.d_positive

  -- what the box says of each corner
  each : (Here : Corner → Type 0) → ((c : Corner) → HoldsCorner box c → Here c) → AllByRecursion Here ring
  each Here says = recursion_from_All Here ring (All-weaker (HoldsCorner box) Here says ring all)

  off_side : IsBeyondBox p box → IsOff p ring
  off_side (inl h) =
      west_of p ring (each (λ c. p.x <ℤ (c.x *ℤ p.d)) (λ c k. lt_le p.x (box.low.x *ℤ p.d) (c.x *ℤ p.d) h
      (mul_le box.low.x c.x p.d not_negative k.west)))
  off_side (inr (inl h)) =
      east_of p ring (each (λ c. (c.x *ℤ p.d) <ℤ p.x) (λ c k. le_lt (c.x *ℤ p.d) (box.high.x *ℤ p.d) p.x
      (mul_le c.x box.high.x p.d not_negative k.east) h))
  off_side (inr (inr (inl h))) =
      south_of p ring (each (λ c. p.y <ℤ (c.y *ℤ p.d)) (λ c k. lt_le p.y (box.low.y *ℤ p.d) (c.y *ℤ p.d) h
      (mul_le box.low.y c.y p.d not_negative k.south)))
  off_side (inr (inr (inr h))) =
      north_of p ring (each (λ c. (c.y *ℤ p.d) <ℤ p.y) (λ c k. le_lt (c.y *ℤ p.d) (box.high.y *ℤ p.d) p.y
      (mul_le c.y box.high.y p.d not_negative k.north) h))

-- a place beyond a box that holds all corners of a ring
pub beyond_box : (p : Point) (box : Bounds) (ring : List Corner) → All (HoldsCorner box) ring → IsBeyondBox p box
    → (¬ IsOnRing p ring) × (winding p ring ≡ pos 0)
beyond_box = off_side
