-- Edges beside a box along the axes, and edges in it.
use Rattle.std.proofs.Common.{◌≡◌, inl, inr, arith, true, FitsSigned, to_z, of_z}
use Rattle.std.specs.Int.{w64, int_min, int_max}
use Rattle.std.proofs.lemmas.Int.{ints, clamps, to_z-of_z}
use lib.IntN.{ℤ, pos, ◌*ℤ◌}
use lib.Signed.{◌≤ℤ◌, ◌<ℤ◌, lt_z}
use Rattle.geo_exact.specs.declared.bounds.Bounds.{Bounds}
use Rattle.geo_exact.specs.declared.corner.Corner.{Corner}
use Rattle.geo_exact.specs.Bounds.{HoldsCorner, IsBeyondBox}
use Rattle.geo_exact.specs.Limit.{IsWithin, limit}
use Rattle.geo_exact.specs.Point.{Point}
use Rattle.geo_exact.specs.Turn.{IsOnEdge}
use Rattle.geo_exact.proofs.numbers.Signs.{mul_le, mul_lt}

-- what a test of the machine's bits says of two coordinates
pub is_less : (u v : ℤ) → IsWithin limit u → IsWithin limit v → lt_z (to_z w64 (of_z w64 u)) (to_z w64 (of_z w64 v))
    ≡ true → u <ℤ v
is_less u v s t h =
    let x : FitsSigned w64 u = omega (arith, ints) in
    let y : FitsSigned w64 v = omega (arith, ints) in
    let e = simp to_z-of_z at h in grind (arith, ints)

-- ---- numbers of an edge's ends, and of a place between them
-- what is at most the greater of two numbers is below what both are below
below : (u v l d z : ℤ) → pos 0 <ℤ d → u <ℤ l → v <ℤ l → z ≤ℤ (int_max u v *ℤ d) → z <ℤ (l *ℤ d)
below u v l d z h i j k =
    let m : int_max u v <ℤ l = omega (arith, ints, clamps, i, j) in
    omega (arith, ints, k, mul_lt (int_max u v) l d h m)

above : (u v l d z : ℤ) → pos 0 <ℤ d → l <ℤ u → l <ℤ v → (int_min u v *ℤ d) ≤ℤ z → (l *ℤ d) <ℤ z
above u v l d z h i j k =
    let m : l <ℤ int_min u v = omega (arith, ints, clamps, i, j) in
    omega (arith, ints, k, mul_lt l (int_min u v) d h m)

module _ (box : Bounds) (a b : Corner) (p : Point) (on : IsOnEdge p a b) where
  pub left_of : a.x <ℤ box.low.x → b.x <ℤ box.low.x → IsBeyondBox p box
  left_of h k = inl (below a.x b.x box.low.x p.d p.x p.d_positive h k on.to_x)

  pub right_of : box.high.x <ℤ a.x → box.high.x <ℤ b.x → IsBeyondBox p box
  right_of h k = inr (inl (above a.x b.x box.high.x p.d p.x p.d_positive h k on.from_x))

  pub under : a.y <ℤ box.low.y → b.y <ℤ box.low.y → IsBeyondBox p box
  under h k = inr (inr (inl (below a.y b.y box.low.y p.d p.y p.d_positive h k on.to_y)))

  pub over : box.high.y <ℤ a.y → box.high.y <ℤ b.y → IsBeyondBox p box
  over h k = inr (inr (inr (above a.y b.y box.high.y p.d p.y p.d_positive h k on.from_y)))

-- ---- a place of a segment between two corners of a box is not beyond the box
module _ (box : Bounds) (a b : Corner) (ha : HoldsCorner box a) (hb : HoldsCorner box b) (q : Point) (on : IsOnEdge q a b) where
  positive : pos 0 ≤ℤ q.d
  positive = omega (arith, ints, q.d_positive)

  from_west : (box.low.x *ℤ q.d) ≤ℤ q.x
  from_west = let m : box.low.x ≤ℤ int_min a.x b.x = omega (arith, ints, clamps, ha.west, hb.west) in
      omega (arith, ints, on.from_x, mul_le box.low.x (int_min a.x b.x) q.d positive m)

  to_east : q.x ≤ℤ (box.high.x *ℤ q.d)
  to_east = let m : int_max a.x b.x ≤ℤ box.high.x = omega (arith, ints, clamps, ha.east, hb.east) in
      omega (arith, ints, on.to_x, mul_le (int_max a.x b.x) box.high.x q.d positive m)

  from_south : (box.low.y *ℤ q.d) ≤ℤ q.y
  from_south = let m : box.low.y ≤ℤ int_min a.y b.y = omega (arith, ints, clamps, ha.south, hb.south) in
      omega (arith, ints, on.from_y, mul_le box.low.y (int_min a.y b.y) q.d positive m)

  to_north : q.y ≤ℤ (box.high.y *ℤ q.d)
  to_north = let m : int_max a.y b.y ≤ℤ box.high.y = omega (arith, ints, clamps, ha.north, hb.north) in
      omega (arith, ints, on.to_y, mul_le (int_max a.y b.y) box.high.y q.d positive m)

  pub not_beyond : IsBeyondBox q box → ⊥
  not_beyond (inl h) = omega (arith, ints, h, from_west)
  not_beyond (inr (inl h)) = omega (arith, ints, h, to_east)
  not_beyond (inr (inr (inl h))) = omega (arith, ints, h, from_south)
  not_beyond (inr (inr (inr h))) = omega (arith, ints, h, to_north)
