-- Boxes on the right of a way: where the corner that lies farthest to the left does, each corner in the box does.
use Rattle.std.proofs.Common.{◌≡◌, arith, FitsSigned, to_z, of_z}
use Rattle.std.specs.Int.{w64}
use Rattle.std.proofs.lemmas.Int.{ints, to_z-of_z}
use lib.IntN.{ℤ, pos, ◌-ℤ◌, ◌*ℤ◌}
use lib.Signed.{◌<ℤ◌, ◌≤ℤ◌}
use Rattle.geo_exact.specs.declared.corner.Corner.{Corner}
use Rattle.geo_exact.specs.Limit.{IsWithin, limit}
use Rattle.geo_exact.specs.Turn.{turn}
use Rattle.geo_exact.proofs.numbers.Differences.{expand}
use Rattle.geo_exact.proofs.numbers.Signs.{mul_not_neg, mul_sinking}

grows : (k u v s : ℤ) → pos 0 ≤ℤ k → u ≤ℤ v → (k *ℤ (u -ℤ s)) ≤ℤ (k *ℤ (v -ℤ s))
grows k u v s h o =
    let e : pos 0 ≤ℤ (k *ℤ (v -ℤ u)) = mul_not_neg k (v -ℤ u) h (omega (arith, ints)) in
    simp expand (omega (arith, ints, simp expand at e))

falls : (k u v s : ℤ) → k ≤ℤ pos 0 → u ≤ℤ v → (k *ℤ (v -ℤ s)) ≤ℤ (k *ℤ (u -ℤ s))
falls k u v s h o =
    let e : (k *ℤ (v -ℤ u)) ≤ℤ pos 0 = mul_sinking k (v -ℤ u) h (omega (arith, ints)) in
    simp expand (omega (arith, ints, simp expand at e))

less_taken : (p q r s : ℤ) → p ≤ℤ q → r ≤ℤ s → (p -ℤ s) ≤ℤ (q -ℤ r)
less_taken p q r s h k = omega (arith, ints)

forward : (u v : ℤ) → u ≤ℤ v → pos 0 ≤ℤ (v -ℤ u)
forward u v h = omega (arith, ints)

backward : (u v : ℤ) → v <ℤ u → (v -ℤ u) ≤ℤ pos 0
backward u v h = omega (arith, ints)

-- the ways by their direction: the place x y is as far to the left as corner q
module _ (a b q : Corner) (x y : ℤ) where
  abbrev level : ℤ
  level = (b.x -ℤ a.x) *ℤ (y -ℤ a.y) -ℤ (b.y -ℤ a.y) *ℤ (x -ℤ a.x)

  pub up_right : a.x ≤ℤ b.x → a.y ≤ℤ b.y → q.y ≤ℤ y → x ≤ℤ q.x → turn a b q ≤ℤ level
  up_right h k u v =
      less_taken _ _ _ _ (grows (b.x -ℤ a.x) q.y y a.y (forward a.x b.x h) u) (grows (b.y -ℤ a.y) x q.x a.x (forward a.y b.y k) v)

  pub up_left : b.x <ℤ a.x → a.y ≤ℤ b.y → y ≤ℤ q.y → x ≤ℤ q.x → turn a b q ≤ℤ level
  up_left h k u v =
      less_taken _ _ _ _ (falls (b.x -ℤ a.x) y q.y a.y (backward a.x b.x h) u) (grows (b.y -ℤ a.y) x q.x a.x (forward a.y b.y k) v)

  pub down_right : a.x ≤ℤ b.x → b.y <ℤ a.y → q.y ≤ℤ y → q.x ≤ℤ x → turn a b q ≤ℤ level
  down_right h k u v =
      less_taken _ _ _ _ (grows (b.x -ℤ a.x) q.y y a.y (forward a.x b.x h) u) (falls (b.y -ℤ a.y) q.x x a.x (backward a.y b.y k) v)

  pub down_left : b.x <ℤ a.x → b.y <ℤ a.y → y ≤ℤ q.y → q.x ≤ℤ x → turn a b q ≤ℤ level
  down_left h k u v =
      less_taken _ _ _ _ (falls (b.x -ℤ a.x) y q.y a.y (backward a.x b.x h) u) (falls (b.y -ℤ a.y) q.x x a.x (backward a.y b.y k) v)

-- ---- coordinates, as the code passes them
pub low_as_passed : (u v : ℤ) → IsWithin limit u → u ≤ℤ v → to_z w64 (of_z w64 u) ≤ℤ v
low_as_passed u v w h = let f : FitsSigned w64 u = omega (arith, ints) in rw to_z-of_z h

pub high_as_passed : (u v : ℤ) → IsWithin limit v → u ≤ℤ v → u ≤ℤ to_z w64 (of_z w64 v)
high_as_passed u v w h = let f : FitsSigned w64 v = omega (arith, ints) in rw to_z-of_z h

pub right_by : (u v z : ℤ) → u ≤ℤ v → z ≡ v → z <ℤ pos 0 → u <ℤ pos 0
right_by u v z h e k = omega (arith, ints)

pub not_on_right : (z : ℤ) → z <ℤ pos 0 → pos 0 ≤ℤ z → ⊥
not_on_right z h k = omega (arith, ints)
