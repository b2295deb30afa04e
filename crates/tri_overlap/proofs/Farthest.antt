-- The corner of a box that is farthest to the left of a way, picked by the way's direction.
use Rattle.std.proofs.Common.{◌≡◌, refl, true, arith, [], ◌∷◌}
use Rattle.std.proofs.lemmas.Int.{ints, by_lt_z}
use lib.IntN.{ℤ, pos, ◌+ℤ◌, ◌-ℤ◌, ◌*ℤ◌}
use lib.Signed.{◌<ℤ◌, ◌≤ℤ◌, le_z}
use Rattle.geo_exact.specs.declared.corner.Corner.{Corner}
use Rattle.geo_exact.specs.Limit.{IsWithin, limit}
use Rattle.geo_exact.specs.Point.{Point}
use Rattle.geo_exact.specs.Turn.{turn_at}
use Rattle.geo_exact.proofs.numbers.Polynomials.{Expr, var, add, mul, neg, same_by}
use Rattle.geo_exact.proofs.numbers.Signs.{mul_not_neg, mul_falling, mul_le}
use Rattle.geo_exact.proofs.corners_and_turns.TurnLaws.{turn_at_expr}
use Rattle.geo_exact.specs.declared.bounds.Bounds.{Bounds}
use Rattle.geo_exact.specs.Bounds.{IsInsideBox}

-- the number picked for a way from u to v: t where it does not fall, else s
pub record IsPicked (u v s t y : ℤ) : Type 0 where
  pub rising : u ≤ℤ v → y ≡ t
  pub falling : v <ℤ u → y ≡ s

pub picked_within : {u v s t y : ℤ} → IsPicked u v s t y → IsWithin limit s → IsWithin limit t → IsWithin limit y
picked_within {u = u} {v = v} k i j = by_lt_z v u (λ h. rw (k.falling h) i) (λ h. rw (k.rising h) j)

-- the way times what lies between the place and the picked side is not negative
ahead_of : {u v s t y : ℤ} (d x : ℤ) → IsPicked u v s t y → (s *ℤ d) <ℤ x → x <ℤ (t *ℤ d)
    → pos 0 ≤ℤ ((v -ℤ u) *ℤ (y *ℤ d -ℤ x))
ahead_of {u = u} {v = v} {s = s} {t = t} d x k i j = by_lt_z v u
    (λ h. rw (k.falling h) (mul_falling (v -ℤ u) (s *ℤ d -ℤ x) (omega (arith, ints)) (omega (arith, ints))))
    (λ h. rw (k.rising h) (mul_not_neg (v -ℤ u) (t *ℤ d -ℤ x) (omega (arith, ints)) (omega (arith, ints))))

behind_of : {u v s t y : ℤ} (d x : ℤ) → IsPicked u v t s y → (s *ℤ d) <ℤ x → x <ℤ (t *ℤ d)
    → pos 0 ≤ℤ ((v -ℤ u) *ℤ (x -ℤ y *ℤ d))
behind_of {u = u} {v = v} {s = s} {t = t} d x k i j = by_lt_z v u
    (λ h. rw (k.falling h) (mul_falling (v -ℤ u) (x -ℤ t *ℤ d) (omega (arith, ints)) (omega (arith, ints))))
    (λ h. rw (k.rising h) (mul_not_neg (v -ℤ u) (x -ℤ s *ℤ d) (omega (arith, ints)) (omega (arith, ints))))

abbrev wide_turn_expr : Expr → Expr → Expr → Expr → Expr → Expr → Expr → Expr
wide_turn_expr ax ay bx by kx ky d = mul (add (mul (add bx (neg ax)) (add ky (neg ay))) (neg (mul (add by (neg ay)) (add kx (neg ax))))) d

gap : (ax ay bx by kx ky px py d : ℤ)
    → ((bx -ℤ ax) *ℤ (ky -ℤ ay) -ℤ (by -ℤ ay) *ℤ (kx -ℤ ax)) *ℤ d
    ≡ ((bx -ℤ ax) *ℤ (py -ℤ ay *ℤ d) -ℤ (by -ℤ ay) *ℤ (px -ℤ ax *ℤ d)) +ℤ ((bx -ℤ ax) *ℤ (ky *ℤ d -ℤ py)
    +ℤ (by -ℤ ay) *ℤ (px -ℤ kx *ℤ d))
gap ax ay bx by kx ky px py d = same_by (ax ∷ ay ∷ bx ∷ by ∷ kx ∷ ky ∷ px ∷ py ∷ d ∷ [])
    (wide_turn_expr (var 0) (var 1) (var 2) (var 3) (var 4) (var 5) (var 8))
    (add (turn_at_expr (var 0) (var 1) (var 2) (var 3) (var 6) (var 7) (var 8))
    (add (mul (add (var 2) (neg (var 0))) (add (mul (var 5) (var 8)) (neg (var 7))))
    (mul (add (var 3) (neg (var 1))) (add (var 6) (neg (mul (var 4) (var 8)))))))
    refl

pub farthest : (g h : Corner) (kx ky : ℤ) (box : Bounds) (p : Point) → IsPicked g.y h.y box.high.x box.low.x kx
    → IsPicked g.x h.x box.low.y box.high.y ky
    → IsInsideBox p box → turn_at g h p ≤ℤ (((h.x -ℤ g.x) *ℤ (ky -ℤ g.y) -ℤ (h.y -ℤ g.y) *ℤ (kx -ℤ g.x)) *ℤ p.d)
farthest g h kx ky box p x y i =
    let e = gap g.x g.y h.x h.y kx ky p.x p.y p.d in
    let north = ahead_of p.d p.y y i.south i.north in
    let west = behind_of p.d p.x x i.west i.east in
    omega (arith, ints, e, north, west)

-- where the farthest place is not left of the way, none is
pub not_left : (d t u : ℤ) → pos 0 <ℤ d → le_z t (pos 0) ≡ true → u ≤ℤ (t *ℤ d) → u ≤ℤ pos 0
not_left d t u h i j =
    let k : t ≤ℤ pos 0 = omega (arith, ints) in
    omega (arith, ints, mul_le t (pos 0) d (omega (arith, ints)) k, j)
