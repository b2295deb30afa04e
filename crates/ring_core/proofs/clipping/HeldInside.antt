-- A box that holds a triangle holds every corner in it.
use Rattle.std.proofs.Common.{◌≡◌, ◌∙◌, ap, refl, arith, [], ◌∷◌}
use Rattle.std.proofs.lemmas.Int.{ints, by_lt_z}
use lib.IntN.{ℤ, pos, neg_ℤ, ◌+ℤ◌, ◌-ℤ◌, ◌*ℤ◌}
use lib.Signed.{◌<ℤ◌, ◌≤ℤ◌}
use Rattle.geo_exact.specs.declared.bounds.Bounds.{Bounds}
use Rattle.geo_exact.specs.declared.corner.Corner.{Corner}
use Rattle.geo_exact.specs.Bounds.{HoldsCorner}
use Rattle.geo_exact.specs.Turn.{turn}
use Rattle.geo_exact.proofs.numbers.Signs.{mul_pos, mul_not_neg}
use Rattle.geo_exact.proofs.numbers.Polynomials.{var, add, mul, neg, sub, same_by}
use Rattle.ring_core.specs.declared.triangle.Tri.{Tri}
use Rattle.ring_core.specs.Boxes.{HoldsTriangle}
use Rattle.ring_core.specs.Clipping.{IsInTriangle}
use Rattle.ring_core.proofs.ears.PutBack.{weighed_x, weighed_y, turn_parts}

-- ---- the weights of a mean
not_down : (k u : ℤ) → pos 0 ≤ℤ k → pos 0 <ℤ u → pos 0 ≤ℤ (k *ℤ u)
not_down k u h i = mul_not_neg k u h (omega (arith, ints))

no_weight : (k u s : ℤ) → pos 0 <ℤ u → pos 0 ≤ℤ s → s +ℤ k *ℤ u ≡ pos 0 → k ≤ℤ pos 0
no_weight k u s h i e = by_lt_z (pos 0) k (λ l. absurd (never (k *ℤ u) s e (mul_pos k u l h) i)) (λ l. l)
  where
    never : (x s : ℤ) → s +ℤ x ≡ pos 0 → pos 0 <ℤ x → pos 0 ≤ℤ s → ⊥
    never x s e h i = omega (arith, ints)

-- three numbers above 0 have no mean 0
not_all_above : (k l m u v w : ℤ) → pos 0 ≤ℤ k → pos 0 ≤ℤ l → pos 0 ≤ℤ m → pos 0 <ℤ (k +ℤ l +ℤ m)
    → k *ℤ u +ℤ l *ℤ v +ℤ m *ℤ w ≡ pos 0 → pos 0 <ℤ u → pos 0 <ℤ v → pos 0 <ℤ w → ⊥
not_all_above k l m u v w hk hl hm some e hu hv hw =
    let x = not_down k u hk hu in let y = not_down l v hl hv in let z = not_down m w hm hw in
    none k l m
    (no_weight k u (l *ℤ v +ℤ m *ℤ w) hu (both (l *ℤ v) (m *ℤ w) y z) (first (k *ℤ u) (l *ℤ v) (m *ℤ w) e))
    (no_weight l v (k *ℤ u +ℤ m *ℤ w) hv (both (k *ℤ u) (m *ℤ w) x z) (second (k *ℤ u) (l *ℤ v) (m *ℤ w) e))
    (no_weight m w (k *ℤ u +ℤ l *ℤ v) hw (both (k *ℤ u) (l *ℤ v) x y) e) some
  where
    both : (x y : ℤ) → pos 0 ≤ℤ x → pos 0 ≤ℤ y → pos 0 ≤ℤ (x +ℤ y)
    both x y h i = omega (arith, ints)

    first : (x y z : ℤ) → x +ℤ y +ℤ z ≡ pos 0 → (y +ℤ z) +ℤ x ≡ pos 0
    first x y z e = omega (arith, ints)

    second : (x y z : ℤ) → x +ℤ y +ℤ z ≡ pos 0 → (x +ℤ z) +ℤ y ≡ pos 0
    second x y z e = omega (arith, ints)

    none : (k l m : ℤ) → k ≤ℤ pos 0 → l ≤ℤ pos 0 → m ≤ℤ pos 0 → pos 0 <ℤ (k +ℤ l +ℤ m) → ⊥
    none k l m h i j s = omega (arith, ints)

apart_from : (z low u : ℤ) → z <ℤ low → low ≤ℤ u → pos 0 <ℤ (u -ℤ z)
apart_from z low u h i = omega (arith, ints)

apart_to : (z high u : ℤ) → high <ℤ z → u ≤ℤ high → pos 0 <ℤ (z -ℤ u)
apart_to z high u h i = omega (arith, ints)

turned : (k l m a b c z : ℤ) → k *ℤ (a -ℤ z) +ℤ l *ℤ (b -ℤ z) +ℤ m *ℤ (c -ℤ z) ≡ pos 0
    → k *ℤ (z -ℤ a) +ℤ l *ℤ (z -ℤ b) +ℤ m *ℤ (z -ℤ c) ≡ pos 0
turned k l m a b c z e =
    same_by (k ∷ l ∷ m ∷ a ∷ b ∷ c ∷ z ∷ [])
    (add (add (mul (var 0) (sub (var 6) (var 3))) (mul (var 1) (sub (var 6) (var 4)))) (mul (var 2) (sub (var 6) (var 5))))
    (neg (add (add (mul (var 0) (sub (var 3) (var 6))) (mul (var 1) (sub (var 4) (var 6)))) (mul (var 2) (sub (var 5) (var 6)))))
    refl
    ∙ ap neg_ℤ e

-- a mean is between the bounds of what it is of
module _ (k l m a b c z : ℤ) (hk : pos 0 ≤ℤ k) (hl : pos 0 ≤ℤ l) (hm : pos 0 ≤ℤ m) (some : pos 0 <ℤ (k +ℤ l +ℤ m))
    (e : k *ℤ (a -ℤ z) +ℤ l *ℤ (b -ℤ z) +ℤ m *ℤ (c -ℤ z) ≡ pos 0) where
  pub mean_above : (low : ℤ) → low ≤ℤ a → low ≤ℤ b → low ≤ℤ c → low ≤ℤ z
  mean_above low h i j =
      by_lt_z z low
      (λ o. absurd (not_all_above k l m (a -ℤ z) (b -ℤ z) (c -ℤ z) hk hl hm some e
      (apart_from z low a o h) (apart_from z low b o i) (apart_from z low c o j)))
      (λ o. o)

  pub mean_below : (high : ℤ) → a ≤ℤ high → b ≤ℤ high → c ≤ℤ high → z ≤ℤ high
  mean_below high h i j =
      by_lt_z high z
      (λ o. absurd (not_all_above k l m (z -ℤ a) (z -ℤ b) (z -ℤ c) hk hl hm some (turned k l m a b c z e)
      (apart_to z high a o h) (apart_to z high b o i) (apart_to z high c o j)))
      (λ o. o)

-- ---- the corners of a triangle have as their means what lies in it
pub held_inside : (box : Bounds) (t : Tri) (q : Corner) → HoldsTriangle box t → IsInTriangle q t.a t.b t.c → HoldsCorner box q
held_inside box t q h i =
    let k = turn t.b t.c q in let l = turn t.c t.a q in let m = turn t.a t.b q in
    let some : pos 0 <ℤ (k +ℤ l +ℤ m) = rw (turn_parts t.a t.b t.c q) t.turns_left in
    let x = weighed_x t.a t.b t.c q in let y = weighed_y t.a t.b t.c q in
    record {
      west = mean_above k l m t.a.x t.b.x t.c.x q.x i.along_bc i.along_ca i.along_ab some x box.low.x h.a.west h.b.west h.c.west;
      east = mean_below k l m t.a.x t.b.x t.c.x q.x i.along_bc i.along_ca i.along_ab some x box.high.x h.a.east h.b.east h.c.east;
      south = mean_above k l m t.a.y t.b.y t.c.y q.y i.along_bc i.along_ca i.along_ab some y box.low.y h.a.south h.b.south h.c.south;
      north = mean_below k l m t.a.y t.b.y t.c.y q.y i.along_bc i.along_ca i.along_ab some y box.high.y h.a.north h.b.north h.c.north;
    }
