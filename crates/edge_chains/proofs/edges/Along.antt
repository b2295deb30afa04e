-- Corners in order along an edge.
use Rattle.std.proofs.Common.{◌≡◌, ◌≢◌, ◌⊎◌, inl, inr, ⊎_elim, refl, sym, ◌∙◌, ap, subst, arith, ℤ, pos}
use Rattle.std.proofs.Common.{◌+ℤ◌, ◌-ℤ◌, ◌*ℤ◌, neg_ℤ, List, [], ◌∷◌, ◌++◌, reverse}
use Rattle.std.specs.List.{AllByRecursion}
use Rattle.std.proofs.lemmas.Int.{ints, clamps, by_lt_z}
use Rattle.std.proofs.lemmas.List.{reverse-append}
use lib.Signed.{◌<ℤ◌, ◌≤ℤ◌}
use Rattle.geo_exact.specs.declared.corner.Corner.{Corner}
use Rattle.geo_exact.specs.Turn.{turn}
use Rattle.geo_exact.proofs.numbers.Signs.{mul_pos, mul_not_neg, mul_zero, pos_of_mul, zero_of_mul}
use Rattle.geo_exact.proofs.numbers.Differences.{expand}
use Rattle.geo_exact.proofs.numbers.Polynomials.{var, add, mul, sub, same_by}
use Rattle.geo_exact.proofs.corners_and_turns.TurnLaws.{turn_expr}
use Rattle.edge_chains.specs.Noding.{AreAlong}
use Rattle.geo_exact.specs.Segments.{IsStrictlyInside}
use Rattle.geo_exact.proofs.corners_and_turns.CornerOrder.{IsBefore}
use Rattle.leaning_boxes.proofs.Rows.{IsBetween}
use Rattle.edge_chains.proofs.edges.Inside.{inside_from_strictly, strictly_from_inside}

-- ---- two directions (u, v) and (e, f) on one line: u f - v e is 0
pub along_u : (u v e f : ℤ) → u *ℤ (u *ℤ e +ℤ v *ℤ f) ≡ (u *ℤ u +ℤ v *ℤ v) *ℤ e +ℤ v *ℤ (u *ℤ f -ℤ v *ℤ e)
along_u u v e f =
    same_by (u ∷ v ∷ e ∷ f ∷ [])
    (mul (var 0) (add (mul (var 0) (var 2)) (mul (var 1) (var 3))))
    (add (mul (add (mul (var 0) (var 0)) (mul (var 1) (var 1))) (var 2)) (mul (var 1) (sub (mul (var 0) (var 3)) (mul (var 1) (var 2)))))
    refl

pub along_v : (u v e f : ℤ) → v *ℤ (u *ℤ e +ℤ v *ℤ f) ≡ (u *ℤ u +ℤ v *ℤ v) *ℤ f -ℤ u *ℤ (u *ℤ f -ℤ v *ℤ e)
along_v u v e f =
    same_by (u ∷ v ∷ e ∷ f ∷ [])
    (mul (var 1) (add (mul (var 0) (var 2)) (mul (var 1) (var 3))))
    (sub (mul (add (mul (var 0) (var 0)) (mul (var 1) (var 1))) (var 3)) (mul (var 0) (sub (mul (var 0) (var 3)) (mul (var 1) (var 2)))))
    refl

pub drop_zero : (k z x y : ℤ) → z ≡ pos 0 → x ≡ y +ℤ k *ℤ z → x ≡ y
drop_zero k z x y h e = omega (arith, ints, rw h at e, mul_zero k)

pub drop_zero' : (k z x y : ℤ) → z ≡ pos 0 → x ≡ y -ℤ k *ℤ z → x ≡ y
drop_zero' k z x y h e = omega (arith, ints, rw h at e, mul_zero k)

pub square_not_neg : (k : ℤ) → pos 0 ≤ℤ (k *ℤ k)
square_not_neg k = by_lt_z k (pos 0)
    (λ l. let m : pos 0 ≤ℤ (neg_ℤ k *ℤ neg_ℤ k) = mul_not_neg (neg_ℤ k) (neg_ℤ k) (omega (arith, ints))
    (omega (arith, ints)) in omega
    (arith, ints, simp expand at m))
    (λ l. mul_not_neg k k l l)

pub square_pos : (k : ℤ) → k ≢ pos 0 → pos 0 <ℤ (k *ℤ k)
square_pos k h = by_lt_z (pos 0) k
    (λ l. mul_pos k k l l)
    (λ l. let m : pos 0 <ℤ (neg_ℤ k *ℤ neg_ℤ k) = mul_pos (neg_ℤ k) (neg_ℤ k) (less k h l) (less k h l) in
    omega (arith, ints, simp expand at m))
  where
    less : (k : ℤ) → k ≢ pos 0 → k ≤ℤ pos 0 → pos 0 <ℤ neg_ℤ k
    less k h l = by_lt_z (pos 0) (neg_ℤ k) (λ m. m) (λ m. absurd (h (omega (arith, ints))))

-- a direction that rises in x, or in y where it is level in x
abbrev pub Rises : ℤ → ℤ → Type 0
Rises u v = (pos 0 <ℤ u) ⊎ ((u ≡ pos 0) × (pos 0 <ℤ v))

-- two rising directions on one line agree
pub same_way : (u v e f : ℤ) → Rises u v → Rises e f → u *ℤ f -ℤ v *ℤ e ≡ pos 0 → pos 0 <ℤ (u *ℤ e +ℤ v *ℤ f)
same_way u v e f (inl p) (inl q) h =
    let n : pos 0 <ℤ (u *ℤ u +ℤ v *ℤ v) = omega (arith, ints, mul_pos u u p p, square_not_neg v) in
    pos_of_mul u (u *ℤ e +ℤ v *ℤ f) p
    (rw (drop_zero v (u *ℤ f -ℤ v *ℤ e) (u *ℤ (u *ℤ e +ℤ v *ℤ f)) ((u *ℤ u +ℤ v *ℤ v) *ℤ e) h (along_u u v e f))
    (mul_pos (u *ℤ u +ℤ v *ℤ v) e n q))
same_way u v e f (inl p) (inr q) h = absurd (let m : pos 0 <ℤ (u *ℤ f) = mul_pos u f p q.1 in
    omega (arith, ints, ap (λ z. v *ℤ z) q.0, mul_zero v))
same_way u v e f (inr p) (inl q) h = absurd (let m : pos 0 <ℤ (v *ℤ e) = mul_pos v e p.1 q in
    omega (arith, ints, ap (λ z. z *ℤ f) p.0))
same_way u v e f (inr p) (inr q) h = let m : pos 0 <ℤ (v *ℤ f) = mul_pos v f p.1 q.1 in omega (arith, ints, ap (λ z. z *ℤ e) p.0)

-- where the two agree, their parts have one sign
one_sign : (n d k z : ℤ) → pos 0 <ℤ n → pos 0 <ℤ d → k *ℤ d ≡ n *ℤ z → (pos 0 <ℤ k → pos 0 ≤ℤ z)
    × (k <ℤ pos 0 → z ≤ℤ pos 0)
one_sign n d k z h l e = (
  (λ p. let m : pos 0 <ℤ (n *ℤ z) = rw (← e) (mul_pos k d p l) in let r = pos_of_mul n z h m in omega (arith, ints)),
  (λ p. let m : pos 0 <ℤ (neg_ℤ k *ℤ d) = mul_pos (neg_ℤ k) d (omega (arith, ints)) l in
      let q : pos 0 <ℤ (n *ℤ neg_ℤ z) = simp expand (omega (arith, ints, simp expand at m, e)) in
      let r = pos_of_mul n (neg_ℤ z) h q in omega (arith, ints)),
)

-- in one coordinate: d is between c and b
still_between : (a b c d : ℤ) → IsBetween a b c → IsBetween a b d → (pos 0 <ℤ (b -ℤ a) → pos 0 ≤ℤ (d -ℤ c))
    × ((b -ℤ a) <ℤ pos 0 → (d -ℤ c) ≤ℤ pos 0)
    → IsBetween c b d
still_between a b c d h k s = by_lt_z (pos 0) (b -ℤ a)
    (λ p. let m = s.0 p in (omega (arith, ints, clamps, h.0, h.1, k.0, k.1), omega (arith, ints, clamps, h.0, h.1, k.0, k.1)))
    (λ p. by_lt_z (b -ℤ a) (pos 0)
    (λ q. let m = s.1 q in (omega (arith, ints, clamps, h.0, h.1, k.0, k.1), omega (arith, ints, clamps, h.0, h.1, k.0, k.1)))
    (λ q. (omega (arith, ints, clamps, h.0, h.1, k.0, k.1), omega (arith, ints, clamps, h.0, h.1, k.0, k.1))))

-- ---- corners inside one edge
-- the turn at d, from the one at c
turn_step : (a b c d : Corner) → (b.x -ℤ a.x) *ℤ (d.y -ℤ c.y) -ℤ (b.y -ℤ a.y) *ℤ (d.x -ℤ c.x) ≡ turn a b d -ℤ turn a b c
turn_step a b c d =
    same_by (a.x ∷ a.y ∷ b.x ∷ b.y ∷ c.x ∷ c.y ∷ d.x ∷ d.y ∷ [])
    (sub (mul (sub (var 2) (var 0)) (sub (var 7) (var 5))) (mul (sub (var 3) (var 1)) (sub (var 6) (var 4))))
    (sub (turn_expr (var 0) (var 1) (var 2) (var 3) (var 6) (var 7)) (turn_expr (var 0) (var 1) (var 2) (var 3) (var 4) (var 5)))
    refl

on_one_line : (a b c d : Corner) → turn a b c ≡ pos 0 → turn a b d ≡ pos 0
    → (b.x -ℤ a.x) *ℤ (d.y -ℤ c.y) -ℤ (b.y -ℤ a.y) *ℤ (d.x -ℤ c.x) ≡ pos 0
on_one_line a b c d h k = turn_step a b c d ∙ nothing (turn a b d) (turn a b c) k h
  where
    nothing : (x y : ℤ) → x ≡ pos 0 → y ≡ pos 0 → x -ℤ y ≡ pos 0
    nothing x y h k = omega (arith, ints)

-- the way from c to d leads on along the edge from a to b
abbrev pub LeadsOn : Corner → Corner → Corner → Corner → Type 0
LeadsOn a b c d = pos 0 <ℤ ((b.x -ℤ a.x) *ℤ (d.x -ℤ c.x) +ℤ (b.y -ℤ a.y) *ℤ (d.y -ℤ c.y))

-- d is on the line through c and b too: times each part of the way from a to b
turn_later_x : (a b c d : Corner) → (b.x -ℤ a.x) *ℤ turn c b d
    ≡ (b.x -ℤ c.x) *ℤ ((b.x -ℤ a.x) *ℤ (d.y -ℤ c.y) -ℤ (b.y -ℤ a.y) *ℤ (d.x -ℤ c.x)) +ℤ (d.x -ℤ c.x) *ℤ turn a b c
turn_later_x a b c d =
    same_by (a.x ∷ a.y ∷ b.x ∷ b.y ∷ c.x ∷ c.y ∷ d.x ∷ d.y ∷ [])
    (mul (sub (var 2) (var 0)) (turn_expr (var 4) (var 5) (var 2) (var 3) (var 6) (var 7)))
    (add (mul (sub (var 2) (var 4)) (sub (mul (sub (var 2) (var 0)) (sub (var 7) (var 5)))
    (mul (sub (var 3) (var 1)) (sub (var 6) (var 4)))))
    (mul (sub (var 6) (var 4)) (turn_expr (var 0) (var 1) (var 2) (var 3) (var 4) (var 5))))
    refl

turn_later_y : (a b c d : Corner) → (b.y -ℤ a.y) *ℤ turn c b d
    ≡ (b.y -ℤ c.y) *ℤ ((b.x -ℤ a.x) *ℤ (d.y -ℤ c.y) -ℤ (b.y -ℤ a.y) *ℤ (d.x -ℤ c.x)) +ℤ (d.y -ℤ c.y) *ℤ turn a b c
turn_later_y a b c d =
    same_by (a.x ∷ a.y ∷ b.x ∷ b.y ∷ c.x ∷ c.y ∷ d.x ∷ d.y ∷ [])
    (mul (sub (var 3) (var 1)) (turn_expr (var 4) (var 5) (var 2) (var 3) (var 6) (var 7)))
    (add (mul (sub (var 3) (var 5)) (sub (mul (sub (var 2) (var 0)) (sub (var 7) (var 5)))
    (mul (sub (var 3) (var 1)) (sub (var 6) (var 4)))))
    (mul (sub (var 7) (var 5)) (turn_expr (var 0) (var 1) (var 2) (var 3) (var 4) (var 5))))
    refl

pub both_zero : (p x q y z : ℤ) → x ≡ pos 0 → y ≡ pos 0 → z ≡ p *ℤ x +ℤ q *ℤ y → z ≡ pos 0
both_zero p x q y z h k e = omega (arith, ints, rw (h, k) at e, mul_zero p, mul_zero q)

-- what leads on is not level in both directions
not_both_level : (u v e f : ℤ) → pos 0 <ℤ (u *ℤ e +ℤ v *ℤ f) → u ≡ pos 0 → v ≡ pos 0 → ⊥
not_both_level u v e f h p q = omega (arith, ints, ap (λ z. z *ℤ e) p, ap (λ z. z *ℤ f) q)

pub zero_cases : (z : ℤ) → (z ≡ pos 0) ⊎ (z ≢ pos 0)
zero_cases z = by_lt_z (pos 0) z (λ p. inr (λ e. omega (arith, ints)))
    (λ p. by_lt_z z (pos 0) (λ q. inr (λ e. omega (arith, ints))) (λ q. inl (omega (arith, ints))))

still_on_line : (a b c d : Corner) → turn a b c ≡ pos 0 → turn a b d ≡ pos 0 → LeadsOn a b c d → turn c b d ≡ pos 0
still_on_line a b c d h k l =
    let z = on_one_line a b c d h k in
    ⊎_elim
    (λ level. zero_of_mul (b.y -ℤ a.y) (turn c b d) (λ q. not_both_level (b.x -ℤ a.x) (b.y -ℤ a.y) (d.x -ℤ c.x)
    (d.y -ℤ c.y) l level q)
    (both_zero (b.y -ℤ c.y) ((b.x -ℤ a.x) *ℤ (d.y -ℤ c.y) -ℤ (b.y -ℤ a.y) *ℤ (d.x -ℤ c.x)) (d.y -ℤ c.y) (turn a b c)
    ((b.y -ℤ a.y) *ℤ turn c b d) z h
    (turn_later_y a b c d)))
    (λ slope. zero_of_mul (b.x -ℤ a.x) (turn c b d) slope
    (both_zero (b.x -ℤ c.x) ((b.x -ℤ a.x) *ℤ (d.y -ℤ c.y) -ℤ (b.y -ℤ a.y) *ℤ (d.x -ℤ c.x)) (d.x -ℤ c.x) (turn a b c)
    ((b.x -ℤ a.x) *ℤ turn c b d) z h
    (turn_later_x a b c d)))
    (zero_cases (b.x -ℤ a.x))

-- a direction that isn't level in both parts has a length
pub squares : (u v : ℤ) → (u ≡ pos 0 → v ≡ pos 0 → ⊥) → pos 0 <ℤ (u *ℤ u +ℤ v *ℤ v)
squares u v h =
    ⊎_elim (λ p. omega (arith, ints, square_not_neg u, square_pos v (λ q. h p q)))
    (λ p. omega (arith, ints, square_pos u p, square_not_neg v)) (zero_cases u)

length_pos : (u v e f : ℤ) → pos 0 <ℤ (u *ℤ e +ℤ v *ℤ f) → pos 0 <ℤ (u *ℤ u +ℤ v *ℤ v)
length_pos u v e f h = squares u v (not_both_level u v e f h)

-- of two corners inside an edge, the later one is inside what is left behind the earlier one
pub later_inside : (a b c d : Corner) → IsStrictlyInside c a b → IsStrictlyInside d a b → LeadsOn a b c d → IsStrictlyInside d c b
later_inside a b c d h k l =
    let i = inside_from_strictly c a b h in
    let j = inside_from_strictly d a b k in
    let z = on_one_line a b c d i.1.0 j.1.0 in
    let n = length_pos (b.x -ℤ a.x) (b.y -ℤ a.y) (d.x -ℤ c.x) (d.y -ℤ c.y) l in
    let p = (b.x -ℤ a.x) *ℤ (b.x -ℤ a.x) +ℤ (b.y -ℤ a.y) *ℤ (b.y -ℤ a.y) in
    let q = (b.x -ℤ a.x) *ℤ (d.x -ℤ c.x) +ℤ (b.y -ℤ a.y) *ℤ (d.y -ℤ c.y) in
    let cross = (b.x -ℤ a.x) *ℤ (d.y -ℤ c.y) -ℤ (b.y -ℤ a.y) *ℤ (d.x -ℤ c.x) in
    strictly_from_inside d c b (
      (
        still_between a.x b.x c.x d.x i.0.0 j.0.0 (one_sign p q (b.x -ℤ a.x) (d.x -ℤ c.x) n l
            (drop_zero (b.y -ℤ a.y) cross ((b.x -ℤ a.x) *ℤ q) (p *ℤ (d.x -ℤ c.x)) z (along_u (b.x -ℤ a.x) (b.y -ℤ a.y)
            (d.x -ℤ c.x) (d.y -ℤ c.y)))),
        still_between a.y b.y c.y d.y i.0.1 j.0.1 (one_sign p q (b.y -ℤ a.y) (d.y -ℤ c.y) n l
            (drop_zero' (b.x -ℤ a.x) cross ((b.y -ℤ a.y) *ℤ q) (p *ℤ (d.y -ℤ c.y)) z
            (along_v (b.x -ℤ a.x) (b.y -ℤ a.y) (d.x -ℤ c.x) (d.y -ℤ c.y)))),
      ),
      (still_on_line a b c d i.1.0 j.1.0 l, ((λ e. apart c d l e), j.1.1.1)),
    )
  where
    apart : (c d : Corner) → LeadsOn a b c d → d ≡ c → ⊥
    apart c d l e =
        let x : d.x -ℤ c.x ≡ pos 0 = level d.x c.x (ap (λ (s : Corner). s.x) e) in
        let y : d.y -ℤ c.y ≡ pos 0 = level d.y c.y (ap (λ (s : Corner). s.y) e) in
        omega (
          arith,
          ints,
          ap (λ z. (b.x -ℤ a.x) *ℤ z) x,
          ap (λ z. (b.y -ℤ a.y) *ℤ z) y,
          mul_zero (b.x -ℤ a.x),
          mul_zero (b.y -ℤ a.y),
        )
      where
        level : (u v : ℤ) → u ≡ v → u -ℤ v ≡ pos 0
        level u v h = omega (arith, ints)

rises_between : (a b : Corner) → IsBefore a b → Rises (b.x -ℤ a.x) (b.y -ℤ a.y)
rises_between a b (inl p) = inl (omega (arith, ints))
rises_between a b (inr p) = inr (omega (arith, ints, p.0), omega (arith, ints, p.1))

-- on an edge that goes up in the order of corners, a corner after another leads on
pub leads_on_up : (a b c d : Corner) → IsBefore a b → IsStrictlyInside c a b → IsStrictlyInside d a b → IsBefore c d
    → LeadsOn a b c d
leads_on_up a b c d h k l m =
    same_way (b.x -ℤ a.x) (b.y -ℤ a.y) (d.x -ℤ c.x) (d.y -ℤ c.y) (rises_between a b h) (rises_between c d m)
    (on_one_line a b c d (inside_from_strictly c a b k).1.0 (inside_from_strictly d a b l).1.0)

-- and on one that goes down, a corner before another
pub leads_on_down : (a b c d : Corner) → IsBefore b a → IsStrictlyInside c a b → IsStrictlyInside d a b → IsBefore d c
    → LeadsOn a b c d
leads_on_down a b c d h k l m =
    rw (turned (b.x) (a.x) (d.x) (c.x) (b.y) (a.y) (d.y) (c.y))
    (same_way (a.x -ℤ b.x) (a.y -ℤ b.y) (c.x -ℤ d.x) (c.y -ℤ d.y) (rises_between b a h) (rises_between d c m)
    (turned_cross (b.x) (a.x) (d.x) (c.x) (b.y) (a.y) (d.y) (c.y)
    (on_one_line a b c d (inside_from_strictly c a b k).1.0 (inside_from_strictly d a b l).1.0)))
  where
    turned : (p q r s t u v w : ℤ) → (p -ℤ q) *ℤ (r -ℤ s) +ℤ (t -ℤ u) *ℤ (v -ℤ w) ≡ (q -ℤ p) *ℤ (s -ℤ r)
        +ℤ (u -ℤ t) *ℤ (w -ℤ v)
    turned p q r s t u v w =
        same_by (p ∷ q ∷ r ∷ s ∷ t ∷ u ∷ v ∷ w ∷ [])
        (add (mul (sub (var 0) (var 1)) (sub (var 2) (var 3))) (mul (sub (var 4) (var 5)) (sub (var 6) (var 7))))
        (add (mul (sub (var 1) (var 0)) (sub (var 3) (var 2))) (mul (sub (var 5) (var 4)) (sub (var 7) (var 6))))
        refl

    turned_cross : (p q r s t u v w : ℤ) → (p -ℤ q) *ℤ (v -ℤ w) -ℤ (t -ℤ u) *ℤ (r -ℤ s) ≡ pos 0
        → (q -ℤ p) *ℤ (w -ℤ v) -ℤ (u -ℤ t) *ℤ (s -ℤ r) ≡ pos 0
    turned_cross p q r s t u v w h =
        same_by (p ∷ q ∷ r ∷ s ∷ t ∷ u ∷ v ∷ w ∷ [])
        (sub (mul (sub (var 1) (var 0)) (sub (var 7) (var 6))) (mul (sub (var 5) (var 4)) (sub (var 3) (var 2))))
        (sub (mul (sub (var 0) (var 1)) (sub (var 6) (var 7))) (mul (sub (var 4) (var 5)) (sub (var 2) (var 3))))
        refl ∙ h

-- ---- chains
-- each stands in R to the next, p to the first
abbrev pub Chain : (Corner → Corner → Type 0) → Corner → List Corner → Type 0
Chain R p [] = Unit {0}
Chain R p (c ∷ rest) = R p c × Chain R c rest

abbrev pub IsChain : (Corner → Corner → Type 0) → List Corner → Type 0
IsChain R [] = Unit {0}
IsChain R (c ∷ rest) = Chain R c rest

along_from : (a b p : Corner) (xs : List Corner) → IsStrictlyInside p a b → AllByRecursion (λ c. IsStrictlyInside c a b) xs
    → Chain (LeadsOn a b) p xs → AreAlong p xs b
along_from a b p [] h k l = tt
along_from a b p (c ∷ rest) h k l = (later_inside a b p c h k.0 l.0, along_from a b c rest k.0 k.1 l.1)

-- corners inside an edge, each leading on to the next
pub along : (a b : Corner) (xs : List Corner) → AllByRecursion (λ c. IsStrictlyInside c a b) xs
    → IsChain (LeadsOn a b) xs → AreAlong a xs b
along a b [] h k = tt
along a b (c ∷ rest) h k = (h.0, along_from a b c rest h.0 h.1 k)

pub Chain-weaker : (R S : Corner → Corner → Type 0) (P : Corner → Type 0) → ((c d : Corner) → P c → P d → R c d → S c d)
    → (p : Corner) (xs : List Corner) → P p → AllByRecursion P xs → Chain R p xs → Chain S p xs
Chain-weaker R S P w p [] h k l = tt
Chain-weaker R S P w p (c ∷ rest) h k l = (w p c h k.0 l.0, Chain-weaker R S P w c rest k.0 k.1 l.1)

pub IsChain-weaker : (R S : Corner → Corner → Type 0) (P : Corner → Type 0) → ((c d : Corner) → P c → P d → R c d
    → S c d) → (xs : List Corner)
    → AllByRecursion P xs → IsChain R xs → IsChain S xs
IsChain-weaker R S P w [] k l = tt
IsChain-weaker R S P w (c ∷ rest) k l = Chain-weaker R S P w c rest k.0 k.1 l

-- one more at the end
Chain-push : (R : Corner → Corner → Type 0) (p y x : Corner) (zs : List Corner) → Chain R p (zs ++ y ∷ []) → R y x
    → Chain R p ((zs ++ y ∷ []) ++ x ∷ [])
Chain-push R p y x [] h k = (h.0, (k, tt))
Chain-push R p y x (z ∷ zs) h k = (h.0, Chain-push R z y x zs h.1 k)

IsChain-push : (R : Corner → Corner → Type 0) (y x : Corner) (zs : List Corner) → IsChain R (zs ++ y ∷ []) → R y x
    → IsChain R ((zs ++ y ∷ []) ++ x ∷ [])
IsChain-push R y x [] h k = (k, tt)
IsChain-push R y x (z ∷ zs) h k = Chain-push R z y x zs h k

-- turned round
pub IsChain-reverse : (R : Corner → Corner → Type 0) (xs : List Corner) → IsChain R xs → IsChain (λ c d. R d c) (reverse xs)
IsChain-reverse R [] h = tt
IsChain-reverse R (x ∷ []) h = tt
IsChain-reverse R (x ∷ y ∷ ys) h =
    subst (IsChain (λ c d. R d c)) (ap (λ l. l ++ x ∷ []) (sym (reverse-append (y ∷ []) ys))
    ∙ sym (reverse-append (x ∷ []) (y ∷ ys)))
    (IsChain-push (λ c d. R d c) y x (reverse ys) (subst (IsChain (λ c d. R d c)) (reverse-append (y ∷ []) ys)
    (IsChain-reverse R (y ∷ ys) h.1)) h.0)
