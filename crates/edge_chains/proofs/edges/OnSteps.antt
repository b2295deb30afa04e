-- Edges as rows of equal steps between whole places: what lies inside an edge is on its steps.
use Rattle.std.proofs.Common.{◌≡◌, ◌≢◌, ◌⊎◌, inl, inr, ⊎_elim, refl, sym, ◌∙◌, ap, subst, arith, ℕ, ◌+◌}
use Rattle.std.proofs.Common.{◌-◌, ◌<◌, ◌≤◌}
use Rattle.std.proofs.Common.{ℤ, pos, ◌+ℤ◌, ◌-ℤ◌, ◌*ℤ◌, neg_ℤ, List, [], ◌∷◌, ◌++◌, zero, suc, ◌↔◌}
use Rattle.std.specs.List.{Contains, filter}
use Rattle.std.proofs.lemmas.List.Elements.{Contains-append_left, Contains-push, Contains-push_cases}
use Rattle.std.proofs.Common.{Bool, true, false, not, length, get_or, take}
use Rattle.std.specs.Bool.{MatchBool}
use Rattle.std.specs.List.Sorted.{IsPermutation}
use Rattle.std.proofs.lemmas.Bool.{cases_eq}
use Rattle.std.proofs.lemmas.List.{take_more}
use Rattle.std.proofs.lemmas.List.Sorted.{Contains-permutation, IsPermutation-sym}
use Rattle.std.proofs.lemmas.Int.{ints, clamps, by_lt_z}
use lib.Signed.{◌<ℤ◌, ◌≤ℤ◌}
use lib.IntN.{negsuc, *ℤ_comm}
use Rattle.geo_exact.specs.declared.corner.Corner.{Corner}
use Rattle.geo_exact.specs.Limit.{IsWithin, limit}
use Rattle.geo_exact.specs.Segments.{IsStrictlyInside}
use Rattle.geo_exact.proofs.numbers.Signs.{mul_not_neg, mul_zero, not_neg_of_mul, zero_factor, zero_of_mul}
use Rattle.geo_exact.proofs.numbers.Differences.{expand}
use Rattle.geo_exact.proofs.numbers.Polynomials.{var, add, mul, sub, same_by}
use Rattle.geo_exact.proofs.corners_and_turns.SameCorner.{corner_same}
use Rattle.edge_chains.specs.own.Steps.{AreInside, AreSteps, IsStep, IsWithinSteps}
use Rattle.edge_chains.proofs.edges.Along.{zero_cases}
use Rattle.edge_chains.proofs.edges.Parts.{strictly_back}
use Rattle.edge_chains.proofs.nodings.NodedEdges.{none_in_nil, Contains-here, Contains-there, Contains-cases}
use Rattle.edge_chains.proofs.nodings.NodedEdges.{Contains-filter, Contains-from_filter}
use Rattle.edge_chains.specs.own.Inside.{is_strictly_inside}
use Rattle.leaning_boxes.proofs.Rows.{IsBetween, product_between}
use Rattle.edge_chains.proofs.edges.Inside.{Decides-is_strictly_inside, inside_from_strictly, strictly_from_inside}

-- ---- numbers
-- a part of the way is between its ends
part_between : (a b c u g k : ℤ) → pos 0 ≤ℤ k → k ≤ℤ g → g *ℤ u ≡ b -ℤ a → c ≡ a +ℤ k *ℤ u → IsBetween a b c
part_between a b c u g k l m e h =
    let p = product_between u (pos 0) g k l m in
    let z = mul_zero u in
    let s : u *ℤ g ≡ g *ℤ u = same_by (u ∷ g ∷ []) (mul (var 0) (var 1)) (mul (var 1) (var 0)) refl in
    let t : u *ℤ k ≡ k *ℤ u = same_by (u ∷ k ∷ []) (mul (var 0) (var 1)) (mul (var 1) (var 0)) refl in
    (omega (arith, ints, clamps, p.0, p.1, z, s, t, e, h), omega (arith, ints, clamps, p.0, p.1, z, s, t, e, h))

-- two ways along one direction span nothing
level_cross : (g k u v p q r s : ℤ) → p ≡ g *ℤ u → q ≡ k *ℤ v → r ≡ g *ℤ v → s ≡ k *ℤ u
    → p *ℤ q -ℤ r *ℤ s ≡ pos 0
level_cross g k u v p q r s h i j l =
    rw (h, i, j, l)
    (same_by (g ∷ k ∷ u ∷ v ∷ [])
    (sub (mul (mul (var 0) (var 2)) (mul (var 1) (var 3))) (mul (mul (var 0) (var 3)) (mul (var 1) (var 2))))
    (sub (var 0) (var 0))
    refl ∙ omega (arith, ints))

-- the way spans nothing with a direction of which it is a multiple
common_factor : (g u v x y : ℤ) → (g *ℤ u) *ℤ y -ℤ (g *ℤ v) *ℤ x ≡ g *ℤ (u *ℤ y -ℤ v *ℤ x)
common_factor g u v x y =
    same_by (g ∷ u ∷ v ∷ x ∷ y ∷ [])
    (sub (mul (mul (var 0) (var 1)) (var 4)) (mul (mul (var 0) (var 2)) (var 3)))
    (mul (var 0) (sub (mul (var 1) (var 4)) (mul (var 2) (var 3))))
    refl

steps_across : (u v p q x y : ℤ) → u *ℤ p +ℤ v *ℤ q ≡ pos 1 → u *ℤ y -ℤ v *ℤ x ≡ pos 0
    → x ≡ (p *ℤ x +ℤ q *ℤ y) *ℤ u
steps_across u v p q x y h k =
    let e : (p *ℤ x +ℤ q *ℤ y) *ℤ u ≡ (u *ℤ p +ℤ v *ℤ q) *ℤ x +ℤ q *ℤ (u *ℤ y -ℤ v *ℤ x) =
    same_by (u ∷ v ∷ p ∷ q ∷ x ∷ y ∷ [])
    (mul (add (mul (var 2) (var 4)) (mul (var 3) (var 5))) (var 0))
    (add (mul (add (mul (var 0) (var 2)) (mul (var 1) (var 3))) (var 4)) (mul (var 3) (sub (mul (var 0) (var 5)) (mul (var 1) (var 4)))))
    refl in
    omega (arith, ints, rw (h, k) at e, mul_zero q)

steps_up : (u v p q x y : ℤ) → u *ℤ p +ℤ v *ℤ q ≡ pos 1 → u *ℤ y -ℤ v *ℤ x ≡ pos 0
    → y ≡ (p *ℤ x +ℤ q *ℤ y) *ℤ v
steps_up u v p q x y h k =
    let e : (p *ℤ x +ℤ q *ℤ y) *ℤ v ≡ (u *ℤ p +ℤ v *ℤ q) *ℤ y -ℤ p *ℤ (u *ℤ y -ℤ v *ℤ x) =
    same_by (u ∷ v ∷ p ∷ q ∷ x ∷ y ∷ [])
    (mul (add (mul (var 2) (var 4)) (mul (var 3) (var 5))) (var 1))
    (sub (mul (add (mul (var 0) (var 2)) (mul (var 1) (var 3))) (var 5)) (mul (var 2) (sub (mul (var 0) (var 5)) (mul (var 1) (var 4)))))
    refl in
    omega (arith, ints, rw (h, k) at e, mul_zero p)

-- a multiple of a number other than 0 that is between 0 and the g-fold is a part of it
part_of : (u g t : ℤ) → u ≢ pos 0 → IsBetween (pos 0) (g *ℤ u) (t *ℤ u) → pos 0 ≤ℤ g → (pos 0 ≤ℤ t) × (t ≤ℤ g)
part_of u g t n h l = by_lt_z (pos 0) u
    (λ p.
    let m = scaled g u p l in
    (not_neg_of_mul u t p (omega (arith, ints, clamps, h.0, m, *ℤ_comm u t)), at_most u p (omega (arith, ints, clamps, h.1, m))))
    (λ p. ⊎_elim (λ e. absurd (n e)) (λ _.
    let d : pos 0 <ℤ neg_ℤ u = below p in
    let m = scaled g (neg_ℤ u) d l in
    let s : neg_ℤ u *ℤ t ≡ neg_ℤ (t *ℤ u) = simp expand (omega (arith, ints)) in
    let r : g *ℤ neg_ℤ u ≡ neg_ℤ (g *ℤ u) = simp expand (omega (arith, ints)) in
    let q : t *ℤ neg_ℤ u ≡ neg_ℤ (t *ℤ u) = simp expand (omega (arith, ints)) in (
      not_neg_of_mul (neg_ℤ u) t d (omega (arith, ints, clamps, h.1, m, r, s)),
      at_most (neg_ℤ u) d (omega (arith, ints, clamps, h.0, m, r, q)),
    ))
    (zero_cases u))
  where
    below : u ≤ℤ pos 0 → pos 0 <ℤ neg_ℤ u
    below p = by_lt_z u (pos 0) (λ q. omega (arith, ints)) (λ q. absurd (n (omega (arith, ints))))

    scaled : (g d : ℤ) → pos 0 <ℤ d → pos 0 ≤ℤ g → pos 0 ≤ℤ (g *ℤ d)
    scaled g d p l = mul_not_neg g d l (omega (arith, ints))

    at_most : (d : ℤ) → pos 0 <ℤ d → (t *ℤ d) ≤ℤ (g *ℤ d) → t ≤ℤ g
    at_most d p k =
        let s : d *ℤ (g -ℤ t) ≡ g *ℤ d -ℤ t *ℤ d = simp expand (omega (arith, ints)) in
        let r = not_neg_of_mul d (g -ℤ t) p (omega (arith, ints, s, k)) in
        omega (arith, ints, r)

-- a number that is not negative, as a natural number
natural : (t : ℤ) → pos 0 ≤ℤ t → (k : ℕ) × (t ≡ pos k)
natural (pos k) h = (k, refl)
natural (negsuc k) h = absurd (omega (arith, ints, h))

-- what has a multiple 1 together with another is not 0 with it
not_both_zero : (u v p q : ℤ) → u *ℤ p +ℤ v *ℤ q ≡ pos 1 → u ≡ pos 0 → v ≡ pos 0 → ⊥
not_both_zero u v p q e h k = omega (arith, ints, rw (h, k) at e)

-- ---- corners on the steps of an edge
-- where both parts of a way are none, it leads nowhere
same_where_level : (a c : Corner) → c.x -ℤ a.x ≡ pos 0 → c.y -ℤ a.y ≡ pos 0 → c ≡ a
same_where_level a c h k = corner_same c a (omega (arith, ints, h)) (omega (arith, ints, k))

-- k steps lead away, unless k is 0
steps_apart : (u v p q k : ℤ) → u *ℤ p +ℤ v *ℤ q ≡ pos 1 → k *ℤ u ≡ pos 0 → k *ℤ v ≡ pos 0 → k ≢ pos 0 → ⊥
steps_apart u v p q k e h i n = not_both_zero u v p q e (zero_of_mul k u n h) (zero_of_mul k v n i)

pub step_between_x : (a b c : Corner) (u v : ℤ) (g k : ℕ) → AreSteps a b u v g → k ≤ g → c.x ≡ a.x +ℤ pos k *ℤ u
    → IsBetween a.x b.x c.x
step_between_x a b c u v g k s l h = part_between a.x b.x c.x u (pos g) (pos k) (omega (arith, ints)) (omega (arith, ints, l)) s.in_x h

step_between_y : (a b c : Corner) (u v : ℤ) (g k : ℕ) → AreSteps a b u v g → k ≤ g → c.y ≡ a.y +ℤ pos k *ℤ v
    → IsBetween a.y b.y c.y
step_between_y a b c u v g k s l h = part_between a.y b.y c.y v (pos g) (pos k) (omega (arith, ints)) (omega (arith, ints, l)) s.in_y h

-- a step in between leads to a place inside the edge
pub inside_from_step : (a b c : Corner) (u v : ℤ) (g k : ℕ) → AreSteps a b u v g → 0 < k → k < g → IsStep a u v k c
    → IsStrictlyInside c a b
inside_from_step a b c u v g k s l m h =
    let x : c.x -ℤ a.x ≡ pos k *ℤ u = omega (arith, ints, h.in_x) in
    let y : c.y -ℤ a.y ≡ pos k *ℤ v = omega (arith, ints, h.in_y) in
    strictly_from_inside c a b (
      (step_between_x a b c u v g k s (omega (arith, m)) h.in_x, step_between_y a b c u v g k s (omega (arith, m)) h.in_y),
      (
        level_cross (pos g) (pos k) u v (b.x -ℤ a.x) (c.y -ℤ a.y) (b.y -ℤ a.y) (c.x -ℤ a.x) (sym s.in_x) y (sym s.in_y) x,
        (
          (λ e. steps_apart u v s.shortest.0 s.shortest.1 (pos k) s.shortest.2
              (none c.x a.x (pos k *ℤ u) (ap (λ (d : Corner). d.x) e) x) (none c.y a.y (pos k *ℤ v) (ap (λ (d : Corner). d.y) e) y)
              (λ z. omega (arith, ints, l, z))),
          (λ e. steps_apart u v s.shortest.0 s.shortest.1 (pos g -ℤ pos k) s.shortest.2
              (rest c.x a.x b.x u (ap (λ (d : Corner). d.x) e) x s.in_x) (rest c.y a.y b.y v (ap (λ (d : Corner). d.y) e) y s.in_y)
              (λ z. omega (arith, ints, m, z))),
        ),
      ),
    )
  where
    none : (p q r : ℤ) → p ≡ q → p -ℤ q ≡ r → r ≡ pos 0
    none p q r e h = omega (arith, ints, e, h)

    less : (n m w : ℤ) → n *ℤ w ≡ m *ℤ w → (n -ℤ m) *ℤ w ≡ pos 0
    less n m w e = simp expand (omega (arith, ints, e))

    rest : (z o f w : ℤ) → z ≡ f → z -ℤ o ≡ pos k *ℤ w → pos g *ℤ w ≡ f -ℤ o → (pos g -ℤ pos k) *ℤ w ≡ pos 0
    rest z o f w e h i = less (pos g) (pos k) w (omega (arith, ints, e, h, i))

-- what lies inside the edge is at a step in between
pub step_from_inside : (a b c : Corner) (u v : ℤ) (g : ℕ) → AreSteps a b u v g → IsStrictlyInside c a b
    → IsWithinSteps a u v (g - 1) c
step_from_inside a b c u v g s h =
    let i = inside_from_strictly c a b h in
    let x = c.x -ℤ a.x in
    let y = c.y -ℤ a.y in
    let p = s.shortest.0 in
    let q = s.shortest.1 in
    let one = s.shortest.2 in
    let t = p *ℤ x +ℤ q *ℤ y in
    let level : u *ℤ y -ℤ v *ℤ x ≡ pos 0 =
    zero_factor (pos g) (u *ℤ y -ℤ v *ℤ x) (omega (arith, ints, s.some))
    (sym (common_factor (pos g) u v x y) ∙ ap (λ z. z *ℤ y -ℤ (pos g *ℤ v) *ℤ x) s.in_x
    ∙ ap (λ z. (b.x -ℤ a.x) *ℤ y -ℤ z *ℤ x) s.in_y ∙ i.1.0) in
    let across : x ≡ t *ℤ u = steps_across u v p q x y one level in
    let up : y ≡ t *ℤ v = steps_up u v p q x y one level in
    let range : (pos 0 ≤ℤ t) × (t ≤ℤ pos g) = ⊎_elim
    (λ zero. part_of v (pos g) t (λ z. not_both_zero u v p q one zero z) (shifted a.y b.y c.y (pos g *ℤ v)
    (t *ℤ v) s.in_y up i.0.1) (omega (arith, ints)))
    (λ slope. part_of u (pos g) t slope (shifted a.x b.x c.x (pos g *ℤ u) (t *ℤ u) s.in_x across i.0.0) (omega (arith, ints)))
    (zero_cases u) in
    let n = natural t range.0 in (
      n.0,
      (not_zero n.0 (λ z. i.1.1.0 (same_where_level a c (nothing t u x across (n.1 ∙ ap pos z)) (nothing t v y up (n.1 ∙ ap pos z))))),
      (below n.0 (subst (λ z. z ≤ℤ pos g) n.1 range.1) (λ z. i.1.1.1 (same_where_level b c
          (at_end t u a.x b.x c.x across s.in_x (n.1 ∙ ap pos z)) (at_end t v a.y b.y c.y up s.in_y (n.1 ∙ ap pos z))))),
      record {
        in_x = moved c.x a.x (pos n.0 *ℤ u) (subst (λ z. x ≡ z *ℤ u) n.1 across);
        in_y =
            moved c.y a.y (pos n.0 *ℤ v) (subst (λ z. y ≡ z *ℤ v) n.1 up);
      },
    )
  where
    shifted : (a b c w z : ℤ) → w ≡ b -ℤ a → c -ℤ a ≡ z → IsBetween a b c → IsBetween (pos 0) w z
    shifted a b c w z e f h = (omega (arith, ints, clamps, e, f, h.0, h.1), omega (arith, ints, clamps, e, f, h.0, h.1))

    not_zero : (n : ℕ) → (n ≡ 0 → ⊥) → 0 < n
    not_zero zero h = absurd (h refl)
    not_zero (suc n) h = omega arith

    below : (n : ℕ) → pos n ≤ℤ pos g → (n ≡ g → ⊥) → n ≤ g - 1
    below n h k = elim (cases_eq n g) [ inl e ↦ absurd (k e) | inr e ↦ omega (arith, ints, h, e) ]

    nothing : (t w z : ℤ) → z ≡ t *ℤ w → t ≡ pos 0 → z ≡ pos 0
    nothing t w z e h = e ∙ ap (λ r. r *ℤ w) h ∙ omega (arith, ints)

    at_end : (t w o f z : ℤ) → z -ℤ o ≡ t *ℤ w → pos g *ℤ w ≡ f -ℤ o → t ≡ pos g → z -ℤ f ≡ pos 0
    at_end t w o f z e h k = omega (arith, ints, e, h, ap (λ r. r *ℤ w) k)

    moved : (c a z : ℤ) → c -ℤ a ≡ z → c ≡ a +ℤ z
    moved c a z h = omega (arith, ints, h)

-- a step in between leads to a place within the limits
pub step_within : (a b : Corner) (u v : ℤ) (g k : ℕ) → AreSteps a b u v g → k ≤ g → IsWithin limit (a.x +ℤ pos k *ℤ u)
    × IsWithin limit (a.y +ℤ pos k *ℤ v)
step_within a b u v g k s l = (
  within a.x b.x (a.x +ℤ pos k *ℤ u) a.x_in_range b.x_in_range
      (part_between a.x b.x (a.x +ℤ pos k *ℤ u) u (pos g) (pos k) (omega (arith, ints)) (omega (arith, ints, l)) s.in_x refl),
  within a.y b.y (a.y +ℤ pos k *ℤ v) a.y_in_range b.y_in_range
      (part_between a.y b.y (a.y +ℤ pos k *ℤ v) v (pos g) (pos k) (omega (arith, ints)) (omega (arith, ints, l)) s.in_y refl),
)
  where
    within : (a b c : ℤ) → IsWithin limit a → IsWithin limit b → IsBetween a b c → IsWithin limit c
    within a b c h k l = record {
      low = omega (arith, ints, clamps, h.low, k.low, l.0);
      high = omega (arith, ints, clamps, h.high, k.high, l.1);
    }

-- ---- the search, step after step
pub no_step : (a : Corner) (u v : ℤ) → IsStep a u v 0 a
no_step a u v = record { in_x = omega (arith, ints); in_y = omega (arith, ints) }

plus_one : (k : ℕ) (w p q r : ℤ) → p ≡ q +ℤ pos k *ℤ w → r ≡ p +ℤ w → r ≡ q +ℤ pos (k + 1) *ℤ w
plus_one k w p q r e f =
    let g : pos (k + 1) *ℤ w ≡ pos k *ℤ w +ℤ w = ap (λ n. n *ℤ w) (plus k) ∙ simp expand (omega (arith, ints)) in
    omega (arith, ints, e, f, g)
  where
    plus : (k : ℕ) → pos (k + 1) ≡ pos k +ℤ pos 1
    plus k = omega (arith, ints)

-- one step on
pub one_more : (a c d : Corner) (u v : ℤ) (k : ℕ) → IsStep a u v k c → d.x ≡ c.x +ℤ u → d.y ≡ c.y +ℤ v
    → IsStep a u v (k + 1) d
one_more a c d u v k s h i = record { in_x = plus_one k u c.x a.x d.x s.in_x h; in_y = plus_one k v c.y a.y d.y s.in_y i }

pub next_within : (a b c : Corner) (u v : ℤ) (g k : ℕ) → AreSteps a b u v g → IsStep a u v k c → k + 1 ≤ g
    → IsWithin limit (c.x +ℤ u) × IsWithin limit (c.y +ℤ v)
next_within a b c u v g k s h l =
    let w = step_within a b u v g (k + 1) s l in (
      subst (IsWithin limit) (sym (plus_one k u c.x a.x (c.x +ℤ u) h.in_x refl)) w.0,
      subst (IsWithin limit) (sym (plus_one k v c.y a.y (c.y +ℤ v) h.in_y refl)) w.1,
    )

same_step : (a c d : Corner) (u v : ℤ) (k : ℕ) → IsStep a u v k c → IsStep a u v k d → c ≡ d
same_step a c d u v k s t = corner_same c d (s.in_x ∙ sym t.in_x) (s.in_y ∙ sym t.in_y)

steps_more : (a c : Corner) (u v : ℤ) (n : ℕ) → IsWithinSteps a u v n c → IsWithinSteps a u v (n + 1) c
steps_more a c u v n h = (h.0, h.1, omega (arith, h.2), h.3)

last_step : (a c : Corner) (u v : ℤ) (n : ℕ) → IsWithinSteps a u v (n + 1) c → IsWithinSteps a u v n c ⊎ IsStep a u v (n + 1) c
last_step a c u v n h =
    ⊎_elim (λ e. inr (subst (λ k. IsStep a u v k c) e h.3)) (λ e. inl (h.0, h.1, omega (arith, h.2, e), h.3)) (cases_eq h.0 (n + 1))

-- the found corners are those that at most n steps lead to
abbrev pub AreFoundSteps : List Corner → Corner → ℤ → ℤ → ℕ → List Corner → Type 0
AreFoundSteps keys a u v n found = (c : Corner) → Contains found c ↔ (Contains keys c × IsWithinSteps a u v n c)

pub found_at_start : (keys : List Corner) (a : Corner) (u v : ℤ) → AreFoundSteps keys a u v 0 []
found_at_start keys a u v c = (λ h. absurd (none_in_nil c h), λ h. absurd (omega (arith, h.1.1, h.1.2)))

pub found_passed : (keys found : List Corner) (a d : Corner) (u v : ℤ) (n : ℕ) → IsStep a u v (n + 1) d → (Contains keys d → ⊥)
    → AreFoundSteps keys a u v n found → AreFoundSteps keys a u v (n + 1) found
found_passed keys found a d u v n s off so c = (
  λ h. let k = (so c).0 h in (k.0, steps_more a c u v n k.1),
  λ h. ⊎_elim (λ w. (so c).1 (h.0, w))
      (λ t. absurd (off (subst (Contains keys) (same_step a c d u v (n + 1) t s) h.0))) (last_step a c u v n h.1),
)

pub found_pushed : (keys found : List Corner) (a d : Corner) (u v : ℤ) (n : ℕ) → IsStep a u v (n + 1) d → Contains keys d
    → AreFoundSteps keys a u v n found → AreFoundSteps keys a u v (n + 1) (found ++ d ∷ [])
found_pushed keys found a d u v n s on so c = (
  λ h. ⊎_elim (λ old. let k = (so c).0 old in (k.0, steps_more a c u v n k.1))
      (λ e. (subst (Contains keys) e on, (n + 1, omega arith, omega arith, subst (IsStep a u v (n + 1)) e s)))
      (Contains-push_cases found d c h),
  λ h. ⊎_elim (λ w. Contains-append_left found (d ∷ []) c ((so c).1 (h.0, w)))
      (λ t. subst (Contains (found ++ d ∷ [])) (same_step a d c u v (n + 1) s t) (Contains-push found d))
      (last_step a c u v n h.1),
)

-- all steps but the last
pub found_all : (keys found : List Corner) (a b : Corner) (u v : ℤ) (g : ℕ) → AreSteps a b u v g
    → AreFoundSteps keys a u v (g - 1) found
    → AreInside keys a b found
found_all keys found a b u v g s so c = (
  λ h. let k = (so c).0 h in (k.0, inside_from_step a b c u v g k.1.0 s k.1.1 (omega (arith, k.1.2, s.some)) k.1.3),
  λ h. (so c).1 (h.0, step_from_inside a b c u v g s h.1),
)

-- ---- the set of corners, corner after corner
pub keys_more : (corners keys after : List Corner) (i : ℕ) (x : Corner) (added : Bool) → i < length corners → x ≡ get_or corners i x
    → MatchBool added (IsPermutation (x ∷ keys) after) (after ≡ keys) → (added ≡ false → Contains keys x)
    → ((c : Corner) → Contains keys c ↔ Contains (take i corners) c) → (c : Corner) → Contains after c
    ↔ Contains (take (i + 1) corners) c
keys_more corners keys after i x true l e p k so c =
    subst (λ xs. Contains after c ↔ Contains xs c) (sym (take_more corners i x l ∙ ap (λ z. take i corners ++ z ∷ []) (sym e))) (
      λ h. ⊎_elim (λ s. subst (Contains (take i corners ++ x ∷ [])) s (Contains-push (take i corners) x))
          (λ old. Contains-append_left (take i corners) (x ∷ []) c ((so c).0 old))
          (Contains-cases x keys c (Contains-permutation after (x ∷ keys) c (IsPermutation-sym (x ∷ keys) after p) h)),
      λ h. Contains-permutation (x ∷ keys) after c p (⊎_elim (λ old. Contains-there x keys c ((so c).1 old))
          (λ s. subst (Contains (x ∷ keys)) s (Contains-here x keys)) (Contains-push_cases (take i corners) x c h)),
    )
keys_more corners keys after i x false l e p k so c =
    subst (λ xs. Contains after c ↔ Contains xs c) (sym (take_more corners i x l ∙ ap (λ z. take i corners ++ z ∷ []) (sym e))) (
      λ h. Contains-append_left (take i corners) (x ∷ []) c ((so c).0 (subst (λ ks. Contains ks c) p h)),
      λ h. subst (λ ks. Contains ks c) (sym p) (⊎_elim (λ old. (so c).1 old) (λ s. subst (Contains keys) s (k refl))
          (Contains-push_cases (take i corners) x c h)),
    )

pub not_false : {b : Bool} → false ≡ not b → b ≡ true
not_false {b = true} e = refl
not_false {b = false} e = e

-- ---- other searches
-- corners that are tried one by one
pub inside_from_filter : (corners found : List Corner) (a b : Corner)
    → found ≡ filter (λ c. is_strictly_inside c a b) corners → AreInside corners a b found
inside_from_filter corners found a b e c = (
  λ h. let k = Contains-from_filter (λ x. is_strictly_inside x a b) corners c (subst (λ xs. Contains xs c) e h) in
      (k.0, (Decides-is_strictly_inside c a b).0 k.1),
  λ h. subst (λ xs. Contains xs c) (sym e)
      (Contains-filter (λ x. is_strictly_inside x a b) corners c h.0 ((Decides-is_strictly_inside c a b).1 h.1)),
)

-- the same corners in another list
pub inside_alike : (xs ys : List Corner) → ((c : Corner) → Contains xs c ↔ Contains ys c) → (a b : Corner) (found : List Corner)
    → AreInside xs a b found → AreInside ys a b found
inside_alike xs ys same a b found so c = (λ h. let k = (so c).0 h in ((same c).0 k.0, k.1), λ h. (so c).1 ((same c).1 h.0, h.1))

-- the edge the other way round
pub inside_turned : (corners : List Corner) (a b : Corner) (found : List Corner) → AreInside corners b a found
    → AreInside corners a b found
inside_turned corners a b found so c =
    (λ h. let k = (so c).0 h in (k.0, strictly_back c b a k.1), λ h. (so c).1 (h.0, strictly_back c a b h.1))
