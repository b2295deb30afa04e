-- The winding number of a counterclockwise triangle: 1 inside, 0 outside.
use Rattle.std.proofs.Common.{◌≡◌, ◌⊎◌, ◌↔◌, refl, ◌∙◌, sym, arith, Bool, true, false, if◌then◌else◌, []}
use Rattle.std.proofs.Common.{◌∷◌, inl, inr}
use Rattle.std.proofs.lemmas.Int.{ints, by_lt_z}
use lib.IntN.{ℤ, pos, negsuc, ◌+ℤ◌, ◌-ℤ◌, ◌*ℤ◌}
use lib.Signed.{◌<ℤ◌, ◌≤ℤ◌, lt_z, le_z}
use Rattle.geo_exact.specs.declared.corner.Corner.{Corner}
use Rattle.geo_exact.specs.Point.{Point}
use Rattle.geo_exact.specs.Turn.{turn, turn_at, IsOnEdge, IsOnRing}
use Rattle.geo_exact.specs.Winding.{winding, IsInterior}
use Rattle.geo_exact.proofs.numbers.Orders.{le_both, positive_not_zero}
use Rattle.geo_exact.proofs.numbers.Signs.{mul_pos, mul_not_neg, mul_neg, mul_not_pos, mul_falling, mul_sinking, mul_neg_pos}
use Rattle.geo_exact.proofs.numbers.Polynomials.{var, add, mul, neg, same_by}
use Rattle.geo_exact.proofs.corners_and_turns.TurnLaws.{turn_at_expr, turn_cycle, turn_at_cycle, weighed_x, weighed_y}
use Rattle.geo_exact.proofs.corners_and_turns.OnEdge.{mean_low, mean_high, min_reaches, max_reaches}
use Rattle.geo_exact.proofs.rings.Crossings.{crossed}

-- what the winding number w says of the turns along the three edges
pub record Goes (u d v w : ℤ) : Type 0 where
  pub either : (w ≡ pos 0) ⊎ (w ≡ pos 1)
  pub inside : pos 0 <ℤ u → pos 0 <ℤ d → pos 0 <ℤ v → w ≡ pos 1
  pub off_u : u <ℤ pos 0 → w ≡ pos 0
  pub off_d : d <ℤ pos 0 → w ≡ pos 0
  pub off_v : v <ℤ pos 0 → w ≡ pos 0

goes_cycle : (u d v w : ℤ) → Goes u d v w → Goes d v u w
goes_cycle u d v w g = record { either = g.either; inside = λ x y z. g.inside z x y; off_u = g.off_d; off_d = g.off_v; off_v = g.off_u }

goes_swap : (u d v w : ℤ) → Goes u d v w → Goes v d u w
goes_swap u d v w g = record { either = g.either; inside = λ x y z. g.inside z y x; off_u = g.off_v; off_d = g.off_d; off_v = g.off_u }

-- the crossings of an edge upward with the turn u, and of one downward with the turn d
abbrev spins : ℤ → ℤ → ℤ
spins u d = (if lt_z (pos 0) u then pos 1 else pos 0) +ℤ (if lt_z d (pos 0) then negsuc 0 else pos 0)

spins_up : (u d : ℤ) → pos 0 <ℤ u → pos 0 ≤ℤ d → spins u d ≡ pos 1
spins_up u d h k =
    let x : true ≡ lt_z (pos 0) u = omega (arith, ints) in
    let y : false ≡ lt_z d (pos 0) = omega (arith, ints) in
    rw (sym x, sym y) refl

spins_both : (u d : ℤ) → pos 0 <ℤ u → d <ℤ pos 0 → spins u d ≡ pos 0
spins_both u d h k =
    let x : true ≡ lt_z (pos 0) u = omega (arith, ints) in
    let y : true ≡ lt_z d (pos 0) = omega (arith, ints) in
    rw (sym x, sym y) refl

spins_none : (u d : ℤ) → u ≤ℤ pos 0 → pos 0 ≤ℤ d → spins u d ≡ pos 0
spins_none u d h k =
    let x : false ≡ lt_z (pos 0) u = omega (arith, ints) in
    let y : false ≡ lt_z d (pos 0) = omega (arith, ints) in
    rw (sym x, sym y) refl

two_edges : (u d v w : ℤ) → w ≡ spins u d → (u ≤ℤ pos 0 → d <ℤ pos 0 → ⊥)
    → (v <ℤ pos 0 → pos 0 <ℤ u → pos 0 ≤ℤ d → ⊥) → Goes u d v w
two_edges u d v w e never turned =
    by_lt_z (pos 0) u
    (λ p. by_lt_z d (pos 0)
    (λ q. let z : w ≡ pos 0 = e ∙ spins_both u d p q in
    record { either = inl z; inside = λ x y _. absurd (omega (arith, ints)); off_u = λ _. z; off_d = λ _. z; off_v = λ _. z })
    (λ q. let z : w ≡ pos 1 = e ∙ spins_up u d p q in
    record {
      either = inr z;
      inside = λ _ _ _. z;
      off_u = λ x. absurd (omega (arith, ints));
      off_d = λ x. absurd (omega (arith, ints));
      off_v = λ x. absurd (turned x p q);
    }))
    (λ p. by_lt_z d (pos 0)
    (λ q. absurd (never p q))
    (λ q. let z : w ≡ pos 0 = e ∙ spins_none u d p q in
    record { either = inl z; inside = λ x _ _. absurd (omega (arith, ints)); off_u = λ _. z; off_d = λ _. z; off_v = λ _. z }))

-- the corner opposite the edge that does not cross is the only one not above the point
one_below : (u d v yu yd yv w : ℤ) → w ≡ spins u d → pos 0 <ℤ (u +ℤ d +ℤ v) → u *ℤ yu +ℤ d *ℤ yd +ℤ v *ℤ yv
    ≡ pos 0
    → pos 0 <ℤ yu → pos 0 <ℤ yd → yv ≤ℤ pos 0 → Goes u d v w
one_below u d v yu yd yv w e area mean hu hd hv =
    two_edges u d v w e
    (λ p q. omega (
      arith,
      ints,
      mean,
      mul_sinking u yu p (omega (arith, ints)),
      mul_neg_pos d yd q hd,
      mul_not_pos v yv (omega (arith, ints)) hv,
    ))
    (λ r p q. omega (
      arith,
      ints,
      mean,
      mul_pos u yu p hu,
      mul_not_neg d yd q (omega (arith, ints)),
      mul_falling v yv (omega (arith, ints)) hv,
    ))

-- the corner opposite the edge that does not cross is the only one above the point
one_above : (u d v yu yd yv w : ℤ) → w ≡ spins u d → pos 0 <ℤ (u +ℤ d +ℤ v) → u *ℤ yu +ℤ d *ℤ yd +ℤ v *ℤ yv
    ≡ pos 0
    → yu ≤ℤ pos 0 → yd ≤ℤ pos 0 → pos 0 <ℤ yv → Goes u d v w
one_above u d v yu yd yv w e area mean hu hd hv =
    two_edges u d v w e
    (λ p q. omega (
      arith,
      ints,
      mean,
      mul_falling u yu p hu,
      mul_falling d yd (omega (arith, ints)) hd,
      mul_pos v yv (omega (arith, ints)) hv,
    ))
    (λ r p q. omega (arith, ints, mean, mul_not_pos u yu (omega (arith, ints)) hu, mul_not_pos d yd q hd, mul_neg_pos v yv r hv))

-- no edge crosses
level_above : (u d v yu yd yv w : ℤ) → w ≡ pos 0 → u *ℤ yu +ℤ d *ℤ yd +ℤ v *ℤ yv ≡ pos 0
    → pos 0 <ℤ yu → pos 0 <ℤ yd → pos 0 <ℤ yv → Goes u d v w
level_above u d v yu yd yv w z mean hu hd hv =
    record {
      either = inl z;
      inside = λ x y t. absurd (omega (arith, ints, mean, mul_pos u yu x hu, mul_pos d yd y hd, mul_pos v yv t hv));
      off_u = λ _. z;
      off_d = λ _. z;
      off_v = λ _. z;
    }

level_below : (u d v yu yd yv w : ℤ) → w ≡ pos 0 → u *ℤ yu +ℤ d *ℤ yd +ℤ v *ℤ yv ≡ pos 0
    → (yu ≡ pos 0 → yd ≡ pos 0 → pos 0 <ℤ v → ⊥)
    → yu ≤ℤ pos 0 → yd ≤ℤ pos 0 → yv ≤ℤ pos 0 → Goes u d v w
level_below u d v yu yd yv w z mean flat hu hd hv =
    record {
      either = inl z;
      inside = λ x y t.
          let nu : (u *ℤ yu) ≤ℤ pos 0 = mul_not_pos u yu (omega (arith, ints)) hu in
          let nd : (d *ℤ yd) ≤ℤ pos 0 = mul_not_pos d yd (omega (arith, ints)) hd in
          let nv : (v *ℤ yv) ≤ℤ pos 0 = mul_not_pos v yv (omega (arith, ints)) hv in
          absurd (by_lt_z yu (pos 0)
          (λ p. omega (arith, ints, mean, mul_neg u yu x p, nd, nv))
          (λ p. by_lt_z yd (pos 0)
          (λ q. omega (arith, ints, mean, mul_neg d yd y q, nu, nv))
          (λ q. flat (omega (arith, ints)) (omega (arith, ints)) t)));
      off_u = λ _. z;
      off_d = λ _. z;
      off_v = λ _. z;
    }

-- u, d and v are the turns along the edges b c, c a and a b
by_heights : (la lb lc : Bool) (u d v ya yb yc : ℤ)
    → (la ≡ true → ya ≤ℤ pos 0) → (la ≡ false → pos 0 <ℤ ya)
    → (lb ≡ true → yb ≤ℤ pos 0) → (lb ≡ false → pos 0 <ℤ yb)
    → (lc ≡ true → yc ≤ℤ pos 0) → (lc ≡ false → pos 0 <ℤ yc)
    → pos 0 <ℤ (u +ℤ d +ℤ v) → u *ℤ ya +ℤ d *ℤ yb +ℤ v *ℤ yc ≡ pos 0
    → (ya ≡ pos 0 → yb ≡ pos 0 → pos 0 <ℤ v → ⊥)
    → Goes u d v (crossed la lb v +ℤ (crossed lb lc u +ℤ (crossed lc la d +ℤ pos 0)))
by_heights true true true u d v ya yb yc a a' b b' c c' area mean flat =
    level_below u d v ya yb yc _ refl mean flat (a refl) (b refl) (c refl)
by_heights false false false u d v ya yb yc a a' b b' c c' area mean flat =
    level_above u d v ya yb yc _ refl mean (a' refl) (b' refl) (c' refl)
by_heights true false false u d v ya yb yc a a' b b' c c' area mean flat =
    goes_swap v d u _ (one_below v d u yc yb ya _ (omega (arith, ints)) (omega (arith, ints))
    (omega (arith, ints, mean)) (c' refl) (b' refl) (a refl))
by_heights false true false u d v ya yb yc a a' b b' c c' area mean flat =
    goes_swap v d u _ (goes_cycle u v d _
    (one_below u v d ya yc yb _ (omega (arith, ints)) (omega (arith, ints)) (omega (arith, ints, mean)) (a' refl) (c' refl) (b refl)))
by_heights false false true u d v ya yb yc a a' b b' c c' area mean flat =
    goes_cycle v u d _ (goes_swap d u v _
    (one_below d u v yb ya yc _ (omega (arith, ints)) (omega (arith, ints)) (omega (arith, ints, mean)) (b' refl) (a' refl) (c refl)))
by_heights true true false u d v ya yb yc a a' b b' c c' area mean flat =
    one_above u d v ya yb yc _ (omega (arith, ints)) area mean (a refl) (b refl) (c' refl)
by_heights true false true u d v ya yb yc a a' b b' c c' area mean flat =
    goes_cycle v u d _ (one_above v u d yc ya yb _ (omega (arith, ints)) (omega (arith, ints))
    (omega (arith, ints, mean)) (c refl) (a refl) (b' refl))
by_heights false true true u d v ya yb yc a a' b b' c c' area mean flat =
    goes_cycle v u d _ (goes_cycle d v u _
    (one_above d v u yb yc ya _ (omega (arith, ints)) (omega (arith, ints)) (omega (arith, ints, mean)) (b refl) (c refl) (a' refl)))

-- where both ends are at the height of p, so is the line
pub turn_at_heights : (a b : Corner) (p : Point)
    → p.d *ℤ turn_at a b p ≡ (p.x -ℤ b.x *ℤ p.d) *ℤ (a.y *ℤ p.d -ℤ p.y) -ℤ (p.x -ℤ a.x *ℤ p.d) *ℤ
    (b.y *ℤ p.d -ℤ p.y)
turn_at_heights a b p =
    same_by (a.x ∷ a.y ∷ b.x ∷ b.y ∷ p.x ∷ p.y ∷ p.d ∷ [])
    (mul (var 6) (turn_at_expr (var 0) (var 1) (var 2) (var 3) (var 4) (var 5) (var 6)))
    (add
    (mul (add (var 4) (neg (mul (var 2) (var 6)))) (add (mul (var 1) (var 6)) (neg (var 5))))
    (neg (mul (add (var 4) (neg (mul (var 0) (var 6)))) (add (mul (var 3) (var 6)) (neg (var 5))))))
    refl

flat_line : (d t k l y z : ℤ) → pos 0 <ℤ d → d *ℤ t ≡ k *ℤ y -ℤ l *ℤ z → y ≡ pos 0 → z ≡ pos 0 → pos 0 <ℤ t
    → ⊥
flat_line d t k l y z h e i j q = omega (arith, ints, mul_pos d t h q, rw (i, j) at e)

pub not_above : (s t : ℤ) → le_z s t ≡ true → (s -ℤ t) ≤ℤ pos 0
not_above s t h = omega (arith, ints)

pub is_above : (s t : ℤ) → le_z s t ≡ false → pos 0 <ℤ (s -ℤ t)
is_above s t h = omega (arith, ints)

sum_above : (s t r z : ℤ) → s +ℤ t +ℤ r ≡ z → pos 0 <ℤ z → pos 0 <ℤ (t +ℤ r +ℤ s)
sum_above s t r z e h = omega (arith, ints)

-- the turns along the three edges, and the winding number
pub winding_goes : (a b c : Corner) (p : Point) → pos 0 <ℤ turn a b c
    → Goes (turn_at b c p) (turn_at c a p) (turn_at a b p) (winding p (a ∷ b ∷ c ∷ []))
winding_goes a b c p h =
    by_heights (le_z (a.y *ℤ p.d) p.y) (le_z (b.y *ℤ p.d) p.y) (le_z (c.y *ℤ p.d) p.y)
    (turn_at b c p) (turn_at c a p) (turn_at a b p) (a.y *ℤ p.d -ℤ p.y) (b.y *ℤ p.d -ℤ p.y) (c.y *ℤ p.d -ℤ p.y)
    (not_above (a.y *ℤ p.d) p.y) (is_above (a.y *ℤ p.d) p.y)
    (not_above (b.y *ℤ p.d) p.y) (is_above (b.y *ℤ p.d) p.y)
    (not_above (c.y *ℤ p.d) p.y) (is_above (c.y *ℤ p.d) p.y)
    (sum_above (turn_at a b p) (turn_at b c p) (turn_at c a p) (p.d *ℤ turn a b c) (turn_at_cycle a b c p)
    (mul_pos p.d (turn a b c) p.d_positive h))
    (weighed_y a b c p)
    (flat_line p.d (turn_at a b p) (p.x -ℤ b.x *ℤ p.d) (p.x -ℤ a.x *ℤ p.d) (a.y *ℤ p.d -ℤ p.y)
    (b.y *ℤ p.d -ℤ p.y) p.d_positive (turn_at_heights a b p))

pub triangle_winds_at_most_once : (a b c : Corner) (p : Point) → pos 0 <ℤ turn a b c
    → (winding p (a ∷ b ∷ c ∷ []) ≡ pos 0) ⊎ (winding p (a ∷ b ∷ c ∷ []) ≡ pos 1)
triangle_winds_at_most_once a b c p h = (winding_goes a b c p h).either

pub triangle_winds_inside : (a b c : Corner) (p : Point) → pos 0 <ℤ turn a b c
    → pos 0 <ℤ turn_at a b p → pos 0 <ℤ turn_at b c p → pos 0 <ℤ turn_at c a p → winding p (a ∷ b ∷ c ∷ []) ≡ pos 1
triangle_winds_inside a b c p h x y z = (winding_goes a b c p h).inside y z x

-- p is right of some edge
pub triangle_winds_not_outside : (a b c : Corner) (p : Point) → pos 0 <ℤ turn a b c
    → ((turn_at a b p <ℤ pos 0) ⊎ (turn_at b c p <ℤ pos 0) ⊎ (turn_at c a p <ℤ pos 0)) → winding p (a ∷ b ∷ c ∷ [])
    ≡ pos 0
triangle_winds_not_outside a b c p h (inl x) = (winding_goes a b c p h).off_v x
triangle_winds_not_outside a b c p h (inr (inl x)) = (winding_goes a b c p h).off_u x
triangle_winds_not_outside a b c p h (inr (inr x)) = (winding_goes a b c p h).off_d x

-- ---- interiors
no_edge : (a b : Corner) (p : Point) → pos 0 <ℤ turn_at a b p → IsOnEdge p a b → ⊥
no_edge a b p h o = positive_not_zero (turn_at a b p) h o.on_line

-- p is left of the three edges
abbrev IsLeft : Corner → Corner → Corner → Point → Type 0
IsLeft a b c p = (pos 0 <ℤ turn_at a b p) × (pos 0 <ℤ turn_at b c p) × (pos 0 <ℤ turn_at c a p)

off_triangle : (a b c : Corner) (p : Point) → IsLeft a b c p → IsOnRing p (a ∷ b ∷ c ∷ []) → ⊥
off_triangle a b c p h (inl o) = no_edge a b p h.0 o
off_triangle a b c p h (inr (inl o)) = no_edge b c p h.1 o
off_triangle a b c p h (inr (inr (inl o))) = no_edge c a p h.2 o
off_triangle a b c p h (inr (inr (inr o))) = o

interior_of_left : (a b c : Corner) (p : Point) → pos 0 <ℤ turn a b c → IsLeft a b c p → IsInterior p (a ∷ b ∷ c ∷ [])
interior_of_left a b c p h l =
    record {
      off_edges = off_triangle a b c p l;
      is_wound =
          at_least (winding p (a ∷ b ∷ c ∷ [])) (triangle_winds_inside a b c p h l.0 l.1 l.2);
    }
  where
    at_least : (w : ℤ) → w ≡ pos 1 → pos 1 ≤ℤ w
    at_least w e = omega (arith, ints)

two_weights : (k s l t m r : ℤ) → k *ℤ s +ℤ l *ℤ t +ℤ m *ℤ r ≡ pos 0 → m ≡ pos 0 → k *ℤ s +ℤ l *ℤ t ≡ pos 0
two_weights k s l t m r e h = omega (arith, ints, rw h at e)

two_turns : (t k l z : ℤ) → t +ℤ k +ℤ l ≡ z → pos 0 <ℤ z → t ≡ pos 0 → pos 0 <ℤ (k +ℤ l)
two_turns t k l z e h i = omega (arith, ints)

-- in a triangle, a point on the line of an edge and not right of the others is on that edge
pub on_triangle_edge : (a b c : Corner) (p : Point) → pos 0 <ℤ turn a b c
    → turn_at a b p ≡ pos 0 → pos 0 ≤ℤ turn_at b c p → pos 0 ≤ℤ turn_at c a p → IsOnEdge p a b
on_triangle_edge a b c p h e hu hd =
    let sum : pos 0 <ℤ (turn_at b c p +ℤ turn_at c a p) =
    two_turns (turn_at a b p) (turn_at b c p) (turn_at c a p) (p.d *ℤ turn a b c) (turn_at_cycle a b c p)
    (mul_pos p.d (turn a b c) p.d_positive h) e in
    let mx : turn_at b c p *ℤ (a.x *ℤ p.d -ℤ p.x) +ℤ turn_at c a p *ℤ (b.x *ℤ p.d -ℤ p.x) ≡ pos 0 =
    two_weights (turn_at b c p) (a.x *ℤ p.d -ℤ p.x) (turn_at c a p) (b.x *ℤ p.d -ℤ p.x) (turn_at a b p)
    (c.x *ℤ p.d -ℤ p.x) (weighed_x a b c p) e in
    let my : turn_at b c p *ℤ (a.y *ℤ p.d -ℤ p.y) +ℤ turn_at c a p *ℤ (b.y *ℤ p.d -ℤ p.y) ≡ pos 0 =
    two_weights (turn_at b c p) (a.y *ℤ p.d -ℤ p.y) (turn_at c a p) (b.y *ℤ p.d -ℤ p.y) (turn_at a b p)
    (c.y *ℤ p.d -ℤ p.y) (weighed_y a b c p) e in
    record {
      on_line = e;
      from_x = min_reaches a.x b.x p.d p.x p.d_positive (mean_low (turn_at b c p) (turn_at c a p) (a.x *ℤ p.d)
          (b.x *ℤ p.d) p.x hu hd sum mx);
      to_x = max_reaches a.x b.x p.d p.x p.d_positive (mean_high (turn_at b c p) (turn_at c a p) (a.x *ℤ p.d)
          (b.x *ℤ p.d) p.x hu hd sum mx);
      from_y = min_reaches a.y b.y p.d p.y p.d_positive (mean_low (turn_at b c p) (turn_at c a p) (a.y *ℤ p.d)
          (b.y *ℤ p.d) p.y hu hd sum my);
      to_y = max_reaches a.y b.y p.d p.y p.d_positive (mean_high (turn_at b c p) (turn_at c a p) (a.y *ℤ p.d)
          (b.y *ℤ p.d) p.y hu hd sum my);
    }

left_edge : (a b c : Corner) (p : Point) → pos 0 <ℤ turn a b c → pos 0 ≤ℤ turn_at a b p → pos 0 ≤ℤ turn_at b c p
    → pos 0 ≤ℤ turn_at c a p
    → (IsOnEdge p a b → ⊥) → pos 0 <ℤ turn_at a b p
left_edge a b c p h hv hu hd off =
    by_lt_z (pos 0) (turn_at a b p) (λ q. q) (λ q. absurd (off (on_triangle_edge a b c p h (le_both (turn_at a b p) (pos 0) q hv) hu hd)))

not_right : (t w : ℤ) → pos 1 ≤ℤ w → (t <ℤ pos 0 → w ≡ pos 0) → pos 0 ≤ℤ t
not_right t w h off = by_lt_z t (pos 0) (λ q. absurd (none w h (off q))) (λ q. q)
  where
    none : (z : ℤ) → pos 1 ≤ℤ z → z ≡ pos 0 → ⊥
    none z i e = omega (arith, ints)

left_of_interior : (a b c : Corner) (p : Point) → pos 0 <ℤ turn a b c → IsInterior p (a ∷ b ∷ c ∷ []) → IsLeft a b c p
left_of_interior a b c p h i =
    let g : Goes (turn_at b c p) (turn_at c a p) (turn_at a b p) (winding p (a ∷ b ∷ c ∷ [])) = winding_goes a b c p h in
    let u : pos 0 ≤ℤ turn_at b c p = not_right (turn_at b c p) (winding p (a ∷ b ∷ c ∷ [])) i.is_wound g.off_u in
    let d : pos 0 ≤ℤ turn_at c a p = not_right (turn_at c a p) (winding p (a ∷ b ∷ c ∷ [])) i.is_wound g.off_d in
    let v : pos 0 ≤ℤ turn_at a b p = not_right (turn_at a b p) (winding p (a ∷ b ∷ c ∷ [])) i.is_wound g.off_v in (
      left_edge a b c p h v u d (λ o. i.off_edges (inl o)),
      left_edge b c a p (rw (turn_cycle a b c) h) u d v (λ o. i.off_edges (inr (inl o))),
      left_edge c a b p (rw (turn_cycle b c a, turn_cycle a b c) h) d v u (λ o. i.off_edges (inr (inr (inl o)))),
    )

-- the interior of a counterclockwise triangle is the points left of its three edges
pub triangle_interior : (a b c : Corner) (p : Point) → pos 0 <ℤ turn a b c
    → IsInterior p (a ∷ b ∷ c ∷ []) ↔ ((pos 0 <ℤ turn_at a b p) × (pos 0 <ℤ turn_at b c p) × (pos 0 <ℤ turn_at c a p))
triangle_interior a b c p h = (left_of_interior a b c p h, interior_of_left a b c p h)

-- how often a counterclockwise triangle goes round a point
pub ruleset triangle_windings = (triangle_winds_at_most_once, triangle_winds_inside, triangle_winds_not_outside)
