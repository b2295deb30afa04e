-- Radon's theorem in the plane: four rational points fall into two groups whose hulls meet.
use Rattle.std.proofs.Common.{◌≡◌, refl, ◌∙◌, arith, inl, inr, ◌⊎◌, ⊎_elim}
use Rattle.std.proofs.lemmas.Int.{ints, by_lt_z}
use lib.IntN.{ℤ, pos, ◌+ℤ◌, ◌-ℤ◌, ◌*ℤ◌, neg_ℤ}
use lib.Signed.{◌<ℤ◌, ◌≤ℤ◌}
use Rattle.geo_exact.specs.Point.{Point}
use Rattle.geo_exact.proofs.numbers.Signs.{mul_pos, mul_not_neg}
use Rattle.geo_exact.proofs.numbers.Differences.{expand}
use Rattle.tri_overlap.proofs.Convex.{IsBlend}
use Rattle.tri_overlap.proofs.Dependence.{IsSigned, sum4, SomeOf, first, second, third, fourth, IsDependent, dependence}

-- a number is what is positive of it less what is negative, and one of the two is 0
record Parts (z : ℤ) : Type 0 where
  up : ℤ
  down : ℤ
  up_not_negative : pos 0 ≤ℤ up
  down_not_negative : pos 0 ≤ℤ down
  difference : z ≡ up -ℤ down
  one_is_none : (up ≡ pos 0) ⊎ (down ≡ pos 0)

parts : (z : ℤ) → Parts z
parts z = by_lt_z (pos 0) z
    (λ h. record {
      up = z;
      down = pos 0;
      up_not_negative = omega (arith, ints);
      down_not_negative = omega (arith, ints);
      difference = omega (arith, ints);
      one_is_none = inr refl;
    })
    (λ h. record {
      up = pos 0;
      down = neg_ℤ z;
      up_not_negative = omega (arith, ints);
      down_not_negative = omega (arith, ints);
      difference = omega (arith, ints);
      one_is_none = inl refl;
    })

-- a number with a sign has one of its parts above 0
sided : (z : ℤ) (f : Parts z) → IsSigned z → (pos 0 <ℤ f.up) ⊎ (pos 0 <ℤ f.down)
sided z f (inl a) = inl (omega (arith, ints, a, f.difference, f.down_not_negative))
sided z f (inr a) = inr (omega (arith, ints, a, f.difference, f.up_not_negative))

-- t is a sum of multiples of four points, none negative
pub record IsSum (t p q r s : Point) (i j k l : ℤ) : Type 0 where
  pub first_not_negative : pos 0 ≤ℤ i
  pub second_not_negative : pos 0 ≤ℤ j
  pub third_not_negative : pos 0 ≤ℤ k
  pub fourth_not_negative : pos 0 ≤ℤ l
  pub x : t.x ≡ sum4 i j k l p.x q.x r.x s.x
  pub y : t.y ≡ sum4 i j k l p.y q.y r.y s.y
  pub d : t.d ≡ sum4 i j k l p.d q.d r.d s.d

-- the same sum, begun with the second point
pub sum_turned : {t p q r s : Point} {i j k l : ℤ} → IsSum t p q r s i j k l → IsSum t q r s p j k l i
sum_turned {t} {p} {q} {r} {s} {i} {j} {k} {l} h = record {
  first_not_negative = h.second_not_negative;
  second_not_negative = h.third_not_negative;
  third_not_negative = h.fourth_not_negative;
  fourth_not_negative = h.first_not_negative;
  x = h.x ∙ turned p.x q.x r.x s.x;
  y = h.y ∙ turned p.y q.y r.y s.y;
  d = h.d ∙ turned p.d q.d r.d s.d;
}
  where
    turned : (a b c d : ℤ) → sum4 i j k l a b c d ≡ sum4 j k l i b c d a
    turned a b c d = omega (arith, ints)

-- a sum with nothing of its first point is a blend of the other three
pub without_first : {t p q r s : Point} {i j k l : ℤ} → IsSum t p q r s i j k l → i ≡ pos 0 → IsBlend t q r s j k l
without_first {t} {p} {q} {r} {s} {i} {j} {k} {l} h e = record {
  first = h.second_not_negative;
  second = h.third_not_negative;
  third = h.fourth_not_negative;
  x = h.x ∙ no_first p.x q.x r.x s.x;
  y = h.y ∙ no_first p.y q.y r.y s.y;
  d = h.d ∙ no_first p.d q.d r.d s.d;
}
  where
    no_first : (a b c d : ℤ) → sum4 i j k l a b c d ≡ j *ℤ b +ℤ k *ℤ c +ℤ l *ℤ d
    no_first a b c d = rw e (omega (arith, ints))

-- a point where the hulls of two groups of four points meet: a sum of the one group and of the other
pub record Radon (p q r s : Point) : Type 0 where
  pub place : Point
  pub i : ℤ
  pub j : ℤ
  pub k : ℤ
  pub l : ℤ
  pub i' : ℤ
  pub j' : ℤ
  pub k' : ℤ
  pub l' : ℤ
  pub as_upper : IsSum place p q r s i j k l
  pub as_lower : IsSum place p q r s i' j' k' l'
  pub first_is_in_one : (i ≡ pos 0) ⊎ (i' ≡ pos 0)
  pub second_is_in_one : (j ≡ pos 0) ⊎ (j' ≡ pos 0)
  pub third_is_in_one : (k ≡ pos 0) ⊎ (k' ≡ pos 0)
  pub fourth_is_in_one : (l ≡ pos 0) ⊎ (l' ≡ pos 0)

abbrev IsPositive : ℤ → Type 0
IsPositive z = pos 0 <ℤ z

-- a sum of four products in which no first factor is negative, one is positive, and all second ones are
positive_sum : (i j k l a b c d : ℤ) → pos 0 ≤ℤ i → pos 0 ≤ℤ j → pos 0 ≤ℤ k → pos 0 ≤ℤ l
    → pos 0 <ℤ a → pos 0 <ℤ b → pos 0 <ℤ c → pos 0 <ℤ d → SomeOf IsPositive i j k l → pos 0 <ℤ sum4 i j k l a b c d
positive_sum i j k l a b c d hi hj hk hl ha hb hc hd h =
    let not_neg : (z t : ℤ) → pos 0 ≤ℤ z → pos 0 <ℤ t → pos 0 ≤ℤ (z *ℤ t) =
    λ z t u v. mul_not_neg z t u (omega (arith, ints)) in
    let fi = not_neg i a hi ha in
    let fj = not_neg j b hj hb in
    let fk = not_neg k c hk hc in
    let fl = not_neg l d hl hd in
    elim h [
      | first u ↦ omega (arith, ints, mul_pos i a u ha)
      | second u ↦ omega (arith, ints, mul_pos j b u hb)
      | third u ↦ omega (arith, ints, mul_pos k c u hc)
      | fourth u ↦ omega (arith, ints, mul_pos l d u hd)
    ]

-- four numbers, each cut into its parts
record FourParts (i j k l : ℤ) : Type 0 where
  a : Parts i
  b : Parts j
  c : Parts k
  d : Parts l

abbrev up_sum : {i j k l : ℤ} → FourParts i j k l → ℤ → ℤ → ℤ → ℤ → ℤ
up_sum f u v w z = sum4 f.a.up f.b.up f.c.up f.d.up u v w z

abbrev down_sum : {i j k l : ℤ} → FourParts i j k l → ℤ → ℤ → ℤ → ℤ → ℤ
down_sum f u v w z = sum4 f.a.down f.b.down f.c.down f.d.down u v w z

-- one of four numbers has a sign: an upper part is above 0, or a lower one
some_positive : (i j k l : ℤ) (f : FourParts i j k l) → SomeOf IsSigned i j k l
    → SomeOf IsPositive f.a.up f.b.up f.c.up f.d.up ⊎ SomeOf IsPositive f.a.down f.b.down f.c.down f.d.down
some_positive i j k l f (first u) = ⊎_elim (λ v. inl (first v)) (λ v. inr (first v)) (sided i f.a u)
some_positive i j k l f (second u) = ⊎_elim (λ v. inl (second v)) (λ v. inr (second v)) (sided j f.b u)
some_positive i j k l f (third u) = ⊎_elim (λ v. inl (third v)) (λ v. inr (third v)) (sided k f.c u)
some_positive i j k l f (fourth u) = ⊎_elim (λ v. inl (fourth v)) (λ v. inr (fourth v)) (sided l f.d u)

-- multiples that add up to nothing: their upper parts add up to what their lower parts do
split_sum : (i j k l : ℤ) (f : FourParts i j k l) (u v w z : ℤ) → sum4 i j k l u v w z ≡ pos 0
    → up_sum f u v w z ≡ down_sum f u v w z
split_sum i j k l f u v w z h =
    same_sums f.a.up f.b.up f.c.up f.d.up f.a.down f.b.down f.c.down f.d.down
    (let e : sum4 (f.a.up -ℤ f.a.down) (f.b.up -ℤ f.b.down) (f.c.up -ℤ f.c.down) (f.d.up -ℤ f.d.down) u v w z
    ≡ sum4 i j k l u v w z =
    rw (← f.a.difference, ← f.b.difference, ← f.c.difference, ← f.d.difference) refl in e ∙ h)
  where
    same_sums : (i j k l i' j' k' l' : ℤ) → sum4 (i -ℤ i') (j -ℤ j') (k -ℤ k') (l -ℤ l') u v w z ≡ pos 0
        → sum4 i j k l u v w z ≡ sum4 i' j' k' l' u v w z
    same_sums i j k l i' j' k' l' h = omega (arith, ints, simp expand at h)

-- the common sum of the two groups has a positive denominator
positive_parts : (p q r s : Point) (i j k l : ℤ) (f : FourParts i j k l) → IsDependent p q r s i j k l
    → pos 0 <ℤ up_sum f p.d q.d r.d s.d
positive_parts p q r s i j k l f h = elim (some_positive i j k l f h.is_proper) [
  | inl u ↦ positive_sum f.a.up f.b.up f.c.up f.d.up p.d q.d r.d s.d
      f.a.up_not_negative f.b.up_not_negative f.c.up_not_negative f.d.up_not_negative
      p.d_positive q.d_positive r.d_positive s.d_positive u
  | inr u ↦ rw (split_sum i j k l f p.d q.d r.d s.d h.d)
      (positive_sum f.a.down f.b.down f.c.down f.d.down p.d q.d r.d s.d
      f.a.down_not_negative f.b.down_not_negative f.c.down_not_negative f.d.down_not_negative
      p.d_positive q.d_positive r.d_positive s.d_positive u)
]

-- the hulls meet in the sum of the upper parts
meet : (p q r s : Point) (i j k l : ℤ) (f : FourParts i j k l) → IsDependent p q r s i j k l → Radon p q r s
meet p q r s i j k l f h = record {
  place = record {
    x = up_sum f p.x q.x r.x s.x;
    y = up_sum f p.y q.y r.y s.y;
    d = up_sum f p.d q.d r.d s.d;
    d_positive = positive_parts p q r s i j k l f h;
  };
  i = f.a.up;
  j = f.b.up;
  k = f.c.up;
  l = f.d.up;
  i' = f.a.down;
  j' = f.b.down;
  k' = f.c.down;
  l' = f.d.down;
  as_upper = record {
    first_not_negative = f.a.up_not_negative;
    second_not_negative = f.b.up_not_negative;
    third_not_negative = f.c.up_not_negative;
    fourth_not_negative = f.d.up_not_negative;
    x = refl;
    y = refl;
    d = refl;
  };
  as_lower = record {
    first_not_negative = f.a.down_not_negative;
    second_not_negative = f.b.down_not_negative;
    third_not_negative = f.c.down_not_negative;
    fourth_not_negative = f.d.down_not_negative;
    x = split_sum i j k l f p.x q.x r.x s.x h.x;
    y = split_sum i j k l f p.y q.y r.y s.y h.y;
    d = split_sum i j k l f p.d q.d r.d s.d h.d;
  };
  first_is_in_one = f.a.one_is_none;
  second_is_in_one = f.b.one_is_none;
  third_is_in_one = f.c.one_is_none;
  fourth_is_in_one = f.d.one_is_none;
}

pub radon : (p q r s : Point) → Radon p q r s
radon p q r s =
    let given = dependence p q r s in
    meet p q r s given.0 given.1 given.2 given.3
    (record { a = parts given.0; b = parts given.1; c = parts given.2; d = parts given.3 }) given.4
