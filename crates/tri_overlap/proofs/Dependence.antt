-- Four rational points in the plane are dependent: some multiples of them, not all 0, add up to nothing.
use Rattle.std.proofs.Common.{◌≡◌, ℕ, ◌+◌, List, refl, ◌∙◌, ap, arith, inl, inr, ◌⊎◌, [], ◌∷◌}
use Rattle.std.proofs.lemmas.Int.{ints, by_lt_z}
use lib.IntN.{ℤ, pos, ◌+ℤ◌, ◌-ℤ◌, ◌*ℤ◌, neg_ℤ, *ℤ_comm}
use lib.Signed.{◌<ℤ◌}
use Rattle.geo_exact.specs.Point.{Point}
use Rattle.geo_exact.proofs.numbers.Differences.{expand}
use Rattle.geo_exact.proofs.numbers.Polynomials.{Expr, var, lit, add, mul, neg, sub, same_by}

-- z is not 0, and has a sign
abbrev pub IsSigned : ℤ → Type 0
IsSigned z = (pos 0 <ℤ z) ⊎ (z <ℤ pos 0)

-- a sum of four products
abbrev pub sum4 : ℤ → ℤ → ℤ → ℤ → ℤ → ℤ → ℤ → ℤ → ℤ
sum4 i j k l a b c d = i *ℤ a +ℤ j *ℤ b +ℤ k *ℤ c +ℤ l *ℤ d

-- one of four numbers is P
pub data SomeOf (P : ℤ → Type 0) (i j k l : ℤ) : Type 0 where
  first : P i → SomeOf P i j k l
  second : P j → SomeOf P i j k l
  third : P k → SomeOf P i j k l
  fourth : P l → SomeOf P i j k l

-- four points are dependent: some multiples of them, not all 0, add up to nothing
pub record IsDependent (p q r s : Point) (i j k l : ℤ) : Type 0 where
  pub x : sum4 i j k l p.x q.x r.x s.x ≡ pos 0
  pub y : sum4 i j k l p.y q.y r.y s.y ≡ pos 0
  pub d : sum4 i j k l p.d q.d r.d s.d ≡ pos 0
  pub is_proper : SomeOf IsSigned i j k l

abbrev pub Dependence : Point → Point → Point → Point → Type 0
Dependence p q r s = (i : ℤ) × (j : ℤ) × (k : ℤ) × (l : ℤ) × IsDependent p q r s i j k l

-- the determinant of three points
abbrev det : ℤ → ℤ → ℤ → ℤ → ℤ → ℤ → ℤ → ℤ → ℤ → ℤ
det ax ay ad bx by bd cx cy cd = ax *ℤ (by *ℤ cd -ℤ bd *ℤ cy) -ℤ ay *ℤ (bx *ℤ cd -ℤ bd *ℤ cx)
    +ℤ ad *ℤ (bx *ℤ cy -ℤ by *ℤ cx)

abbrev det_expr : Expr → Expr → Expr → Expr → Expr → Expr → Expr → Expr → Expr → Expr
det_expr ax ay ad bx by bd cx cy cd =
    add (sub (mul ax (sub (mul by cd) (mul bd cy))) (mul ay (sub (mul bx cd) (mul bd cx)))) (mul ad (sub (mul bx cy) (mul by cx)))

abbrev det_of : Point → Point → Point → ℤ
det_of p q r = det p.x p.y p.d q.x q.y q.d r.x r.y r.d

abbrev sum4_expr : Expr → Expr → Expr → Expr → Expr → Expr → Expr → Expr → Expr
sum4_expr i j k l a b c d = add (add (add (mul i a) (mul j b)) (mul k c)) (mul l d)

-- the coordinates of four points, as the unknowns of polynomials
abbrev env12 : Point → Point → Point → Point → List ℤ
env12 p q r s = p.x ∷ p.y ∷ p.d ∷ q.x ∷ q.y ∷ q.d ∷ r.x ∷ r.y ∷ r.d ∷ s.x ∷ s.y ∷ s.d ∷ []

abbrev det_at : ℕ → ℕ → ℕ → Expr
det_at a b c = det_expr (var a) (var (a + 1)) (var (a + 2)) (var b) (var (b + 1)) (var (b + 2)) (var c) (var (c + 1)) (var (c + 2))

abbrev cramer_at : ℕ → Expr
cramer_at n = sum4_expr (det_at 3 6 9) (neg (det_at 0 6 9)) (det_at 0 3 9) (neg (det_at 0 3 6)) (var n) (var (n + 3))
    (var (n + 6)) (var (n + 9))

abbrev cramer_sum : Point → Point → Point → Point → ℤ → ℤ → ℤ → ℤ → ℤ
cramer_sum p q r s a b c d = sum4 (det_of q r s) (neg_ℤ (det_of p r s)) (det_of p q s) (neg_ℤ (det_of p q r)) a b c d

-- the four determinants with their signs are a dependence
cramer_x : (p q r s : Point) → cramer_sum p q r s p.x q.x r.x s.x ≡ pos 0
cramer_x p q r s = same_by (env12 p q r s) (cramer_at 0) (lit (pos 0)) refl

cramer_y : (p q r s : Point) → cramer_sum p q r s p.y q.y r.y s.y ≡ pos 0
cramer_y p q r s = same_by (env12 p q r s) (cramer_at 1) (lit (pos 0)) refl

cramer_d : (p q r s : Point) → cramer_sum p q r s p.d q.d r.d s.d ≡ pos 0
cramer_d p q r s = same_by (env12 p q r s) (cramer_at 2) (lit (pos 0)) refl

signed_neg : (z : ℤ) → IsSigned z → IsSigned (neg_ℤ z)
signed_neg z h = elim h [ inl a ↦ inr (omega (arith, ints)) | inr a ↦ inl (omega (arith, ints)) ]

-- where the first three points are on no line, the determinants are such multiples
by_cramer : (p q r s : Point) → IsSigned (det_of p q r) → Dependence p q r s
by_cramer p q r s h = (
  det_of q r s,
  neg_ℤ (det_of p r s),
  det_of p q s,
  neg_ℤ (det_of p q r),
  record {
    x = cramer_x p q r s;
    y = cramer_y p q r s;
    d = cramer_d p q r s;
    is_proper = fourth (signed_neg (det_of p q r) h);
  },
)

-- ---- three points on one line
abbrev minor_expr : ℕ → ℕ → ℕ → ℕ → Expr
minor_expr a b c d = sub (mul (var a) (var d)) (mul (var b) (var c))

abbrev three_expr : Expr → Expr → Expr → Expr → Expr → Expr → Expr
three_expr i j k a b c = sum4_expr i j k (lit (pos 0)) a b c (lit (pos 0))

-- with the minors in x and d as multiples, x and d add up to nothing, and y to minus the determinant
abbrev across_x : ℕ → Expr
across_x n = three_expr (minor_expr 3 5 6 8) (neg (minor_expr 0 2 6 8)) (minor_expr 0 2 3 5) (var n) (var (n + 3)) (var (n + 6))

abbrev across_y : ℕ → Expr
across_y n = three_expr (minor_expr 4 5 7 8) (neg (minor_expr 1 2 7 8)) (minor_expr 1 2 4 5) (var n) (var (n + 3)) (var (n + 6))

abbrev minor_x : Point → Point → ℤ
minor_x p q = p.x *ℤ q.d -ℤ p.d *ℤ q.x

abbrev minor_y : Point → Point → ℤ
minor_y p q = p.y *ℤ q.d -ℤ p.d *ℤ q.y

-- multiples of the first three points that add up to nothing are a dependence of the four
of_three : (p q r s : Point) (i j k : ℤ)
    → i *ℤ p.x +ℤ j *ℤ q.x +ℤ k *ℤ r.x +ℤ pos 0 *ℤ pos 0 ≡ pos 0
    → i *ℤ p.y +ℤ j *ℤ q.y +ℤ k *ℤ r.y +ℤ pos 0 *ℤ pos 0 ≡ pos 0
    → i *ℤ p.d +ℤ j *ℤ q.d +ℤ k *ℤ r.d +ℤ pos 0 *ℤ pos 0 ≡ pos 0
    → IsSigned k → Dependence p q r s
of_three p q r s i j k x y d h = (
  i,
  j,
  k,
  pos 0,
  record {
    x = no_fourth p.x q.x r.x s.x ∙ x;
    y = no_fourth p.y q.y r.y s.y ∙ y;
    d = no_fourth p.d q.d r.d s.d ∙ d;
    is_proper = third h;
  },
)
  where
    no_fourth : (a b c e : ℤ) → sum4 i j k (pos 0) a b c e ≡ i *ℤ a +ℤ j *ℤ b +ℤ k *ℤ c +ℤ pos 0 *ℤ pos 0
    no_fourth a b c e = omega (arith, ints)

-- three points on a line, the first two of which differ in x
along_x : (p q r s : Point) → det_of p q r ≡ pos 0 → IsSigned (minor_x p q) → Dependence p q r s
along_x p q r s e = of_three p q r s (minor_x q r) (neg_ℤ (minor_x p r)) (minor_x p q)
    (same_by (env12 p q r s) (across_x 0) (lit (pos 0)) refl)
    (same_by (env12 p q r s) (across_x 1) (neg (det_at 0 3 6)) refl ∙ ap neg_ℤ e)
    (same_by (env12 p q r s) (across_x 2) (lit (pos 0)) refl)

-- three points on a line, the first two of which differ in y
along_y : (p q r s : Point) → det_of p q r ≡ pos 0 → IsSigned (minor_y p q) → Dependence p q r s
along_y p q r s e = of_three p q r s (minor_y q r) (neg_ℤ (minor_y p r)) (minor_y p q)
    (same_by (env12 p q r s) (across_y 0) (det_at 0 3 6) refl ∙ e)
    (same_by (env12 p q r s) (across_y 1) (lit (pos 0)) refl)
    (same_by (env12 p q r s) (across_y 2) (lit (pos 0)) refl)

-- two points in one place
two_terms : (a b u v w z : ℤ) → a *ℤ b -ℤ u *ℤ v ≡ pos 0 → sum4 b (neg_ℤ u) (pos 0) (pos 0) a v w z ≡ pos 0
two_terms a b u v w z h = simp expand (omega (arith, ints, *ℤ_comm a b, h))

in_one_place : (p q r s : Point) → minor_x p q ≡ pos 0 → minor_y p q ≡ pos 0 → Dependence p q r s
in_one_place p q r s hx hy = (
  q.d,
  neg_ℤ p.d,
  pos 0,
  pos 0,
  record {
    x = two_terms p.x q.d p.d q.x r.x s.x hx;
    y = two_terms p.y q.d p.d q.y r.y s.y hy;
    d = two_terms p.d q.d p.d q.d r.d s.d (omega (arith, ints));
    is_proper = first (inl q.d_positive);
  },
)

-- a number has a sign or is 0
by_sign : {P : Type 0} (z : ℤ) → (IsSigned z → P) → (z ≡ pos 0 → P) → P
by_sign z f g = by_lt_z (pos 0) z (λ h. f (inl h)) (λ h. by_lt_z z (pos 0) (λ k. f (inr k)) (λ k. g (omega (arith, ints))))

-- the three points are on no line; or differ in x, or in y; or the first two are in one place
pub dependence : (p q r s : Point) → Dependence p q r s
dependence p q r s =
    by_sign (det_of p q r) (by_cramer p q r s)
    (λ e. by_sign (minor_x p q) (along_x p q r s e)
    (λ hx. by_sign (minor_y p q) (along_y p q r s e) (λ hy. in_one_place p q r s hx hy)))
