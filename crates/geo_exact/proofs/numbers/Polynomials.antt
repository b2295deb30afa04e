-- Polynomial identities over ℤ by reflection: `same_by env a b refl`, where both sides are written as `Expr`.
use Rattle.std.proofs.Common.{◌≡◌, ℕ, List, [], ◌∷◌, Bool, true, false, cond, nat_eq, refl, sym, ◌∙◌, ap, arith, get_or}
use Rattle.std.specs.Prelude.{nat_le}
use Rattle.std.proofs.lemmas.Int.{ints}
use Rattle.std.proofs.lemmas.Bool.Decides.{nat_tests}
use lib.IntN.{ℤ, pos, negsuc, ◌+ℤ◌, ◌*ℤ◌, neg_ℤ}
use Rattle.geo_exact.proofs.numbers.Differences.{diff, diff_of, diffs, diff_same, add-mul, mul_assoc, times_one}

pub data Expr : Type 0 where
  var : ℕ → Expr
  lit : ℤ → Expr
  add : Expr → Expr → Expr
  mul : Expr → Expr → Expr
  neg : Expr → Expr

abbrev pub sub : Expr → Expr → Expr
sub a b = add a (neg b)

abbrev pub eval : List ℤ → Expr → ℤ
eval env (var i) = get_or env i (pos 0)
eval env (lit z) = z
eval env (add a b) = eval env a +ℤ eval env b
eval env (mul a b) = eval env a *ℤ eval env b
eval env (neg a) = neg_ℤ (eval env a)

-- a sum of coefficients times products of unknowns
pub data Poly : Type 0 where
  done : Poly
  term : ℤ → List ℕ → Poly → Poly

abbrev pub mono : List ℤ → List ℕ → ℤ
mono env [] = pos 1
mono env (i ∷ is) = get_or env i (pos 0) *ℤ mono env is

abbrev pub value : List ℤ → Poly → ℤ
value env done = pos 0
value env (term c m p) = c *ℤ mono env m +ℤ value env p

abbrev pub place : ℕ → List ℕ → List ℕ
place i [] = i ∷ []
place i (j ∷ js) = cond (nat_le i j) (i ∷ j ∷ js) (j ∷ place i js)

abbrev pub mono_mul : List ℕ → List ℕ → List ℕ
mono_mul [] m = m
mono_mul (i ∷ is) m = place i (mono_mul is m)

abbrev pub same : List ℕ → List ℕ → Bool
same [] [] = true
same [] (j ∷ js) = false
same (i ∷ is) [] = false
same (i ∷ is) (j ∷ js) = cond (nat_eq i j) (same is js) false

abbrev pub add_term : ℤ → List ℕ → Poly → Poly
add_term c m done = term c m done
add_term c m (term d n p) = cond (same m n) (term (c +ℤ d) n p) (term d n (add_term c m p))

abbrev pub poly_add : Poly → Poly → Poly
poly_add done q = q
poly_add (term c m p) q = add_term c m (poly_add p q)

abbrev pub term_mul : ℤ → List ℕ → Poly → Poly
term_mul c m done = done
term_mul c m (term d n p) = term (c *ℤ d) (mono_mul m n) (term_mul c m p)

abbrev pub poly_mul : Poly → Poly → Poly
poly_mul done q = done
poly_mul (term c m p) q = poly_add (term_mul c m q) (poly_mul p q)

abbrev pub norm : Expr → Poly
norm (var i) = term (pos 1) (i ∷ []) done
norm (lit z) = term z [] done
norm (add a b) = poly_add (norm a) (norm b)
norm (mul a b) = poly_mul (norm a) (norm b)
norm (neg a) = term_mul (negsuc 0) [] (norm a)

abbrev pub is_zero : ℤ → Bool
is_zero (pos n) = nat_eq n 0
is_zero (negsuc n) = false

abbrev pub all_zero : Poly → Bool
all_zero done = true
all_zero (term c m p) = cond (is_zero c) (all_zero p) false

-- ---- that the normal form has the value
swap' : (a a' b b' c c' : ℕ) → diff a a' *ℤ (diff b b' *ℤ diff c c') ≡ diff b b' *ℤ (diff a a' *ℤ diff c c')
swap' a a' b b' c c' = simp diffs (diff_same _ _ _ _ (omega arith))

swap : (a b c : ℤ) → a *ℤ (b *ℤ c) ≡ b *ℤ (a *ℤ c)
swap a b c = rw (diff_of a, diff_of b, diff_of c) (swap' _ _ _ _ _ _)

one_mul : (a : ℤ) → a ≡ pos 1 *ℤ a
one_mul a = omega (arith, ints)

place_is : (env : List ℤ) (i : ℕ) (m : List ℕ) → mono env (place i m) ≡ get_or env i (pos 0) *ℤ mono env m
place_is env i [] = refl
place_is env i (j ∷ js) =
    elim (nat_le i j) as (λ b. mono env (cond b (i ∷ j ∷ js) (j ∷ place i js))
    ≡ get_or env i (pos 0) *ℤ (get_or env j (pos 0) *ℤ mono env js)) [
      | true ↦ refl
      | false ↦ ap (λ z. get_or env j (pos 0) *ℤ z) (place_is env i js)
          ∙ swap (get_or env j (pos 0)) (get_or env i (pos 0)) (mono env js)
    ]

mono_mul_is : (env : List ℤ) (a b : List ℕ) → mono env (mono_mul a b) ≡ mono env a *ℤ mono env b
mono_mul_is env [] b = one_mul (mono env b)
mono_mul_is env (i ∷ is) b =
    place_is env i (mono_mul is b)
    ∙ ap (λ z. get_or env i (pos 0) *ℤ z) (mono_mul_is env is b)
    ∙ sym (mul_assoc (get_or env i (pos 0)) (mono env is) (mono env b))

eq_when : (i j : ℕ) → nat_eq i j ≡ true → i ≡ j
eq_when i j h = grind (arith, nat_tests)

both : (b c : Bool) → cond b c false ≡ true → (b ≡ true) × (c ≡ true)
both true c h = (refl, h)
both false c h = cc

same_is : (a b : List ℕ) → same a b ≡ true → a ≡ b
same_is [] [] h = refl
same_is [] (j ∷ js) h = cc
same_is (i ∷ is) [] h = cc
same_is (i ∷ is) (j ∷ js) h =
    let k : (nat_eq i j ≡ true) × (same is js ≡ true) = both (nat_eq i j) (same is js) h in
    cc (eq_when i j k.0, same_is is js k.1)

collect : (c d n v : ℤ) → (c +ℤ d) *ℤ n +ℤ v ≡ c *ℤ n +ℤ (d *ℤ n +ℤ v)
collect c d n v = simp add-mul (omega (arith, ints))

add_term_step : (env : List ℤ) (c : ℤ) (m : List ℕ) (d : ℤ) (n : List ℕ) (p q : Poly) (b : Bool) → (b ≡ true → m ≡ n)
    → value env q ≡ c *ℤ mono env m +ℤ value env p
    → value env (cond b (term (c +ℤ d) n p) (term d n q)) ≡ c *ℤ mono env m +ℤ (d *ℤ mono env n +ℤ value env p)
add_term_step env c m d n p q true e h = rw (e refl) (collect c d (mono env n) (value env p))
add_term_step env c m d n p q false e h = omega (arith, ints, h)

add_term_is : (env : List ℤ) (c : ℤ) (m : List ℕ) (p : Poly) → value env (add_term c m p) ≡ c *ℤ mono env m +ℤ value env p
add_term_is env c m done = refl
add_term_is env c m (term d n p) = add_term_step env c m d n p (add_term c m p) (same m n) (same_is m n) (add_term_is env c m p)

poly_add_is : (env : List ℤ) (p q : Poly) → value env (poly_add p q) ≡ value env p +ℤ value env q
poly_add_is env done q = omega (arith, ints)
poly_add_is env (term c m p) q = omega (arith, ints, add_term_is env c m (poly_add p q), poly_add_is env p q)

regroup' : (c c' d d' m m' n n' v v' : ℕ) → (diff c c' *ℤ diff d d') *ℤ (diff m m' *ℤ diff n n')
    +ℤ (diff c c' *ℤ diff m m') *ℤ diff v v'
    ≡ (diff c c' *ℤ diff m m') *ℤ (diff d d' *ℤ diff n n' +ℤ diff v v')
regroup' c c' d d' m m' n n' v v' = simp diffs (diff_same _ _ _ _ (omega arith))

regroup : (c d m n v : ℤ) → (c *ℤ d) *ℤ (m *ℤ n) +ℤ (c *ℤ m) *ℤ v ≡ (c *ℤ m) *ℤ (d *ℤ n +ℤ v)
regroup c d m n v = rw (diff_of c, diff_of d, diff_of m, diff_of n, diff_of v) (regroup' _ _ _ _ _ _ _ _ _ _)

term_mul_is : (env : List ℤ) (c : ℤ) (m : List ℕ) (p : Poly) → value env (term_mul c m p) ≡ (c *ℤ mono env m) *ℤ value env p
term_mul_is env c m done = omega (arith, ints)
term_mul_is env c m (term d n p) =
    rw (mono_mul_is env m n, term_mul_is env c m p) (regroup c d (mono env m) (mono env n) (value env p))

poly_mul_is : (env : List ℤ) (p q : Poly) → value env (poly_mul p q) ≡ value env p *ℤ value env q
poly_mul_is env done q = omega (arith, ints)
poly_mul_is env (term c m p) q =
    poly_add_is env (term_mul c m q) (poly_mul p q)
    ∙ rw (term_mul_is env c m q, poly_mul_is env p q) (sym (add-mul (c *ℤ mono env m) (value env p) (value env q)))

norm_is : (env : List ℤ) (e : Expr) → value env (norm e) ≡ eval env e
norm_is env (var i) = once (get_or env i (pos 0))
  where
    once : (z : ℤ) → pos 1 *ℤ (z *ℤ pos 1) +ℤ pos 0 ≡ z
    once z = ap (λ y. pos 1 *ℤ y +ℤ pos 0) (times_one z) ∙ omega (arith, ints)
norm_is env (lit z) = omega (arith, ints)
norm_is env (add a b) = poly_add_is env (norm a) (norm b) ∙ rw (norm_is env a, norm_is env b)
norm_is env (mul a b) = poly_mul_is env (norm a) (norm b) ∙ rw (norm_is env a, norm_is env b)
norm_is env (neg a) = term_mul_is env (negsuc 0) [] (norm a) ∙ rw (norm_is env a) (minus (eval env a))
  where
    minus : (z : ℤ) → (negsuc 0 *ℤ pos 1) *ℤ z ≡ neg_ℤ z
    minus z = omega (arith, ints)

zero_when : (c : ℤ) → is_zero c ≡ true → c ≡ pos 0
zero_when (pos n) h = ap pos (eq_when n 0 h)
zero_when (negsuc n) h = cc

all_zero_is : (env : List ℤ) (p : Poly) → all_zero p ≡ true → value env p ≡ pos 0
all_zero_is env done h = refl
all_zero_is env (term c m p) h =
    let k : (is_zero c ≡ true) × (all_zero p ≡ true) = both (is_zero c) (all_zero p) h in
    rw (zero_when c k.0, all_zero_is env p k.1) (omega (arith, ints))

-- two expressions whose difference multiplies out to nothing have one value
pub same_by : (env : List ℤ) (a b : Expr) → all_zero (norm (add a (neg b))) ≡ true → eval env a ≡ eval env b
same_by env a b h =
    let e : eval env a +ℤ neg_ℤ (eval env b) ≡ pos 0 = sym (norm_is env (add a (neg b)))
    ∙ all_zero_is env (norm (add a (neg b))) h in
    omega (arith, ints)
