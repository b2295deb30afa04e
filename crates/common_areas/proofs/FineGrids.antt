-- For any edges there is a grid that is fine enough.
use Rattle.std.proofs.Common.{◌≡◌, ◌⊎◌, inl, inr, ℕ, zero, suc, ◌<◌, refl, subst, ◌∙◌, ap, arith, List, [], ◌∷◌}
use Rattle.std.proofs.lemmas.Int.{ints, by_lt_z, quot-rem, rem_below}
use Rattle.std.specs.Int.RustNames.{int_div, int_rem, unsigned_abs}
use Rattle.std.specs.List.{AllByRecursion}
use lib.IntN.{ℤ, pos, negsuc, ◌+ℤ◌, ◌-ℤ◌, ◌*ℤ◌, neg_ℤ}
use lib.Signed.{◌<ℤ◌, ◌≤ℤ◌}
use Rattle.geo_exact.specs.Limit.{limit}
use Rattle.geo_exact.specs.Rings.{Edge}
use Rattle.geo_exact.proofs.numbers.Polynomials.{var, lit, mul, sub, same_by}
use Rattle.geo_exact.proofs.numbers.Signs.{mul_pos, mul_le, mul_not_neg}
use Rattle.geo_exact.proofs.numbers.Orders.{le_of_lt}
use Rattle.common_areas.specs.Between.{size, rise}
use Rattle.common_areas.specs.Grid.{Grid, Divides, IsShare, parting, SuitsPair, IsFine, Reaches}
use Rattle.common_areas.proofs.Numbers.{size_not_neg, size_not_pos, size_is_not_neg}
use Rattle.common_areas.proofs.EdgeRows.{columns_positive}

divides_self_times : (a b : ℤ) → Divides a (a *ℤ b)
divides_self_times a b = record { factor = b; is = refl }

divides_more : (a b c : ℤ) → Divides a c → Divides a (b *ℤ c)
divides_more a b c h = record {
  factor = b *ℤ h.factor;
  is = ap (λ x. b *ℤ x) h.is ∙ same_by (a ∷ b ∷ h.factor ∷ []) (mul (var 1) (mul (var 0) (var 2))) (mul (var 0) (mul (var 1) (var 2))) refl;
}

divides_on : (a b c : ℤ) → Divides a b → Divides b c → Divides a c
divides_on a b c h k = record {
  factor = h.factor *ℤ k.factor;
  is = k.is ∙ ap (λ x. x *ℤ k.factor) h.is
      ∙ same_by (a ∷ h.factor ∷ k.factor ∷ []) (mul (mul (var 0) (var 1)) (var 2)) (mul (var 0) (mul (var 1) (var 2))) refl;
}

-- the number's size, or 1 for 0
or_one : ℤ → ℤ
or_one (pos zero) = pos 1
or_one (pos (suc n)) = pos (suc n)
or_one (negsuc n) = pos (suc n)

or_one_positive : (z : ℤ) → pos 0 <ℤ or_one z
unfolding or_one
or_one_positive (pos zero) = omega (arith, ints)
or_one_positive (pos (suc n)) = omega (arith, ints)
or_one_positive (negsuc n) = omega (arith, ints)

or_one_divides : (z : ℤ) → (z ≡ pos 0) ⊎ Divides z (or_one z)
unfolding or_one
or_one_divides (pos zero) = inl refl
or_one_divides (pos (suc n)) = inr (record { factor = pos 1; is = omega (arith, ints) })
or_one_divides (negsuc n) = inr (record { factor = negsuc 0; is = omega (arith, ints) })

product : (Edge → ℤ) → List Edge → ℤ
product m [] = pos 1
product m (e ∷ es) = m e *ℤ product m es

product_positive : (m : Edge → ℤ) → ((e : Edge) → pos 0 <ℤ m e) → (es : List Edge) → pos 0 <ℤ product m es
unfolding product
product_positive m h [] = omega (arith, ints)
product_positive m h (e ∷ es) = mul_pos (m e) (product m es) (h e) (product_positive m h es)

pub all_mapped : (P Q : Edge → Type 0) → ((e : Edge) → P e → Q e) → (es : List Edge) → AllByRecursion P es → AllByRecursion Q es
all_mapped P Q h [] k = tt
all_mapped P Q h (e ∷ es) k = (h e k.0, all_mapped P Q h es k.1)

each_divides : (m : Edge → ℤ) (es : List Edge) → AllByRecursion (λ e. Divides (m e) (product m es)) es
unfolding product
each_divides m [] = tt
each_divides m (e ∷ es) = (
  divides_self_times (m e) (product m es),
  all_mapped (λ x. Divides (m x) (product m es)) (λ x. Divides (m x) (m e *ℤ product m es))
      (λ x. divides_more (m x) (m e) (product m es)) es (each_divides m es),
)

-- ---- exact quotients
no_rest : (d t q r : ℤ) → pos 0 <ℤ d → q *ℤ d +ℤ r ≡ d *ℤ t → size r <ℤ d → d *ℤ t ≡ d *ℤ q
no_rest d t q r dp e h = by_lt_z t q
    (λ p. absurd (omega (
      arith,
      ints,
      e,
      h,
      (size_above r).1,
      expanded,
      mul_le (pos 1) (q -ℤ t) d (le_of_lt (pos 0) d dp) (omega (arith, ints)),
    )))
    (λ p. by_lt_z q t
    (λ o. absurd (omega (
      arith,
      ints,
      e,
      h,
      (size_above r).0,
      expanded',
      mul_le (pos 1) (t -ℤ q) d (le_of_lt (pos 0) d dp) (omega (arith, ints)),
    )))
    (λ o. let s : t ≡ q = omega (arith, ints) in ap (λ x. d *ℤ x) s))
  where
    expanded : (q -ℤ t) *ℤ d ≡ q *ℤ d -ℤ d *ℤ t
    expanded = same_by (d ∷ t ∷ q ∷ []) (mul (sub (var 2) (var 1)) (var 0)) (sub (mul (var 2) (var 0)) (mul (var 0) (var 1))) refl

    expanded' : (t -ℤ q) *ℤ d ≡ d *ℤ t -ℤ q *ℤ d
    expanded' = same_by (d ∷ t ∷ q ∷ []) (mul (sub (var 1) (var 2)) (var 0)) (sub (mul (var 0) (var 1)) (mul (var 2) (var 0))) refl

    size_above : (z : ℤ) → (z ≤ℤ size z) × (neg_ℤ z ≤ℤ size z)
    size_above z = by_lt_z z (pos 0)
        (λ p. let s : size z ≡ neg_ℤ z = size_not_pos z (omega (arith, ints)) in (omega (arith, ints, s), omega (arith, ints, s)))
        (λ p. let s : size z ≡ z = size_not_neg z p in (omega (arith, ints, s), omega (arith, ints, s)))

exact_quotient : (d a : ℤ) → pos 0 <ℤ d → Divides d a → a ≡ d *ℤ int_div a d
exact_quotient d a dp h =
    let below : unsigned_abs (int_rem a d) < unsigned_abs d =
    rem_below a d (omega (arith, ints, dp, size_not_neg d (le_of_lt (pos 0) d dp))) in
    let small : size (int_rem a d) <ℤ d = omega (arith, ints, below, size_not_neg d (le_of_lt (pos 0) d dp)) in
    h.is ∙ no_rest d h.factor (int_div a d) (int_rem a d) dp (quot-rem a d ∙ h.is) small

-- ---- the grid
rows_for : List Edge → List Edge → ℤ
rows_for es fs = product (λ e. product (λ f. or_one (parting e f)) fs) es

shares_for : List Edge → List Edge → ℤ
shares_for es fs = product (λ e. or_one (rise e)) es *ℤ product (λ f. or_one (rise f)) fs

rows_positive_for : (es fs : List Edge) → pos 0 <ℤ rows_for es fs
unfolding rows_for
rows_positive_for es fs = product_positive (λ e. product (λ f. or_one (parting e f)) fs)
    (λ e. product_positive (λ f. or_one (parting e f)) (λ f. or_one_positive (parting e f)) fs) es

shares_positive_for : (es fs : List Edge) → pos 0 <ℤ shares_for es fs
unfolding shares_for
shares_positive_for es fs =
    mul_pos (product (λ e. or_one (rise e)) es) (product (λ f. or_one (rise f)) fs)
    (product_positive (λ e. or_one (rise e)) (λ e. or_one_positive (rise e)) es)
    (product_positive (λ f. or_one (rise f)) (λ f. or_one_positive (rise f)) fs)

grid_for : List Edge → List Edge → Grid
grid_for es fs = record {
  rows = rows_for es fs;
  columns = pos 2 *ℤ rows_for es fs *ℤ shares_for es fs;
  d = pos 2 *ℤ (pos 2 *ℤ rows_for es fs *ℤ shares_for es fs) *ℤ rows_for es fs;
  d_is = refl;
  rows_positive = rows_positive_for es fs;
  d_positive = positive (rows_for es fs) (shares_for es fs) (rows_positive_for es fs) (shares_positive_for es fs);
}
  where
    positive : (h q : ℤ) → pos 0 <ℤ h → pos 0 <ℤ q → pos 0 <ℤ (pos 2 *ℤ (pos 2 *ℤ h *ℤ q) *ℤ h)
    positive h q hp qp =
        mul_pos (pos 2 *ℤ (pos 2 *ℤ h *ℤ q)) h
        (mul_pos (pos 2) (pos 2 *ℤ h *ℤ q) (omega (arith, ints)) (mul_pos (pos 2 *ℤ h) q (omega (arith, ints)) qp)) hp

share_in : (r H Q : ℤ) → pos 0 ≤ℤ r → (r ≡ pos 0) ⊎ Divides r Q
    → (r ≡ pos 0) ⊎ (pos 2 *ℤ H *ℤ Q ≡ pos 2 *ℤ H *ℤ r *ℤ int_div Q r)
share_in r H Q rp h = elim h [
  | inl z ↦ inl z
  | inr d ↦ by_lt_z (pos 0) r
      (λ p. inr (ap (λ x. pos 2 *ℤ H *ℤ x) (exact_quotient r Q p d)
      ∙ same_by (H ∷ r ∷ int_div Q r ∷ []) (mul (mul (lit (pos 2)) (var 0)) (mul (var 1) (var 2)))
      (mul (mul (mul (lit (pos 2)) (var 0)) (var 1)) (var 2)) refl))
      (λ p. inl (omega (arith, ints)))
]

divides_or_none : (z b c : ℤ) → (z ≡ pos 0) ⊎ Divides z b → Divides b c → (z ≡ pos 0) ⊎ Divides z c
divides_or_none z b c h k = elim h [
  | inl e ↦ inl e
  | inr d ↦ inr (divides_on z b c d k)
]

share_here : (es fs : List Edge) (e : Edge) → Divides (or_one (rise e)) (shares_for es fs)
    → IsShare (grid_for es fs) e (int_div (shares_for es fs) (rise e))
unfolding grid_for
share_here es fs e h = record {
  divides = share_in (rise e) (rows_for es fs) (shares_for es fs) (size_is_not_neg (e.to.y -ℤ e.from.y))
      (divides_or_none (rise e) (or_one (rise e)) (shares_for es fs) (or_one_divides (rise e)) h);
}

turned_product : (a b : ℤ) → b *ℤ a ≡ a *ℤ b
turned_product a b = omega (arith, ints)

fine : (es fs : List Edge) → IsFine (grid_for es fs) es fs
unfolding grid_for rows_for shares_for
fine es fs =
    let first = product (λ e. or_one (rise e)) es in
    let second = product (λ f. or_one (rise f)) fs in
    record {
      share = λ e. int_div (shares_for es fs) (rise e);
      first = all_mapped (λ e. Divides (or_one (rise e)) (product (λ e. or_one (rise e)) es))
          (λ e. IsShare (grid_for es fs) e (int_div (shares_for es fs) (rise e)))
          (λ e h. share_here es fs e (subst (λ x. Divides (or_one (rise e)) x) (turned_product first second)
          (divides_more (or_one (rise e)) second first h)))
          es (each_divides (λ e. or_one (rise e)) es);
      second = all_mapped (λ f. Divides (or_one (rise f)) (product (λ f. or_one (rise f)) fs))
          (λ f. IsShare (grid_for es fs) f (int_div (shares_for es fs) (rise f)))
          (λ f h. share_here es fs f (divides_more (or_one (rise f)) first second h))
          fs (each_divides (λ f. or_one (rise f)) fs);
      pairs = all_mapped
          (λ e. Divides (product (λ f. or_one (parting e f)) fs) (rows_for es fs))
          (λ e. AllByRecursion (SuitsPair (grid_for es fs) e) fs)
          (λ e h. all_mapped (λ f. Divides (or_one (parting e f)) (product (λ f. or_one (parting e f)) fs))
          (SuitsPair (grid_for es fs) e)
          (λ f k. divides_or_none (parting e f) (or_one (parting e f)) (rows_for es fs) (or_one_divides (parting e f))
          (divides_on (or_one (parting e f)) (product (λ f. or_one (parting e f)) fs) (rows_for es fs) k h))
          fs (each_divides (λ f. or_one (parting e f)) fs))
          es (each_divides (λ e. product (λ f. or_one (parting e f)) fs) es);
    }

-- how far a grid reaches
reaches_to : (z : ℤ) → pos 0 ≤ℤ z → z ≤ℤ pos (unsigned_abs z)
reaches_to z h = omega (arith, ints, size_not_neg z h)

limit_not_negative : (z : ℤ) → pos 0 <ℤ z → pos 0 ≤ℤ (pos limit *ℤ z)
limit_not_negative z h = mul_not_neg (pos limit) z (omega (arith, ints)) (le_of_lt (pos 0) z h)

pub reaches : (grid : Grid) → Reaches grid (unsigned_abs (pos limit *ℤ grid.columns)) (unsigned_abs (pos limit *ℤ grid.rows))
reaches grid = record {
  across = reaches_to (pos limit *ℤ grid.columns) (limit_not_negative grid.columns (columns_positive grid));
  up = reaches_to (pos limit *ℤ grid.rows) (limit_not_negative grid.rows grid.rows_positive);
}

-- a fine grid, with numbers of columns and rows that reach as far as the limit
pub fine_grid : (es fs : List Edge) → (grid : Grid) × (m : ℕ) × (n : ℕ) × IsFine grid es fs × Reaches grid m n
fine_grid es fs = (
  grid_for es fs,
  unsigned_abs (pos limit *ℤ (grid_for es fs).columns),
  unsigned_abs (pos limit *ℤ (grid_for es fs).rows),
  fine es fs,
  reaches (grid_for es fs),
)
