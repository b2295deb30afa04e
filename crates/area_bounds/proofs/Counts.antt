-- Fractions counted in parts: their sums, and those taken off.
use Rattle.std.proofs.Common.{◌≡◌, ℕ, ◌+◌, ◌*◌, ◌<◌, ◌≤◌, refl, subst, sym, ap, arith, List, [], ◌∷◌, length, drop, get_or}
use Rattle.std.proofs.lemmas.Int.{ints}
use Rattle.std.proofs.lemmas.List.{drop_all}
use lib.IntN.{ℤ, pos, negsuc, ◌+ℤ◌, ◌-ℤ◌, ◌*ℤ◌, neg_ℤ}
use lib.Signed.{◌<ℤ◌, ◌≤ℤ◌}
use Rattle.geo_exact.specs.declared.corner.Corner.{Corner}
use Rattle.geo_exact.specs.Rings.{Edge, path, edges}
use Rattle.geo_exact.proofs.numbers.Dropped.{drop_item}
use Rattle.geo_exact.proofs.numbers.Orders.{le_of_lt}
use Rattle.geo_exact.proofs.numbers.Polynomials.{var, lit, add, mul, neg, sub, same_by}
use Rattle.geo_exact.proofs.numbers.Signs.{mul_pos, mul_le, not_neg_of_mul}
use Rattle.common_areas.specs.Fractions.{Fraction, whole, plus, times}
use Rattle.common_areas.specs.Common.{sum_shares}
use Rattle.area_bounds.specs.declared.parts.TheConstants.{PARTS}
use Rattle.area_bounds.specs.Parts.{IsShare, IsCounted, IsBetween}

-- a fraction of natural numbers
pub counted_from : (q lost n d : ℕ) (N D : ℤ) → N ≡ pos n → D ≡ pos d → 0 < d → IsShare q lost n d
    → IsCounted (pos q) lost (record { n = N; d = D })
counted_from q lost n d N D e f p h =
    rw (e, f) (counted_naturals q lost n d p h)
  where
    counted_naturals : (q lost n d : ℕ) → 0 < d → IsShare q lost n d → IsCounted (pos q) lost (record { n = pos n; d = pos d })
    counted_naturals q lost n d p h = record {
      positive = omega (arith, ints);
      above = let x : pos (q * d) ≤ℤ pos (PARTS * n) = omega (arith, ints, h.above) in x;
      below = let x : pos (PARTS * n) ≤ℤ pos ((q + lost) * d) = omega (arith, ints, h.below) in x;
    }

pub counted_same : (t v : ℤ) (l k : ℕ) (f : Fraction) → IsCounted t l f → t ≡ v → l ≡ k → IsCounted v k f
counted_same t v l k f h e g = rw (← e, ← g) h

-- nothing, whatever it is multiplied with
pub counted_nothing : (z : ℤ) → IsCounted (pos 0) 0 (times z (whole (pos 0)))
counted_nothing z =
    let e : z *ℤ pos 0 ≡ pos 0 = omega (arith, ints) in
    let P : ℤ → Type 0 = λ n. IsCounted (pos 0) 0 (record { n = n; d = pos 1 }) in
    subst P (sym e) (record { positive = omega (arith, ints); above = omega (arith, ints); below = omega (arith, ints) })

pub counted_zero : IsCounted (pos 0) 0 (whole (pos 0))
counted_zero = record { positive = omega (arith, ints); above = omega (arith, ints); below = omega (arith, ints) }

sums_le : (x y a b c d : ℤ) → x ≡ a +ℤ b → y ≡ c +ℤ d → a ≤ℤ c → b ≤ℤ d → x ≤ℤ y
sums_le x y a b c d e f h k = omega (arith, ints)

-- the sum of two
pub counted_plus : (s t : ℤ) (k l : ℕ) (f g : Fraction) → IsCounted s k f → IsCounted t l g → IsCounted (s +ℤ t) (k + l) (plus f g)
counted_plus s t k l f g h i =
    let fd : pos 0 ≤ℤ f.d = le_of_lt (pos 0) f.d h.positive in
    let gd : pos 0 ≤ℤ g.d = le_of_lt (pos 0) g.d i.positive in
    record {
      positive = mul_pos f.d g.d h.positive i.positive;
      above = sums_le ((s +ℤ t) *ℤ (f.d *ℤ g.d)) (pos PARTS *ℤ (f.n *ℤ g.d +ℤ g.n *ℤ f.d))
          (s *ℤ f.d *ℤ g.d) (t *ℤ g.d *ℤ f.d) (pos PARTS *ℤ f.n *ℤ g.d) (pos PARTS *ℤ g.n *ℤ f.d)
          (same_by (s ∷ t ∷ f.d ∷ g.d ∷ []) (mul (add (var 0) (var 1)) (mul (var 2) (var 3)))
          (add (mul (mul (var 0) (var 2)) (var 3)) (mul (mul (var 1) (var 3)) (var 2))) refl)
          (parts_of_sum (pos PARTS) f.n g.n f.d g.d)
          (mul_le (s *ℤ f.d) (pos PARTS *ℤ f.n) g.d gd h.above)
          (mul_le (t *ℤ g.d) (pos PARTS *ℤ g.n) f.d fd i.above);
      below = sums_le (pos PARTS *ℤ (f.n *ℤ g.d +ℤ g.n *ℤ f.d)) ((s +ℤ t +ℤ pos (k + l)) *ℤ (f.d *ℤ g.d))
          (pos PARTS *ℤ f.n *ℤ g.d) (pos PARTS *ℤ g.n *ℤ f.d) ((s +ℤ pos k) *ℤ f.d *ℤ g.d) ((t +ℤ pos l) *ℤ g.d *ℤ f.d)
          (parts_of_sum (pos PARTS) f.n g.n f.d g.d)
          (same_by (s ∷ t ∷ f.d ∷ g.d ∷ pos k ∷ pos l ∷ []) (mul (add (add (var 0) (var 1)) (add (var 4) (var 5))) (mul (var 2) (var 3)))
          (add (mul (mul (add (var 0) (var 4)) (var 2)) (var 3)) (mul (mul (add (var 1) (var 5)) (var 3)) (var 2))) refl)
          (mul_le (pos PARTS *ℤ f.n) ((s +ℤ pos k) *ℤ f.d) g.d gd h.below)
          (mul_le (pos PARTS *ℤ g.n) ((t +ℤ pos l) *ℤ g.d) f.d fd i.below);
    }
  where
    parts_of_sum : (p m n d e : ℤ) → p *ℤ (m *ℤ e +ℤ n *ℤ d) ≡ p *ℤ m *ℤ e +ℤ p *ℤ n *ℤ d
    parts_of_sum p m n d e = same_by (p ∷ m ∷ n ∷ d ∷ e ∷ [])
        (mul (var 0) (add (mul (var 1) (var 4)) (mul (var 2) (var 3))))
        (add (mul (mul (var 0) (var 1)) (var 4)) (mul (mul (var 0) (var 2)) (var 3))) refl

-- what is counted, and what is taken off
pub counted_once : (t : ℤ) (l : ℕ) (f : Fraction) → IsCounted t l f → IsCounted t l (times (pos 1) f)
counted_once t l f h =
    let e : pos 1 *ℤ f.n ≡ f.n = same_by (f.n ∷ []) (mul (lit (pos 1)) (var 0)) (var 0) refl in
    let P : ℤ → Type 0 = λ n. IsCounted t l (record { n = n; d = f.d }) in
    subst P (sym e) (record { positive = h.positive; above = h.above; below = h.below })

turned_le : (x y a b : ℤ) → x ≡ neg_ℤ a → y ≡ neg_ℤ b → b ≤ℤ a → x ≤ℤ y
turned_le x y a b e f h = omega (arith, ints)

pub counted_off : (t : ℤ) (l : ℕ) (f : Fraction) → IsCounted t l f → IsCounted (neg_ℤ t -ℤ pos l) l (times (negsuc 0) f)
counted_off t l f h = record {
  positive = h.positive;
  above = turned_le ((neg_ℤ t -ℤ pos l) *ℤ f.d) (pos PARTS *ℤ (negsuc 0 *ℤ f.n)) ((t +ℤ pos l) *ℤ f.d) (pos PARTS *ℤ f.n)
      (same_by (t ∷ pos l ∷ f.d ∷ []) (mul (sub (neg (var 0)) (var 1)) (var 2)) (neg (mul (add (var 0) (var 1)) (var 2))) refl)
      (same_by (pos PARTS ∷ f.n ∷ []) (mul (var 0) (mul (lit (negsuc 0)) (var 1))) (neg (mul (var 0) (var 1))) refl)
      h.below;
  below = turned_le (pos PARTS *ℤ (negsuc 0 *ℤ f.n)) ((neg_ℤ t -ℤ pos l +ℤ pos l) *ℤ f.d) (pos PARTS *ℤ f.n) (t *ℤ f.d)
      (same_by (pos PARTS ∷ f.n ∷ []) (mul (var 0) (mul (lit (negsuc 0)) (var 1))) (neg (mul (var 0) (var 1))) refl)
      (same_by (t ∷ pos l ∷ f.d ∷ []) (mul (add (sub (neg (var 0)) (var 1)) (var 1)) (var 2)) (neg (mul (var 0) (var 2))) refl)
      h.above;
}

-- ---- sums along a ring
-- so many parts, and those of the rest, are those of all
abbrev pub Leads : ℤ → ℕ → Fraction → Fraction → Type 0
Leads low lost rest all = (t : ℤ) (l : ℕ) → IsCounted t l rest → IsCounted (low +ℤ t) (lost + l) all

pub leads_first : (all : Fraction) → Leads (pos 0) 0 all all
leads_first all t l h = counted_same t (pos 0 +ℤ t) l (0 + l) all h (omega (arith, ints)) (omega arith)

pub leads_next : (low a : ℤ) (lost k : ℕ) (f rest all : Fraction) → Leads low lost (plus f rest) all → IsCounted a k f
    → Leads (low +ℤ a) (lost + k) rest all
leads_next low a lost k f rest all h c t l r =
    counted_same (low +ℤ (a +ℤ t)) (low +ℤ a +ℤ t) (lost + (k + l)) (lost + k + l) all
    (h (a +ℤ t) (k + l) (counted_plus a t k l f rest c r)) (omega (arith, ints)) (omega arith)

pub shares-drop : (share : Edge → Fraction) (from item to : Corner) (rest : List Corner) (i : ℕ) → i < length rest
    → item ≡ get_or rest i item
    → sum_shares share (path from (drop i rest) to) ≡ plus (share (record { from = from; to = item })) (sum_shares share
    (path item (drop (i + 1) rest) to))
shares-drop share from item to rest i h e = ap (λ corners. sum_shares share (path from corners to)) (drop_item rest i item h e)

pub shares-end : (share : Edge → Fraction) (from to : Corner) (rest : List Corner) (i : ℕ) → length rest ≤ i
    → sum_shares share (path from (drop i rest) to) ≡ plus (share (record { from = from; to = to })) (whole (pos 0))
shares-end share from to rest i h = ap (λ corners. sum_shares share (path from corners to)) (drop_all i rest h)

-- one step along the ring, and the last one
pub leads_on : (share : Edge → Fraction) (from item to : Corner) (rest : List Corner) (i : ℕ) (low a : ℤ) (lost k : ℕ) (all : Fraction)
    → i < length rest → item ≡ get_or rest i item
    → Leads low lost (sum_shares share (path from (drop i rest) to)) all
    → IsCounted a k (share (record { from = from; to = item }))
    → Leads (low +ℤ a) (lost + k) (sum_shares share (path item (drop (i + 1) rest) to)) all
leads_on share from item to rest i low a lost k all p e h c =
    let P : Fraction → Type 0 = λ r. Leads low lost r all in
    leads_next low a lost k (share (record { from = from; to = item })) (sum_shares share (path item (drop (i + 1) rest) to)) all
    (subst P (shares-drop share from item to rest i p e) h) c

pub leads_home : (share : Edge → Fraction) (from to : Corner) (rest : List Corner) (i : ℕ) (low a : ℤ) (lost k : ℕ) (all : Fraction)
    → length rest ≤ i
    → Leads low lost (sum_shares share (path from (drop i rest) to)) all
    → IsCounted a k (share (record { from = from; to = to }))
    → IsCounted (low +ℤ a) (lost + k) all
leads_home share from to rest i low a lost k all p h c =
    let P : Fraction → Type 0 = λ r. Leads low lost r all in
    let n : Leads (low +ℤ a) (lost + k) (whole (pos 0)) all =
    leads_next low a lost k (share (record { from = from; to = to })) (whole (pos 0)) all
    (subst P (shares-end share from to rest i p) h) c in
    counted_same (low +ℤ a +ℤ pos 0) (low +ℤ a) (lost + k + 0) (lost + k) all (n (pos 0) 0 counted_zero)
    (omega (arith, ints)) (omega arith)

-- ---- whole numbers round the parts
pub rounded : (low high t : ℤ) (l : ℕ) (f : Fraction) → IsCounted t l f → (low *ℤ pos PARTS) ≤ℤ t
    → (t +ℤ pos l) ≤ℤ (high *ℤ pos PARTS) → IsBetween low high f
rounded low high t l f h lo hi =
    let fd : pos 0 ≤ℤ f.d = le_of_lt (pos 0) f.d h.positive in
    record {
      positive = h.positive;
      low = at_most (low *ℤ f.d) f.n (pos PARTS) (omega (arith, ints))
          (chained (pos PARTS *ℤ (low *ℤ f.d)) (low *ℤ pos PARTS *ℤ f.d) (t *ℤ f.d) (pos PARTS *ℤ f.n)
          (same_by (low ∷ pos PARTS ∷ f.d ∷ []) (mul (var 1) (mul (var 0) (var 2))) (mul (mul (var 0) (var 1)) (var 2)) refl)
          (mul_le (low *ℤ pos PARTS) t f.d fd lo) h.above);
      high = at_most f.n (high *ℤ f.d) (pos PARTS) (omega (arith, ints))
          (chained_on (pos PARTS *ℤ f.n) ((t +ℤ pos l) *ℤ f.d) (high *ℤ pos PARTS *ℤ f.d) (pos PARTS *ℤ (high *ℤ f.d))
          h.below (mul_le (t +ℤ pos l) (high *ℤ pos PARTS) f.d fd hi)
          (same_by (high ∷ pos PARTS ∷ f.d ∷ []) (mul (mul (var 0) (var 1)) (var 2)) (mul (var 1) (mul (var 0) (var 2))) refl));
    }
  where
    chained : (x y z w : ℤ) → x ≡ y → y ≤ℤ z → z ≤ℤ w → x ≤ℤ w
    chained x y z w e h k = omega (arith, ints)

    chained_on : (x y z w : ℤ) → x ≤ℤ y → y ≤ℤ z → z ≡ w → x ≤ℤ w
    chained_on x y z w h k e = omega (arith, ints)

    difference : (p x y z : ℤ) → z ≡ p *ℤ y -ℤ p *ℤ x → (p *ℤ x) ≤ℤ (p *ℤ y) → pos 0 ≤ℤ z
    difference p x y z e h = omega (arith, ints)

    from_difference : (x y : ℤ) → pos 0 ≤ℤ (y -ℤ x) → x ≤ℤ y
    from_difference x y h = omega (arith, ints)

    at_most : (x y p : ℤ) → pos 0 <ℤ p → (p *ℤ x) ≤ℤ (p *ℤ y) → x ≤ℤ y
    at_most x y p h k =
        from_difference x y (not_neg_of_mul p (y -ℤ x) h
        (difference p x y (p *ℤ (y -ℤ x))
        (same_by (p ∷ x ∷ y ∷ []) (mul (var 0) (sub (var 2) (var 1))) (sub (mul (var 0) (var 2)) (mul (var 0) (var 1))) refl) k))

-- the way round a ring begins
pub leads_start : (share : Edge → Fraction) (first : Corner) (ring rest : List Corner) → ring ≡ first ∷ rest
    → Leads (pos 0) 0 (sum_shares share (path first (drop 0 rest) first)) (sum_shares share (edges ring))
leads_start share first ring rest e =
    let P : List Corner → Type 0 = λ r. Leads (pos 0) 0 (sum_shares share (path first rest first)) (sum_shares share (edges r)) in
    let Q : List Corner → Type 0 = λ r. Leads (pos 0) 0 (sum_shares share (path first r first)) (sum_shares share (edges ring)) in
    subst Q (sym (drop_none rest)) (subst P (sym e) (leads_first (sum_shares share (path first rest first))))
  where
    drop_none : (xs : List Corner) → drop 0 xs ≡ xs
    drop_none [] = refl
    drop_none (x ∷ xs) = refl
