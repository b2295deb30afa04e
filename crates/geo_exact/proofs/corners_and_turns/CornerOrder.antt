-- Corners: equality and order, and the tests of both; the order as std's sorting states it.
use Rattle.std.proofs.Common.{◌≡◌, ◌⊎◌, inl, inr, refl, sym, ◌∙◌, ap, subst, arith, Bool, true, false, ◌&&◌, Decides}
use Rattle.std.proofs.Common.{ℤ}
use Rattle.std.specs.declared.cmp.Ordering.{Ordering}
use Rattle.std.specs.declared.cmp.Ordering.TheVariants.{Less, Equal, Greater}
use Rattle.std.specs.Ordering.{int_eq, int_cmp, ordering_then, eq_by_cmp, is_eq, MatchOrdering}
use Rattle.std.specs.Cmp.{IsTotalOrder, IsStrictWeakOrder}
use Rattle.std.proofs.lemmas.Int.{ints, by_lt_z}
use Rattle.std.proofs.lemmas.Cmp.{int_ranked, int_cmp_total, on_total, then_total}
use Rattle.std.proofs.lemmas.Bool.Decides.{Decides-int_eq, Decides-and, Decides-or, Decides-like, not_from_Decides}
use lib.Signed.{◌<ℤ◌, lt_z}
use Rattle.geo_exact.specs.declared.corner.Corner.{Corner}
use Rattle.geo_exact.proofs.numbers.Orders.{Decides-int_lt}
use Rattle.geo_exact.proofs.corners_and_turns.SameCorner.{corner_same}
pub use Rattle.geo_exact.specs.Order.{IsBefore}
use Rattle.geo_exact.specs.Order.{is_same, is_before}
use Rattle.geo_exact.specs.own.Sorted.{corner_cmp}

-- a test that decides a fact leaves two cases
pub cases_of : {P : Type 0} (r : Bool) → Decides r P → P ⊎ (r ≡ false)
cases_of true d = inl (d.0 refl)
cases_of false d = inr refl

pub false_where : {P : Type 0} (r : Bool) → Decides r P → ¬ P → r ≡ false
false_where true d h = absurd (h (d.0 refl))
false_where false d h = refl

pub Decides-is_same : (a b : Corner) → Decides (is_same a b) (a ≡ b)
Decides-is_same a b =
    Decides-like (is_same a b) (λ h. corner_same a b h.0 h.1) (λ e. (ap (λ (c : Corner). c.x) e, ap (λ (c : Corner). c.y) e))
    (Decides-and (int_eq a.x b.x) (int_eq a.y b.y) (Decides-int_eq a.x b.x) (Decides-int_eq a.y b.y))

pub is_same_itself : (a : Corner) → is_same a a ≡ true
is_same_itself a = (Decides-is_same a a).1 refl

pub Decides-is_before : (a b : Corner) → Decides (is_before a b) (IsBefore a b)
Decides-is_before a b =
    Decides-or (lt_z a.x b.x) (int_eq a.x b.x && lt_z a.y b.y) (Decides-int_lt a.x b.x)
    (Decides-and (int_eq a.x b.x) (lt_z a.y b.y) (Decides-int_eq a.x b.x) (Decides-int_lt a.y b.y))

pub before_irreflexive : (a b : Corner) → IsBefore a b → a ≡ b → ⊥
before_irreflexive a b h e =
    let u : a.x ≡ b.x = ap (λ (c : Corner). c.x) e in
    let v : a.y ≡ b.y = ap (λ (c : Corner). c.y) e in
    elim h [ inl p ↦ omega (arith, ints) | inr p ↦ omega (arith, ints, p.1) ]

pub before_asymmetric : (a b : Corner) → IsBefore a b → IsBefore b a → ⊥
before_asymmetric a b h k =
    elim h [
      | inl p ↦ elim k [ inl q ↦ omega (arith, ints) | inr q ↦ omega (arith, ints, q.0) ]
      | inr p ↦ elim k [ inl q ↦ omega (arith, ints, p.0) | inr q ↦ omega (arith, ints, p.1, q.1) ]
    ]

-- of two corners neither of which is before the other
pub same_unless_before : (a b : Corner) → is_before a b ≡ false → is_before b a ≡ false → a ≡ b
same_unless_before a b h k =
    let p : IsBefore a b → ⊥ = not_from_Decides (is_before a b) (Decides-is_before a b) h in
    let q : IsBefore b a → ⊥ = not_from_Decides (is_before b a) (Decides-is_before b a) k in
    let x : a.x ≡ b.x = equal a.x b.x (λ l. p (inl l)) (λ l. q (inl l)) in
    corner_same a b x (equal a.y b.y (λ l. p (inr (x, l))) (λ l. q (inr (sym x, l))))
  where
    equal : (u v : ℤ) → (u <ℤ v → ⊥) → (v <ℤ u → ⊥) → u ≡ v
    equal u v h k = by_lt_z u v (λ l. absurd (h l)) (λ l. by_lt_z v u (λ m. absurd (k m)) (λ m. omega (arith, ints)))

pub before_transitive : (a b c : Corner) → IsBefore a b → IsBefore b c → IsBefore a c
before_transitive a b c h k =
    elim h [
      | inl p ↦ elim k [ inl q ↦ inl (omega (arith, ints)) | inr q ↦ inl (omega (arith, ints, q.0)) ]
      | inr p ↦ elim k [ inl q ↦ inl (omega (arith, ints, p.0)) | inr q ↦ inr (p.0 ∙ q.0, omega (arith, ints, p.1, q.1)) ]
    ]

pub corner_cmp_total : IsTotalOrder corner_cmp
corner_cmp_total = then_total (on_total (λ (c : Corner). c.x) int_cmp_total) (on_total (λ (c : Corner). c.y) int_cmp_total)

both_equal : (p q : Ordering) → is_eq p && is_eq q ≡ is_eq (ordering_then p q)
both_equal Less q = refl
both_equal Equal q = refl
both_equal Greater q = refl

pub corner_ties : (a b : Corner) → is_same a b ≡ eq_by_cmp corner_cmp a b
corner_ties a b = both_equal (int_cmp a.x b.x) (int_cmp a.y b.y)

pub before_from_less : (a b : Corner) → corner_cmp a b ≡ Less → IsBefore a b
before_from_less a b h = read (int_cmp a.x b.x) (int_cmp a.y b.y) (int_ranked a.x b.x (int_cmp a.x b.x) refl)
    (int_ranked a.y b.y (int_cmp a.y b.y) refl) h
  where
    read : (p q : Ordering) → MatchOrdering p (a.x <ℤ b.x) (a.x ≡ b.x) (b.x <ℤ a.x)
        → MatchOrdering q (a.y <ℤ b.y) (a.y ≡ b.y) (b.y <ℤ a.y)
        → ordering_then p q ≡ Less → IsBefore a b
    read Less q x y e = inl x
    read Equal Less x y e = inr (x, y)
    read Equal Equal x y e = cc
    read Equal Greater x y e = cc
    read Greater q x y e = cc

pub same_from_test : (a b : Corner) → is_same a b ≡ true → a ≡ b
same_from_test a b = (Decides-is_same a b).0

-- a corner that is not before b, where b is not before c, is not before c
not_before_chain : (a b c : Corner) → is_before a b ≡ false → is_before b c ≡ false → is_before a c ≡ false
not_before_chain a b c h k = false_where (is_before a c) (Decides-is_before a c)
    (λ l. split l (cases_of (is_before c b) (Decides-is_before c b)))
  where
    not_ab : IsBefore a b → ⊥
    not_ab = not_from_Decides (is_before a b) (Decides-is_before a b) h

    split : IsBefore a c → IsBefore c b ⊎ (is_before c b ≡ false) → ⊥
    split l (inl m) = not_ab (before_transitive a c b l m)
    split l (inr m) = not_ab (subst (λ x. IsBefore a x) (sym (same_unless_before b c k m)) l)

pub is_before_ranks : IsStrictWeakOrder is_before
is_before_ranks = record {
  one_way = λ a b e. false_where (is_before b a) (Decides-is_before b a) (before_asymmetric a b ((Decides-is_before a b).0 e));
  chain = not_before_chain;
}
