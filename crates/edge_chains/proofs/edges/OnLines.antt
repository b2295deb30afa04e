-- Corners in order across a direction: what lies inside an edge along it stands between its ends.
use Rattle.std.proofs.Common.{◌≡◌, inl, inr, ⊎_elim, refl, sym, ◌∙◌, ap, subst, arith, ℕ, ◌+◌, ◌<◌, ◌≤◌, true}
use Rattle.std.proofs.Common.{false}
use Rattle.std.proofs.Common.{ℤ, pos, ◌+ℤ◌, ◌-ℤ◌, ◌*ℤ◌, List, [], ◌∷◌, ◌++◌, length, get_or, map}
use Rattle.std.specs.List.{Contains}
use Rattle.std.specs.List.Sorted.{IsSorted}
use Rattle.std.specs.declared.cmp.Ordering.{Ordering}
use Rattle.std.specs.declared.cmp.Ordering.TheVariants.{Less, Equal, Greater}
use Rattle.std.specs.Ordering.{int_cmp, ordering_then, is_lt, MatchOrdering}
use Rattle.std.specs.Cmp.{IsTotalOrder, IsStrictWeakOrder}
use Rattle.std.proofs.lemmas.Int.{ints, by_lt_z}
use Rattle.std.proofs.lemmas.Cmp.{int_ranked, int_cmp_total, on_total, then_total}
use Rattle.std.proofs.Common.{FitsSigned, w64, ◌*◌, ◌^◌, zero, suc, drop, append_assoc}
use Rattle.geo_exact.proofs.numbers.Dropped.{drop_item}
use Rattle.std.proofs.lemmas.List.{get_or_default}
use Rattle.std.proofs.lemmas.List.Elements.{Contains-append_left, Contains-push, Contains-push_cases}
use Rattle.geo_exact.specs.Limit.{IsWithin, limit}
use Rattle.geo_exact.proofs.numbers.Within.{product_within}
use Rattle.std.proofs.lemmas.Bool.{cases_eq, cases_lt}
use Rattle.std.proofs.lemmas.List.MinMax.{ranks_by}
use Rattle.std.proofs.lemmas.List.Sorted.{sorted_far}
use Rattle.std.proofs.lemmas.Bool.{false≢true}
use lib.Signed.{◌<ℤ◌}
use Rattle.geo_exact.specs.declared.corner.Corner.{Corner}
use Rattle.geo_exact.specs.Order.{IsBefore, is_before}
use Rattle.geo_exact.specs.Segments.{IsStrictlyInside}
use Rattle.geo_exact.proofs.corners_and_turns.CornerOrder.{corner_cmp_total, Decides-is_before}
use Rattle.geo_exact.proofs.numbers.Signs.{mul_pos, mul_neg, mul_zero}
use Rattle.geo_exact.proofs.numbers.Differences.{expand}
use Rattle.geo_exact.proofs.numbers.Polynomials.{var, add, mul, sub, same_by}
use Rattle.edge_chains.specs.declared.lines.Ranked.{Ranked}
use Rattle.edge_chains.specs.own.Lines.{AreBetween, AreRanked, IsBetweenRanks, is_ranked_before, rank_cmp, rank_of}
use Rattle.edge_chains.specs.own.Steps.{AreInside, AreSteps, IsStep}
use Rattle.edge_chains.proofs.edges.Along.{Rises}
use Rattle.edge_chains.proofs.edges.OnSteps.{step_from_inside}

-- ---- the order
rank_cmp_total : IsTotalOrder rank_cmp
rank_cmp_total = then_total (on_total (λ (p : Ranked). p.rank) int_cmp_total) (on_total (λ (p : Ranked). p.corner) corner_cmp_total)

pub ranked_order : IsStrictWeakOrder is_ranked_before
ranked_order = ranks_by rank_cmp_total (λ (p : Ranked). p)

-- what stands at or before one that is not behind low is not behind it either
pub not_behind : (xs : List Ranked) (low : Ranked) (i j : ℕ) (d : Ranked) → IsSorted rank_cmp xs → i ≤ j → j < length xs
    → is_ranked_before low (get_or xs j d) ≡ false → is_ranked_before low (get_or xs i d) ≡ false
not_behind xs low i j d up l m h =
    ranked_order.chain low (get_or xs j d) (get_or xs i d) h (sorted_far is_ranked_before ranked_order xs up i j d l m)

-- what stands at or behind one that is not before high is not before it either
pub not_before : (xs : List Ranked) (high : Ranked) (i j : ℕ) (d : Ranked) → IsSorted rank_cmp xs → i ≤ j → j < length xs
    → is_ranked_before (get_or xs i d) high ≡ false → is_ranked_before (get_or xs j d) high ≡ false
not_before xs high i j d up l m h =
    ranked_order.chain (get_or xs j d) (get_or xs i d) high (sorted_far is_ranked_before ranked_order xs up i j d l m) h

before_where : (p q : Ranked) → p.rank ≡ q.rank → IsBefore p.corner q.corner → is_ranked_before p q ≡ true
before_where p q e h =
    read (int_cmp p.rank q.rank) (int_cmp p.corner.x q.corner.x) (int_cmp p.corner.y q.corner.y)
    (int_ranked p.rank q.rank (int_cmp p.rank q.rank) refl) (int_ranked p.corner.x q.corner.x (int_cmp p.corner.x q.corner.x) refl)
    (int_ranked p.corner.y q.corner.y (int_cmp p.corner.y q.corner.y) refl)
  where
    none : (u v : ℤ) → u ≡ v → u <ℤ v → ⊥
    none u v s l = omega (arith, ints, s, l)

    read : (r s t : Ordering) → MatchOrdering r (p.rank <ℤ q.rank) (p.rank ≡ q.rank) (q.rank <ℤ p.rank)
        → MatchOrdering s (p.corner.x <ℤ q.corner.x) (p.corner.x ≡ q.corner.x) (q.corner.x <ℤ p.corner.x)
        → MatchOrdering t (p.corner.y <ℤ q.corner.y) (p.corner.y ≡ q.corner.y) (q.corner.y <ℤ p.corner.y)
        → is_lt (ordering_then r (ordering_then s t)) ≡ true
    read Less s t k l m = refl
    read Greater s t k l m = absurd (none q.rank p.rank (sym e) k)
    read Equal Less t k l m = refl
    read Equal Equal Less k l m = refl
    read Equal Equal Equal k l m = absurd (elim h [ inl i ↦ omega (arith, ints, i, l) | inr i ↦ omega (arith, ints, i.1, m) ])
    read Equal Equal Greater k l m = absurd (elim h [ inl i ↦ omega (arith, ints, i, l) | inr i ↦ omega (arith, ints, i.1, m) ])
    read Equal Greater t k l m = absurd (elim h [ inl i ↦ omega (arith, ints, i, l) | inr i ↦ omega (arith, ints, i.0, l) ])

-- ---- an edge along the direction
-- the direction of an edge that does not go down rises
rises_along : (a b : Corner) (u v : ℤ) (g : ℕ) → AreSteps a b u v g → is_before b a ≡ false → Rises u v
rises_along a b u v g s h = by_lt_z (pos 0) u (λ p. inl p) (λ p. by_lt_z u (pos 0)
    (λ q. absurd (down (inl (less b.x a.x u s.in_x q))))
    (λ q. let z : u ≡ pos 0 = omega (arith, ints, p, q) in by_lt_z (pos 0) v (λ r. inr (z, r)) (λ r. by_lt_z v (pos 0)
    (λ t. absurd (down (inr (level z, less b.y a.y v s.in_y t))))
    (λ t. absurd (nowhere z (omega (arith, ints, r, t)))))))
  where
    down : IsBefore b a → ⊥
    down k = false≢true (sym h ∙ (Decides-is_before b a).1 k)

    less : (f o w : ℤ) → pos g *ℤ w ≡ f -ℤ o → w <ℤ pos 0 → f <ℤ o
    less f o w e l = let m = mul_neg (pos g) w (omega (arith, ints, s.some)) l in omega (arith, ints, e, m)

    level : u ≡ pos 0 → b.x ≡ a.x
    level z = omega (arith, ints, s.in_x, ap (λ w. pos g *ℤ w) z, mul_zero (pos g))

    nowhere : u ≡ pos 0 → v ≡ pos 0 → ⊥
    nowhere z w = omega (arith, ints, rw (z, w) at s.shortest.2)

-- a way of some steps in a rising direction leads to a later corner
later : (a c : Corner) (u v k : ℤ) → Rises u v → pos 0 <ℤ k → c.x -ℤ a.x ≡ k *ℤ u → c.y -ℤ a.y ≡ k *ℤ v
    → IsBefore a c
later a c u v k (inl r) l h i = inl (let m = mul_pos k u l r in omega (arith, ints, h, m))
later a c u v k (inr r) l h i = inr (
  omega (arith, ints, h, ap (λ w. k *ℤ w) r.0, mul_zero k),
  (let m = mul_pos k v l r.1 in omega (arith, ints, i, m)),
)

-- corners that steps along the direction lead to have one rank
same_rank : (a c : Corner) (u v : ℤ) (k : ℕ) → IsStep a u v k c → rank_of u v a ≡ rank_of u v c
same_rank a c u v k s =
    let e : u *ℤ (a.y +ℤ pos k *ℤ v) -ℤ v *ℤ (a.x +ℤ pos k *ℤ u) ≡ u *ℤ a.y -ℤ v *ℤ a.x =
    same_by (u ∷ v ∷ pos k ∷ a.x ∷ a.y ∷ [])
    (sub (mul (var 0) (add (var 4) (mul (var 2) (var 1)))) (mul (var 1) (add (var 3) (mul (var 2) (var 0)))))
    (sub (mul (var 0) (var 4)) (mul (var 1) (var 3)))
    refl in
    sym (ap (λ y. u *ℤ y -ℤ v *ℤ c.x) s.in_y ∙ ap (λ x. u *ℤ (a.y +ℤ pos k *ℤ v) -ℤ v *ℤ x) s.in_x ∙ e)

-- what lies inside the edge stands between its ends
pub inside_between : (a b : Corner) (u v : ℤ) (g : ℕ) (low high it : Ranked) → AreSteps a b u v g → is_before b a ≡ false
    → low.rank ≡ rank_of u v a → low.corner ≡ a → high.rank ≡ rank_of u v a → high.corner ≡ b
    → it.rank ≡ rank_of u v it.corner
    → IsStrictlyInside it.corner a b → IsBetweenRanks low high it
inside_between a b u v g low high it s up e f h i j k =
    let c = it.corner in
    let w = step_from_inside a b c u v g s k in
    let n = w.0 in
    let step = w.3 in
    let way = rises_along a b u v g s up in
    let one = same_rank a c u v n step in (
      before_where low it (e ∙ one ∙ sym j) (subst (λ z. IsBefore z c) (sym f)
          (later a c u v (pos n) way (omega (arith, ints, w.1)) (omega (arith, ints, step.in_x)) (omega (arith, ints, step.in_y)))),
      before_where it high (j ∙ sym one ∙ sym h) (subst (λ z. IsBefore c z) (sym i)
          (later c b u v (pos g -ℤ pos n) way (omega (arith, ints, w.2, s.some)) (rest a.x b.x c.x u n s.in_x step.in_x)
          (rest a.y b.y c.y v n s.in_y step.in_y))),
    )
  where
    less : (k n w : ℤ) → (k -ℤ n) *ℤ w ≡ k *ℤ w -ℤ n *ℤ w
    less k n w = simp expand (omega (arith, ints))

    rest : (o f z w : ℤ) (n : ℕ) → pos g *ℤ w ≡ f -ℤ o → z ≡ o +ℤ pos n *ℤ w → f -ℤ z ≡ (pos g -ℤ pos n) *ℤ w
    rest o f z w n e h = omega (arith, ints, e, h, less (pos g) (pos n) w)

-- ---- the code's numbers and places
pub product_small : (u z p : ℤ) → FitsSigned w64 u → IsWithin limit z → p ≡ u *ℤ z → IsWithin (2 ^ 63 * limit) p
product_small u z p f h e =
    subst (IsWithin (2 ^ 63 * limit)) (sym e) (product_within (2 ^ 63) limit u z (record {
      low = omega (arith, ints);
      high = omega (arith, ints);
    }) h)

pub not_behind_here : (xs : List Ranked) (low : Ranked) (i j : ℕ) (d it : Ranked) → IsSorted rank_cmp xs → i ≤ j
    → j < length xs → it ≡ get_or xs j it
    → is_ranked_before low it ≡ false → is_ranked_before low (get_or xs i d) ≡ false
not_behind_here xs low i j d it up l m e h =
    not_behind xs low i j d up l m (ap (is_ranked_before low) (sym (e ∙ get_or_default xs j it d m)) ∙ h)

pub not_before_here : (xs : List Ranked) (high : Ranked) (i j : ℕ) (d it : Ranked) → IsSorted rank_cmp xs → i ≤ j
    → j < length xs → it ≡ get_or xs i it
    → is_ranked_before it high ≡ false → is_ranked_before (get_or xs j d) high ≡ false
not_before_here xs high i j d it up l m e h =
    not_before xs high i j d up l m (ap (λ x. is_ranked_before x high) (sym (e ∙ get_or_default xs i it d (omega (arith, l, m)))) ∙ h)

-- ---- the search, one after the other
get_or_mapped : (xs : List Ranked) (k : ℕ) (d : Ranked) → get_or (map (λ it. it.corner) xs) k d.corner ≡ (get_or xs k d).corner
get_or_mapped [] k d = refl
get_or_mapped (x ∷ xs) zero d = refl
get_or_mapped (x ∷ xs) (suc k) d = get_or_mapped xs k d

length_mapped : (xs : List Ranked) → length (map (λ it. it.corner) xs) ≡ length xs
length_mapped [] = refl
length_mapped (x ∷ xs) = ap suc (length_mapped xs)

-- one of the ranked corners is among the corners
mapped_has : (xs : List Ranked) (i : ℕ) (it : Ranked) → i < length xs → it ≡ get_or xs i it
    → Contains (map (λ r. r.corner) xs) it.corner
mapped_has xs i it l e = (i, omega (arith, l, length_mapped xs), get_or_mapped xs i it ∙ ap (λ (r : Ranked). r.corner) (sym e))

-- and the other way round
ranked_has : (xs : List Ranked) (c : Corner) → Contains (map (λ r. r.corner) xs) c
    → (k : ℕ) × (k < length xs) × ((get_or xs k (record { rank = pos 0; corner = c })).corner ≡ c)
ranked_has xs c h = (h.0, omega (arith, h.1, length_mapped xs), sym (get_or_mapped xs h.0 (record { rank = pos 0; corner = c })) ∙ h.2)

abbrev pub AreOnly : List Ranked → Corner → Corner → List Corner → Type 0
AreOnly ranked a b found = (c : Corner) → Contains found c → Contains (map (λ it. it.corner) ranked) c × IsStrictlyInside c a b

abbrev pub HasUpTo : List Ranked → Corner → Corner → ℕ → ℕ → List Corner → Type 0
HasUpTo ranked a b start i found =
    (k : ℕ) (d : Ranked) → start ≤ k → k < i → IsStrictlyInside (get_or ranked k d).corner a b
    → Contains found (get_or ranked k d).corner

pub only_pushed : (ranked : List Ranked) (a b : Corner) (found : List Corner) (i : ℕ) (it : Ranked)
    → i < length ranked → it ≡ get_or ranked i it
    → IsStrictlyInside it.corner a b → AreOnly ranked a b found → AreOnly ranked a b (found ++ it.corner ∷ [])
only_pushed ranked a b found i it l e h so c k =
    ⊎_elim (λ old. so c old)
    (λ s. (subst (Contains (map (λ r. r.corner) ranked)) s (mapped_has ranked i it l e), subst (λ z. IsStrictlyInside z a b) s h))
    (Contains-push_cases found it.corner c k)

pub has_pushed : (ranked : List Ranked) (a b : Corner) (found : List Corner) (start i : ℕ) (it : Ranked)
    → i < length ranked → it ≡ get_or ranked i it
    → HasUpTo ranked a b start i found → HasUpTo ranked a b start (i + 1) (found ++ it.corner ∷ [])
has_pushed ranked a b found start i it l e so k d m n h =
    ⊎_elim
    (λ s. subst (Contains (found ++ it.corner ∷ [])) (ap (λ (r : Ranked). r.corner) (e
    ∙ get_or_default ranked i it d l ∙ ap (λ j. get_or ranked j d) (sym s)))
    (Contains-push found it.corner))
    (λ s. Contains-append_left found (it.corner ∷ []) (get_or ranked k d).corner (so k d m (omega (arith, n, s)) h))
    (cases_eq k i)

pub has_passed : (ranked : List Ranked) (a b : Corner) (found : List Corner) (start i : ℕ) (it : Ranked)
    → i < length ranked → it ≡ get_or ranked i it
    → (IsStrictlyInside it.corner a b → ⊥) → HasUpTo ranked a b start i found → HasUpTo ranked a b start (i + 1) found
has_passed ranked a b found start i it l e off so k d m n h =
    ⊎_elim
    (λ s. absurd (off (subst (λ z. IsStrictlyInside z a b)
    (sym (ap (λ (r : Ranked). r.corner) (e ∙ get_or_default ranked i it d l ∙ ap (λ j. get_or ranked j d) (sym s)))) h)))
    (λ s. so k d m (omega (arith, n, s)) h)
    (cases_eq k i)

-- the search ends where none is left, or at one that is not before high
pub between_all : (ranked : List Ranked) (low high : Ranked) (found : List Corner) (start i : ℕ) → IsSorted rank_cmp ranked
    → ((k : ℕ) (d : Ranked) → k < start → is_ranked_before low (get_or ranked k d) ≡ false)
    → ((k : ℕ) (d : Ranked) → i ≤ k → k < length ranked → is_ranked_before (get_or ranked k d) high ≡ false)
    → AreOnly ranked low.corner high.corner found → HasUpTo ranked low.corner high.corner start i found
    → AreBetween low high ranked found
between_all ranked low high found start i up before behind only has = record {
  only = only;
  all = λ k d l between h. ⊎_elim
      (λ m. absurd (false≢true (sym (before k d m) ∙ between.0)))
      (λ m. ⊎_elim (λ n. has k d m n h) (λ n. absurd (false≢true (sym (behind k d n l) ∙ between.1))) (cases_lt k i))
      (cases_lt k start);
}

-- what was found is all that lies inside
pub inside_all : (ranked : List Ranked) (a b : Corner) (u v : ℤ) (g : ℕ) (low high : Ranked) (found : List Corner)
    → AreRanked u v ranked → AreSteps a b u v g
    → is_before b a ≡ false → low.rank ≡ rank_of u v a → low.corner ≡ a → high.rank ≡ rank_of u v a → high.corner ≡ b
    → AreBetween low high ranked found → AreInside (map (λ it. it.corner) ranked) a b found
inside_all ranked a b u v g low high found are s up e f h i k c = (
  λ m. let o = k.only c m in (o.0, subst (λ z. IsStrictlyInside c z b) f (subst (λ z. IsStrictlyInside c low.corner z) i o.1)),
  λ m.
      let n = ranked_has ranked c m.0 in
      let d : Ranked = record { rank = pos 0; corner = c } in
      let it = get_or ranked n.0 d in
      let here : IsStrictlyInside it.corner a b = subst (λ z. IsStrictlyInside z a b) (sym n.2) m.1 in
      subst (Contains found) n.2
      (k.all n.0 d n.1 (inside_between a b u v g low high it s up e f h i (are.ranks n.0 d n.1) here)
      (subst (λ z. IsStrictlyInside it.corner z high.corner) (sym f) (subst (λ z. IsStrictlyInside it.corner a z) (sym i) here))),
)

-- ---- the list as it is made
mapped_push : (xs : List Ranked) (it : Ranked) → map (λ r. r.corner) (xs ++ it ∷ []) ≡ map (λ r. r.corner) xs ++ it.corner ∷ []
mapped_push [] it = refl
mapped_push (x ∷ xs) it = ap (λ ys. x.corner ∷ ys) (mapped_push xs it)

pub ranked_more : (xs : List Ranked) (ys : List Corner) (i : ℕ) (it : Ranked) → i < length ys → it.corner ≡ get_or ys i it.corner
    → map (λ r. r.corner) xs ++ drop i ys ≡ ys → map (λ r. r.corner) (xs ++ it ∷ []) ++ drop (i + 1) ys ≡ ys
ranked_more xs ys i it l e h =
    ap (λ zs. zs ++ drop (i + 1) ys) (mapped_push xs it) ∙ append_assoc (map (λ r. r.corner) xs) (it.corner ∷ []) (drop (i + 1) ys)
    ∙ ap (λ zs. map (λ r. r.corner) xs ++ zs) (sym (drop_item ys i it.corner l e)) ∙ h
