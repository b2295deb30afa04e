-- Split, merge and move have one result: where a ring is gone round, and which edges are shared, leaves no choice.
use Rattle.std.proofs.Common.{◌≡◌, ⊎_elim, refl, sym, ◌∙◌, ap, subst, arith, ℕ, suc, ◌+◌, ◌-◌, ◌<◌, List, []}
use Rattle.std.proofs.Common.{◌∷◌, ◌++◌, length, take}
use Rattle.std.proofs.Common.{reverse}
use Rattle.std.specs.List.{Contains}
use Rattle.std.proofs.lemmas.Bool.{cases_lt}
use Rattle.std.proofs.lemmas.Bool.Decides.{nat_tests}
use Rattle.std.proofs.lemmas.List.{length-append}
use Rattle.geo_exact.specs.declared.corner.Corner.{Corner}
use Rattle.geo_exact.specs.Places.{corner_at}
use Rattle.geo_exact.specs.Rings.{path, begun_at, begun_at_least}
use Rattle.geo_exact.proofs.rings.Begun.{path_count}
use Rattle.ring_core.proofs.ears.BegunElsewhere.{number_from, number_to}
use Rattle.ring_core.proofs.ears.LeastCorners.{AreApart}
use Rattle.ring_edits.specs.Edits.{IsPath, IsSplit, IsSharedAt, IsShared, IsMerge, IsMove}
use Rattle.ring_edits.specs.Round.{GoesRound, HasApartCorners}
use Rattle.ring_edits.proofs.Alternations.{IsOneRun, has_or_not}
use Rattle.ring_edits.proofs.Borders.{one_run, run_begins}
use Rattle.ring_edits.proofs.Rounds.{from_corner}
use Rattle.ring_edits.proofs.SameRuns.{same_number, begun_apart, split_apart}

-- ---- lists in two parts round an item
same_parts : (xs ys : List Corner) (v w : Corner) (cs bs : List Corner) → length xs ≡ length ys → xs ++ v ∷ cs ≡ ys ++ w ∷ bs
    → (xs ≡ ys) × (v ≡ w) × (cs ≡ bs)
same_parts [] [] v w cs bs n e = (refl, (cc), (cc))
same_parts [] (y ∷ ys) v w cs bs n e = absurd (omega arith)
same_parts (x ∷ xs) [] v w cs bs n e = absurd (omega arith)
same_parts (x ∷ xs) (y ∷ ys) v w cs bs n e =
    let head : x ≡ y = cc in
    let tail : xs ++ v ∷ cs ≡ ys ++ w ∷ bs = cc in
    let r = same_parts xs ys v w cs bs (omega arith) tail in
    (ap (λ c. c ∷ xs) head ∙ ap (λ zs. y ∷ zs) r.0, r.1, r.2)

-- where the item is in neither first part
same_split : (v : Corner) (xs ys cs bs : List Corner) → (Contains xs v → ⊥) → (Contains ys v → ⊥)
    → xs ++ v ∷ cs ≡ ys ++ v ∷ bs
    → (xs ≡ ys) × (cs ≡ bs)
same_split v [] [] cs bs h k e = (refl, (cc))
same_split v [] (y ∷ ys) cs bs h k e = let f : y ≡ v = cc in absurd (k (0, omega arith, f))
same_split v (x ∷ xs) [] cs bs h k e = let f : x ≡ v = cc in absurd (h (0, omega arith, f))
same_split v (x ∷ xs) (y ∷ ys) cs bs h k e =
    let head : x ≡ y = cc in
    let tail : xs ++ v ∷ cs ≡ ys ++ v ∷ bs = cc in
    let r = same_split v xs ys cs bs (λ c. h (suc c.0, omega (arith, c.1), c.2)) (λ c. k (suc c.0, omega (arith, c.1), c.2)) tail in
    (ap (λ c. c ∷ xs) head ∙ ap (λ zs. y ∷ zs) r.0, r.1)

-- ---- a path has its ends and what is between them
same_path : (corners : List Corner) (u v w z : Corner) (xs ys : List Corner) → IsPath corners u xs v → IsPath corners w ys z
    → (u ≡ w) × (xs ≡ ys) × (v ≡ z)
same_path corners u v w z xs ys h k =
    let e : u ∷ xs ++ v ∷ [] ≡ w ∷ ys ++ z ∷ [] = sym h.is ∙ k.is in
    let head : u ≡ w = cc in
    let tail : xs ++ v ∷ [] ≡ ys ++ z ∷ [] = cc in
    let r = same_parts xs ys v z [] [] (omega (arith, ap length tail, length-append xs (v ∷ []), length-append ys (z ∷ []))) tail in
    (head, r.0, r.1)

-- ---- a ring whose corners are apart is gone round in one way
same_round : (ring : List Corner) (u v : Corner) (xs ys cs bs : List Corner) → AreApart ring → GoesRound ring u xs v cs
    → GoesRound ring u ys v bs → (xs ≡ ys) × (cs ≡ bs)
same_round ring u v xs ys cs bs apart h k =
    let s : h.start ≡ k.start = same_number ring apart h.start k.start h.within k.within
    (begins ring u h.start h.within (xs ++ v ∷ cs) h.round ∙ sym (begins ring u k.start k.within (ys ++ v ∷ bs) k.round)) in
    let e : u ∷ xs ++ v ∷ cs ≡ u ∷ ys ++ v ∷ bs = sym h.round ∙ ap (λ m. begun_at m ring) s ∙ k.round in
    let tail : xs ++ v ∷ cs ≡ ys ++ v ∷ bs = cc in
    same_split v xs ys cs bs (off ring u v xs cs apart h) (off ring u v ys bs apart k) tail
  where
    begins : (ring : List Corner) (u : Corner) (s : ℕ) → s < length ring → (rest : List Corner) → begun_at s ring ≡ u ∷ rest
        → corner_at ring s ≡ u
    begins ring u s b rest e =
        ap (λ xs. corner_at xs 0) (ap (λ xs. xs ++ take s ring) (sym (from_corner ring s b)) ∙ e)

    off : (ring : List Corner) (u v : Corner) (xs cs : List Corner) → AreApart ring → GoesRound ring u xs v cs → Contains xs v → ⊥
    off ring u v xs cs apart h c =
        (split_apart v (u ∷ xs) cs (subst AreApart h.round (begun_apart ring h.start h.within apart))).0
        (suc c.0, omega (arith, c.1), c.2)

-- ---- numbers that have a property in one run round a circle
one_less : (n s k : ℕ) → s < n → k < n → 0 < number_to n s k → number_to n s (number_from n k (n - 1)) + 1 ≡ number_to n s k
one_less n s k h b l = grind (arith, nat_tests)

first_from : (n s : ℕ) → s < n → number_from n s 0 ≡ s
first_from n s h = grind (arith, nat_tests)

last_in : (n k : ℕ) → k < n → number_from n k (n - 1) < n
last_in n k h = grind (arith, nat_tests)

to_first : (n s k : ℕ) → s < n → k < n → number_to n s k ≡ 0 → s ≡ k
to_first n s k h b e = grind (arith, nat_tests)

same_start : (P : ℕ → Type 0) (n : ℕ) (h k : IsOneRun P n) → h.s ≡ k.s
same_start P n h k = ⊎_elim
    (λ l. let last = number_from n k.s (n - 1) in
    let there : P last = (has_or_not P n h last (last_in n k.s k.s_below)).1
    (let i = one_less n h.s k.s h.s_below k.s_below l in let j = (has_or_not P n h k.s k.s_below).0 here in omega (arith, i, j)) in
    absurd (let m = (k.exactly (n - 1) (omega (arith, k.s_below))).0 there in omega (arith, m, k.m_below)))
    (λ l. to_first n h.s k.s h.s_below k.s_below (omega (arith, l)))
    (cases_lt 0 (number_to n h.s k.s))
  where
    here : P k.s
    here = subst P (first_from n k.s k.s_below) ((k.exactly 0 (omega (arith, k.s_below))).1 k.m_some)

same_count : (P : ℕ → Type 0) (n : ℕ) (h k : IsOneRun P n) → h.m ≡ k.m
same_count P n h k = ⊎_elim
    (λ l. absurd (shorter h k (same_start P n h k) l))
    (λ l. ⊎_elim (λ m. absurd (shorter k h (sym (same_start P n h k)) m)) (λ m. omega arith) (cases_lt k.m h.m))
    (cases_lt h.m k.m)
  where
    shorter : (h k : IsOneRun P n) → h.s ≡ k.s → h.m < k.m → ⊥
    shorter h k e l =
        let there : P (number_from n h.s h.m) = subst (λ s. P (number_from n s h.m)) (sym e) ((k.exactly h.m h.m_below).1 l) in
        let m : h.m < h.m = (h.exactly h.m h.m_below).0 there in omega (arith, m)

-- ---- the run of shared edges
pub same_shared : (a b : List Corner) (u v w z : Corner) (xs ys cs bs : List Corner) → IsShared a b u xs v cs → IsShared a b w ys z bs
    → (u ≡ w) × (xs ≡ ys) × (v ≡ z) × (cs ≡ bs)
same_shared a b u v w z xs ys cs bs h k =
    let one = one_run a b (u, v, (xs, cs, h)) in
    let other = one_run a b (w, z, (ys, bs, k)) in
    let p = run_begins a b (u, v, (xs, cs, h)) in let q = run_begins a b (w, z, (ys, bs, k)) in
    let s : h.round.start ≡ k.round.start = sym p.0 ∙ same_start (IsSharedAt a b) (length a) one other ∙ q.0 in
    let n : length (path u xs v) ≡ length (path w ys z) = sym p.1 ∙ same_count (IsSharedAt a b) (length a) one other ∙ q.1 in
    let e : u ∷ xs ++ v ∷ cs ≡ w ∷ ys ++ z ∷ bs = sym h.round.round ∙ ap (λ m. begun_at m a) s ∙ k.round.round in
    let head : u ≡ w = cc in
    let tail : xs ++ v ∷ cs ≡ ys ++ z ∷ bs = cc in
    let r = same_parts xs ys v z cs bs (omega (arith, n, path_count u v xs, path_count w z ys)) tail in
    (head, r.0, r.1, r.2)

-- ---- the edits
joined : (u w v z : Corner) (xs ys cs bs out other : List Corner) → out ≡ begun_at_least (u ∷ xs ++ v ∷ cs)
    → other ≡ begun_at_least (w ∷ ys ++ z ∷ bs) → u ≡ w → xs ≡ ys → v ≡ z → cs ≡ bs → other ≡ out
joined u w v z xs ys cs bs out other h k e f g i = cc

pub one_split : (ring corners left right other_left other_right : List Corner) → HasApartCorners ring → IsSplit ring corners left right
    → IsSplit ring corners other_left other_right → (other_left ≡ left) × (other_right ≡ right)
one_split ring corners left right other_left other_right apart h k =
    let p = same_path corners h.from h.to k.from k.to h.between k.between h.is_path k.is_path in
    let r = same_round ring h.from h.to h.onward k.onward h.back k.back apart.apart h.round
    (subst (λ u. GoesRound ring u k.onward h.to k.back) (sym p.0)
    (subst (λ v. GoesRound ring k.from k.onward v k.back) (sym p.2) k.round)) in (
      joined h.from k.from h.to k.to h.between k.between h.back k.back left other_left h.left_is k.left_is p.0 p.1 p.2 r.1,
      joined h.from k.from h.to k.to h.onward k.onward (reverse h.between) (reverse k.between) right other_right
          h.right_is k.right_is p.0 r.0 p.2 (ap reverse p.1),
    )

pub one_merge : (a b out other : List Corner) → HasApartCorners b → IsMerge a b out → IsMerge a b other → other ≡ out
one_merge a b out other apart h k =
    let s = same_shared a b h.u h.v k.u k.v h.run k.run h.of_a k.of_a h.shared k.shared in
    let r = same_round b h.u h.v h.of_b k.of_b h.back k.back apart.apart h.round_b
    (subst (λ u. GoesRound b u k.of_b h.v k.back) (sym s.0) (subst (λ v. GoesRound b k.u k.of_b v k.back) (sym s.2) k.round_b)) in
    joined h.v k.v h.u k.u h.of_a k.of_a h.of_b k.of_b out other h.out_is k.out_is s.2 s.3 s.0 r.0

pub one_move : (a b corners out_a out_b other_a other_b : List Corner) → HasApartCorners b → IsMove a b corners out_a out_b
    → IsMove a b corners other_a other_b → (other_a ≡ out_a) × (other_b ≡ out_b)
one_move a b corners out_a out_b other_a other_b apart h k =
    let s = same_shared a b h.u h.v k.u k.v h.run k.run h.of_a k.of_a h.shared k.shared in
    let p = same_path corners h.u h.v k.u k.v h.between k.between h.is_path k.is_path in
    let r = same_round b h.u h.v h.of_b k.of_b h.back k.back apart.apart h.round_b
    (subst (λ u. GoesRound b u k.of_b h.v k.back) (sym s.0) (subst (λ v. GoesRound b k.u k.of_b v k.back) (sym s.2) k.round_b)) in (
      joined h.u k.u h.v k.v h.between k.between h.of_a k.of_a out_a other_a h.out_a_is k.out_a_is s.0 p.1 s.2 s.3,
      joined h.v k.v h.u k.u (reverse h.between) (reverse k.between) h.of_b k.of_b out_b other_b h.out_b_is k.out_b_is s.2
          (ap reverse p.1) s.0 r.0,
    )
