-- A corner taken out of a ring that is straight there: the ring covers what it covered, and its least box stays.
use Rattle.std.proofs.Common.{◌≡◌, ◌↔◌, inl, inr, ⊎_elim, refl, sym, ◌∙◌, ap, subst, arith, Bool, true, false}
use Rattle.std.proofs.Common.{IsTrue, not, ◌||◌, ℕ, suc, ◌<◌, ◌≤◌, ℤ, ◌+ℤ◌, List, [], ◌∷◌, ◌++◌, length, get_or, append-nil}
use Rattle.std.specs.Prelude.{cond}
use Rattle.std.specs.List.{filter, All, AllByRecursion}
use Rattle.std.proofs.lemmas.Bool.{cases_lt, false≢true}
use Rattle.std.proofs.lemmas.Bool.Decides.{not_from_Decides}
use Rattle.std.proofs.lemmas.Int.{ints}
use Rattle.std.proofs.lemmas.List.{get_or_default, get_or_past}
use Rattle.std.proofs.lemmas.List.Elements.{filter-append, filter_agree, All-filter, All-get_or, All-same, All-from_get_or}
use Rattle.std.proofs.lemmas.List.Elements.{All-from_recursion, recursion_from_All}
use Rattle.std.proofs.lemmas.List.Folds.{list_any_at}
use Rattle.geo_exact.specs.declared.bounds.Bounds.{Bounds}
use Rattle.geo_exact.specs.declared.corner.Corner.{Corner}
use Rattle.geo_exact.specs.Area.{edge_area2}
use Rattle.geo_exact.specs.Bounds.{HoldsCorner, IsLeastBox}
use Rattle.geo_exact.specs.Order.{is_same, is_same_equivalence, is_before}
use Rattle.geo_exact.specs.Places.{corner_at, origin, after, before}
use Rattle.geo_exact.specs.Point.{Point}
use Rattle.geo_exact.specs.Rings.{Edge, path, edges, sum_over, begun_at, begun_at_least}
use Rattle.geo_exact.specs.Segments.{IsStrictlyInside}
use Rattle.geo_exact.specs.Turn.{IsOnSome, IsOnRing}
use Rattle.geo_exact.specs.Winding.{crossing}
use Rattle.geo_exact.proofs.corners_and_turns.CornerOrder.{Decides-is_same, cases_of, false_where}
use Rattle.geo_exact.proofs.corners_and_turns.CornerOrder.{Decides-is_before, before_irreflexive, before_asymmetric, same_unless_before}
use Rattle.geo_exact.proofs.rings.Begun.{least_within, sum_over-begun}
use Rattle.geo_exact.proofs.rings.Crossings.{crossing_cut, edge_area2_cut}
use Rattle.geo_exact.proofs.rings.EdgeSums.{edge_of}
use Rattle.geo_exact.proofs.rings.OnRings.{on_ring_begun}
use Rattle.ring_core.specs.Clipping.{IsFlat}
use Rattle.ring_core.specs.Simple.{IsSimpleRing}
use Rattle.ring_core.proofs.edges.Corners.{three_corners}
use Rattle.ring_core.proofs.edges.RoundNumbers.{after_inner, after_end, before_first, before_inner, before_in, after_in}
use Rattle.ring_core.proofs.edges.RoundNumbers.{before_other, after_other}
use Rattle.ring_core.proofs.ears.LeastCorners.{AreApart}
use Rattle.edge_chains.proofs.edges.Inside.{Decides-is_strictly_inside}
use Rattle.edge_chains.proofs.edges.Parts.{on_parts, on_whole_first, on_whole_second}
use Rattle.edge_chains.specs.own.Inside.{is_strictly_inside}
use Rattle.ring_edits.specs.Edits.{has_corner, without_corner, straightened, BendsAt, CoversAlike}
use Rattle.ring_edits.proofs.Apart.{simple_apart}
use Rattle.ring_edits.proofs.PutGround.{begun_covers, begun_all, all_begun, held_between}
use Rattle.ring_edits.proofs.PutGround.{NotBefore, not_before_between, first_least, begins_least}

-- ---- the corner in the ring
pub without_by : (at : Corner) (ring : List Corner) → filter (λ corner. not (is_same corner at)) ring ≡ without_corner at ring
without_by at ring =
    filter_agree (λ corner. not (is_same corner at)) (λ corner. not (is_same at corner))
    (λ corner. ap not (is_same_equivalence.symm corner at)) ring

pub bends_has : (at : Corner) (ring : List Corner) → BendsAt at ring → has_corner at ring ≡ true
bends_has at ring h =
    list_any_at (is_same at) ring h.place origin h.in_ring ((Decides-is_same at (corner_at ring h.place)).1 (sym h.is_there))

pub without_none : (at : Corner) (ring : List Corner) → has_corner at ring ≡ false → without_corner at ring ≡ ring
without_none at [] h = refl
without_none at (c ∷ cs) h = step (is_same at c) h (without_none at cs)
  where
    step : (b : Bool) → (b || has_corner at cs) ≡ false → (has_corner at cs ≡ false → without_corner at cs ≡ cs)
        → cond (not b) (c ∷ without_corner at cs) (without_corner at cs) ≡ c ∷ cs
    step true k l = absurd (false≢true (sym k))
    step false k l = ap (λ xs. c ∷ xs) (l k)

pub lacking_stays : (at : Corner) (ring : List Corner) → ¬ IsTrue (has_corner at ring) → without_corner at ring ≡ ring
lacking_stays at ring h = without_none at ring (not_so (has_corner at ring) h)
  where
    not_so : (b : Bool) → (b ≡ true → ⊥) → b ≡ false
    not_so true k = absurd (k refl)
    not_so false k = refl

-- another corner stays
pub keeps : (at c : Corner) (cs : List Corner) → (at ≡ c → ⊥) → without_corner at (c ∷ cs) ≡ c ∷ without_corner at cs
keeps at c cs h =
    ap (λ b. cond (not b) (c ∷ without_corner at cs) (without_corner at cs)) (false_where (is_same at c) (Decides-is_same at c) h)

-- and the corner itself goes
pub drops : (at c : Corner) (cs : List Corner) → at ≡ c → without_corner at (c ∷ cs) ≡ without_corner at cs
drops at c cs h =
    ap (λ b. cond (not b) (c ∷ without_corner at cs) (without_corner at cs)) ((Decides-is_same at c).1 h)

-- ---- straight paths
-- wherever the path has the corner, it lies strictly inside the edge between its two neighbours
abbrev IsStraight : (at from : Corner) → List Corner → Corner → Type 0
IsStraight at from [] last = Unit {0}
IsStraight at from (c ∷ rest) last = (c ≡ at → IsStrictlyInside at from (get_or rest 0 last)) × IsStraight at c rest last

by_numbers : (at from : Corner) (cs : List Corner) (last : Corner)
    → ((k : ℕ) → k < length cs → get_or cs k origin ≡ at → IsStrictlyInside at (get_or (from ∷ cs) k origin) (get_or cs (suc k) last))
    → IsStraight at from cs last
by_numbers at from [] last h = tt
by_numbers at from (c ∷ rest) last h =
    (h 0 (omega arith), by_numbers at c rest last (λ k b e. h (suc k) (omega (arith, b)) e))

-- one corner more
straight_more : (at from c to : Corner) (rest : List Corner) → IsStraight at from rest c
    → (c ≡ at → IsStrictlyInside at (get_or (from ∷ rest) (length rest) origin) to)
    → IsStraight at from (rest ++ c ∷ []) to
straight_more at from c to [] h k = (k, tt)
straight_more at from c to (x ∷ rest) h k =
    (λ e. subst (IsStrictlyInside at from) (sym (front rest)) (h.0 e), straight_more at x c to rest h.1 k)
  where
    front : (xs : List Corner) → get_or (xs ++ c ∷ []) 0 to ≡ get_or xs 0 c
    front [] = refl
    front (y ∷ ys) = refl

-- ---- where the ring does not bend
pub inside_at : (at : Corner) (ring : List Corner) → ¬ BendsAt at ring → (k : ℕ) → k < length ring → corner_at ring k ≡ at
    → IsStrictlyInside at (corner_at ring (before (length ring) k)) (corner_at ring (after (length ring) k))
inside_at at ring h k b e =
    let p = corner_at ring (before (length ring) k) in let q = corner_at ring (after (length ring) k) in
    let d = Decides-is_strictly_inside at p q in
    ⊎_elim (λ i. i)
    (λ f. absurd (h (record { place = k; in_ring = b; is_there = e; is_not_flat = not_from_Decides (is_strictly_inside at p q) d f })))
    (cases_of (is_strictly_inside at p q) d)

-- what follows a corner but the first
follower : (first : Corner) (rest : List Corner) (k : ℕ) → k < length rest
    → corner_at (first ∷ rest) (after (suc (length rest)) (suc k)) ≡ get_or rest (suc k) first
follower first rest k h =
    ⊎_elim
    (λ q. ap (corner_at (first ∷ rest)) (after_inner (suc (length rest)) (suc k) (omega (arith, q)))
    ∙ get_or_default rest (suc k) origin first q)
    (λ q. ap (corner_at (first ∷ rest)) (after_end (suc (length rest)) (suc k) (omega (arith, q, h)))
    ∙ sym (get_or_past rest (suc k) first q))
    (cases_lt (suc k) (length rest))

-- from its first corner round to that, the ring is straight
straight_from : (at first : Corner) (rest : List Corner) → ¬ BendsAt at (first ∷ rest) → IsStraight at first rest first
straight_from at first rest h =
    by_numbers at first rest first (λ k b e.
    subst (λ p. IsStrictlyInside at p (get_or rest (suc k) first))
    (ap (corner_at (first ∷ rest)) (before_inner (suc (length rest)) k))
    (subst (IsStrictlyInside at (corner_at (first ∷ rest) (before (suc (length rest)) (suc k)))) (follower first rest k b)
    (inside_at at (first ∷ rest) h (suc k) (omega (arith, b)) e)))

-- ---- the edges of what is left
-- each two edges that meet in the corner are joined to one, which the corner lies strictly inside; the others stay
pub data AreJoined (at : Corner) : List Edge → List Edge → Type 0 where
  none : AreJoined at [] []
  kept : {es fs : List Edge} (edge : Edge) → AreJoined at es fs → AreJoined at (edge ∷ es) (edge ∷ fs)
  joined : {es fs : List Edge} (a b : Corner) → IsStrictlyInside at a b → AreJoined at es fs
      → AreJoined at (edge_of a b ∷ es) (edge_of a at ∷ edge_of at b ∷ fs)

path_joined : (at from : Corner) (cs : List Corner) (last : Corner) → IsStraight at from cs last
    → AreJoined at (path from (without_corner at cs) last) (path from cs last)
path_joined at from [] last h = kept (edge_of from last) none
path_joined at from (c ∷ []) last h = only (is_same at c) (Decides-is_same at c).0
  where
    only : (b : Bool) → (b ≡ true → at ≡ c) → AreJoined at (path from (cond (not b) (c ∷ []) []) last) (path from (c ∷ []) last)
    only true e =
        subst (λ x. AreJoined at (edge_of from last ∷ []) (edge_of from x ∷ edge_of x last ∷ [])) (e refl)
        (joined from last (h.0 (sym (e refl))) none)
    only false e = kept (edge_of from c) (kept (edge_of c last) none)
path_joined at from (c ∷ d ∷ rest) last h =
    more (is_same at c) (Decides-is_same at c).0 (path_joined at c (d ∷ rest) last h.1) (path_joined at d rest last h.1.1)
  where
    more : (b : Bool) → (b ≡ true → at ≡ c)
        → AreJoined at (path c (without_corner at (d ∷ rest)) last) (path c (d ∷ rest) last)
        → AreJoined at (path d (without_corner at rest) last) (path d rest last)
        → AreJoined at (path from (cond (not b) (c ∷ without_corner at (d ∷ rest)) (without_corner at (d ∷ rest))) last)
        (path from (c ∷ d ∷ rest) last)
    more true e k l =
        let i : IsStrictlyInside at from d = h.0 (sym (e refl)) in
        subst (λ x. AreJoined at (path from (without_corner at (d ∷ rest)) last) (edge_of from x ∷ edge_of x d ∷ path d rest last)) (e refl)
        (subst (λ xs. AreJoined at (path from xs last) (edge_of from at ∷ edge_of at d ∷ path d rest last))
        (sym (keeps at d rest i.not_end)) (joined from d i l))
    more false e k l = kept (edge_of from c) k

-- where the ring begins at the corner, it is begun at the next
begun_next : (at first : Corner) (rest : List Corner) → at ≡ first → ¬ BendsAt at (first ∷ rest)
    → AreJoined at (edges (without_corner at (first ∷ rest))) (edges (begun_at 1 (first ∷ rest)))
begun_next at first [] e h = absurd ((inside_at at (first ∷ []) h 0 (omega arith) (sym e)).not_start e)
begun_next at first (y ∷ rest) e h =
    subst (λ xs. AreJoined at (edges xs) (path y (rest ++ first ∷ []) y)) (sym same)
    (subst (λ xs. AreJoined at (path y xs y) (path y (rest ++ first ∷ []) y)) end
    (path_joined at y (rest ++ first ∷ []) y
    (straight_more at y first y rest (straight_from at first (y ∷ rest) h).1 (λ _. i))))
  where
    n : ℕ
    n = suc (suc (length rest))

    i : IsStrictlyInside at (get_or (y ∷ rest) (length rest) origin) y
    i =
        subst (λ p. IsStrictlyInside at p y) (ap (corner_at (first ∷ y ∷ rest)) (before_first n (suc (length rest)) refl))
        (subst (IsStrictlyInside at (corner_at (first ∷ y ∷ rest) (before n 0)))
        (ap (corner_at (first ∷ y ∷ rest)) (after_inner n 0 (omega arith)))
        (inside_at at (first ∷ y ∷ rest) h 0 (omega arith) (sym e)))

    same : without_corner at (first ∷ y ∷ rest) ≡ y ∷ without_corner at rest
    same = drops at first (y ∷ rest) e ∙ keeps at y rest i.not_end

    end : without_corner at (rest ++ first ∷ []) ≡ without_corner at rest
    end =
        filter-append (λ corner. not (is_same at corner)) rest (first ∷ [])
        ∙ ap (λ xs. without_corner at rest ++ xs) (drops at first [] e) ∙ append-nil (without_corner at rest)

pub ring_joined : (at : Corner) (ring : List Corner) → ¬ BendsAt at ring
    → (k : ℕ) × (k ≤ length ring) × AreJoined at (edges (without_corner at ring)) (edges (begun_at k ring))
ring_joined at [] h = (0, omega arith, none)
ring_joined at (first ∷ rest) h =
    ⊎_elim (λ e. (1, omega arith, begun_next at first rest e h))
    (λ f. (
      0,
      omega arith,
      subst (λ xs. AreJoined at (edges (without_corner at (first ∷ rest))) (edges xs)) (sym (append-nil (first ∷ rest)))
          (subst (λ xs. AreJoined at (edges xs) (path first rest first))
          (sym (keeps at first rest (not_from_Decides (is_same at first) (Decides-is_same at first) f)))
          (path_joined at first rest first (straight_from at first rest h))),
    ))
    (cases_of (is_same at first) (Decides-is_same at first))

-- ---- sums over edges
sum_over-joined : (measure : Edge → ℤ) (at : Corner) (es fs : List Edge)
    → ((a b : Corner) → IsStrictlyInside at a b → measure (edge_of a b) ≡ measure (edge_of a at) +ℤ measure (edge_of at b))
    → AreJoined at es fs → sum_over measure es ≡ sum_over measure fs
sum_over-joined measure at _ _ adds none = refl
sum_over-joined measure at _ _ adds (kept {es = es} {fs = fs} edge h) =
    ap (λ z. measure edge +ℤ z) (sum_over-joined measure at es fs adds h)
sum_over-joined measure at _ _ adds (joined {es = es} {fs = fs} a b i h) =
    omega (arith, ints, adds a b i, sum_over-joined measure at es fs adds h)

pub sum_over-without : (measure : Edge → ℤ) (at : Corner) (ring : List Corner)
    → ((a b : Corner) → IsStrictlyInside at a b → measure (edge_of a b) ≡ measure (edge_of a at) +ℤ measure (edge_of at b))
    → ¬ BendsAt at ring → sum_over measure (edges (without_corner at ring)) ≡ sum_over measure (edges ring)
sum_over-without measure at ring adds h =
    let w = ring_joined at ring h in
    sum_over-joined measure at (edges (without_corner at ring)) (edges (begun_at w.0 ring)) adds w.2
    ∙ sum_over-begun measure w.0 ring w.1

pub sum_over-straightened : (measure : Edge → ℤ) (at : Corner) (ring : List Corner)
    → ((a b : Corner) → IsStrictlyInside at a b → measure (edge_of a b) ≡ measure (edge_of a at) +ℤ measure (edge_of at b))
    → ¬ BendsAt at ring → sum_over measure (edges (straightened at ring)) ≡ sum_over measure (edges ring)
sum_over-straightened measure at ring adds h =
    let w = least_within (without_corner at ring) in
    ap (λ xs. sum_over measure (edges xs)) w.2 ∙ sum_over-begun measure w.0 (without_corner at ring) w.1
    ∙ sum_over-without measure at ring adds h

-- ---- points on edges
on_joined : (p : Point) (at : Corner) (es fs : List Edge) → AreJoined at es fs → IsOnSome p es ↔ IsOnSome p fs
on_joined p at _ _ none = (λ k. k, λ k. k)
on_joined p at _ _ (kept {es = es} {fs = fs} edge h) =
    let later = on_joined p at es fs h in
    (⊎_elim (λ m. inl m) (λ m. inr (later.0 m)), ⊎_elim (λ m. inl m) (λ m. inr (later.1 m)))
on_joined p at _ _ (joined {es = es} {fs = fs} a b i h) =
    let later = on_joined p at es fs h in (
      ⊎_elim (λ m. ⊎_elim (λ k. inl k) (λ k. inr (inl k)) (on_parts p a b at i m)) (λ m. inr (inr (later.0 m))),
      ⊎_elim (λ m. inl (on_whole_first p a b at i m))
          (⊎_elim (λ m. inl (on_whole_second p a b at i m)) (λ m. inr (later.1 m))),
    )

on_ring_without : (p : Point) (at : Corner) (ring : List Corner) → ¬ BendsAt at ring
    → IsOnRing p (without_corner at ring) ↔ IsOnRing p ring
on_ring_without p at ring h =
    let w = ring_joined at ring h in
    let same = on_joined p at (edges (without_corner at ring)) (edges (begun_at w.0 ring)) w.2 in
    let turned = on_ring_begun w.0 p ring w.1 in
    (λ k. turned.0 (same.0 k), λ k. same.1 (turned.1 k))

-- ---- what is covered
pub without_covers : (at : Corner) (ring : List Corner) → ¬ BendsAt at ring → CoversAlike ring (without_corner at ring)
without_covers at ring h = record {
  winding_number = λ p. sum_over-without (λ edge. crossing p edge.from edge.to) at ring (λ a b i. sym (crossing_cut p a b at i.on_edge)) h;
  boundary = λ p. on_ring_without p at ring h;
  signed_area = sum_over-without edge_area2 at ring (λ a b i. sym (edge_area2_cut a b at i.on_edge)) h;
}

pub straightened_covers : (at : Corner) (ring : List Corner) → ¬ BendsAt at ring → CoversAlike ring (straightened at ring)
straightened_covers at ring h = begun_covers ring (without_corner at ring) (without_covers at ring h)

-- ---- what all corners have
-- what all have that are left, all others have
others_have : (P : Corner → Type 0) (at : Corner) (ring : List Corner) → AllByRecursion P (without_corner at ring)
    → AllByRecursion (λ c. (at ≡ c → ⊥) → P c) ring
others_have P at [] h = tt
others_have P at (c ∷ cs) h =
    (λ other. (subst (AllByRecursion P) (keeps at c cs other) h).0, others_have P at cs (left (is_same at c) h))
  where
    left : (b : Bool) → AllByRecursion P (cond (not b) (c ∷ without_corner at cs) (without_corner at cs))
        → AllByRecursion P (without_corner at cs)
    left true k = k
    left false k = k.1

-- and the corner has it, if it holds between two that have it
all_have : (P : Corner → Type 0) (at : Corner) (ring : List Corner) → ¬ BendsAt at ring
    → ((a b : Corner) → IsStrictlyInside at a b → P a → P b → P at) → All P (without_corner at ring) → All P ring
all_have P at ring h between all = All-from_get_or P ring origin (λ k b. each k b)
  where
    other : (k : ℕ) → k < length ring → (at ≡ corner_at ring k → ⊥) → P (corner_at ring k)
    other k b =
        All-get_or (λ c. (at ≡ c → ⊥) → P c) ring k origin b
        (All-from_recursion (λ c. (at ≡ c → ⊥) → P c) ring
        (others_have P at ring (recursion_from_All P (without_corner at ring) all)))

    each : (k : ℕ) → k < length ring → P (corner_at ring k)
    each k b =
        let n = length ring in
        ⊎_elim
        (λ e. let i = inside_at at ring h k b (sym e) in
        subst P e
        (between (corner_at ring (before n k)) (corner_at ring (after n k)) i
        (other (before n k) (before_in n k b) i.not_start) (other (after n k) (after_in n k b) i.not_end)))
        (λ f. other k b (not_from_Decides (is_same at (corner_at ring k)) (Decides-is_same at (corner_at ring k)) f))
        (cases_of (is_same at (corner_at ring k)) (Decides-is_same at (corner_at ring k)))

-- ---- the least box
pub without_box : (box : Bounds) (at : Corner) (ring : List Corner) → ¬ BendsAt at ring → IsLeastBox box ring
    → IsLeastBox box (without_corner at ring)
without_box box at ring h k = record {
  holds = All-filter (λ corner. not (is_same at corner)) (HoldsCorner box) ring k.holds;
  is_least = λ other all. k.is_least other (all_have (HoldsCorner other) at ring h (λ a b i. held_between other a b at i) all);
}

pub straightened_box : (box : Bounds) (at : Corner) (ring : List Corner) → ¬ BendsAt at ring → IsLeastBox box ring
    → IsLeastBox box (straightened at ring)
straightened_box box at ring h k =
    let l = without_box box at ring h k in record {
      holds = begun_all (HoldsCorner box) (without_corner at ring) l.holds;
      is_least = λ other all. l.is_least other (all_begun (HoldsCorner other) (without_corner at ring) all);
    }

-- ---- the least corner
-- a corner strictly between two others comes behind one of them
not_least : (at p q : Corner) → IsStrictlyInside at p q → NotBefore at p → NotBefore at q → ⊥
not_least at p q i h k =
    ⊎_elim
    (λ b. i.not_end (same_unless_before at q
    (not_before_between q p q at i (false_where (is_before p q) (Decides-is_before p q) (before_asymmetric q p b)) (itself q)) k))
    (λ f. i.not_start (same_unless_before at p (not_before_between p p q at i (itself p) f) h))
    (cases_of (is_before q p) (Decides-is_before q p))
  where
    itself : (c : Corner) → NotBefore c c
    itself c = false_where (is_before c c) (Decides-is_before c c) (λ b. before_irreflexive c c b refl)

-- so a ring that begins at its least corner still does
pub straightened_begun : (at : Corner) (ring : List Corner) → ¬ BendsAt at ring → begun_at_least ring ≡ ring
    → straightened at ring ≡ without_corner at ring
straightened_begun at [] h e = refl
straightened_begun at (first ∷ rest) h e =
    ⊎_elim
    (λ s. let i = inside_at at ring h 0 (omega arith) (sym s) in
    absurd (not_least at (corner_at ring (before n 0)) (corner_at ring (after n 0)) i
    (later s (before n 0) (before_in n 0 (omega arith))) (later s (after n 0) (after_in n 0 (omega arith)))))
    (λ f. let stays = keeps at first rest (not_from_Decides (is_same at first) (Decides-is_same at first) f) in
    ap begun_at_least stays
    ∙ begins_least first (without_corner at rest)
    (All-same (NotBefore first) (first ∷ without_corner at rest) (without_corner at ring) (sym stays)
    (All-filter (λ corner. not (is_same at corner)) (NotBefore first) ring all))
    ∙ sym stays)
    (cases_of (is_same at first) (Decides-is_same at first))
  where
    ring : List Corner
    ring = first ∷ rest

    n : ℕ
    n = length ring

    all : All (NotBefore first) (first ∷ rest)
    all = first_least first rest e

    later : at ≡ first → (k : ℕ) → k < n → NotBefore at (corner_at ring k)
    later s k b = subst (λ c. NotBefore c (corner_at ring k)) (sym s) (All-get_or (NotBefore first) ring k origin b all)

-- ---- the two words for flat
same_number : (ring : List Corner) (j k : ℕ) → AreApart ring → j < length ring → k < length ring
    → corner_at ring j ≡ corner_at ring k → j ≡ k
same_number ring j k apart b c e =
    ⊎_elim (λ l. absurd (apart j k b c (λ s. absurd (omega (arith, l, s))) e))
    (λ l. ⊎_elim (λ m. absurd (apart j k b c (λ s. absurd (omega (arith, m, s))) e)) (λ m. omega (arith, l, m)) (cases_lt k j))
    (cases_lt j k)

pub bends_not_flat : (ring : List Corner) → IsSimpleRing ring → (k : ℕ) → k < length ring
    → BendsAt (corner_at ring k) ring ↔ (¬ IsFlat ring k)
bends_not_flat ring simple k b = (
  λ h f. (subst (λ j. ¬ IsStrictlyInside (corner_at ring k) (corner_at ring (before n j)) (corner_at ring (after n j)))
      (same_number ring h.place k apart h.in_ring b h.is_there) h.is_not_flat)
      (record {
        on_edge = f;
        not_start = apart k (before n k) b (before_in n k b) (before_other n k three b);
        not_end = apart k (after n k) b (after_in n k b) (λ e. after_other n k three b (sym e));
      }),
  λ f. record { place = k; in_ring = b; is_there = refl; is_not_flat = λ i. f i.on_edge },
)
  where
    n : ℕ
    n = length ring

    apart : AreApart ring
    apart = simple_apart ring simple

    three : 2 < length ring
    three = omega (arith, three_corners ring simple.counterclockwise)
