-- A corner strictly inside an edge, put into it: the ring covers what it covered, and its least box and least corner stay.
use Rattle.std.proofs.Common.{◌≡◌, ⊎_elim, inl, inr, refl, sym, ◌∙◌, ap, subst, arith, Bool, true, false}
use Rattle.std.proofs.Common.{if◌then◌else◌, not}
use Rattle.std.proofs.Common.{◌+◌, ℤ, pos, ◌-ℤ◌, ◌*ℤ◌, List, [], ◌∷◌, ◌++◌, length, take, drop}
use Rattle.std.specs.List.{All, AllByRecursion}
use Rattle.std.proofs.lemmas.Int.{ints, clamps, by_lt_z}
use Rattle.std.proofs.lemmas.Bool.Decides.{not_from_Decides}
use Rattle.std.proofs.lemmas.List.{append-nil, take-append-drop}
use Rattle.std.proofs.lemmas.List.Elements.{All-append, All-take, All-drop, All-same, All-from_get_or, All-from_recursion}
use Rattle.std.proofs.lemmas.List.Elements.{recursion_from_All}
use Rattle.std.proofs.lemmas.List.Folds.{list_any_none}
use Rattle.std.proofs.lemmas.List.MinMax.{IsFirstBest-from_best_of}
use Rattle.std.proofs.lemmas.List.Sums.{position_or_len_is}
use Rattle.std.proofs.Math.Seq.{take-append_seam, drop-append_seam}
use lib.Signed.{◌<ℤ◌, ◌≤ℤ◌}
use Rattle.geo_exact.specs.declared.bounds.Bounds.{Bounds}
use Rattle.geo_exact.specs.declared.corner.Corner.{Corner}
use Rattle.geo_exact.specs.Area.{edge_area2, area2}
use Rattle.geo_exact.specs.Bounds.{HoldsCorner, IsLeastBox}
use Rattle.geo_exact.specs.Order.{IsBefore, is_before, is_least}
use Rattle.geo_exact.specs.Places.{corner_at, origin}
use Rattle.geo_exact.specs.Rings.{Edge, path, begun_at, begun_at_least}
use Rattle.geo_exact.specs.Segments.{IsStrictlyInside}
use Rattle.geo_exact.specs.Turn.{IsOnRing}
use Rattle.geo_exact.specs.Winding.{crossing, winding}
use Rattle.geo_exact.proofs.rings.Begun.{least_within, least_is_first, sum_over-begun}
use Rattle.geo_exact.proofs.corners_and_turns.CornerOrder.{Decides-is_before, false_where, is_before_ranks}
use Rattle.geo_exact.proofs.rings.Crossings.{crossing_cut, edge_area2_cut}
use Rattle.geo_exact.proofs.rings.EdgeSums.{edge_of}
use Rattle.geo_exact.proofs.rings.OnRings.{on_ring_begun}
use Rattle.geo_exact.proofs.numbers.Signs.{zero_of_mul}
use Rattle.edge_chains.proofs.edges.Inside.{inside_from_strictly}
use Rattle.edge_chains.proofs.edges.Parts.{strictly_back}
use Rattle.ring_edits.specs.Edits.{joins, put_along, put_between, with_corner, CoversAlike}
use Rattle.ring_edits.proofs.PutEdges.{put_path, joined_either, sum_over-put, on_ring_put}
use Rattle.ring_edits.proofs.Rounds.{from_corner}

-- ---- what is covered
pub put_covers : (u v at : Corner) (ring : List Corner) → IsStrictlyInside at u v → CoversAlike ring (put_between u v at ring)
put_covers u v at ring h = record {
  winding_number = λ p. sum_over-put (λ edge. crossing p edge.from edge.to) u v at ring (λ a b i. crossing_cut p a b at i.on_edge) h;
  boundary = λ p. on_ring_put p u v at ring h;
  signed_area = sum_over-put edge_area2 u v at ring (λ a b i. edge_area2_cut a b at i.on_edge) h;
}

pub begun_covers : (ring other : List Corner) → CoversAlike ring other → CoversAlike ring (begun_at_least other)
begun_covers ring other h = let w = least_within other in record {
  winding_number = λ p. ap (winding p) w.2 ∙ sum_over-begun (λ edge. crossing p edge.from edge.to) w.0 other w.1 ∙ h.winding_number p;
  boundary = λ p. let same = on_ring_begun w.0 p other w.1 in (
    λ k. (h.boundary p).0 (same.0 (subst (IsOnRing p) w.2 k)),
    λ k. subst (IsOnRing p) (sym w.2) (same.1 ((h.boundary p).1 k)),
  );
  signed_area = ap area2 w.2 ∙ sum_over-begun edge_area2 w.0 other w.1 ∙ h.signed_area;
}

pub with_corner_covers : (u v at : Corner) (ring : List Corner) → IsStrictlyInside at u v → CoversAlike ring (with_corner u v at ring)
with_corner_covers u v at ring h = begun_covers ring (put_between u v at ring) (put_covers u v at ring h)

-- ---- what all corners have
held_or : (P : Corner → Type 0) (cut : Bool) (c at : Corner) (xs : List Corner) → P c → (cut ≡ true → P at)
    → AllByRecursion P xs
    → AllByRecursion P (c ∷ (if cut then at ∷ xs else xs))
held_or P true c at xs h k l = (h, (k refl, l))
held_or P false c at xs h k l = (h, l)

left_or : (P : Corner → Type 0) (cut : Bool) (at : Corner) (xs : List Corner) → AllByRecursion P (if cut then at ∷ xs else xs)
    → AllByRecursion P xs
left_or P true at xs h = h.1
left_or P false at xs h = h

-- what holds of u and v, and of the corner if it holds of them
module _ (P : Corner → Type 0) (u v at : Corner) (between : P u → P v → P at) where
  held_inside : (a b : Corner) → P a → P b → joins u v (edge_of a b) ≡ true → P at
  held_inside a b h k j =
      ⊎_elim
      (λ e. between (subst P (ap (λ (f : Edge). f.from) e) h) (subst P (ap (λ (f : Edge). f.to) e) k))
      (λ e. between (subst P (ap (λ (f : Edge). f.to) e) k) (subst P (ap (λ (f : Edge). f.from) e) h))
      (joined_either u v (edge_of a b) j)

  held_along : (from to : Corner) (rest : List Corner) → P from → AllByRecursion P rest → P to
      → AllByRecursion P (put_along u v at (path from rest to))
  held_along from to [] h k l = held_or P (joins u v (edge_of from to)) from at [] h (held_inside from to h l) tt
  held_along from to (next ∷ rest) h k l =
      held_or P (joins u v (edge_of from next)) from at (put_along u v at (path next rest to)) h (held_inside from next h k.0)
      (held_along next to rest k.0 k.1 l)

  held_put : (ring : List Corner) → AllByRecursion P ring → AllByRecursion P (put_between u v at ring)
  held_put [] h = tt
  held_put (first ∷ rest) h = held_along first first rest h.0 h.1 h.0

  pub all_put : (ring : List Corner) → All P ring → All P (put_between u v at ring)
  all_put ring h = All-from_recursion P (put_between u v at ring) (held_put ring (recursion_from_All P ring h))

-- each corner of the ring is one of the other
left_along : (P : Corner → Type 0) (u v at from to : Corner) (rest : List Corner)
    → AllByRecursion P (put_along u v at (path from rest to))
    → AllByRecursion P (from ∷ rest)
left_along P u v at from to [] h = (h.0, tt)
left_along P u v at from to (next ∷ rest) h =
    (h.0, left_along P u v at next to rest (left_or P (joins u v (edge_of from next)) at (put_along u v at (path next rest to)) h.1))

all_left : (P : Corner → Type 0) (u v at : Corner) (ring : List Corner) → All P (put_between u v at ring) → All P ring
all_left P u v at [] h = h
all_left P u v at (first ∷ rest) h =
    All-from_recursion P (first ∷ rest)
    (left_along P u v at first first rest (recursion_from_All P (put_along u v at (path first rest first)) h))

-- and begun elsewhere a ring has the same corners
pub begun_all : (P : Corner → Type 0) (ring : List Corner) → All P ring → All P (begun_at_least ring)
begun_all P ring h =
    let w = least_within ring in
    All-same P (begun_at_least ring) (begun_at w.0 ring) w.2
    (All-append P (drop w.0 ring) (take w.0 ring) (All-drop P w.0 ring h) (All-take P w.0 ring h))

pub all_begun : (P : Corner → Type 0) (ring : List Corner) → All P (begun_at_least ring) → All P ring
all_begun P ring h =
    let w = least_within ring in let front = drop w.0 ring in let back = take w.0 ring in
    let k : All P (front ++ back) = All-same P (front ++ back) (begun_at_least ring) (sym w.2) h in
    All-same P ring (back ++ front) (sym (take-append-drop w.0 ring))
    (All-append P back front
    (All-same P back (drop (length front) (front ++ back)) (sym (drop-append_seam front back))
    (All-drop P (length front) (front ++ back) k))
    (All-same P front (take (length front) (front ++ back)) (sym (take-append_seam front back))
    (All-take P (length front) (front ++ back) k)))

-- ---- the least box
pub held_between : (box : Bounds) (u v at : Corner) → IsStrictlyInside at u v → HoldsCorner box u → HoldsCorner box v
    → HoldsCorner box at
held_between box u v at h k l =
    let i = inside_from_strictly at u v h in record {
      west = omega (arith, ints, clamps, i.0.0.0, k.west, l.west);
      east = omega (arith, ints, clamps, i.0.0.1, k.east, l.east);
      south = omega (arith, ints, clamps, i.0.1.0, k.south, l.south);
      north = omega (arith, ints, clamps, i.0.1.1, k.north, l.north);
    }

pub put_box : (box : Bounds) (u v at : Corner) (ring : List Corner) → IsStrictlyInside at u v → IsLeastBox box ring
    → IsLeastBox box (put_between u v at ring)
put_box box u v at ring h k = record {
  holds = all_put (HoldsCorner box) u v at (held_between box u v at h) ring k.holds;
  is_least = λ other all. k.is_least other (all_left (HoldsCorner other) u v at ring all);
}

pub with_corner_box : (box : Bounds) (u v at : Corner) (ring : List Corner) → IsStrictlyInside at u v → IsLeastBox box ring
    → IsLeastBox box (with_corner u v at ring)
with_corner_box box u v at ring h k =
    let l = put_box box u v at ring h k in record {
      holds = begun_all (HoldsCorner box) (put_between u v at ring) l.holds;
      is_least = λ other all. l.is_least other (all_begun (HoldsCorner other) (put_between u v at ring) all);
    }

-- ---- the least corner
abbrev pub NotBefore : Corner → Corner → Type 0
NotBefore c o = is_before o c ≡ false

-- strictly between two numbers of one line, of which one is the corner's own
beside : (ux uy vx vy ax ay : ℤ) → ux ≡ ax → ax <ℤ vx → (vx -ℤ ux) *ℤ (ay -ℤ uy) -ℤ (vy -ℤ uy) *ℤ (ax -ℤ ux)
    ≡ pos 0 → ay ≡ uy
beside ux uy vx vy ax ay e h k =
    let z : ax -ℤ ux ≡ pos 0 = omega (arith, ints, e) in
    let m : (vx -ℤ ux) *ℤ (ay -ℤ uy) ≡ pos 0 = dropped ((vx -ℤ ux) *ℤ (ay -ℤ uy)) (vy -ℤ uy) (ax -ℤ ux) z k in
    let n : ay -ℤ uy ≡ pos 0 = zero_of_mul (vx -ℤ ux) (ay -ℤ uy) (λ f. omega (arith, ints, e, f, h)) m in
    omega (arith, ints, n)
  where
    dropped : (p q z : ℤ) → z ≡ pos 0 → p -ℤ q *ℤ z ≡ pos 0 → p ≡ pos 0
    dropped p q z h k = omega (arith, ints, rw h at k)

-- a corner strictly between two that do not come before c does not either
pub not_before_between : (c u v at : Corner) → IsStrictlyInside at u v → NotBefore c u → NotBefore c v → NotBefore c at
not_before_between c u v at h k l = false_where (is_before at c) (Decides-is_before at c) never
  where
    not_u : IsBefore u c → ⊥
    not_u = not_from_Decides (is_before u c) (Decides-is_before u c) k

    not_v : IsBefore v c → ⊥
    not_v = not_from_Decides (is_before v c) (Decides-is_before v c) l

    line : (v.x -ℤ u.x) *ℤ (at.y -ℤ u.y) -ℤ (v.y -ℤ u.y) *ℤ (at.x -ℤ u.x) ≡ pos 0
    line = (inside_from_strictly at u v h).1.0

    back : (u.x -ℤ v.x) *ℤ (at.y -ℤ v.y) -ℤ (u.y -ℤ v.y) *ℤ (at.x -ℤ v.x) ≡ pos 0
    back = (inside_from_strictly at v u (strictly_back at u v h)).1.0

    right_of : (a : Corner) → (IsBefore a c → ⊥) → c.x ≤ℤ a.x
    right_of a n = by_lt_z a.x c.x (λ m. absurd (n (inl m))) (λ m. m)

    above : (a : Corner) → (IsBefore a c → ⊥) → a.x ≡ c.x → c.y ≤ℤ a.y
    above a n e = by_lt_z a.y c.y (λ m. absurd (n (inr (e, m)))) (λ m. m)

    never : IsBefore at c → ⊥
    never (inl m) = absurd (omega (arith, ints, clamps, right_of u not_u, right_of v not_v, (inside_from_strictly at u v h).0.0.0, m))
    never (inr m) =
        let ru = right_of u not_u in let rv = right_of v not_v in
        let low_x = (inside_from_strictly at u v h).0.0.0 in let low_y = (inside_from_strictly at u v h).0.1.0 in
        by_lt_z c.x u.x
        (λ p. by_lt_z c.x v.x
        (λ q. absurd (omega (arith, ints, clamps, p, q, low_x, m.0)))
        (λ q. let e : v.x ≡ c.x = omega (arith, ints, q, rv) in
        absurd (too_low (above v not_v e) (beside v.x v.y u.x u.y at.x at.y (e ∙ sym m.0) (omega (arith, ints, p, m.0)) back))))
        (λ p. let e : u.x ≡ c.x = omega (arith, ints, p, ru) in by_lt_z c.x v.x
        (λ q. absurd (too_low (above u not_u e) (beside u.x u.y v.x v.y at.x at.y (e ∙ sym m.0) (omega (arith, ints, q, m.0)) line)))
        (λ q. let f : v.x ≡ c.x = omega (arith, ints, q, rv) in
        absurd (omega (arith, ints, clamps, above u not_u e, above v not_v f, low_y, m.1))))
      where
        too_low : {y : ℤ} → c.y ≤ℤ y → at.y ≡ y → ⊥
        too_low k e = omega (arith, ints, k, e, m.1)

-- the first corner of a ring that is begun at its least
pub first_least : (first : Corner) (rest : List Corner) → begun_at_least (first ∷ rest) ≡ first ∷ rest
    → All (NotBefore first) (first ∷ rest)
first_least first rest h =
    let ring = first ∷ rest in
    let w = IsFirstBest-from_best_of is_before_ranks first rest in
    let same : corner_at ring w.0 ∷ drop (w.0 + 1) ring ++ take w.0 ring ≡ ring =
    ap (λ xs. xs ++ take w.0 ring) (sym (from_corner ring w.0 w.1.0))
    ∙ ap (λ k. begun_at k ring) (sym (least_is_first ring w.0 w.1)) ∙ h in
    let head : corner_at ring w.0 ≡ first = ap (λ xs. corner_at xs 0) same in
    All-from_get_or (NotBefore first) ring origin (λ i b. subst (λ c. NotBefore c (corner_at ring i)) head (w.1.1 i origin b))

pub begins_least : (first : Corner) (rest : List Corner) → All (NotBefore first) (first ∷ rest)
    → begun_at_least (first ∷ rest) ≡ first ∷ rest
begins_least first rest h =
    let ring = first ∷ rest in
    ap (λ k. begun_at k ring)
    (position_or_len_is (is_least ring) ring 0 origin (omega arith) (λ k b. absurd (omega arith))
    (λ b. ap not (list_any_none (λ o. is_before o first) ring h)))
    ∙ append-nil ring

pub begun_twice : (ring : List Corner) → begun_at_least (begun_at_least ring) ≡ begun_at_least ring
begun_twice [] = refl
begun_twice (first ∷ rest) =
    let ring = first ∷ rest in
    let w = IsFirstBest-from_best_of is_before_ranks first rest in
    let c = corner_at ring w.0 in let others = drop (w.0 + 1) ring ++ take w.0 ring in
    let is : begun_at_least ring ≡ c ∷ others =
    ap (λ k. begun_at k ring) (least_is_first ring w.0 w.1) ∙ ap (λ xs. xs ++ take w.0 ring) (from_corner ring w.0 w.1.0) in
    let all : All (NotBefore c) ring = All-from_get_or (NotBefore c) ring origin (λ i b. w.1.1 i origin b) in
    ap begun_at_least is
    ∙ begins_least c others (All-same (NotBefore c) (c ∷ others) (begun_at_least ring) (sym is) (begun_all (NotBefore c) ring all))
    ∙ sym is

pub put_begun : (u v at : Corner) (ring : List Corner) → IsStrictlyInside at u v → begun_at_least ring ≡ ring
    → with_corner u v at ring ≡ put_between u v at ring
put_begun u v at [] h e = refl
put_begun u v at (first ∷ rest) h e =
    let ring = first ∷ rest in
    let w = put_path u v at first first rest in
    let all : All (NotBefore first) (put_between u v at ring) =
    all_put (NotBefore first) u v at (not_before_between first u v at h) ring (first_least first rest e) in
    ap begun_at_least w.1
    ∙ begins_least first w.0 (All-same (NotBefore first) (first ∷ w.0) (put_between u v at ring) (sym w.1) all)
    ∙ sym w.1
