-- What edits make of rings, each corner ten times: split, merge, move, a corner put into an edge, and one taken out.
use Rattle.std.proofs.Common.{◌≡◌, ◌≢◌, refl, sym, ◌∙◌, ap, subst, arith, Bool, true, false, not, ◌||◌, cond, if◌then◌else◌}
use Rattle.std.proofs.Common.{ℕ, ◌<◌, ◌≤◌, List, [], ◌∷◌, ◌++◌, map, length, reverse}
use Rattle.std.specs.List.{AllByRecursion, filter, list_any}
use Rattle.std.proofs.lemmas.List.{map-append, length-map, reverse-append}
use Rattle.geo_exact.specs.declared.corner.Corner.{Corner}
use Rattle.geo_exact.specs.declared.limits.TheConstants.{RING_CORNERS}
use Rattle.geo_exact.specs.Order.{is_same}
use Rattle.geo_exact.specs.Places.{corner_at, after, before}
use Rattle.geo_exact.specs.Rings.{Edge, path, edges, begun_at, begun_at_least}
use Rattle.geo_exact.specs.Segments.{IsStrictlyInside}
use Rattle.ring_edits.specs.Round.{GoesRound, HasEdge, HasEdgeAt}
use Rattle.ring_edits.specs.Edits.{IsPath, IsSplit, joins, has_edge_between, put_along, put_between, with_corner}
use Rattle.ring_edits.specs.Edits.{IsSharedWith, IsShared, IsMerge, IsMove, has_corner, without_corner, straightened, BendsAt}
use Rattle.scaled_rings.specs.Tenfold.{IsNear}
use Rattle.scaled_rings.proofs.Scaling.{ten, ten_apart, ten_same, AreNear}
use Rattle.scaled_rings.proofs.Lists.{ten_edge, IsNearEdge, AreNearEdges, edges_ten, paths_ten, near_edges, near_path}
use Rattle.scaled_rings.proofs.Lists.{at_ten, near_at, near_left, near_right, near_append, near_begun}
use Rattle.scaled_rings.proofs.Lists.{begun_ten, begun_least_ten, reverse_ten}
use Rattle.scaled_rings.proofs.Nets.{runs_ten}
use Rattle.scaled_rings.proofs.Points.{strictly_ten}

-- ---- two corners with others behind each
abbrev parted : Corner → List Corner → Corner → List Corner → List Corner
parted u xs v ys = u ∷ xs ++ v ∷ ys

parted_ten : (u : Corner) (xs : List Corner) (v : Corner) (ys : List Corner)
    → map ten (parted u xs v ys) ≡ parted (ten u) (map ten xs) (ten v) (map ten ys)
parted_ten u xs v ys = ap (λ zs. ten u ∷ zs) (map-append ten xs (v ∷ ys))

record AreNearParts (u : Corner) (xs : List Corner) (v : Corner) (ys : List Corner) : Type 0 where
  pub first : IsNear u
  pub onward : AreNear xs
  pub second : IsNear v
  pub back : AreNear ys

near_parts : (u : Corner) (xs : List Corner) (v : Corner) (ys : List Corner) → AreNear (parted u xs v ys) → AreNearParts u xs v ys
near_parts u xs v ys h = let r = near_right xs (v ∷ ys) h.1 in
    record { first = h.0; onward = near_left xs (v ∷ ys) h.1; second = r.0; back = r.1 }

near_parted : (u : Corner) (xs : List Corner) (v : Corner) (ys : List Corner) → IsNear u → AreNear xs → IsNear v → AreNear ys
    → AreNear (parted u xs v ys)
near_parted u xs v ys a b c d = (a, near_append xs (v ∷ ys) b (c, d))

near_reverse : (xs : List Corner) → AreNear xs → AreNear (reverse xs)
near_reverse [] h = tt
near_reverse (x ∷ xs) h =
    subst AreNear (sym (reverse-append (x ∷ []) xs)) (near_append (reverse xs) (x ∷ []) (near_reverse xs h.1) (h.0, tt))

-- a ring that is begun at the least of these corners
begun_parted : (out : List Corner) (u : Corner) (xs : List Corner) (v : Corner) (ys : List Corner) → AreNear (parted u xs v ys)
    → out ≡ begun_at_least (parted u xs v ys) → map ten out ≡ begun_at_least (parted (ten u) (map ten xs) (ten v) (map ten ys))
begun_parted out u xs v ys h e =
    ap (map ten) e ∙ sym (begun_least_ten (parted u xs v ys) h) ∙ ap begun_at_least (parted_ten u xs v ys)

-- ---- going round
goes_ten : (ring : List Corner) (u : Corner) (onward : List Corner) (v : Corner) (back : List Corner) → GoesRound ring u onward v back
    → GoesRound (map ten ring) (ten u) (map ten onward) (ten v) (map ten back)
goes_ten ring u onward v back h = record {
  start = h.start;
  within = subst (λ n. h.start < n) (sym (length-map ring ten)) h.within;
  round = begun_ten h.start ring ∙ ap (map ten) h.round ∙ parted_ten u onward v back;
}

near_round : (ring : List Corner) (u : Corner) (onward : List Corner) (v : Corner) (back : List Corner) → AreNear ring
    → GoesRound ring u onward v back → AreNearParts u onward v back
near_round ring u onward v back n h = near_parts u onward v back (subst AreNear h.round (near_begun h.start ring n))

is_path_ten : (corners : List Corner) (from : Corner) (between : List Corner) (to : Corner) → AreNear corners
    → IsPath corners from between to → IsPath (map ten corners) (ten from) (map ten between) (ten to)
is_path_ten corners from between to n h =
    let p = near_parts from between to [] (subst AreNear h.is n) in record {
      is = ap (map ten) h.is ∙ parted_ten from between to [];
      not_closed = λ e. h.not_closed (ten_apart from to p.first p.second e);
      short = subst (λ n. n ≤ RING_CORNERS) (sym (length-map corners ten)) h.short;
    }

near_path_parts : (corners : List Corner) (from : Corner) (between : List Corner) (to : Corner) → AreNear corners
    → IsPath corners from between to → AreNearParts from between to []
near_path_parts corners from between to n h = near_parts from between to [] (subst AreNear h.is n)

-- ---- split
pub split_ten : (ring corners left right : List Corner) → AreNear ring → AreNear corners → IsSplit ring corners left right
    → IsSplit (map ten ring) (map ten corners) (map ten left) (map ten right)
split_ten ring corners left right n m h =
    let p = near_path_parts corners h.from h.between h.to m h.is_path in
    let r = near_round ring h.from h.onward h.to h.back n h.round in record {
      from = ten h.from;
      between = map ten h.between;
      to = ten h.to;
      onward = map ten h.onward;
      back = map ten h.back;
      is_path = is_path_ten corners h.from h.between h.to m h.is_path;
      round = goes_ten ring h.from h.onward h.to h.back h.round;
      left_is = begun_parted left h.from h.between h.to h.back
          (near_parted h.from h.between h.to h.back p.first p.onward p.second r.back) h.left_is;
      right_is = begun_parted right h.from h.onward h.to (reverse h.between)
          (near_parted h.from h.onward h.to (reverse h.between) p.first r.onward p.second (near_reverse h.between p.onward)) h.right_is
          ∙ ap (λ ys. begun_at_least (parted (ten h.from) (map ten h.onward) (ten h.to) ys)) (sym (reverse_ten h.between));
    }

-- ---- edges that two rings share
has_edge_to : (ring : List Corner) (u v : Corner) → HasEdge ring u v → HasEdge (map ten ring) (ten u) (ten v)
has_edge_to ring u v h = let k = h.0 in (
  k,
  record {
    in_ring = subst (λ n. k < n) (sym (length-map ring ten)) h.1.in_ring;
    from = at_ten ring k ∙ ap ten h.1.from;
    to = ap (λ n. corner_at (map ten ring) (after n k)) (length-map ring ten) ∙ at_ten ring (after (length ring) k) ∙ ap ten h.1.to;
  },
)

has_edge_from : (ring : List Corner) (u v : Corner) → AreNear ring → IsNear u → IsNear v → HasEdge (map ten ring) (ten u) (ten v)
    → HasEdge ring u v
has_edge_from ring u v n a b h = let k = h.0 in (
  k,
  record {
    in_ring = subst (λ n. k < n) (length-map ring ten) h.1.in_ring;
    from = ten_apart (corner_at ring k) u (near_at ring k n) a (sym (at_ten ring k) ∙ h.1.from);
    to = ten_apart (corner_at ring (after (length ring) k)) v (near_at ring (after (length ring) k) n) b
        (sym (at_ten ring (after (length ring) k)) ∙ sym (ap (λ n. corner_at (map ten ring) (after n k)) (length-map ring ten)) ∙ h.1.to);
  },
)

all_shared : (b : List Corner) (es : List Edge) → AllByRecursion (IsSharedWith b) es
    → AllByRecursion (IsSharedWith (map ten b)) (map ten_edge es)
all_shared b [] h = tt
all_shared b (e ∷ es) h = (has_edge_to b e.to e.from h.0, all_shared b es h.1)

none_shared : (b : List Corner) (es : List Edge) → AreNear b → AreNearEdges es → AllByRecursion (λ edge. ¬ IsSharedWith b edge) es
    → AllByRecursion (λ edge. ¬ IsSharedWith (map ten b) edge) (map ten_edge es)
none_shared b [] n m h = tt
none_shared b (e ∷ es) n m h = (λ k. h.0 (has_edge_from b e.to e.from n m.0.to m.0.from k), none_shared b es n m.1 h.1)

shared_ten : (a b : List Corner) (u : Corner) (onward : List Corner) (v : Corner) (back : List Corner) → AreNear a → AreNear b
    → IsShared a b u onward v back → IsShared (map ten a) (map ten b) (ten u) (map ten onward) (ten v) (map ten back)
shared_ten a b u onward v back n m h =
    let r = near_round a u onward v back n h.round in record {
      round = goes_ten a u onward v back h.round;
      shared = subst (AllByRecursion (IsSharedWith (map ten b))) (sym (paths_ten u onward v)) (all_shared b (path u onward v) h.shared);
      others_not = subst (AllByRecursion (λ edge. ¬ IsSharedWith (map ten b) edge)) (sym (paths_ten v back u))
          (none_shared b (path v back u) m (near_path v back u r.second r.back r.first) h.others_not);
    }

-- ---- merge and move
pub merge_ten : (a b out : List Corner) → AreNear a → AreNear b → IsMerge a b out → IsMerge (map ten a) (map ten b) (map ten out)
merge_ten a b out n m h =
    let r = near_round a h.u h.run h.v h.of_a n h.shared.round in
    let s = near_round b h.u h.of_b h.v h.back m h.round_b in record {
      u = ten h.u;
      v = ten h.v;
      run = map ten h.run;
      of_a = map ten h.of_a;
      of_b = map ten h.of_b;
      back = map ten h.back;
      shared = shared_ten a b h.u h.run h.v h.of_a n m h.shared;
      round_b = goes_ten b h.u h.of_b h.v h.back h.round_b;
      out_is = begun_parted out h.v h.of_a h.u h.of_b (near_parted h.v h.of_a h.u h.of_b r.second r.back r.first s.onward) h.out_is;
    }

pub move_ten : (a b corners out_a out_b : List Corner) → AreNear a → AreNear b → AreNear corners → IsMove a b corners out_a out_b
    → IsMove (map ten a) (map ten b) (map ten corners) (map ten out_a) (map ten out_b)
move_ten a b corners out_a out_b n m l h =
    let r = near_round a h.u h.run h.v h.of_a n h.shared.round in
    let s = near_round b h.u h.of_b h.v h.back m h.round_b in
    let p = near_path_parts corners h.u h.between h.v l h.is_path in record {
      u = ten h.u;
      v = ten h.v;
      run = map ten h.run;
      of_a = map ten h.of_a;
      of_b = map ten h.of_b;
      back = map ten h.back;
      between = map ten h.between;
      shared = shared_ten a b h.u h.run h.v h.of_a n m h.shared;
      round_b = goes_ten b h.u h.of_b h.v h.back h.round_b;
      is_path = is_path_ten corners h.u h.between h.v l h.is_path;
      out_a_is = begun_parted out_a h.u h.between h.v h.of_a
          (near_parted h.u h.between h.v h.of_a r.first p.onward r.second r.back) h.out_a_is;
      out_b_is = begun_parted out_b h.v (reverse h.between) h.u h.of_b
          (near_parted h.v (reverse h.between) h.u h.of_b r.second (near_reverse h.between p.onward) r.first s.onward) h.out_b_is
          ∙ ap (λ xs. begun_at_least (parted (ten h.v) xs (ten h.u) (map ten h.of_b))) (sym (reverse_ten h.between));
    }

-- ---- a corner put into an edge
joins_ten : (from to : Corner) (e : Edge) → IsNear from → IsNear to → IsNearEdge e
    → joins (ten from) (ten to) (ten_edge e) ≡ joins from to e
joins_ten from to e h k n = let p = runs_ten from to e h k n in let q = runs_ten to from e k h n in cc

any_joins : (from to : Corner) (es : List Edge) → IsNear from → IsNear to → AreNearEdges es
    → list_any (joins (ten from) (ten to)) (map ten_edge es) ≡ list_any (joins from to) es
any_joins from to [] h k n = refl
any_joins from to (e ∷ es) h k n = let p = joins_ten from to e h k n.0 in let q = any_joins from to es h k n.1 in cc

pub edge_between_ten : (from to : Corner) (ring : List Corner) → IsNear from → IsNear to → AreNear ring
    → has_edge_between (ten from) (ten to) (map ten ring) ≡ has_edge_between from to ring
edge_between_ten from to ring h k n =
    ap (list_any (joins (ten from) (ten to))) (edges_ten ring) ∙ any_joins from to (edges ring) h k (near_edges ring n)

along_ten : (from to at : Corner) (es : List Edge) → IsNear from → IsNear to → AreNearEdges es
    → put_along (ten from) (ten to) (ten at) (map ten_edge es) ≡ map ten (put_along from to at es)
along_ten from to at [] h k n = refl
along_ten from to at (e ∷ es) h k n =
    ap (λ xs. ten e.from ∷ xs) (either (joins (ten from) (ten to) (ten_edge e)) (joins from to e)
    (put_along (ten from) (ten to) (ten at) (map ten_edge es)) (put_along from to at es) (joins_ten from to e h k n.0)
    (along_ten from to at es h k n.1))
  where
    either : (p q : Bool) (xs ys : List Corner) → p ≡ q → xs ≡ map ten ys
        → (if p then ten at ∷ xs else xs) ≡ map ten (if q then at ∷ ys else ys)
    either true true xs ys e f = ap (λ zs. ten at ∷ zs) f
    either true false xs ys e f = cc
    either false true xs ys e f = cc
    either false false xs ys e f = f

pub put_between_ten : (from to at : Corner) (ring : List Corner) → IsNear from → IsNear to → AreNear ring
    → put_between (ten from) (ten to) (ten at) (map ten ring) ≡ map ten (put_between from to at ring)
put_between_ten from to at ring h k n =
    ap (put_along (ten from) (ten to) (ten at)) (edges_ten ring) ∙ along_ten from to at (edges ring) h k (near_edges ring n)

near_along : (from to at : Corner) (es : List Edge) → IsNear at → AreNearEdges es → AreNear (put_along from to at es)
near_along from to at [] h n = tt
near_along from to at (e ∷ es) h n = (n.0.from, either (joins from to e) (put_along from to at es) (near_along from to at es h n.1))
  where
    either : (p : Bool) (xs : List Corner) → AreNear xs → AreNear (if p then at ∷ xs else xs)
    either true xs k = (h, k)
    either false xs k = k

pub near_put : (from to at : Corner) (ring : List Corner) → IsNear at → AreNear ring → AreNear (put_between from to at ring)
near_put from to at ring h n = near_along from to at (edges ring) h (near_edges ring n)

pub with_corner_ten : (from to at : Corner) (ring : List Corner) → IsNear from → IsNear to → IsNear at → AreNear ring
    → with_corner (ten from) (ten to) (ten at) (map ten ring) ≡ map ten (with_corner from to at ring)
with_corner_ten from to at ring h k l n =
    ap begun_at_least (put_between_ten from to at ring h k n) ∙ begun_least_ten (put_between from to at ring) (near_put from to at ring l n)

-- ---- a corner taken out
pub has_corner_ten : (at : Corner) (ring : List Corner) → IsNear at → AreNear ring → has_corner (ten at) (map ten ring) ≡ has_corner at ring
has_corner_ten at [] h n = refl
has_corner_ten at (x ∷ xs) h n = let p = ten_same at x h n.0 in let q = has_corner_ten at xs h n.1 in cc

pub without_corner_ten : (at : Corner) (ring : List Corner) → IsNear at → AreNear ring
    → without_corner (ten at) (map ten ring) ≡ map ten (without_corner at ring)
without_corner_ten at [] h n = refl
without_corner_ten at (x ∷ xs) h n =
    either (is_same (ten at) (ten x)) (is_same at x) (without_corner (ten at) (map ten xs)) (without_corner at xs)
    (ten_same at x h n.0) (without_corner_ten at xs h n.1)
  where
    either : (p q : Bool) (ys zs : List Corner) → p ≡ q → ys ≡ map ten zs
        → cond (not p) (ten x ∷ ys) ys ≡ map ten (cond (not q) (x ∷ zs) zs)
    either true true ys zs e f = f
    either true false ys zs e f = cc
    either false true ys zs e f = cc
    either false false ys zs e f = ap (λ ws. ten x ∷ ws) f

near_without : (at : Corner) (ring : List Corner) → AreNear ring → AreNear (without_corner at ring)
near_without at [] n = tt
near_without at (x ∷ xs) n = either (is_same at x) (without_corner at xs) (near_without at xs n.1)
  where
    either : (p : Bool) (ys : List Corner) → AreNear ys → AreNear (cond (not p) (x ∷ ys) ys)
    either true ys k = k
    either false ys k = (n.0, k)

pub straightened_ten : (at : Corner) (ring : List Corner) → IsNear at → AreNear ring
    → straightened (ten at) (map ten ring) ≡ map ten (straightened at ring)
straightened_ten at ring h n =
    ap begun_at_least (without_corner_ten at ring h n) ∙ begun_least_ten (without_corner at ring) (near_without at ring n)

-- where ten times the ring bends, the ring does
pub bends_of_ten : (at : Corner) (ring : List Corner) → IsNear at → AreNear ring → BendsAt (ten at) (map ten ring) → BendsAt at ring
bends_of_ten at ring h n b = record {
  place = b.place;
  in_ring = subst (λ m. b.place < m) (length-map ring ten) b.in_ring;
  is_there = ten_apart (corner_at ring b.place) at (near_at ring b.place n) h (sym (at_ten ring b.place) ∙ b.is_there);
  is_not_flat = λ s. b.is_not_flat (
      subst (λ c. IsStrictlyInside (ten at) c (corner_at (map ten ring) (after (length (map ten ring)) b.place))) (sym start)
      (subst (λ c. IsStrictlyInside (ten at) (ten (corner_at ring (before (length ring) b.place))) c) (sym end)
      (strictly_ten at (corner_at ring (before (length ring) b.place)) (corner_at ring (after (length ring) b.place)) h
      (near_at ring (before (length ring) b.place) n) (near_at ring (after (length ring) b.place) n) s)));
}
  where
    start : corner_at (map ten ring) (before (length (map ten ring)) b.place) ≡ ten (corner_at ring (before (length ring) b.place))
    start = ap (λ m. corner_at (map ten ring) (before m b.place)) (length-map ring ten) ∙ at_ten ring (before (length ring) b.place)

    end : corner_at (map ten ring) (after (length (map ten ring)) b.place) ≡ ten (corner_at ring (after (length ring) b.place))
    end = ap (λ m. corner_at (map ten ring) (after m b.place)) (length-map ring ten) ∙ at_ten ring (after (length ring) b.place)
