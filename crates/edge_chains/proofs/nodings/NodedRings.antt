-- What noding keeps, and what it leaves no more.
use Rattle.std.proofs.Common.{◌≡◌, ◌⊎◌, ◌↔◌, inl, inr, ⊎_elim, sym, ◌∙◌, ap, subst, arith, ℤ, pos, ◌+ℤ◌}
use Rattle.std.proofs.Common.{List, [], ◌∷◌, ◌++◌, append-nil}
use Rattle.std.specs.List.{Contains, AllZip}
use Rattle.std.proofs.lemmas.Int.{ints}
use Rattle.std.proofs.lemmas.List.Elements.{Contains-append_left, Contains-append_right, Contains-append_cases}
use Rattle.geo_exact.specs.declared.corner.Corner.{Corner}
use Rattle.geo_exact.specs.Point.{Point}
use Rattle.geo_exact.specs.Rings.{Edge, path, edges, sum_over}
use Rattle.geo_exact.specs.Turn.{IsOnEdge, IsOnSome, IsOnRing}
use Rattle.geo_exact.proofs.rings.OnRings.{IsOnSome-left, IsOnSome-right, IsOnSome-either}
use Rattle.geo_exact.specs.Winding.{crossing, winding}
use Rattle.geo_exact.specs.Area.{edge_area2, area2}
use Rattle.geo_exact.proofs.rings.EdgeSums.{edge_of, path-join, sum_over-path}
use Rattle.geo_exact.proofs.rings.Crossings.{crossing_cut, edge_area2_cut}
use Rattle.edge_chains.specs.Net.{all_edges}
use Rattle.edge_chains.specs.Noding.{AreAlong, AreNodedEdges, IsNoded, all_corners, AreFullyNoded}
use Rattle.geo_exact.specs.Segments.{IsStrictlyInside}
use Rattle.edge_chains.proofs.nodings.NodedEdges.{none_in_nil, Contains-here, Contains-there, Contains-cases}
use Rattle.edge_chains.proofs.edges.Parts.{on_parts, on_whole_first, on_whole_second, inside_whole_first}
use Rattle.edge_chains.proofs.edges.Parts.{inside_whole_second, inside_one_part}

-- the parts of an edge that is cut have its measure together
abbrev pub AddsUp : (Edge → ℤ) → Type 0
AddsUp measure = (a b c : Corner) → IsStrictlyInside c a b → measure (edge_of a c) +ℤ measure (edge_of c b) ≡ measure (edge_of a b)

sum_over-along : (measure : Edge → ℤ) → AddsUp measure → (a b : Corner) (xs : List Corner) → AreAlong a xs b
    → sum_over measure (path a xs b) ≡ measure (edge_of a b)
sum_over-along measure adds a b [] h = omega (arith, ints)
sum_over-along measure adds a b (c ∷ rest) h = omega (arith, ints, adds a b c h.0, sum_over-along measure adds c b rest h.1)

-- a noded path begins at its first corner
pub record IsNodedPath (corners : List Corner) (from : Corner) (rest : List Corner) (to : Corner) (out : List Corner) : Type 0 where
  pub tail : List Corner
  pub is : out ≡ from ∷ tail

noded_path : (corners : List Corner) (from to : Corner) (rest out : List Corner) → AreNodedEdges corners (path from rest to) out
    → IsNodedPath corners from rest to out
noded_path corners from to [] out h = record { tail = h.0 ++ h.1; is = h.4 }
noded_path corners from to (next ∷ rest) out h = record { tail = h.0 ++ h.1; is = h.4 }

cons_tail : (c : Corner) (xs ys : List Corner) → c ∷ xs ≡ c ∷ ys → xs ≡ ys
cons_tail c xs ys e = cc

sum_over-noded_path : (measure : Edge → ℤ) → AddsUp measure → (corners : List Corner) (from to : Corner) (rest tail : List Corner)
    → AreNodedEdges corners (path from rest to) (from ∷ tail) → sum_over measure (path from tail to)
    ≡ sum_over measure (path from rest to)
sum_over-noded_path measure adds corners from to [] tail h =
    let e : tail ≡ h.0 = cons_tail from tail (h.0 ++ h.1) h.4 ∙ ap (λ xs. h.0 ++ xs) h.3 ∙ append-nil h.0 in
    ap (λ xs. sum_over measure (path from xs to)) e ∙ sum_over-along measure adds from to h.0 h.2.in_order
    ∙ one (measure (edge_of from to))
  where
    one : (z : ℤ) → z ≡ z +ℤ pos 0
    one z = omega (arith, ints)
sum_over-noded_path measure adds corners from to (next ∷ rest) tail h =
    let w = noded_path corners next to rest h.1 h.3 in
    let e : tail ≡ h.0 ++ next ∷ w.tail = cons_tail from tail (h.0 ++ h.1) h.4 ∙ ap (λ xs. h.0 ++ xs) w.is in
    ap (λ xs. sum_over measure (path from xs to)) e
    ∙ sum_over-path measure from next to h.0 w.tail
    ∙ ap (λ z. z +ℤ sum_over measure (path next w.tail to)) (sum_over-along measure adds from next h.0 h.2.in_order)
    ∙ ap (λ z. measure (edge_of from next) +ℤ z) (sum_over-noded_path measure adds corners next to rest w.tail
    (subst (AreNodedEdges corners (path next rest to)) w.is h.3))

pub sum_over-noded : (measure : Edge → ℤ) → AddsUp measure → (corners ring noded : List Corner) → IsNoded ring corners noded
    → sum_over measure (edges noded) ≡ sum_over measure (edges ring)
sum_over-noded measure adds corners [] noded h = ap (λ r. sum_over measure (edges r)) h
sum_over-noded measure adds corners (first ∷ rest) noded h =
    let w = noded_path corners first first rest noded h in
    ap (λ r. sum_over measure (edges r)) w.is
    ∙ sum_over-noded_path measure adds corners first first rest w.tail (subst (AreNodedEdges corners (path first rest first)) w.is h)

pub winding_noded : (p : Point) (ring corners noded : List Corner) → IsNoded ring corners noded → winding p noded ≡ winding p ring
winding_noded p ring corners noded h = sum_over-noded (λ edge. crossing p edge.from edge.to) (λ a b c i.
    crossing_cut p a b c i.on_edge) corners ring noded h

pub area2_noded : (ring corners noded : List Corner) → IsNoded ring corners noded → area2 noded ≡ area2 ring
area2_noded ring corners noded h = sum_over-noded edge_area2 (λ a b c i. edge_area2_cut a b c i.on_edge) corners ring noded h

-- ---- points on edges
on_some_along : (p : Point) (a b : Corner) (xs : List Corner) → AreAlong a xs b → IsOnEdge p a b → IsOnSome p (path a xs b)
on_some_along p a b [] h k = inl k
on_some_along p a b (c ∷ rest) h k = ⊎_elim (λ l. inl l) (λ l. inr (on_some_along p c b rest h.1 l)) (on_parts p a b c h.0 k)

on_edge_along : (p : Point) (a b : Corner) (xs : List Corner) → AreAlong a xs b → IsOnSome p (path a xs b) → IsOnEdge p a b
on_edge_along p a b [] h (inl k) = k
on_edge_along p a b [] h (inr k) = absurd k
on_edge_along p a b (c ∷ rest) h (inl k) = on_whole_first p a b c h.0 k
on_edge_along p a b (c ∷ rest) h (inr k) = on_whole_second p a b c h.0 (on_edge_along p c b rest h.1 k)

-- the edges of a noded path are those of its noded edges, one after another
noded_path_edges : (corners : List Corner) (from to : Corner) (rest tail : List Corner)
    → AreNodedEdges corners (path from rest to) (from ∷ tail)
    → (p : Point) → IsOnSome p (path from tail to) ↔ IsOnSome p (path from rest to)
noded_path_edges corners from to [] tail h p =
    let e : tail ≡ h.0 = cons_tail from tail (h.0 ++ h.1) h.4 ∙ ap (λ xs. h.0 ++ xs) h.3 ∙ append-nil h.0 in (
      λ k. inl (on_edge_along p from to h.0 h.2.in_order (subst (λ xs. IsOnSome p (path from xs to)) e k)),
      λ k. subst (λ xs. IsOnSome p (path from xs to)) (sym e) (on_some_along p from to h.0 h.2.in_order (only k)),
    )
  where
    only : IsOnEdge p from to ⊎ ⊥ → IsOnEdge p from to
    only (inl k) = k
    only (inr k) = absurd k
noded_path_edges corners from to (next ∷ rest) tail h p =
    let w = noded_path corners next to rest h.1 h.3 in
    let e : tail ≡ h.0 ++ next ∷ w.tail = cons_tail from tail (h.0 ++ h.1) h.4 ∙ ap (λ xs. h.0 ++ xs) w.is in
    let joined : path from tail to ≡ path from h.0 next ++ path next w.tail to = ap (λ xs. path from xs to) e
    ∙ path-join from next to h.0 w.tail in
    let later = noded_path_edges corners next to rest w.tail (subst (AreNodedEdges corners (path next rest to)) w.is h.3) p in (
      λ k. ⊎_elim (λ m. inl (on_edge_along p from next h.0 h.2.in_order m)) (λ m. inr (later.0 m))
          (IsOnSome-either p (path from h.0 next) (path next w.tail to) (subst (IsOnSome p) joined k)),
      λ k. subst (IsOnSome p) (sym joined) (⊎_elim
          (λ m. IsOnSome-left p (path from h.0 next) (path next w.tail to) (on_some_along p from next h.0 h.2.in_order m))
          (λ m. IsOnSome-right p (path from h.0 next) (path next w.tail to) (later.1 m)) k),
    )

pub boundary_noded : (p : Point) (ring corners noded : List Corner) → IsNoded ring corners noded → IsOnRing p noded ↔ IsOnRing p ring
boundary_noded p [] corners noded h = (λ k. subst (λ r. IsOnSome p (edges r)) h k, λ k. absurd k)
boundary_noded p (first ∷ rest) corners noded h =
    let w = noded_path corners first first rest noded h in
    let same = noded_path_edges corners first first rest w.tail (subst (AreNodedEdges corners (path first rest first)) w.is h) p in
    (λ k. same.0 (subst (λ r. IsOnSome p (edges r)) w.is k), λ k. subst (λ r. IsOnSome p (edges r)) (sym w.is) (same.1 k))

-- ---- no corner is left strictly inside an edge
inside_along : (a b c : Corner) (xs : List Corner) → AreAlong a xs b → Contains xs c → IsStrictlyInside c a b
inside_along a b c [] h k = absurd (none_in_nil c k)
inside_along a b c (x ∷ rest) h k =
    ⊎_elim (λ e. subst (λ z. IsStrictlyInside z a b) e h.0) (λ m. inside_whole_second a b x c h.0
    (inside_along x b c rest h.1 m)) (Contains-cases x rest c k)

-- a corner strictly inside one of the parts is inside the edge, and is none of the corners that cut it
between_cuts : (a b c : Corner) (xs : List Corner) (e : Edge) → AreAlong a xs b → Contains (path a xs b) e
    → IsStrictlyInside c e.from e.to
    → IsStrictlyInside c a b × (Contains xs c → ⊥)
between_cuts a b c [] e h k i =
    ⊎_elim (λ s. (subst (λ z. IsStrictlyInside c z.from z.to) (sym s) i, λ m. none_in_nil c m)) (λ m. absurd (none_in_nil e m))
    (Contains-cases (edge_of a b) [] e k)
between_cuts a b c (x ∷ rest) e h k i =
    ⊎_elim
    (λ s. let j : IsStrictlyInside c a x = subst (λ z. IsStrictlyInside c z.from z.to) (sym s) i in (
      inside_whole_first a b x c h.0 j,
      λ m. ⊎_elim (λ t. j.not_end (sym t)) (λ n. inside_one_part a b x c h.0 j (inside_along x b c rest h.1 n))
          (Contains-cases x rest c m),
    ))
    (λ m. let r = between_cuts x b c rest e h.1 m i in (
      inside_whole_second a b x c h.0 r.0,
      λ n. ⊎_elim (λ t. r.0.not_start (sym t)) (λ o. r.1 o) (Contains-cases x rest c n),
    ))
    (Contains-cases (edge_of a x) (path x rest b) e k)

none_inside_path : (corners : List Corner) (from to : Corner) (rest tail : List Corner)
    → AreNodedEdges corners (path from rest to) (from ∷ tail)
    → (c : Corner) (e : Edge) → Contains corners c → Contains (path from tail to) e → IsStrictlyInside c e.from e.to → ⊥
none_inside_path corners from to [] tail h c e k l i =
    let s : tail ≡ h.0 = cons_tail from tail (h.0 ++ h.1) h.4 ∙ ap (λ xs. h.0 ++ xs) h.3 ∙ append-nil h.0 in
    let r = between_cuts from to c h.0 e h.2.in_order (subst (λ xs. Contains (path from xs to) e) s l) i in
    r.1 ((h.2.exactly c).1 (k, r.0))
none_inside_path corners from to (next ∷ rest) tail h c e k l i =
    let w = noded_path corners next to rest h.1 h.3 in
    let s : tail ≡ h.0 ++ next ∷ w.tail = cons_tail from tail (h.0 ++ h.1) h.4 ∙ ap (λ xs. h.0 ++ xs) w.is in
    let joined : path from tail to ≡ path from h.0 next ++ path next w.tail to = ap (λ xs. path from xs to) s
    ∙ path-join from next to h.0 w.tail in
    ⊎_elim
    (λ m. let r = between_cuts from next c h.0 e h.2.in_order m i in r.1 ((h.2.exactly c).1 (k, r.0)))
    (λ m. none_inside_path corners next to rest w.tail (subst (AreNodedEdges corners (path next rest to)) w.is h.3) c e k m i)
    (Contains-append_cases (path from h.0 next) (path next w.tail to) e (subst (λ es. Contains es e) joined l))

none_inside_ring : (ring corners noded : List Corner) → IsNoded ring corners noded → (c : Corner) (e : Edge) → Contains corners c
    → Contains (edges noded) e → IsStrictlyInside c e.from e.to → ⊥
none_inside_ring [] corners noded h c e k l i = none_in_nil e (subst (λ r. Contains (edges r) e) h l)
none_inside_ring (first ∷ rest) corners noded h c e k l i =
    let w = noded_path corners first first rest noded h in
    none_inside_path corners first first rest w.tail (subst (AreNodedEdges corners (path first rest first)) w.is h) c e k
    (subst (λ r. Contains (edges r) e) w.is l) i

-- each corner of a noded ring is one of the ring's or one of those handed in
corner_of_path : (corners : List Corner) (from to : Corner) (rest out : List Corner)
    → AreNodedEdges corners (path from rest to) out → (c : Corner)
    → Contains out c → Contains (from ∷ rest) c ⊎ Contains corners c
corner_of_path corners from to [] out h c k =
    ⊎_elim (λ e. inl (subst (Contains (from ∷ [])) e (Contains-here from [])))
    (λ m. ⊎_elim (λ n. inr ((h.2.exactly c).0 n).0) (λ n. absurd (none_in_nil c (subst (λ xs. Contains xs c) h.3 n)))
    (Contains-append_cases h.0 h.1 c m))
    (Contains-cases from (h.0 ++ h.1) c (subst (λ xs. Contains xs c) h.4 k))
corner_of_path corners from to (next ∷ rest) out h c k =
    ⊎_elim (λ e. inl (subst (Contains (from ∷ next ∷ rest)) e (Contains-here from (next ∷ rest))))
    (λ m. ⊎_elim (λ n. inr ((h.2.exactly c).0 n).0)
    (λ n. ⊎_elim (λ o. inl (Contains-there from (next ∷ rest) c o)) (λ o. inr o) (corner_of_path corners next to rest h.1 h.3 c n))
    (Contains-append_cases h.0 h.1 c m))
    (Contains-cases from (h.0 ++ h.1) c (subst (λ xs. Contains xs c) h.4 k))

corner_of_noded : (ring corners noded : List Corner) → IsNoded ring corners noded → (c : Corner) → Contains noded c
    → Contains ring c ⊎ Contains corners c
corner_of_noded [] corners noded h c k = absurd (none_in_nil c (subst (λ xs. Contains xs c) h k))
corner_of_noded (first ∷ rest) corners noded h c k = corner_of_path corners first first rest noded h c k

corner_of_all : (corners : List Corner) (rings noded : List (List Corner)) → AllZip (λ ring out. IsNoded ring corners out) rings noded
    → ((c : Corner) → Contains (all_corners rings) c → Contains corners c) → (c : Corner)
    → Contains (all_corners noded) c → Contains corners c
corner_of_all corners [] [] h all c k = absurd (none_in_nil c k)
corner_of_all corners [] (out ∷ noded) h all c k = absurd h
corner_of_all corners (ring ∷ rings) [] h all c k = absurd h
corner_of_all corners (ring ∷ rings) (out ∷ noded) h all c k =
    ⊎_elim
    (λ m. ⊎_elim (λ n. all c (Contains-append_left ring (all_corners rings) c n)) (λ n. n) (corner_of_noded ring corners out h.0 c m))
    (λ m. corner_of_all corners rings noded h.1 (λ d l. all d (Contains-append_right ring (all_corners rings) d l)) c m)
    (Contains-append_cases out (all_corners noded) c k)

none_inside_all : (corners : List Corner) (rings noded : List (List Corner)) → AllZip (λ ring out. IsNoded ring corners out) rings noded
    → (c : Corner) (e : Edge) → Contains corners c → Contains (all_edges noded) e → IsStrictlyInside c e.from e.to → ⊥
none_inside_all corners [] [] h c e k l i = none_in_nil e l
none_inside_all corners [] (out ∷ noded) h c e k l i = absurd h
none_inside_all corners (ring ∷ rings) [] h c e k l i = absurd h
none_inside_all corners (ring ∷ rings) (out ∷ noded) h c e k l i =
    ⊎_elim (λ m. none_inside_ring ring corners out h.0 c e k m i) (λ m. none_inside_all corners rings noded h.1 c e k m i)
    (Contains-append_cases (edges out) (all_edges noded) e l)

-- rings noded for all of their corners are fully noded
pub AreFullyNoded-noded : (corners : List Corner) (rings noded : List (List Corner))
    → AllZip (λ ring out. IsNoded ring corners out) rings noded
    → ((c : Corner) → Contains (all_corners rings) c → Contains corners c) → AreFullyNoded noded
AreFullyNoded-noded corners rings noded h all c e k l i =
    none_inside_all corners rings noded h c e (corner_of_all corners rings noded h all c k) l i
