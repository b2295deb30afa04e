-- A corner put into each edge of a ring between two others: the edges of what comes out, and measures over them.
use Rattle.std.proofs.Common.{◌≡◌, ◌⊎◌, ◌↔◌, inl, inr, ⊎_elim, refl, sym, ◌∙◌, ap, subst, arith, Bool, true}
use Rattle.std.proofs.Common.{false, IsTrue, ◌||◌}
use Rattle.std.proofs.Common.{if◌then◌else◌, ℤ, ◌+ℤ◌, List, [], ◌∷◌, ◌++◌}
use Rattle.std.specs.List.{list_any}
use Rattle.std.proofs.lemmas.Int.{ints}
use Rattle.std.proofs.lemmas.Bool.{false≢true}
use Rattle.geo_exact.specs.declared.corner.Corner.{Corner}
use Rattle.geo_exact.specs.Point.{Point}
use Rattle.geo_exact.specs.Rings.{Edge, path, edges, sum_over}
use Rattle.geo_exact.specs.Segments.{IsStrictlyInside}
use Rattle.geo_exact.specs.Turn.{IsOnEdge, IsOnSome, IsOnRing}
use Rattle.geo_exact.proofs.rings.EdgeSums.{edge_of, sum_over-append}
use Rattle.geo_exact.proofs.rings.OnRings.{IsOnSome-left, IsOnSome-right, IsOnSome-either}
use Rattle.edge_chains.specs.Net.{runs_from_to}
use Rattle.edge_chains.proofs.nets.Changes.{Decides-is_same_edge}
use Rattle.edge_chains.proofs.edges.Parts.{on_parts, on_whole_first, on_whole_second, strictly_back}
use Rattle.ring_edits.specs.Edits.{joins, has_edge_between, put_along, put_between}

-- an edge, or its two parts where it is cut
abbrev pub cut_one : Bool → Corner → Edge → List Edge
cut_one cut at edge = if cut then edge_of edge.from at ∷ edge_of at edge.to ∷ [] else edge ∷ []

-- edges, with those between u and v cut
abbrev pub cut_all : (u v at : Corner) → List Edge → List Edge
cut_all u v at [] = []
cut_all u v at (edge ∷ rest) = cut_one (joins u v edge) at edge ++ cut_all u v at rest

-- ---- the edges of the ring with the corner
one_edge : (cut : Bool) (from to at : Corner)
    → (tail : List Corner) × (from ∷ (if cut then at ∷ [] else []) ≡ from ∷ tail)
    × (path from tail to ≡ cut_one cut at (edge_of from to) ++ [])
one_edge true from to at = (at ∷ [], refl, refl)
one_edge false from to at = ([], refl, refl)

more_edges : (cut : Bool) (from next to at : Corner) (xs tail : List Corner) (es : List Edge) → xs ≡ next ∷ tail
    → path next tail to ≡ es
    → (more : List Corner) × (from ∷ (if cut then at ∷ xs else xs) ≡ from ∷ more)
    × (path from more to ≡ cut_one cut at (edge_of from next) ++ es)
more_edges true from next to at xs tail es h k =
    (at ∷ next ∷ tail, ap (λ ys. from ∷ at ∷ ys) h, ap (λ fs. edge_of from at ∷ edge_of at next ∷ fs) k)
more_edges false from next to at xs tail es h k = (next ∷ tail, ap (λ ys. from ∷ ys) h, ap (λ fs. edge_of from next ∷ fs) k)

pub put_path : (u v at from to : Corner) (rest : List Corner)
    → (tail : List Corner) × (put_along u v at (path from rest to) ≡ from ∷ tail)
    × (path from tail to ≡ cut_all u v at (path from rest to))
put_path u v at from to [] = one_edge (joins u v (edge_of from to)) from to at
put_path u v at from to (next ∷ rest) =
    let w = put_path u v at next to rest in
    more_edges (joins u v (edge_of from next)) from next to at (put_along u v at (path next rest to)) w.0
    (cut_all u v at (path next rest to)) w.1 w.2

pub edges_put : (u v at : Corner) (ring : List Corner) → edges (put_between u v at ring) ≡ cut_all u v at (edges ring)
edges_put u v at [] = refl
edges_put u v at (first ∷ rest) = let w = put_path u v at first first rest in ap edges w.1 ∙ w.2

-- ---- edges between u and v
pub joined_either : (u v : Corner) (e : Edge) → joins u v e ≡ true → (e ≡ edge_of u v) ⊎ (e ≡ edge_of v u)
joined_either u v e h = either (runs_from_to u v e) (runs_from_to v u e) refl refl h
  where
    same : (a b : Corner) → runs_from_to a b e ≡ true → e ≡ edge_of a b
    same a b k = let w = (Decides-is_same_edge (e.from, e.to) (a, b)).0 k in
        ap (λ (x : Corner). edge_of x e.to) w.0 ∙ ap (λ (y : Corner). edge_of a y) w.1

    either : (p q : Bool) → runs_from_to u v e ≡ p → runs_from_to v u e ≡ q → (p || q) ≡ true → (e ≡ edge_of u v)
        ⊎ (e ≡ edge_of v u)
    either true q x y k = inl (same u v x)
    either false true x y k = inr (same v u y)
    either false false x y k = absurd (false≢true k)

pub joined_inside : (u v at : Corner) (e : Edge) → IsStrictlyInside at u v → joins u v e ≡ true → IsStrictlyInside at e.from e.to
joined_inside u v at e h k =
    ⊎_elim (λ s. subst (λ f. IsStrictlyInside at f.from f.to) (sym s) h)
    (λ s. subst (λ f. IsStrictlyInside at f.from f.to) (sym s) (strictly_back at u v h)) (joined_either u v e k)

-- ---- where no edge is cut
put_nothing : (u v at : Corner) (from to : Corner) (rest : List Corner) → list_any (joins u v) (path from rest to) ≡ false
    → put_along u v at (path from rest to) ≡ from ∷ rest
put_nothing u v at from to [] h = last (joins u v (edge_of from to)) h
  where
    last : (b : Bool) → (b || false) ≡ false → from ∷ (if b then at ∷ [] else []) ≡ from ∷ []
    last true k = absurd (false≢true (sym k))
    last false k = refl
put_nothing u v at from to (next ∷ rest) h = more (joins u v (edge_of from next)) h (λ k. put_nothing u v at next to rest k)
  where
    more : (b : Bool) → (b || list_any (joins u v) (path next rest to)) ≡ false
        → (list_any (joins u v) (path next rest to) ≡ false → put_along u v at (path next rest to) ≡ next ∷ rest)
        → from ∷ (if b then at ∷ put_along u v at (path next rest to) else put_along u v at (path next rest to))
        ≡ from ∷ next ∷ rest
    more true k later = absurd (false≢true (sym k))
    more false k later = ap (λ ys. from ∷ ys) (later k)

pub put_none : (u v at : Corner) (ring : List Corner) → ¬ IsTrue (has_edge_between u v ring) → put_between u v at ring ≡ ring
put_none u v at [] h = refl
put_none u v at (first ∷ rest) h = put_nothing u v at first first rest (not_so (has_edge_between u v (first ∷ rest)) h)
  where
    not_so : (b : Bool) → (b ≡ true → ⊥) → b ≡ false
    not_so true k = absurd (k refl)
    not_so false k = refl

-- ---- sums over edges
pub sum_over-cut : (measure : Edge → ℤ) (u v at : Corner) (es : List Edge)
    → ((e : Edge) → joins u v e ≡ true → measure (edge_of e.from at) +ℤ measure (edge_of at e.to) ≡ measure e)
    → sum_over measure (cut_all u v at es) ≡ sum_over measure es
sum_over-cut measure u v at [] h = refl
sum_over-cut measure u v at (e ∷ es) h =
    sum_over-append measure (cut_one (joins u v e) at e) (cut_all u v at es)
    ∙ both (sum_over measure (cut_one (joins u v e) at e)) (sum_over measure (cut_all u v at es)) (measure e) (sum_over measure es)
    (one (joins u v e) (h e)) (sum_over-cut measure u v at es h)
  where
    both : (a b c d : ℤ) → a ≡ c → b ≡ d → a +ℤ b ≡ c +ℤ d
    both a b c d x y = omega (arith, ints)

    one : (b : Bool) → (b ≡ true → measure (edge_of e.from at) +ℤ measure (edge_of at e.to) ≡ measure e)
        → sum_over measure (cut_one b at e) ≡ measure e
    one true k = omega (arith, ints, k refl)
    one false k = omega (arith, ints)

pub sum_over-put : (measure : Edge → ℤ) (u v at : Corner) (ring : List Corner)
    → ((a b : Corner) → IsStrictlyInside at a b → measure (edge_of a at) +ℤ measure (edge_of at b) ≡ measure (edge_of a b))
    → IsStrictlyInside at u v → sum_over measure (edges (put_between u v at ring)) ≡ sum_over measure (edges ring)
sum_over-put measure u v at ring adds h =
    ap (sum_over measure) (edges_put u v at ring)
    ∙ sum_over-cut measure u v at (edges ring) (λ e k. adds e.from e.to (joined_inside u v at e h k))

-- ---- points on edges
on_cut : (p : Point) (u v at : Corner) (es : List Edge) → IsStrictlyInside at u v → IsOnSome p (cut_all u v at es) ↔ IsOnSome p es
on_cut p u v at [] h = (λ k. k, λ k. k)
on_cut p u v at (e ∷ es) h =
    let same = one (joins u v e) (λ k. joined_inside u v at e h k) in
    let later = on_cut p u v at es h in (
      λ k. ⊎_elim (λ m. inl (same.0 m)) (λ m. inr (later.0 m))
          (IsOnSome-either p (cut_one (joins u v e) at e) (cut_all u v at es) k),
      λ k. ⊎_elim (λ m. IsOnSome-left p (cut_one (joins u v e) at e) (cut_all u v at es) (same.1 m))
          (λ m. IsOnSome-right p (cut_one (joins u v e) at e) (cut_all u v at es) (later.1 m)) k,
    )
  where
    either : IsStrictlyInside at e.from e.to → IsOnEdge p e.from at ⊎ (IsOnEdge p at e.to ⊎ ⊥) → IsOnEdge p e.from e.to
    either i (inl k) = on_whole_first p e.from e.to at i k
    either i (inr (inl k)) = on_whole_second p e.from e.to at i k
    either i (inr (inr k)) = absurd k

    only : IsOnEdge p e.from e.to ⊎ ⊥ → IsOnEdge p e.from e.to
    only (inl k) = k
    only (inr k) = absurd k

    one : (b : Bool) → (b ≡ true → IsStrictlyInside at e.from e.to) → IsOnSome p (cut_one b at e) ↔ IsOnEdge p e.from e.to
    one true i = (either (i refl), λ k. ⊎_elim (λ m. inl m) (λ m. inr (inl m)) (on_parts p e.from e.to at (i refl) k))
    one false i = (only, λ k. inl k)

pub on_ring_put : (p : Point) (u v at : Corner) (ring : List Corner) → IsStrictlyInside at u v
    → IsOnRing p (put_between u v at ring) ↔ IsOnRing p ring
on_ring_put p u v at ring h =
    let same = on_cut p u v at (edges ring) h in
    (λ k. same.0 (subst (IsOnSome p) (edges_put u v at ring) k), λ k. subst (IsOnSome p) (sym (edges_put u v at ring)) (same.1 k))
