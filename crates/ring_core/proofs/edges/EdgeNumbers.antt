-- The edges of a ring, by their numbers.
use Rattle.std.proofs.Common.{◌≡◌, ◌↔◌, ℕ, zero, suc, ◌<◌, ◌≤◌, ◌∙◌, sym, ap, arith, inl, inr, List, []}
use Rattle.std.proofs.Common.{◌∷◌, length, get_or, Some, slice_get}
use Rattle.std.proofs.lemmas.List.{get_or_default, get_or_past}
use Rattle.std.proofs.lemmas.Bool.{cases_lt}
use Rattle.geo_exact.specs.declared.corner.Corner.{Corner}
use Rattle.geo_exact.specs.Point.{Point}
use Rattle.geo_exact.specs.Rings.{Edge, path, edges}
use Rattle.geo_exact.specs.Turn.{IsOnEdge, IsOnSome, IsOnRing}
use Rattle.geo_exact.specs.Places.{origin, corner_at, after}
use Rattle.ring_core.specs.Simple.{IsOnEdgeAt}
use Rattle.ring_core.proofs.edges.RoundNumbers.{after_inner, after_end}

-- edge i of a path
abbrev pub IsOnPathAt : Point → Corner → List Corner → Corner → ℕ → Type 0
IsOnPathAt p from xs to i = IsOnEdge p (get_or (from ∷ xs) i origin) (get_or xs i to)

pub number_on_path : (p : Point) (from to : Corner) (xs : List Corner) → IsOnSome p (path from xs to) → (i : ℕ)
    × (i ≤ length xs) × IsOnPathAt p from xs to i
number_on_path p from to [] h = elim h [ inl q ↦ (zero, omega arith, q) | inr q ↦ absurd q ]
number_on_path p from to (x ∷ xs) h = elim h [
  | inl q ↦ (zero, omega arith, q)
  | inr q ↦ let r = number_on_path p x to xs q in (suc r.0, (let b = r.1 in omega arith), r.2)
]

on_path_from_number : (p : Point) (from to : Corner) (xs : List Corner) (i : ℕ) → i ≤ length xs
    → IsOnPathAt p from xs to i → IsOnSome p (path from xs to)
on_path_from_number p from to [] zero b h = inl h
on_path_from_number p from to [] (suc i) b h = absurd (omega arith)
on_path_from_number p from to (x ∷ xs) zero b h = inl h
on_path_from_number p from to (x ∷ xs) (suc i) b h = inr (on_path_from_number p x to xs i (omega arith) h)

-- where edge i of a ring ends
edge_end : (first : Corner) (rest : List Corner) (i : ℕ) → i ≤ length rest
    → corner_at (first ∷ rest) (after (suc (length rest)) i) ≡ get_or rest i first
edge_end first rest i h = elim (cases_lt i (length rest)) [
  | inl q ↦ ap (corner_at (first ∷ rest)) (after_inner (suc (length rest)) i (omega arith)) ∙ get_or_default rest i origin first q
  | inr q ↦ ap (corner_at (first ∷ rest)) (after_end (suc (length rest)) i (omega arith)) ∙ sym (get_or_past rest i first q)
]

pub on_ring_by_number : (p : Point) (ring : List Corner) → IsOnRing p ring ↔ ((i : ℕ) × (i < length ring) × IsOnEdgeAt p ring i)
on_ring_by_number p [] = (λ h. absurd h, λ h. absurd (let b = h.1 in omega arith))
on_ring_by_number p (first ∷ rest) = (
  λ h. let r = number_on_path p first first rest h in
      (r.0, (let b = r.1 in omega arith), (rw (edge_end first rest r.0 r.1) r.2)),
  λ h. let b : h.0 ≤ length rest = (let c = h.1 in omega arith) in
      on_path_from_number p first first rest h.0 b (rw (edge_end first rest h.0 b) at h.2),
)

-- edge i of a path, from its corners
path_joins : (from to : Corner) (xs : List Corner) (i : ℕ) (edge : Edge) → slice_get (path from xs to) i ≡ Some edge
    → (i ≤ length xs) × (edge.from ≡ get_or (from ∷ xs) i origin) × (edge.to ≡ get_or xs i to)
path_joins from to [] zero edge h = (omega arith, let f = sym h in cc, let f = sym h in cc)
path_joins from to [] (suc i) edge h = absurd (let f = h in cc)
path_joins from to (x ∷ xs) zero edge h = (omega arith, let f = sym h in cc, let f = sym h in cc)
path_joins from to (x ∷ xs) (suc i) edge h = let r = path_joins x to xs i edge h in (omega (arith, r.0), r.1, r.2)

-- edge i of a ring joins corner i to the next
pub ring_joins : (ring : List Corner) (i : ℕ) (edge : Edge) → slice_get (edges ring) i ≡ Some edge
    → (edge.from ≡ corner_at ring i) × (edge.to ≡ corner_at ring (after (length ring) i))
ring_joins [] i edge h = absurd (let f = h in cc)
ring_joins (first ∷ rest) i edge h =
    let r = path_joins first first rest i edge h in
    (r.1, r.2 ∙ sym (edge_end first rest i r.0))
