-- A ring that is clipped to triangles has their winding numbers and areas, all together.
use Rattle.std.proofs.Common.{◌≡◌, ◌⊎◌, ℕ, ◌<◌, ◌∙◌, ap, refl, arith, List, [], ◌∷◌, ◌++◌, length, get_or}
use Rattle.std.proofs.Common.{inl, inr}
use Rattle.std.specs.List.{remove}
use Rattle.std.proofs.lemmas.Int.{ints}
use lib.IntN.{ℤ, pos, ◌+ℤ◌, neg_ℤ}
use lib.Signed.{◌≤ℤ◌}
use Rattle.geo_exact.specs.declared.corner.Corner.{Corner}
use Rattle.geo_exact.specs.Point.{Point}
use Rattle.geo_exact.specs.Rings.{Edge, edges, sum_over}
use Rattle.geo_exact.specs.Winding.{winding}
use Rattle.geo_exact.specs.Area.{edge_area2, area2}
use Rattle.geo_exact.proofs.rings.EdgeSums.{edge_of}
use Rattle.geo_exact.proofs.rings.Crossings.{crossing_back, crossing_cut, edge_area2_back, edge_area2_cut}
use Rattle.geo_exact.proofs.rings.Windings.{crossing_of}
use Rattle.geo_exact.proofs.rings.Triangles.{triangle_winds_at_most_once}
use Rattle.ring_core.specs.declared.triangle.Tri.{Tri}
use Rattle.geo_exact.specs.Places.{corner_at}
use Rattle.ring_core.specs.Clipping.{previous, next, IsFlat, IsTriangleAt, Clips, untouched, flat, ear, IsClippedTo}
use Rattle.ring_core.specs.Sums.{triangle_ring, winding_of_triangles, area2_of_triangles, IsRoundAtMostOnce, MakeUp}
use Rattle.ring_core.proofs.clipping.Cuts.{ring_cut}

-- a measure of edges summed over the triangles' edges
abbrev triangles_sum : (Edge → ℤ) → List Tri → ℤ
triangles_sum measure [] = pos 0
triangles_sum measure (t ∷ ts) = sum_over measure (edges (triangle_ring t)) +ℤ triangles_sum measure ts

triangles_sum-push : (measure : Edge → ℤ) (ts : List Tri) (t : Tri)
    → triangles_sum measure (ts ++ t ∷ []) ≡ triangles_sum measure ts +ℤ sum_over measure (edges (triangle_ring t))
triangles_sum-push measure [] t = omega (arith, ints)
triangles_sum-push measure (u ∷ ts) t = omega (arith, ints, triangles_sum-push measure ts t)

-- the edges at corner k measure what the edge that passes it by does
abbrev AddsUpAt : (Edge → ℤ) → List Corner → ℕ → Type 0
AddsUpAt measure ring k =
    measure (edge_of (previous ring k) (corner_at ring k)) +ℤ measure (edge_of (corner_at ring k) (next ring k))
    ≡ measure (edge_of (previous ring k) (next ring k))

-- the measure changes its sign with the edge, and adds up at a flat corner
module _ (measure : Edge → ℤ) (back : (a b : Corner) → measure (edge_of b a) ≡ neg_ℤ (measure (edge_of a b))) where
  pub flat_out : (ring : List Corner) (k : ℕ) → 2 < length ring → k < length ring → AddsUpAt measure ring k
      → sum_over measure (edges ring) ≡ sum_over measure (edges (remove ring k))
  flat_out ring k l h e = omega (arith, ints, ring_cut measure ring k l h, e)

  pub triangle_out : (ring : List Corner) (k : ℕ) → 2 < length ring → k < length ring
      → sum_over measure (edges ring)
      ≡ sum_over measure (edges (remove ring k)) +ℤ sum_over measure
      (edges (previous ring k ∷ corner_at ring k ∷ next ring k ∷ []))
  triangle_out ring k l h = omega (arith, ints, ring_cut measure ring k l h, back (previous ring k) (next ring k))

  ear_out : (ring : List Corner) (k : ℕ) (t : Tri) → 2 < length ring → k < length ring → IsTriangleAt ring k t
      → sum_over measure (edges ring) ≡ sum_over measure (edges (remove ring k)) +ℤ sum_over measure (edges (triangle_ring t))
  ear_out ring k t l h s = rw (s.a, s.b, s.c) (triangle_out ring k l h)

  module _ (cut : (ring : List Corner) (k : ℕ) → IsFlat ring k → AddsUpAt measure ring k) where
    clips_sum : (ring : List Corner) (ts : List Tri) (rest : List Corner) → Clips ring ts rest
        → sum_over measure (edges ring) ≡ triangles_sum measure ts +ℤ sum_over measure (edges rest)
    clips_sum ring _ _ untouched = omega (arith, ints)
    clips_sum ring ts _ (flat {rest = rest} k c l f) = clips_sum ring ts rest c
        ∙ omega (arith, ints, flat_out rest k l f.below (cut rest k f.has))
    clips_sum ring _ _ (ear {ts = ts} {rest = rest} k t c l none f s) =
        clips_sum ring ts rest c ∙ omega (arith, ints, ear_out rest k t l f.below s, triangles_sum-push measure ts t)

  pub two_left : (rest : List Corner) → length rest ≡ 2 → sum_over measure (edges rest) ≡ pos 0
  two_left [] h = absurd (omega arith)
  two_left (a ∷ []) h = absurd (omega arith)
  two_left (a ∷ b ∷ []) h = omega (arith, ints, back a b)
  two_left (a ∷ b ∷ c ∷ rest) h = absurd (omega arith)

winding_sum_is : (p : Point) (ts : List Tri) → triangles_sum (crossing_of p) ts ≡ winding_of_triangles p ts
winding_sum_is p [] = refl
winding_sum_is p (t ∷ ts) = ap (λ z. winding p (triangle_ring t) +ℤ z) (winding_sum_is p ts)

area2_sum_is : (ts : List Tri) → triangles_sum edge_area2 ts ≡ area2_of_triangles ts
area2_sum_is [] = refl
area2_sum_is (t ∷ ts) = ap (λ z. area2 (triangle_ring t) +ℤ z) (area2_sum_is ts)

once : (z : ℤ) → (z ≡ pos 0) ⊎ (z ≡ pos 1) → (pos 0 ≤ℤ z) × (z ≤ℤ pos 1)
once z h = elim h [ inl q ↦ (omega (arith, ints), omega (arith, ints)) | inr q ↦ (omega (arith, ints), omega (arith, ints)) ]

pub round_at_most_once : (p : Point) (t : Tri) → IsRoundAtMostOnce p t
round_at_most_once p t = once (winding p (triangle_ring t)) (triangle_winds_at_most_once t.a t.b t.c p t.turns_left)

-- the triangles that a ring is clipped to make it up
pub make_up : (ring : List Corner) (ts : List Tri) → IsClippedTo ring ts → MakeUp ts ring
make_up ring ts h = record {
  windings = λ p.
      clips_sum (crossing_of p) (crossing_back p) (λ rest k f. crossing_cut p (previous rest k) (next rest k)
      (corner_at rest k) f) ring ts h.0 h.1
      ∙ omega (arith, ints, two_left (crossing_of p) (crossing_back p) h.0 h.2, winding_sum_is p ts);
  each_once = λ p k d b. round_at_most_once p (get_or ts k d);
  areas =
      clips_sum edge_area2 edge_area2_back (λ rest k f. edge_area2_cut (previous rest k) (next rest k)
      (corner_at rest k) f) ring ts h.0 h.1
      ∙ omega (arith, ints, two_left edge_area2 edge_area2_back h.0 h.2, area2_sum_is ts);
}
