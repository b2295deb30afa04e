-- Triangles of which no two overlap go round no point twice, and neither does the ring that they make up.
use Rattle.std.proofs.Common.{◌≡◌, refl, arith, inl, inr, ◌⊎◌, ℕ, suc, List, Some, [], ◌∷◌}
use Rattle.std.proofs.lemmas.Int.{ints}
use Rattle.std.specs.List.{slice_get}
use lib.IntN.{pos}
use Rattle.geo_exact.specs.declared.corner.Corner.{Corner}
use Rattle.geo_exact.specs.Point.{Point}
use Rattle.geo_exact.specs.Rings.{edges}
use Rattle.geo_exact.specs.Winding.{winding, IsInterior}
use Rattle.geo_exact.proofs.corners_and_turns.Moved.{moved, moved_winding}
use Rattle.ring_core.specs.declared.triangle.Tri.{Tri}
use Rattle.ring_core.specs.Sums.{triangle_ring, winding_of_triangles, MakeUp}
use Rattle.tri_overlap.specs.own.Bounding.{InSome}
use Rattle.tri_overlap.specs.Folding.{OverlapAt, HasNoOverlap}
use Rattle.tri_overlap.proofs.Numbered.{second_in_list}
use Rattle.tri_overlap.proofs.RingPairs.{IsOffEdges, round_once, in_some, off_edges}

-- p is inside triangle j of the list
record IsInAt (p : Point) (ts : List Tri) (j : ℕ) : Type 0 where
  triangle : Tri
  at_j : slice_get ts j ≡ Some triangle
  inside : IsInterior p (triangle_ring triangle)

place_in : (p : Point) (ts : List Tri) → InSome p ts → (j : ℕ) × IsInAt p ts j
place_in p [] h = absurd h
place_in p (t ∷ ts) (inl h) = (0, record { triangle = t; at_j = refl; inside = h })
place_in p (t ∷ ts) (inr h) = let w = place_in p ts h in
    (suc w.0, record { triangle = w.1.triangle; at_j = w.1.at_j; inside = w.1.inside })

-- a point inside the first triangle is inside no other
alone : (p : Point) (t : Tri) (ts : List Tri) → HasNoOverlap (t ∷ ts) → IsInterior p (triangle_ring t) → ¬ InSome p ts
alone p t ts none i h =
    let w = place_in p ts h in
    let o : OverlapAt (t ∷ ts) 0 (suc w.0) = record {
      one = t;
      other = w.1.triangle;
      at_i = refl;
      at_j = w.1.at_j;
      meet = (p, i, w.1.inside);
    } in
    none 0 (suc w.0) (omega arith) (second_in_list (t ∷ ts) 0 (suc w.0) o) o

none_in_rest : (t : Tri) (ts : List Tri) → HasNoOverlap (t ∷ ts) → HasNoOverlap ts
none_in_rest t ts none i j h b o =
    none (suc i) (suc j) (omega arith) (omega arith) (record { one = o.one; other = o.other; at_i = o.at_i; at_j = o.at_j; meet = o.meet })

once_off_edges : (p : Point) → IsOffEdges p → (ts : List Tri) → HasNoOverlap ts → (winding_of_triangles p ts ≡ pos 0)
    ⊎ (winding_of_triangles p ts ≡ pos 1)
once_off_edges p off [] none = inl refl
once_off_edges p off (t ∷ ts) none =
    let rest = once_off_edges p off ts (none_in_rest t ts none) in
    elim (round_once p t) [
      | inl e ↦ elim rest [
        | inl f ↦ inl (omega (arith, ints, e, f))
        | inr f ↦ inr (omega (arith, ints, e, f))
      ]
      | inr e ↦ elim rest [
        | inl f ↦ inr (omega (arith, ints, e, f))
        | inr f ↦ absurd (alone p t ts none (inside_of p t off e) (in_some p off ts (omega (arith, ints, f))))
      ]
    ]
  where
    inside_of : (p : Point) (t : Tri) → IsOffEdges p → winding p (triangle_ring t) ≡ pos 1 → IsInterior p (triangle_ring t)
    inside_of p t off e = record { off_edges = off (edges (triangle_ring t)); is_wound = omega (arith, ints, e) }

moved_sum : (p : Point) (ts : List Tri) → winding_of_triangles (moved p) ts ≡ winding_of_triangles p ts
moved_sum p [] = refl
moved_sum p (t ∷ ts) = omega (arith, ints, moved_winding (triangle_ring t) p, moved_sum p ts)

pub sum_at_most_once : (ts : List Tri) → HasNoOverlap ts → (p : Point) → (winding_of_triangles p ts ≡ pos 0)
    ⊎ (winding_of_triangles p ts ≡ pos 1)
sum_at_most_once ts none p = rw (moved_sum p ts) at (once_off_edges (moved p) (off_edges p) ts none)

pub ring_at_most_once : (ring : List Corner) (ts : List Tri) → MakeUp ts ring → HasNoOverlap ts
    → (p : Point) → (winding p ring ≡ pos 0) ⊎ (winding p ring ≡ pos 1)
ring_at_most_once ring ts m none p = rw (m.windings p) (sum_at_most_once ts none p)
