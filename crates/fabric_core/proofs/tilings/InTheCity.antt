-- The parcels of a city lie in each box that holds the city's corners: beyond it nothing goes round a place, and so
-- no triangle of a parcel is there.
use Rattle.std.proofs.Common.{◌≡◌, ◌∙◌, sym, arith, pos, List, [], ◌∷◌}
use Rattle.std.specs.List.{All, AllByRecursion}
use Rattle.std.proofs.lemmas.Int.{ints}
use Rattle.std.proofs.lemmas.List.Elements.{All-from_recursion, recursion_from_All}
use lib.Signed.{◌≤ℤ◌}
use Rattle.geo_exact.specs.declared.bounds.Bounds.{Bounds}
use Rattle.geo_exact.specs.declared.corner.Corner.{Corner}
use Rattle.geo_exact.specs.Bounds.{HoldsCorner, IsBeyondBox}
use Rattle.geo_exact.specs.Layers.{NumberedRing}
use Rattle.geo_exact.specs.Point.{Point}
use Rattle.geo_exact.specs.Winding.{winding}
use Rattle.geo_exact.proofs.boxes.BeyondBoxes.{beyond_box}
use Rattle.geo_exact.proofs.boxes.NearCorners.{holds_first, holds_second, holds_third}
use Rattle.ring_core.specs.declared.triangle.Tri.{Tri}
use Rattle.ring_core.specs.Boxes.{HoldsTriangle}
use Rattle.ring_core.specs.Simple.{IsSimpleRing}
use Rattle.ring_core.specs.Sums.{triangle_ring, winding_of_triangles, IsRoundAtMostOnce, MakeUp}
use Rattle.ring_core.proofs.clipping.Clipped.{make_up}
use Rattle.ring_core.proofs.clipping.CornersInBoxes.{box_of_triangles}
use Rattle.ring_core.proofs.clipping.WholeClipping.{to_triangles}
use Rattle.fabric_core.specs.Tiling.{corner_lists, IsInNone}
use Rattle.ring_edits.specs.Edits.{CoversAlike}
use Rattle.fabric_core.specs.Faults.{AreSimple}
use Rattle.fabric_core.specs.own.Alike.{GoAlike}
use Rattle.fabric_core.proofs.tilings.Tilings.{IsMadeUp, rows_not_negative, in_none, city_alone}

-- ---- triangles that all together go round nowhere
abbrev AreNone : Point → List Tri → Type 0
AreNone p ts = AllByRecursion (λ t. winding p (triangle_ring t) ≡ pos 0) ts

sum_not_negative : (p : Point) (ts : List Tri) → AllByRecursion (IsRoundAtMostOnce p) ts → pos 0 ≤ℤ winding_of_triangles p ts
sum_not_negative p [] h = omega (arith, ints)
sum_not_negative p (t ∷ ts) h = omega (arith, ints, h.0.0, sum_not_negative p ts h.1)

each_none : (p : Point) (ts : List Tri) → AllByRecursion (IsRoundAtMostOnce p) ts → winding_of_triangles p ts ≡ pos 0 → AreNone p ts
each_none p [] h e = tt
each_none p (t ∷ ts) h e =
    let rest : pos 0 ≤ℤ winding_of_triangles p ts = sum_not_negative p ts h.1 in
    let here : pos 0 ≤ℤ winding p (triangle_ring t) = h.0.0 in
    (omega (arith, ints, here, rest, e), each_none p ts h.1 (omega (arith, ints, here, rest, e)))

module _ (box : Bounds) where
  triangles_held : (ts : List Tri) → ((p : Point) → IsBeyondBox p box → AreNone p ts) → AllByRecursion (HoldsTriangle box) ts
  triangles_held [] none = tt
  triangles_held (t ∷ ts) none = (
    record {
      a = holds_first box t.a t.b t.c t.turns_left (λ p h. (none p h).0);
      b = holds_second box t.a t.b t.c t.turns_left (λ p h. (none p h).0);
      c = holds_third box t.a t.b t.c t.turns_left (λ p h. (none p h).0);
    },
    triangles_held ts (λ p h. (none p h).1),
  )

  -- a simple ring that goes round no place beyond the box
  pub ring_held : (ring : List Corner) → IsSimpleRing ring → ((p : Point) → IsBeyondBox p box
      → winding p ring ≡ pos 0) → All (HoldsCorner box) ring
  ring_held ring simple none =
      let clipped = to_triangles ring simple in
      let made : MakeUp clipped.0 ring = make_up ring clipped.0 clipped.1 in
      box_of_triangles box ring clipped.0 simple clipped.1
      (All-from_recursion (HoldsTriangle box) clipped.0
      (triangles_held clipped.0
      (λ p h. each_none p clipped.0 (recursion_from_All (IsRoundAtMostOnce p) clipped.0 (made.each_once p))
      (sym (made.windings p) ∙ none p h))))

  rows_held : (rows : List NumberedRing) → AreSimple rows → ((p : Point) → IsBeyondBox p box → IsInNone p rows)
      → AllByRecursion (λ row. All (HoldsCorner box) row.corners) rows
  rows_held [] simple none = tt
  rows_held (row ∷ rows) simple none =
      (ring_held row.corners simple.0 (λ p h. (none p h).0), rows_held rows simple.1 (λ p h. (none p h).1))

rows_made_up : (rows : List NumberedRing) → AreSimple rows → AllByRecursion IsMadeUp rows
rows_made_up [] simple = tt
rows_made_up (row ∷ rows) simple =
    let clipped = to_triangles row.corners simple.0 in
    ((clipped.0, make_up row.corners clipped.0 clipped.1), rows_made_up rows simple.1)

pub rows_in_box : (rows : List NumberedRing) (city refined : List Corner) (box : Bounds) → AreSimple rows → CoversAlike city refined
    → GoAlike (corner_lists rows) refined → All (HoldsCorner box) city
    → AllByRecursion (λ row. All (HoldsCorner box) row.corners) rows
rows_in_box rows city refined box simple ground alike all =
    rows_held box rows simple
    (λ p h. in_none p rows (rows_not_negative p rows (rows_made_up rows simple))
    (alike.windings p ∙ city_alone p city refined ground
    ∙ (beyond_box p box city all h).1))
