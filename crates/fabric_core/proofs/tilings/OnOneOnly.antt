-- In a tiling of simple rings, what is inside one of them is on no edge of another: near a point on an edge there are
-- places inside that ring's
-- triangles, which would be in two rows.
use Rattle.std.proofs.Common.{◌≡◌, inl, inr, sym, ◌∙◌, ap, subst, arith, ℕ, ℤ, pos, List, [], ◌∷◌}
use Rattle.std.specs.List.{Contains}
use Rattle.std.proofs.lemmas.Int.{ints}
use lib.Signed.{◌≤ℤ◌}
use Rattle.geo_exact.specs.declared.corner.Corner.{Corner}
use Rattle.geo_exact.specs.Point.{Point}
use Rattle.geo_exact.specs.Turn.{IsOnRing}
use Rattle.geo_exact.specs.Winding.{winding, IsInterior}
use Rattle.geo_exact.specs.Layers.{NumberedRing}
use Rattle.geo_exact.proofs.corners_and_turns.Moved.{moved, moved_interior, moved_winding}
use Rattle.ring_core.specs.declared.triangle.Tri.{Tri}
use Rattle.ring_core.specs.Simple.{IsSimpleRing}
use Rattle.ring_core.specs.Sums.{triangle_ring, MakeUp}
use Rattle.ring_core.proofs.clipping.Clipped.{make_up}
use Rattle.ring_core.proofs.clipping.OnTriangles.{IsOnTriangles, on_triangles}
use Rattle.ring_core.proofs.clipping.WholeClipping.{to_triangles}
use Rattle.tri_overlap.specs.own.Bounding.{InSome}
use Rattle.tri_overlap.proofs.RingPairs.{off_edges, ring_inside}
use Rattle.fabric_core.specs.Tiling.{IsTiling, IsInOne}
use Rattle.fabric_core.specs.Faults.{AreSimple}
use Rattle.fabric_core.specs.Locate.{IsInsideOf, IsOnEdgeOf}
use Rattle.fabric_core.proofs.tilings.InnerPoints.{centre}
use Rattle.fabric_core.proofs.tilings.NearPlaces.{near, near_inside, towards_centre}
use Rattle.fabric_core.proofs.tilings.OneParcel.{of_each}
use Rattle.fabric_core.proofs.tilings.OneRow.{moved_off, is_the_row, in_city}

at_least : (n : ℤ) → n ≤ℤ n
at_least n = omega (arith, ints)

-- where a point inside a ring is on an edge of some triangle, a place is inside both
place_in_both : (p : Point) (ring : List Corner) → IsInterior p ring → (ts : List Tri) → IsOnTriangles p ts
    → (q : Point) × IsInterior (moved q) ring × InSome (moved q) ts
place_in_both p ring i [] on = absurd on
place_in_both p ring i (t ∷ ts) (inl on) =
    let n = near_inside p (centre t.a t.b t.c) ring i in
    let q = near n.0 n.1 p (centre t.a t.b t.c) in (
      q,
      moved_interior ring q (n.2 n.0 n.1 (at_least n.0)),
      inl (moved_interior (triangle_ring t) q (towards_centre t.a t.b t.c p t.turns_left on n.0 n.1)),
    )
place_in_both p ring i (t ∷ ts) (inr on) = let w = place_in_both p ring i ts on in (w.0, w.1, inr w.2)

module _ (rows : List NumberedRing) (city : List Corner) (simple : AreSimple rows) (tiling : IsTiling rows city) where
  -- a moved point that is inside a row is in that one row
  in_one : (q : Point) (row : NumberedRing) → Contains rows row → IsInterior (moved q) row.corners → IsInOne (moved q) rows
  in_one q row c i =
      (tiling.inside (moved q) (moved_off rows city q) (in_city rows city tiling (moved q) row c i (moved_off rows city q))).1

  same_inside : (q : Point) (row other : NumberedRing) → Contains rows row → Contains rows other → IsInterior (moved q) row.corners
      → IsInterior (moved q) other.corners
      → row ≡ other
  same_inside q row other c d i j =
      let one = in_one q row c i in is_the_row (moved q) rows one row c i ∙ sym (is_the_row (moved q) rows one other d j)

  -- a row that has on an edge what is inside a row is that row
  same_on_edge : (p : Point) (row other : NumberedRing) → Contains rows row → Contains rows other → IsInterior p row.corners
      → IsOnRing p other.corners
      → row ≡ other
  same_on_edge p row other c d i on =
      let whole : IsSimpleRing other.corners = of_each (λ (r : NumberedRing). IsSimpleRing r.corners) rows other simple d in
      let clipped = to_triangles other.corners whole in
      let made : MakeUp clipped.0 other.corners = make_up other.corners clipped.0 clipped.1 in
      let both = place_in_both p row.corners i clipped.0 (on_triangles p other.corners clipped.0 whole clipped.1 on) in
      same_inside both.0 row other c d both.1 (ring_inside (moved both.0) other.corners clipped.0 made both.2 (off_edges both.0))

  pub on_no_edge : (p : Point) (id other : ℕ) → IsInsideOf rows p id → ¬ IsOnEdgeOf rows p other
  on_no_edge p id other h on =
      let same = same_on_edge p h.row on.row h.is_row on.is_row h.is_inside on.is_on_edge in
      h.is_inside.off_edges (subst (λ (r : NumberedRing). IsOnRing p r.corners) (sym same) on.is_on_edge)

  pub in_no_other : (p : Point) (id other : ℕ) → IsInsideOf rows p id → IsInsideOf rows p other → other ≡ id
  in_no_other p id other h k =
      let same = same_inside p h.row k.row h.is_row k.is_row (moved_interior h.row.corners p h.is_inside)
      (moved_interior k.row.corners p k.is_inside) in
      sym k.has_id ∙ ap (λ (r : NumberedRing). r.number) (sym same) ∙ h.has_id

  pub in_the_city : (p : Point) (id : ℕ) → IsInsideOf rows p id → winding p city ≡ pos 1
  in_the_city p id h =
      let i = moved_interior h.row.corners p h.is_inside in
      sym (moved_winding city p)
      ∙ (tiling.inside (moved p) (moved_off rows city p) (in_city rows city tiling (moved p) h.row h.is_row i (moved_off rows city p))).0
