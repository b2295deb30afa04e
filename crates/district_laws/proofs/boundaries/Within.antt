-- Simple rows that tile a simple ring lie in it: what is inside a row is inside the ring, and what is on an edge of a
-- row is on the ring or inside it. The rows' triangles tile the ring, too, so no point of the ring is inside one.
use Rattle.std.proofs.Common.{◌≡◌, inl, inr, refl, sym, ◌∙◌, ap, subst, arith, ℤ, pos, ◌+ℤ◌, List, [], ◌∷◌, ◌++◌, map}
use Rattle.std.specs.List.{Contains}
use Rattle.std.proofs.Common.{⊎_elim}
use Rattle.std.proofs.lemmas.Int.{ints, by_lt_z}
use lib.Signed.{◌≤ℤ◌}
use Rattle.geo_exact.specs.declared.corner.Corner.{Corner}
use Rattle.geo_exact.specs.Layers.{NumberedRing, numbered}
use Rattle.geo_exact.specs.Point.{Point}
use Rattle.geo_exact.specs.Rings.{edges}
use Rattle.geo_exact.specs.Segments.{IsOnSegment}
use Rattle.geo_exact.specs.Turn.{IsOnRing}
use Rattle.geo_exact.specs.Winding.{winding, IsInterior}
use Rattle.geo_exact.proofs.corners_and_turns.Moved.{moved}
use Rattle.geo_exact.proofs.rings.Ways.{winding_along}
use Rattle.ring_core.specs.declared.triangle.Tri.{Tri}
use Rattle.ring_core.specs.Simple.{IsSimpleRing}
use Rattle.ring_core.specs.Sums.{triangle_ring, winding_of_triangles, MakeUp}
use Rattle.ring_core.proofs.clipping.Clipped.{make_up, round_at_most_once}
use Rattle.ring_core.proofs.clipping.OnTriangles.{IsOnTriangles, on_triangles}
use Rattle.ring_core.proofs.clipping.WholeClipping.{to_triangles}
use Rattle.edge_chains.specs.Net.{winding_of_rings}
use Rattle.edge_chains.proofs.nodings.NodedEdges.{none_in_nil, Contains-here, Contains-there, Contains-cases}
use Rattle.fabric_core.specs.Faults.{AreSimple}
use Rattle.fabric_core.specs.Tiling.{corner_lists, IsTiling}
use Rattle.fabric_core.proofs.rows.RowLists.{Contains-mapped, Contains-from_mapped}
use Rattle.fabric_core.proofs.tilings.InnerPoints.{centre, centre_inside}
use Rattle.fabric_core.proofs.tilings.OnOneOnly.{on_no_edge}
use Rattle.district_laws.proofs.Sums.{NoneNegative, summed, wound_together, one_goes_round}
use Rattle.district_laws.proofs.boundaries.OnRows.{IsOnARow, on_a_row}
use Rattle.district_laws.proofs.boundaries.Triangles.{on_way_inside, inside_both, same_edges}

-- ---- all triangles of rows
sum_of_both : (p : Point) (ts us : List Tri) → winding_of_triangles p (ts ++ us)
    ≡ winding_of_triangles p ts +ℤ winding_of_triangles p us
sum_of_both p [] us = omega (arith, ints)
sum_of_both p (t ∷ ts) us = omega (arith, ints, sum_of_both p ts us)

on_first_ones : (p : Point) (ts us : List Tri) → IsOnTriangles p ts → IsOnTriangles p (ts ++ us)
on_first_ones p [] us on = absurd on
on_first_ones p (t ∷ ts) us (inl on) = inl on
on_first_ones p (t ∷ ts) us (inr on) = inr (on_first_ones p ts us on)

on_last_ones : (p : Point) (ts us : List Tri) → IsOnTriangles p us → IsOnTriangles p (ts ++ us)
on_last_ones p [] us on = on
on_last_ones p (t ∷ ts) us on = inr (on_last_ones p ts us on)

-- the triangles go round each point as often as the rows, and have the rows' edges on theirs
record AreMadeOf (rows : List NumberedRing) (ts : List Tri) : Type 0 where
  windings : (p : Point) → winding_of_rings p (corner_lists rows) ≡ winding_of_triangles p ts
  edges : (p : Point) (row : NumberedRing) → Contains rows row → IsOnRing p row.corners → IsOnTriangles p ts

made_of : (rows : List NumberedRing) → AreSimple rows → (ts : List Tri) × AreMadeOf rows ts
made_of [] simple = ([], record { windings = λ p. refl; edges = λ p row c on. absurd (none_in_nil row c) })
made_of (row ∷ rows) simple =
    let clipped = to_triangles row.corners simple.0 in
    let made : MakeUp clipped.0 row.corners = make_up row.corners clipped.0 clipped.1 in
    let rest = made_of rows simple.1 in (
      clipped.0 ++ rest.0,
      record {
        windings = λ p. omega (arith, ints, made.windings p, rest.1.windings p, sum_of_both p clipped.0 rest.0);
        edges = λ p other c on. ⊎_elim
            (λ e. on_first_ones p clipped.0 rest.0
            (on_triangles p row.corners clipped.0 simple.0 clipped.1
            (subst (λ (r : NumberedRing). IsOnRing p r.corners) (sym e) on)))
            (λ later. on_last_ones p clipped.0 rest.0 (rest.1.edges p other later on))
            (Contains-cases row rows other c);
      },
    )

on_one : (p : Point) (ts : List Tri) → IsOnTriangles p ts → (t : Tri) × Contains ts t × IsOnRing p (triangle_ring t)
on_one p [] on = absurd on
on_one p (t ∷ ts) (inl on) = (t, Contains-here t ts, on)
on_one p (t ∷ ts) (inr on) = let w = on_one p ts on in (w.0, Contains-there t ts w.0 w.1, w.2)

-- a triangle as a row
abbrev triangle_row : Tri → NumberedRing
triangle_row t = numbered 0 (triangle_ring t)

abbrev triangle_rows : List Tri → List NumberedRing
triangle_rows ts = map triangle_row ts

sum_of_rows : (p : Point) (ts : List Tri) → winding_of_rings p (corner_lists (triangle_rows ts)) ≡ winding_of_triangles p ts
sum_of_rows p [] = refl
sum_of_rows p (t ∷ ts) = ap (λ z. winding p (triangle_ring t) +ℤ z) (sum_of_rows p ts)

none_negative : (p : Point) (ts : List Tri) → NoneNegative p (corner_lists (triangle_rows ts))
none_negative p [] = tt
none_negative p (t ∷ ts) = ((round_at_most_once p t).0, none_negative p ts)

-- ---- rows that tile a ring
-- each point of the ring is on an edge of a row
pub ring_on_rows : (rows : List NumberedRing) (ring : List Corner) → IsSimpleRing ring → IsTiling rows ring → (p : Point)
    → IsOnRing p ring → IsOnARow p rows
ring_on_rows rows ring simple tiling p on = on_a_row rows ring simple (λ q. (summed rows ring tiling q).sums) p on

module _ (rows : List NumberedRing) (ring : List Corner) (simple : IsSimpleRing ring) (simple_rows : AreSimple rows)
    (tiling : IsTiling rows ring) where
  pub inside_within : (p : Point) (row : NumberedRing) → Contains rows row → IsInterior p row.corners → IsInterior p ring
  inside_within p row c i = let s = summed rows ring tiling p in record {
    off_edges = λ on. let w = ring_on_rows rows ring simple tiling p on in
        on_no_edge rows ring simple_rows tiling p row.number w.0.number
        (record { row = row; is_row = c; has_id = refl; is_inside = i })
        (record { row = w.0; is_row = w.1; has_id = refl; is_on_edge = w.2 });
    is_wound =
        subst (λ z. pos 1 ≤ℤ z) s.sums
        (wound_together p (corner_lists rows) row.corners s.none_negative
        (Contains-mapped (λ (r : NumberedRing). r.corners) rows row c) i.is_wound);
  }

  triangles : (ts : List Tri) × AreMadeOf rows ts
  triangles = made_of rows simple_rows

  sums : (p : Point) → winding_of_rings p (corner_lists (triangle_rows triangles.0)) ≡ winding p ring
  sums p = sum_of_rows p triangles.0 ∙ sym (triangles.1.windings p) ∙ (summed rows ring tiling p).sums

  -- two triangles with a common inner point are one
  same_triangle : (p : Point) (t u : Tri) → Contains triangles.0 t → Contains triangles.0 u → IsInterior p (triangle_ring t)
      → IsInterior p (triangle_ring u) → t ≡ u
  same_triangle p t u c d i j =
      one_goes_round triangle_row p triangles.0 t u (none_negative p triangles.0)
      (most (winding_of_rings p (corner_lists (triangle_rows triangles.0))) (winding p ring) (sums p) (summed rows ring tiling p).once.1)
      c d i.is_wound j.is_wound
    where
      most : (z w : ℤ) → z ≡ w → w ≤ℤ pos 1 → z ≤ℤ pos 1
      most z w e h = omega (arith, ints, e, h)

  -- what is inside a triangle is not on the ring
  off_ring : (p : Point) (t : Tri) → Contains triangles.0 t → IsInterior p (triangle_ring t) → ¬ IsOnRing p ring
  off_ring p t c i on =
      let w = on_a_row (triangle_rows triangles.0) ring simple sums p on in
      let u = Contains-from_mapped triangle_row triangles.0 w.0 w.1 in
      let there : IsOnRing p (triangle_ring u.0) = subst (λ (r : NumberedRing). IsOnRing p r.corners) (sym u.2) w.2 in
      let both = inside_both u.0 p there (triangle_ring t) i in
      let same : t ≡ u.0 = same_triangle (moved both.0) t u.0 c u.1 both.1 both.2 in
      i.off_edges (subst (λ v. IsOnRing p (triangle_ring v)) (sym same) there)

  -- the ring goes round the centre of each triangle
  round_centre : (t : Tri) → Contains triangles.0 t → pos 1 ≤ℤ winding (centre t.a t.b t.c) ring
  round_centre t c =
      let mid = centre t.a t.b t.c in
      subst (λ z. pos 1 ≤ℤ z) (sums mid)
      (wound_together mid (corner_lists (triangle_rows triangles.0)) (triangle_ring t) (none_negative mid triangles.0)
      (Contains-mapped (λ (r : NumberedRing). r.corners) (triangle_rows triangles.0) (triangle_row t)
      (Contains-mapped triangle_row triangles.0 t c))
      (centre_inside t.a t.b t.c t.turns_left).is_wound)

  -- from a point on an edge of a triangle, off the ring, the way to the centre meets the ring nowhere
  clear_way : (p : Point) (t : Tri) → Contains triangles.0 t → IsOnRing p (triangle_ring t) → ¬ IsOnRing p ring → (q : Point)
      → IsOnSegment q p (centre t.a t.b t.c) → ¬ IsOnRing q ring
  clear_way p t c on off q s there =
      by_lt_z (pos 0) s.n
      (λ some. off_ring q t c (on_way_inside t p on q s some) there)
      (λ none. off (same_edges q p (centre t.a t.b t.c) s (zero s.n s.n_not_negative none) (edges ring) there))
    where
      zero : (z : ℤ) → pos 0 ≤ℤ z → z ≤ℤ pos 0 → z ≡ pos 0
      zero z h k = omega (arith, ints, h, k)

  pub edge_within : (p : Point) (row : NumberedRing) → Contains rows row → IsOnRing p row.corners → ¬ IsOnRing p ring
      → IsInterior p ring
  edge_within p row c on off =
      let w = on_one p triangles.0 (triangles.1.edges p row c on) in record {
        off_edges = off;
        is_wound =
            subst (λ z. pos 1 ≤ℤ z)
            (sym (winding_along p (centre w.0.a w.0.b w.0.c) ring (λ q s. clear_way p w.0 w.1 w.2 off q s)))
            (round_centre w.0 w.1);
      }
