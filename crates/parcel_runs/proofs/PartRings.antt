-- A parcel of a tiling can be a city itself: its ring has no fault, for no place is in it twice.
use Rattle.std.proofs.Common.{◌≡◌, ◌⊎◌, inl, inr, sym, subst, arith, ℕ, zero, suc, ◌<◌, pos, List, [], ◌∷◌, length, get_or}
use Rattle.std.specs.List.{Contains}
use Rattle.std.proofs.lemmas.Int.{ints, by_lt_z}
use Rattle.std.proofs.lemmas.Option.{get_or_from_slice_get}
use lib.Signed.{◌≤ℤ◌}
use Rattle.geo_exact.specs.declared.corner.Corner.{Corner}
use Rattle.geo_exact.specs.Point.{Point}
use Rattle.geo_exact.specs.Turn.{IsOnRing}
use Rattle.geo_exact.specs.Winding.{winding, IsInterior}
use Rattle.geo_exact.specs.Layers.{NumberedRing}
use Rattle.geo_exact.proofs.corners_and_turns.Moved.{moved, moved_interior}
use Rattle.geo_exact.proofs.rings.Triangles.{triangle_winds_at_most_once}
use Rattle.ring_core.specs.declared.triangle.Tri.{Tri}
use Rattle.ring_core.specs.Simple.{IsSimpleRing}
use Rattle.ring_core.specs.Sums.{triangle_ring, winding_of_triangles}
use Rattle.ring_core.proofs.clipping.Clipped.{make_up}
use Rattle.fabric_core.specs.declared.city.CityFault.{CityFault}
use Rattle.fabric_core.specs.declared.city.CityFault.TheVariants.{Ring, Folded, NoMemory}
use Rattle.fabric_core.specs.Tiling.{IsTiling, IsOffEdges}
use Rattle.fabric_core.specs.Faults.{AreSimple, IsFolded, IsCityFault}
use Rattle.fabric_core.proofs.loads.OneFault.{simple_has_no_fault}
use Rattle.fabric_core.proofs.tilings.OneParcel.{of_each}
use Rattle.fabric_core.proofs.tilings.OneRow.{moved_off, is_the_row, in_city}

-- ---- triangles of a list that have one point inside
module _ (q : Point) (d : Tri) where
  once_or_not : (t : Tri) → (winding q (triangle_ring t) ≡ pos 0) ⊎ (winding q (triangle_ring t) ≡ pos 1)
  once_or_not t = triangle_winds_at_most_once t.a t.b t.c q t.turns_left

  not_negative : (ts : List Tri) → pos 0 ≤ℤ winding_of_triangles q ts
  not_negative [] = omega (arith, ints)
  not_negative (t ∷ ts) = elim (once_or_not t) [
    | inl e ↦ omega (arith, ints, e, not_negative ts)
    | inr e ↦ omega (arith, ints, e, not_negative ts)
  ]

  in_one_of : (ts : List Tri) (j : ℕ) → j < length ts → IsInterior q (triangle_ring (get_or ts j d))
      → pos 1 ≤ℤ winding_of_triangles q ts
  in_one_of [] j below i = absurd (omega (arith, below))
  in_one_of (t ∷ ts) zero below i =
      let wound : pos 1 ≤ℤ winding q (triangle_ring t) = i.is_wound in omega (arith, ints, wound, not_negative ts)
  in_one_of (t ∷ ts) (suc j) below i =
      let rest = in_one_of ts j (omega (arith, below)) i in
      elim (once_or_not t) [ inl e ↦ omega (arith, ints, e, rest) | inr e ↦ omega (arith, ints, e, rest) ]

  in_two_of : (ts : List Tri) (i j : ℕ) → i < j → j < length ts → IsInterior q (triangle_ring (get_or ts i d))
      → IsInterior q (triangle_ring (get_or ts j d))
      → pos 2 ≤ℤ winding_of_triangles q ts
  in_two_of [] i j order below h k = absurd (omega (arith, below))
  in_two_of (t ∷ ts) i zero order below h k = absurd (omega (arith, order))
  in_two_of (t ∷ ts) zero (suc j) order below h k =
      let wound : pos 1 ≤ℤ winding q (triangle_ring t) = h.is_wound in
      omega (arith, ints, wound, in_one_of ts j (omega (arith, below)) k)
  in_two_of (t ∷ ts) (suc i) (suc j) order below h k =
      let rest = in_two_of ts i j (omega (arith, order)) (omega (arith, below)) h k in
      elim (once_or_not t) [ inl e ↦ omega (arith, ints, e, rest) | inr e ↦ omega (arith, ints, e, rest) ]

-- ---- the rows of a tiling
module _ (rows : List NumberedRing) (city : List Corner) (simple : AreSimple rows) (tiling : IsTiling rows city) where
  -- off all edges no row goes round a point twice
  at_most_once : (p : Point) (row : NumberedRing) → Contains rows row → IsOffEdges p rows city → winding p row.corners ≤ℤ pos 1
  at_most_once p row c off = by_lt_z (pos 0) (winding p row.corners)
      (λ some.
      let inside : IsInterior p row.corners = record {
        off_edges = of_each (λ (r : NumberedRing). ¬ IsOnRing p r.corners) rows row off.off_rows c;
        is_wound = omega (arith, ints, some);
      } in
      let one = (tiling.inside p off (in_city rows city tiling p row c inside off)).1 in
      let wound : winding p row.corners ≡ pos 1 =
      subst (λ (r : NumberedRing). winding p r.corners ≡ pos 1) (sym (is_the_row p rows one row c inside)) one.is_in_row in
      omega (arith, ints, wound))
      (λ none. omega (arith, ints, none))

  not_folded : (row : NumberedRing) → Contains rows row → (i j : ℕ) → ¬ IsFolded row.corners i j
  not_folded row c i j fold =
      let ts = fold.0 in
      let made = make_up row.corners ts fold.1 in
      let o = fold.2.has in
      let p = o.meet.0 in
      let in_one = subst (λ t. IsInterior (moved p) (triangle_ring t)) (sym (get_or_from_slice_get ts i o.one o.one o.at_i))
      (moved_interior (triangle_ring o.one) p o.meet.1) in
      let in_other = subst (λ t. IsInterior (moved p) (triangle_ring t)) (sym (get_or_from_slice_get ts j o.other o.one o.at_j))
      (moved_interior (triangle_ring o.other) p o.meet.2) in
      let twice : pos 2 ≤ℤ winding_of_triangles (moved p) ts =
      in_two_of (moved p) o.one ts i j fold.2.ordered fold.2.below in_one in_other in
      let same : winding (moved p) row.corners ≡ winding_of_triangles (moved p) ts = made.windings (moved p) in
      let once : winding (moved p) row.corners ≤ℤ pos 1 = at_most_once (moved p) row c (moved_off rows city p) in
      omega (arith, ints, twice, same, once)

  pub row_is_a_city : (row : NumberedRing) → Contains rows row → (fault : CityFault) → ¬ IsCityFault row.corners fault
  row_is_a_city row c (Ring fault) h =
      simple_has_no_fault row.corners fault (of_each (λ (r : NumberedRing). IsSimpleRing r.corners) rows row simple c) h
  row_is_a_city row c (Folded i j) h = not_folded row c i j h.1
  row_is_a_city row c NoMemory h = h
