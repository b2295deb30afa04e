-- Each row of a tiling goes round each place once or not at all, and lies in the city.
use Rattle.std.proofs.Common.{◌≡◌, ◌∙◌, ⊎_elim, sym, subst, arith, List, ◌∷◌}
use Rattle.std.specs.List.{Contains}
use Rattle.std.proofs.lemmas.Int.{ints, by_lt_z}
use Rattle.std.proofs.lemmas.List.Elements.{Contains-append_cases}
use lib.IntN.{ℤ, pos}
use lib.Signed.{◌≤ℤ◌}
use Rattle.geo_exact.specs.declared.corner.Corner.{Corner}
use Rattle.geo_exact.specs.Layers.{NumberedRing}
use Rattle.geo_exact.specs.Point.{Point}
use Rattle.geo_exact.specs.Winding.{winding}
use Rattle.geo_exact.proofs.corners_and_turns.Moved.{moved, moved_interior, moved_winding}
use Rattle.edge_chains.proofs.nodings.NodedEdges.{Contains-cases}
use Rattle.fabric_core.specs.Tiling.{IsTiling, IsInNone, IsInOne, IsOffEdges, IsWoundAtMostOnce}
use Rattle.fabric_core.proofs.tilings.OneParcel.{of_each}
use Rattle.fabric_core.proofs.tilings.OneRow.{in_city, moved_off}
use Rattle.common_areas.specs.Sums.{WindsOnce, IsCoveredBy}

wound_by : (p : Point) (ring : List Corner) (w : ℤ) → winding p ring ≡ w → pos 0 ≤ℤ w → w ≤ℤ pos 1 → IsWoundAtMostOnce p ring
wound_by p ring w e low high = (omega (arith, ints), omega (arith, ints))

wound_in_none : (p : Point) (rows : List NumberedRing) → IsInNone p rows → (row : NumberedRing) → Contains rows row
    → IsWoundAtMostOnce p row.corners
wound_in_none p rows none row c =
    wound_by p row.corners (pos 0) (of_each (λ (r : NumberedRing). winding p r.corners ≡ pos 0) rows row none c)
    (omega (arith, ints)) (omega (arith, ints))

wound_in_one : (p : Point) (rows : List NumberedRing) (one : IsInOne p rows) → (row : NumberedRing) → Contains rows row
    → IsWoundAtMostOnce p row.corners
wound_in_one p rows one row c = ⊎_elim
    (λ before. wound_in_none p one.before one.none_before row before)
    (λ rest. ⊎_elim
    (λ e. subst (λ (r : NumberedRing). IsWoundAtMostOnce p r.corners) e
    (wound_by p one.row.corners (pos 1) one.is_in_row (omega (arith, ints)) (omega (arith, ints))))
    (λ behind. wound_in_none p one.behind one.none_behind row behind)
    (Contains-cases one.row one.behind row rest))
    (Contains-append_cases one.before (one.row ∷ one.behind) row (subst (λ all. Contains all row) one.are_all c))

module _ (rows : List NumberedRing) (city : List Corner) (tiling : IsTiling rows city)
    (row : NumberedRing) (is_row : Contains rows row) where
  wound : (p : Point) → IsOffEdges p rows city → IsWoundAtMostOnce p row.corners
  wound p off = by_lt_z (pos 0) (winding p city)
      (λ some. wound_in_one p rows (tiling.inside p off (record { off_edges = off.off_city; is_wound = omega (arith, ints, some) })).1 row
      is_row)
      (λ none. wound_in_none p rows
      (tiling.outside p off (λ inner. let w : pos 1 ≤ℤ winding p city = inner.is_wound in omega (arith, ints, w, none))).1 row is_row)

  pub winds_once : WindsOnce row.corners
  winds_once p off =
      let w = wound (moved p) (moved_off rows city p) in
      let e : winding (moved p) row.corners ≡ winding p row.corners = moved_winding row.corners p in
      (omega (arith, ints, e, w.0), omega (arith, ints, e, w.1))

  pub is_covered : IsCoveredBy row.corners city
  is_covered p i off =
      let off_edges = moved_off rows city p in
      sym (moved_winding city p)
      ∙ (tiling.inside (moved p) off_edges
      (in_city rows city tiling (moved p) row is_row (moved_interior row.corners p i) off_edges)).0
