-- Places off all edges in a tiling: each that is inside a row is in the city, and in that one row. A point that is
-- moved a little is such a place.
use Rattle.std.proofs.Common.{◌≡◌, ⊎_elim, sym, subst, arith, pos, List, ◌∷◌}
use Rattle.std.specs.List.{Contains}
use Rattle.std.proofs.lemmas.Int.{ints, by_lt_z}
use Rattle.std.proofs.lemmas.List.Elements.{Contains-append_right, Contains-append_cases}
use lib.Signed.{◌≤ℤ◌}
use Rattle.geo_exact.specs.declared.corner.Corner.{Corner}
use Rattle.geo_exact.specs.Point.{Point}
use Rattle.geo_exact.specs.Rings.{edges}
use Rattle.geo_exact.specs.Turn.{IsOnRing}
use Rattle.geo_exact.specs.Winding.{winding, IsInterior}
use Rattle.geo_exact.specs.Layers.{NumberedRing}
use Rattle.geo_exact.proofs.corners_and_turns.Moved.{moved, moved_off_some}
use Rattle.edge_chains.proofs.nodings.NodedEdges.{Contains-here, Contains-cases, all_from_contains}
use Rattle.fabric_core.specs.Tiling.{IsTiling, IsOffEdges, IsInNone, IsInOne}
use Rattle.fabric_core.proofs.tilings.OneParcel.{of_each}

pub moved_off : (rows : List NumberedRing) (city : List Corner) (p : Point) → IsOffEdges (moved p) rows city
moved_off rows city p = record {
  off_city = moved_off_some (edges city) p;
  off_rows = all_from_contains (λ (row : NumberedRing). ¬ IsOnRing (moved p) row.corners) rows (λ row c.
      moved_off_some (edges row.corners) p);
}

pub in_the_row : (p : Point) (rows : List NumberedRing) (one : IsInOne p rows) → Contains rows one.row
in_the_row p rows one =
    subst (λ all. Contains all one.row) (sym one.are_all)
    (Contains-append_right one.before (one.row ∷ one.behind) one.row (Contains-here one.row one.behind))

pub not_in_none : (p : Point) (rows : List NumberedRing) (row : NumberedRing) → IsInNone p rows → Contains rows row
    → ¬ IsInterior p row.corners
not_in_none p rows row none c i =
    let zero : winding p row.corners ≡ pos 0 = of_each (λ (r : NumberedRing). winding p r.corners ≡ pos 0) rows row none c in
    let some : pos 1 ≤ℤ winding p row.corners = i.is_wound in omega (arith, ints, zero, some)

-- a row with the point inside is the one row that it is in
pub is_the_row : (p : Point) (rows : List NumberedRing) (one : IsInOne p rows) (row : NumberedRing)
    → Contains rows row → IsInterior p row.corners
    → row ≡ one.row
is_the_row p rows one row c i = ⊎_elim
    (λ before. absurd (not_in_none p one.before row one.none_before before i))
    (λ rest. ⊎_elim (λ e. sym e) (λ behind. absurd (not_in_none p one.behind row one.none_behind behind i))
    (Contains-cases one.row one.behind row rest))
    (Contains-append_cases one.before (one.row ∷ one.behind) row (subst (λ all. Contains all row) one.are_all c))

-- what is inside a row and off all edges is in the city
pub in_city : (rows : List NumberedRing) (city : List Corner) → IsTiling rows city → (p : Point) (row : NumberedRing)
    → Contains rows row → IsInterior p row.corners → IsOffEdges p rows city → IsInterior p city
in_city rows city tiling p row c i off =
    by_lt_z (pos 0) (winding p city)
    (λ some. record { off_edges = off.off_city; is_wound = omega (arith, ints, some) })
    (λ none. absurd (not_in_none p rows row
    (tiling.outside p off (λ inner. let w : pos 1 ≤ℤ winding p city = inner.is_wound in omega (arith, ints, w, none))).1 c i))
