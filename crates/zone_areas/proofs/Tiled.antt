-- The rows of a tiling go together round each place off all edges as often as the city does.
use Rattle.std.proofs.Common.{◌≡◌, refl, ◌∙◌, sym, ap, arith, List, [], ◌∷◌, ◌++◌}
use Rattle.std.proofs.lemmas.Int.{ints, by_lt_z}
use Rattle.std.specs.List.{AllByRecursion}
use lib.IntN.{ℤ, pos, ◌+ℤ◌}
use Rattle.geo_exact.specs.declared.corner.Corner.{Corner}
use Rattle.geo_exact.specs.Layers.{NumberedRing}
use Rattle.geo_exact.specs.Point.{Point}
use Rattle.geo_exact.specs.Turn.{IsOnRing}
use Rattle.geo_exact.specs.Winding.{winding, IsInterior}
use Rattle.fabric_core.specs.Tiling.{IsTiling, IsOffEdges, IsInNone, corner_lists}
use Rattle.common_areas.specs.Sums.{sum_of_windings, MakeUpOffEdges}

off_rows : (p : Point) (rows : List NumberedRing) → AllByRecursion (λ part. ¬ IsOnRing p part) (corner_lists rows)
    → AllByRecursion (λ row. ¬ IsOnRing p row.corners) rows
off_rows p [] h = tt
off_rows p (row ∷ rows) h = (h.0, off_rows p rows h.1)

in_none : (p : Point) (rows : List NumberedRing) → IsInNone p rows → sum_of_windings p (corner_lists rows) ≡ pos 0
in_none p [] h = refl
in_none p (row ∷ rows) h = omega (arith, ints, h.0, in_none p rows h.1)

in_one : (p : Point) (before : List NumberedRing) (row : NumberedRing) (behind : List NumberedRing)
    → winding p row.corners ≡ pos 1 → IsInNone p before → IsInNone p behind
    → sum_of_windings p (corner_lists (before ++ row ∷ behind)) ≡ pos 1
in_one p [] row behind h b c = omega (arith, ints, h, in_none p behind c)
in_one p (other ∷ before) row behind h b c = omega (arith, ints, b.0, in_one p before row behind h b.1 c)

pub made_up : (zones : List NumberedRing) (city : List Corner) → IsTiling zones city → MakeUpOffEdges (corner_lists zones) city
made_up zones city tiling p off_city off_zones =
    let off : IsOffEdges p zones city = record { off_city = off_city; off_rows = off_rows p zones off_zones } in
    by_lt_z (winding p city) (pos 1)
    (λ h. let out = tiling.outside p off (λ i. absurd (omega (arith, ints, h, i.is_wound))) in
    in_none p zones out.1 ∙ sym out.0)
    (λ h. let i = tiling.inside p off (record { off_edges = off_city; is_wound = h }) in
    ap (λ rows. sum_of_windings p (corner_lists rows)) i.1.are_all
    ∙ in_one p i.1.before i.1.row i.1.behind i.1.is_in_row i.1.none_before i.1.none_behind
    ∙ sym i.0)
