-- Rows that tile districts which tile a city tile the city: at every point the rows' winding numbers sum to the
-- districts', and those to the city's.
use Rattle.std.proofs.Common.{◌≡◌, refl, sym, ◌∙◌, ap, subst, arith, ℤ, pos, ◌+ℤ◌, List, [], ◌∷◌, ◌++◌}
use Rattle.std.specs.List.{AllByRecursion}
use Rattle.std.proofs.lemmas.Int.{ints}
use Rattle.std.proofs.lemmas.List.{map-append}
use lib.Signed.{◌≤ℤ◌}
use Rattle.geo_exact.specs.declared.corner.Corner.{Corner}
use Rattle.geo_exact.specs.Point.{Point}
use Rattle.geo_exact.specs.Winding.{winding}
use Rattle.geo_exact.specs.Area.{area2}
use Rattle.geo_exact.specs.Layers.{NumberedRing}
use Rattle.edge_chains.specs.Net.{sum_of_rings, winding_of_rings, area2_of_rings}
use Rattle.fabric_core.specs.Tiling.{corner_lists, IsTiling}
use Rattle.fabric_core.proofs.rows.RowLists.{AllByRecursion-append}
use Rattle.district_laws.specs.Districts.{District, IsDistrict, AreDistricts, district_rows, all_rows}
use Rattle.district_laws.proofs.Sums.{NoneNegative, summed, tiles_where_summed}

sum_of_both : (number : List Corner → ℤ) (rings others : List (List Corner))
    → sum_of_rings number (rings ++ others) ≡ sum_of_rings number rings +ℤ sum_of_rings number others
sum_of_both number [] others = omega (arith, ints)
sum_of_both number (ring ∷ rings) others = omega (arith, ints, sum_of_both number rings others)

-- the rings of all districts, one district's behind the other's
lists_of_all : (district : District) (districts : List District)
    → corner_lists (all_rows (district ∷ districts)) ≡ corner_lists district.rows ++ corner_lists (all_rows districts)
lists_of_all district districts = map-append (λ (row : NumberedRing). row.corners) district.rows (all_rows districts)

all_not_negative : (p : Point) (districts : List District) → AllByRecursion IsDistrict districts
    → NoneNegative p (corner_lists (all_rows districts))
all_not_negative p [] h = tt
all_not_negative p (district ∷ districts) h =
    subst (NoneNegative p) (sym (lists_of_all district districts))
    (AllByRecursion-append (λ ring. pos 0 ≤ℤ winding p ring) (corner_lists district.rows) (corner_lists (all_rows districts))
    (summed district.rows district.outline h.0.tiling p).none_negative (all_not_negative p districts h.1))

-- where the rows of each district together have the number of its row, all rows together have that of the districts
sums_of_all : (number : List Corner → ℤ) (districts : List District)
    → AllByRecursion (λ (district : District). sum_of_rings number (corner_lists district.rows) ≡ number district.row.corners) districts
    → sum_of_rings number (corner_lists (all_rows districts)) ≡ sum_of_rings number (corner_lists (district_rows districts))
sums_of_all number [] h = refl
sums_of_all number (district ∷ districts) h =
    ap (sum_of_rings number) (lists_of_all district districts)
    ∙ sum_of_both number (corner_lists district.rows) (corner_lists (all_rows districts))
    ∙ ap (λ z. z +ℤ sum_of_rings number (corner_lists (all_rows districts))) h.0
    ∙ ap (λ z. number district.row.corners +ℤ z) (sums_of_all number districts h.1)

each_winding : (p : Point) (districts : List District) → AllByRecursion IsDistrict districts
    → AllByRecursion (λ (district : District). winding_of_rings p (corner_lists district.rows) ≡ winding p district.row.corners) districts
each_winding p [] h = tt
each_winding p (district ∷ districts) h = (
  (summed district.rows district.outline h.0.tiling p).sums ∙ sym (h.0.covers.winding_number p),
  each_winding p districts h.1,
)

each_area : (districts : List District) → AllByRecursion IsDistrict districts
    → AllByRecursion (λ (district : District). area2_of_rings (corner_lists district.rows) ≡ area2 district.row.corners) districts
each_area [] h = tt
each_area (district ∷ districts) h = (h.0.tiling.areas ∙ sym h.0.covers.signed_area, each_area districts h.1)

pub all_tile : (districts : List District) (city : List Corner) → AreDistricts districts city → IsTiling (all_rows districts) city
all_tile districts city h =
    tiles_where_summed (all_rows districts) city
    (λ p. let over = summed (district_rows districts) city h.tiling p in record {
      none_negative = all_not_negative p districts h.each;
      sums = sums_of_all (winding p) districts (each_winding p districts h.each) ∙ over.sums;
      once = over.once;
    })
    (sums_of_all area2 districts (each_area districts h.each) ∙ h.tiling.areas)
