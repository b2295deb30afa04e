-- Which parcels and zones overlap, district by district: a common inner point lies in one district. And a zone that is
-- cut into pieces overlaps what one of them does.
use Rattle.std.proofs.Common.{◌≡◌, refl, sym, ◌∙◌, ap, subst, arith, ℕ, ℤ, pos, List, [], ◌∷◌, map}
use Rattle.std.specs.Prelude.{◌↔◌}
use Rattle.std.specs.List.{AllByRecursion, Contains}
use Rattle.std.proofs.lemmas.Int.{ints}
use lib.Signed.{◌≤ℤ◌}
use Rattle.geo_exact.specs.declared.corner.Corner.{Corner}
use Rattle.geo_exact.specs.Interiors.{InteriorsMeet}
use Rattle.geo_exact.specs.Layers.{NumberedRing}
use Rattle.geo_exact.specs.Point.{Point}
use Rattle.geo_exact.specs.Rings.{edges}
use Rattle.geo_exact.specs.Winding.{winding}
use Rattle.geo_exact.proofs.corners_and_turns.Moved.{moved, moved_interior, moved_off_some}
use Rattle.edge_chains.specs.Net.{winding_of_rings}
use Rattle.fabric_core.specs.Tiling.{corner_lists}
use Rattle.fabric_core.proofs.rows.RowLists.{Contains-mapped, Contains-from_mapped}
use Rattle.fabric_core.proofs.tilings.OneParcel.{of_each}
use Rattle.zone_tables.specs.Overlap.{Overlaps, IsOverlapTable}
use Rattle.district_laws.specs.Districts.{District, IsDistrict, district_rows, all_rows}
use Rattle.district_laws.specs.Zones.{ZonedDistrict, zone_layer, parcel_layers, zone_layers, AreZonedDistricts, IsCutZone}
use Rattle.district_laws.proofs.Sums.{IsSummed, summed, wound_by_one, one_goes_round}
use Rattle.district_laws.proofs.Located.{row_of_some, row_of_all, goes_round, tiles_itself}

-- the districts have one list of rows, with parcels and with zones
rows_of_layers : (districts : List ZonedDistrict) → district_rows (parcel_layers districts)
    ≡ map (λ (district : ZonedDistrict). district.parcels.row) districts
rows_of_layers [] = refl
rows_of_layers (district ∷ districts) = ap (λ rows. district.parcels.row ∷ rows) (rows_of_layers districts)

module _ (districts : List ZonedDistrict) (city : List Corner) (h : AreZonedDistricts districts city) where
  parcels_of : (district : ZonedDistrict) → Contains districts district → IsDistrict district.parcels
  parcels_of district c =
      of_each IsDistrict (parcel_layers districts) district.parcels h.parcels.each
      (Contains-mapped (λ (z : ZonedDistrict). z.parcels) districts district c)

  zones_of : (district : ZonedDistrict) → Contains districts district → IsDistrict (zone_layer district)
  zones_of district c =
      of_each IsDistrict (zone_layers districts) (zone_layer district) h.zones.each (Contains-mapped zone_layer districts district c)

  -- no two districts go round one point
  same_district : (p : Point) (one other : ZonedDistrict) → Contains districts one → Contains districts other
      → pos 1 ≤ℤ winding p one.parcels.row.corners → pos 1 ≤ℤ winding p other.parcels.row.corners → one ≡ other
  same_district p one other c d i j =
      let rows : List NumberedRing = map (λ (district : ZonedDistrict). district.parcels.row) districts in
      let s = subst (λ all. IsSummed p (corner_lists all) city) (rows_of_layers districts)
      (summed (district_rows (parcel_layers districts)) city h.parcels.tiling p) in
      one_goes_round (λ (district : ZonedDistrict). district.parcels.row) p districts one other s.none_negative
      (most (winding_of_rings p (corner_lists rows)) (winding p city) s.sums s.once.1) c d i j
    where
      most : (z w : ℤ) → z ≡ w → w ≤ℤ pos 1 → z ≤ℤ pos 1
      most z w e k = omega (arith, ints, e, k)

  -- a parcel of one district and a zone of another have no common inner point
  pub in_one_district : (one other : ZonedDistrict) (parcel zone : NumberedRing) → Contains districts one → Contains districts other
      → Contains one.parcels.rows parcel → Contains other.zones zone → InteriorsMeet parcel.corners zone.corners → one ≡ other
  in_one_district one other parcel zone c d k l meet =
      same_district meet.0 one other c d
      (goes_round one.parcels (parcels_of one c) meet.0 parcel k meet.1.is_wound)
      (goes_round (zone_layer other) (zones_of other d) meet.0 zone l meet.2.is_wound)

  pub overlaps_in_one : (id zone : ℕ) → Overlaps (all_rows (parcel_layers districts)) (all_rows (zone_layers districts)) id zone
      ↔ ((district : ZonedDistrict) × Contains districts district × Overlaps district.parcels.rows district.zones id zone)
  overlaps_in_one id zone = (
    λ o. let w = row_of_some (parcel_layers districts) o.parcel o.is_row in
        let one = Contains-from_mapped (λ (z : ZonedDistrict). z.parcels) districts w.0 w.1 in
        let v = row_of_some (zone_layers districts) o.region o.is_zone in
        let other = Contains-from_mapped zone_layer districts v.0 v.1 in
        let mine : Contains one.0.parcels.rows o.parcel = subst (λ (z : District). Contains z.rows o.parcel) (sym one.2) w.2 in
        let theirs : Contains other.0.zones o.region = subst (λ (z : District). Contains z.rows o.region) (sym other.2) v.2 in
        let same : one.0 ≡ other.0 = in_one_district one.0 other.0 o.parcel o.region one.1 other.1 mine theirs o.interiors_meet in (
          one.0,
          one.1,
          record {
            parcel = o.parcel;
            is_row = mine;
            has_id = o.has_id;
            region = o.region;
            is_zone = subst (λ (z : ZonedDistrict). Contains z.zones o.region) (sym same) theirs;
            has_zone = o.has_zone;
            interiors_meet = o.interiors_meet;
          },
        ),
    λ w. record {
      parcel = w.2.parcel;
      is_row =
          row_of_all (parcel_layers districts) w.0.parcels w.2.parcel
          (Contains-mapped (λ (z : ZonedDistrict). z.parcels) districts w.0 w.1) w.2.is_row;
      has_id = w.2.has_id;
      region = w.2.region;
      is_zone =
          row_of_all (zone_layers districts) (zone_layer w.0) w.2.region (Contains-mapped zone_layer districts w.0 w.1) w.2.is_zone;
      has_zone = w.2.has_zone;
      interiors_meet = w.2.interiors_meet;
    },
  )

  -- the pairs of the whole are those of the districts
  pub table_of_tables : (table : ZonedDistrict → List (ℕ × ℕ)) (pairs : List (ℕ × ℕ))
      → IsOverlapTable (all_rows (parcel_layers districts)) (all_rows (zone_layers districts)) pairs
      → ((district : ZonedDistrict) → Contains districts district
      → IsOverlapTable district.parcels.rows district.zones (table district))
      → (id zone : ℕ) → Contains pairs (id, zone)
      ↔ ((district : ZonedDistrict) × Contains districts district × Contains (table district) (id, zone))
  table_of_tables table pairs whole each id zone = (
    λ c. let w = (overlaps_in_one id zone).0 ((whole.exactly id zone).0 c) in
        (w.0, w.1, ((each w.0 w.1).exactly id zone).1 w.2),
    λ w. (whole.exactly id zone).1 ((overlaps_in_one id zone).1 (w.0, w.1, ((each w.0 w.1).exactly id zone).0 w.2)),
  )

-- ---- zones that are cut
-- a ring meets a zone's inside where it meets a piece's
pub meets_a_piece : (zone : District) → IsDistrict zone → (ring : List Corner) → InteriorsMeet ring zone.row.corners
    ↔ ((piece : NumberedRing) × Contains zone.rows piece × InteriorsMeet ring piece.corners)
meets_a_piece zone h ring = (
  λ meet. let q = moved meet.0 in
      let s = summed zone.rows zone.row.corners (tiles_itself zone h) q in
      let w = wound_by_one q zone.rows (subst (λ z. pos 1 ≤ℤ z) (sym s.sums) (moved_interior zone.row.corners meet.0 meet.2).is_wound) in (
        w.0,
        w.1,
        (
          q,
          moved_interior ring meet.0 meet.1,
          record { off_edges = moved_off_some (edges w.0.corners) meet.0; is_wound = w.2 },
        ),
      ),
  λ w. let q = moved w.2.0 in (
    q,
    moved_interior ring w.2.0 w.2.1,
    record {
      off_edges = moved_off_some (edges zone.row.corners) w.2.0;
      is_wound = goes_round zone h q w.0 w.1 (moved_interior w.0.corners w.2.0 w.2.2).is_wound;
    },
  ),
)

module _ (zones : List District) (cut : AllByRecursion IsCutZone zones) where
  is_cut : (zone : District) → Contains zones zone → IsCutZone zone
  is_cut zone c = of_each IsCutZone zones zone cut c

  -- cutting zones changes no pair
  pub overlaps_pieces : (rows : List NumberedRing) (id zone : ℕ) → Overlaps rows (all_rows zones) id zone
      ↔ Overlaps rows (district_rows zones) id zone
  overlaps_pieces rows id zone = (
    λ o. let w = row_of_some zones o.region o.is_zone in
        let cut_zone = is_cut w.0 w.1 in
        let same : o.region.number ≡ w.0.row.number =
        of_each (λ (piece : NumberedRing). piece.number ≡ w.0.row.number) w.0.rows o.region cut_zone.same_number w.2 in
        record {
          parcel = o.parcel;
          is_row = o.is_row;
          has_id = o.has_id;
          region = w.0.row;
          is_zone = Contains-mapped (λ (z : District). z.row) zones w.0 w.1;
          has_zone = sym same ∙ o.has_zone;
          interiors_meet = (meets_a_piece w.0 cut_zone.is_tiled o.parcel.corners).1 (o.region, w.2, o.interiors_meet);
        },
    λ o. let w = Contains-from_mapped (λ (z : District). z.row) zones o.region o.is_zone in
        let cut_zone = is_cut w.0 w.1 in
        let piece = (meets_a_piece w.0 cut_zone.is_tiled o.parcel.corners).0
        (subst (λ (row : NumberedRing). InteriorsMeet o.parcel.corners row.corners) (sym w.2) o.interiors_meet) in
        let same : piece.0.number ≡ w.0.row.number =
        of_each (λ (z : NumberedRing). z.number ≡ w.0.row.number) w.0.rows piece.0 cut_zone.same_number piece.1 in
        record {
          parcel = o.parcel;
          is_row = o.is_row;
          has_id = o.has_id;
          region = piece.0;
          is_zone = row_of_all zones w.0 piece.0 w.1 piece.1;
          has_zone = same ∙ ap (λ (row : NumberedRing). row.number) w.2 ∙ o.has_zone;
          interiors_meet = piece.2;
        },
  )

-- zones in another order, or with other zones between
pub same_zones : (rows zones others : List NumberedRing) → ((row : NumberedRing) → Contains zones row → Contains others row)
    → (id zone : ℕ) → Overlaps rows zones id zone → Overlaps rows others id zone
same_zones rows zones others keeps id zone o = record {
  parcel = o.parcel;
  is_row = o.is_row;
  has_id = o.has_id;
  region = o.region;
  is_zone = keeps o.region o.is_zone;
  has_zone = o.has_zone;
  interiors_meet = o.interiors_meet;
}
