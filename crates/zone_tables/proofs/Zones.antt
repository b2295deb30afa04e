-- Parcels and zones that tile one city: each parcel overlaps a zone, and is within a zone exactly where it overlaps
-- this one alone. A point that is moved
-- a little is off all edges, and each ring goes round it as round the point itself.
use Rattle.std.proofs.Common.{◌≡◌, refl, sym, ◌∙◌, ap, subst, arith, ℕ, pos, List}
use Rattle.std.specs.List.{Contains}
use Rattle.std.specs.List.Sorted.{IsStrictlyIncreasing}
use Rattle.std.proofs.lemmas.Int.{ints}
use lib.Signed.{◌≤ℤ◌}
use Rattle.geo_exact.specs.declared.corner.Corner.{Corner}
use Rattle.geo_exact.specs.Point.{Point}
use Rattle.geo_exact.specs.Rings.{edges}
use Rattle.geo_exact.specs.Turn.{IsOnRing}
use Rattle.geo_exact.specs.Winding.{winding, IsInterior}
use Rattle.geo_exact.specs.Layers.{NumberedRing, numbered}
use Rattle.geo_exact.proofs.corners_and_turns.Moved.{moved, moved_interior, moved_off_some, moved_winding}
use Rattle.ring_core.specs.Simple.{IsSimpleRing}
use Rattle.fabric_core.specs.Rows.{numbers}
use Rattle.fabric_core.specs.Tiling.{IsTiling, IsInOne}
use Rattle.fabric_core.specs.Faults.{AreSimple}
use Rattle.fabric_core.proofs.tilings.OneParcel.{of_each}
use Rattle.fabric_core.proofs.tilings.OneRow.{in_city, in_the_row, is_the_row, moved_off}
use Rattle.fabric_core.proofs.rows.RowLists.{ascending, same_row, has_row}
use Rattle.fabric_core.proofs.tilings.InnerPoints.{inner_point}
use Rattle.zone_tables.specs.Overlap.{Overlaps, OverlapsAlone}
use Rattle.zone_tables.specs.Within.{IsOffZones, IsWithinZone}

-- ---- points that are moved
-- a ring that goes round the moved point, and does not have the point itself on an edge, has it inside
moved_back : (p : Point) (ring : List Corner) → ¬ IsOnRing p ring → pos 1 ≤ℤ winding (moved p) ring → IsInterior p ring
moved_back p ring off h = record { off_edges = off; is_wound = rw (← moved_winding ring p) h }

-- a point inside a parcel and off all edges is in the city, and so in one row of any tiling of it
module _ (rows zones : List NumberedRing) (city : List Corner) (tiling : IsTiling rows city) (others : IsTiling zones city) where
  in_one_zone : (p : Point) (row : NumberedRing) → Contains rows row → IsInterior p row.corners → IsInOne (moved p) zones
  in_one_zone p row c i =
      (others.inside (moved p) (moved_off zones city p)
      (in_city rows city tiling (moved p) row c (moved_interior row.corners p i) (moved_off rows city p))).1

  wound_once : (q : Point) (one : IsInOne q zones) → pos 1 ≤ℤ winding q one.row.corners
  wound_once q one = let w : winding q one.row.corners ≡ pos 1 = one.is_in_row in omega (arith, ints, w)

  -- the parcel overlaps the zone that the moved point is in
  overlaps_there : (p : Point) (row : NumberedRing) (c : Contains rows row) (i : IsInterior p row.corners)
      → Overlaps rows zones row.number (in_one_zone p row c i).row.number
  overlaps_there p row c i =
      let one = in_one_zone p row c i in record {
        parcel = row;
        is_row = c;
        has_id = refl;
        region = one.row;
        is_zone = in_the_row (moved p) zones one;
        has_zone = refl;
        interiors_meet = (
          moved p,
          moved_interior row.corners p i,
          record { off_edges = moved_off_some (edges one.row.corners) p; is_wound = wound_once (moved p) one },
        );
      }

  -- each parcel overlaps a zone
  pub overlaps_some : (simple : AreSimple rows) (id : ℕ) → Contains (numbers rows) id → (zone : ℕ) × Overlaps rows zones id zone
  overlaps_some simple id c =
      let w = has_row rows id c in
      let inner = inner_point w.0 (of_each (λ (row : NumberedRing). IsSimpleRing row.corners) rows (numbered id w.0) simple w.1) in
      ((in_one_zone inner.0 (numbered id w.0) w.1 inner.1).row.number, overlaps_there inner.0 (numbered id w.0) w.1 inner.1)

  module _ (up : IsStrictlyIncreasing (numbers rows)) (zones_up : IsStrictlyIncreasing (numbers zones)) where
    one_row : (row other : NumberedRing) → Contains rows row → Contains rows other → row.number ≡ other.number → row ≡ other
    one_row row other c d e = same_row rows row other (ascending rows up) c d e

    one_zone : (row other : NumberedRing) → Contains zones row → Contains zones other → row.number ≡ other.number → row ≡ other
    one_zone row other c d e = same_row zones row other (ascending zones zones_up) c d e

    -- a parcel that overlaps one zone alone is within it
    pub within_its_only : (id zone : ℕ) → OverlapsAlone rows zones id zone → IsWithinZone rows zones id zone
    within_its_only id zone alone =
        let h = alone.overlaps in record {
          parcel = h.parcel;
          is_row = h.is_row;
          has_id = h.has_id;
          region = h.region;
          is_zone = h.is_zone;
          has_zone = h.has_zone;
          is_within = λ p i off.
              let one = in_one_zone p h.parcel h.is_row i in
              let there = overlaps_there p h.parcel h.is_row i in
              let is_it : one.row.number ≡ zone =
              alone.no_other one.row.number (subst (λ n. Overlaps rows zones n one.row.number) h.has_id there) in
              let same : one.row ≡ h.region = one_zone one.row h.region (in_the_row (moved p) zones one) h.is_zone
              (is_it ∙ sym h.has_zone) in
              subst (λ (row : NumberedRing). IsInterior p row.corners) same
              (moved_back p one.row.corners (off one.row (in_the_row (moved p) zones one)) (wound_once (moved p) one));
        }

    off_zones : (p : Point) → IsOffZones (moved p) zones
    off_zones p zone c = moved_off_some (edges zone.corners) p

    -- a parcel that is within a zone overlaps this one alone
    module _ (simple : AreSimple rows) (id zone : ℕ) (h : IsWithinZone rows zones id zone) where
      -- at a point inside the parcel, moved, there is the zone
      there : (p : Point) → IsInterior p h.parcel.corners → IsInterior (moved p) h.region.corners
      there p i = h.is_within (moved p) (moved_interior h.parcel.corners p i) (off_zones p)

      no_other_zone : (other : ℕ) → Overlaps rows zones id other → other ≡ zone
      no_other_zone other k =
          let same : k.parcel ≡ h.parcel = one_row k.parcel h.parcel k.is_row h.is_row (k.has_id ∙ sym h.has_id) in
          let p = k.interiors_meet.0 in
          let i : IsInterior p h.parcel.corners = subst (λ (row : NumberedRing). IsInterior p row.corners) same k.interiors_meet.1 in
          let one = in_one_zone p h.parcel h.is_row i in
          let here : h.region ≡ one.row = is_the_row (moved p) zones one h.region h.is_zone (there p i) in
          let also : k.region ≡ one.row = is_the_row (moved p) zones one k.region k.is_zone
          (moved_interior k.region.corners p k.interiors_meet.2) in
          sym k.has_zone ∙ ap (λ (row : NumberedRing). row.number) (also ∙ sym here) ∙ h.has_zone

      pub overlaps_alone : OverlapsAlone rows zones id zone
      overlaps_alone =
          let inner = inner_point h.parcel.corners (of_each (λ (row : NumberedRing). IsSimpleRing row.corners) rows
          h.parcel simple h.is_row) in record {
            overlaps = record {
              parcel = h.parcel;
              is_row = h.is_row;
              has_id = h.has_id;
              region = h.region;
              is_zone = h.is_zone;
              has_zone = h.has_zone;
              interiors_meet = (moved inner.0, moved_interior h.parcel.corners inner.0 inner.1, there inner.0 inner.1);
            };
            no_other = no_other_zone;
          }
