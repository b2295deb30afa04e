-- Districts whose own layers have the rings of their records for cities.
use Rattle.std.proofs.Common.{refl, sym, ◌∙◌, subst, List, [], ◌∷◌}
use Rattle.std.specs.List.{AllByRecursion, AllZip}
use Rattle.geo_exact.specs.declared.corner.Corner.{Corner}
use Rattle.geo_exact.specs.Layers.{NumberedRing}
use Rattle.geo_exact.specs.Rings.{begun_at_least}
use Rattle.ring_edits.specs.Edits.{CoversAlike}
use Rattle.ring_edits.proofs.PutGround.{begun_covers}
use Rattle.fabric_core.specs.Rows.{IsRowOf}
use Rattle.fabric_core.proofs.tilings.Tilings.{noded_ground}
use Rattle.district_laws.specs.Districts.{District, IsDistrict, IsLayerOf, district_rows}

covers_itself : (ring : List Corner) → CoversAlike ring ring
covers_itself ring = record { winding_number = λ p. refl; boundary = λ p. (λ k. k, λ k. k); signed_area = refl }

-- two rings that cover what a third does cover alike
covers_both : (ring one other : List Corner) → CoversAlike ring one → CoversAlike ring other → CoversAlike one other
covers_both ring one other h k = record {
  winding_number = λ p. k.winding_number p ∙ sym (h.winding_number p);
  boundary = λ p. (λ on. (h.boundary p).1 ((k.boundary p).0 on), λ on. (k.boundary p).1 ((h.boundary p).0 on));
  signed_area = k.signed_area ∙ sym h.signed_area;
}

pub row_covers : (corners : List Corner) (record_ring row : NumberedRing) → IsRowOf corners record_ring row
    → CoversAlike (begun_at_least record_ring.corners) row.corners
row_covers corners record_ring row h =
    let ring = record_ring.corners in
    covers_both ring (begun_at_least ring) row.corners (begun_covers ring ring (covers_itself ring))
    (subst (CoversAlike ring) (sym h.is_begun) (begun_covers ring h.noded (noded_ground ring corners h.noded h.is_noded)))

pub are_districts : (corners : List Corner) (records : List NumberedRing) (districts : List District)
    → AllZip (IsRowOf corners) records (district_rows districts) → AllZip IsLayerOf records districts
    → AllByRecursion IsDistrict districts
are_districts corners [] [] h k = tt
are_districts corners [] (district ∷ districts) h k = absurd k
are_districts corners (record_ring ∷ records) [] h k = absurd k
are_districts corners (record_ring ∷ records) (district ∷ districts) h k = (
  record {
    covers =
        subst (λ outline. CoversAlike outline district.row.corners) (sym k.0.is_outline)
        (row_covers corners record_ring district.row h.0);
    tiling = k.0.tiling;
  },
  are_districts corners records districts h.1 k.1,
)
