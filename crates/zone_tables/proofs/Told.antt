-- What the pairs of a table tell of its parcels: which are split by zones, and within which zone each other one is.
use Rattle.std.proofs.Common.{◌≡◌, ◌⊎◌, inl, inr, ⊎_elim, refl, sym, ◌∙◌, ap, subst, ℕ, List, map}
use Rattle.std.specs.Prelude.{◌↔◌}
use Rattle.std.specs.List.{Contains}
use Rattle.std.specs.List.Sorted.{IsStrictlyIncreasing}
use Rattle.geo_exact.specs.declared.corner.Corner.{Corner}
use Rattle.geo_exact.specs.Layers.{NumberedRing}
use Rattle.fabric_core.specs.Rows.{numbers}
use Rattle.fabric_core.specs.Tiling.{IsTiling}
use Rattle.fabric_core.specs.Faults.{AreSimple}
use Rattle.fabric_core.proofs.rows.RowLists.{Contains-mapped}
use Rattle.zone_tables.specs.Overlap.{Overlay, OverlapsAlone, IsOverlapTable, IsSplitZoned, AreSplitZoned}
use Rattle.zone_tables.specs.Within.{IsWithinZone}
use Rattle.zone_tables.specs.Report.{AreWithinZones, IsReport}
use Rattle.zone_tables.specs.own.Zonings.{zonings, split_ids, single_zones, IsOnlyZone}
use Rattle.zone_tables.specs.own.Texts.{report_text}
use Rattle.zone_tables.proofs.Zones.{overlaps_some, within_its_only, overlaps_alone}
use Rattle.zone_tables.proofs.Zonings.{AreTold, HasTwo, zonings_told, split_exactly, single_exactly, split_or_single}
use Rattle.zone_tables.proofs.Zonings.{splits_rise, singles_rise}

-- the table's parcels, zones and city
pub record Stands (rows zones : List NumberedRing) (city : List Corner) (pairs : List (ℕ × ℕ)) : Type 0 where
  pub table : IsOverlapTable rows zones pairs
  pub tiling : IsTiling rows city
  pub zones_tile : IsTiling zones city
  pub simple : AreSimple rows
  pub ids_rise : IsStrictlyIncreasing (numbers rows)
  pub zones_rise : IsStrictlyIncreasing (numbers zones)

module _ (rows zones : List NumberedRing) (pairs : List (ℕ × ℕ)) (table : IsOverlapTable rows zones pairs) where
  two_are_split : (id : ℕ) → HasTwo pairs id ↔ IsSplitZoned rows zones id
  two_are_split id = (
    (λ h. record {
      zone = h.0;
      other = h.1;
      are_two = h.2;
      overlaps = (table.exactly id h.0).0 h.3;
      overlaps_other = (table.exactly id h.1).0 h.4;
    }),
    (λ h. (h.zone, h.other, h.are_two, (table.exactly id h.zone).1 h.overlaps, (table.exactly id h.other).1 h.overlaps_other)),
  )

  pub one_is_alone : (id zone : ℕ) → IsOnlyZone pairs id zone ↔ OverlapsAlone rows zones id zone
  one_is_alone id zone = (
    (λ h. record { overlaps = (table.exactly id zone).0 h.0; no_other = λ other k. h.1 other ((table.exactly id other).1 k) }),
    (λ h. ((table.exactly id zone).1 h.overlaps, λ other k. h.no_other other ((table.exactly id other).0 k))),
  )

  told : AreTold pairs (zonings pairs)
  told = zonings_told pairs table.ascend

  -- the ids of those with two pairs are the split-zoned parcels
  pub are_split : AreSplitZoned rows zones (split_ids (zonings pairs))
  are_split = record {
    ascend = splits_rise (zonings pairs) told.up;
    exactly = λ id. (
      (λ c. (two_are_split id).0 ((split_exactly pairs (zonings pairs) told id).0 c)),
      (λ h. (split_exactly pairs (zonings pairs) told id).1 ((two_are_split id).1 h)),
    );
  }

module _ (rows zones : List NumberedRing) (city : List Corner) (pairs : List (ℕ × ℕ)) (stands : Stands rows zones city pairs) where
  within_is_alone : (id zone : ℕ) → IsWithinZone rows zones id zone ↔ OverlapsAlone rows zones id zone
  within_is_alone id zone = (
    overlaps_alone rows zones city stands.tiling stands.zones_tile stands.ids_rise stands.zones_rise stands.simple id zone,
    within_its_only rows zones city stands.tiling stands.zones_tile stands.ids_rise stands.zones_rise id zone,
  )

  -- the only zone that the pairs have of a parcel is the one that it is within
  pub only_is_within : (id zone : ℕ) → IsOnlyZone pairs id zone ↔ IsWithinZone rows zones id zone
  only_is_within id zone = (
    (λ h. (within_is_alone id zone).1 ((one_is_alone rows zones pairs stands.table id zone).0 h)),
    (λ h. (one_is_alone rows zones pairs stands.table id zone).1 ((within_is_alone id zone).0 h)),
  )

  are_told : AreTold pairs (zonings pairs)
  are_told = zonings_told pairs stands.table.ascend

  -- the others are within their zones
  pub are_within : AreWithinZones rows zones (single_zones (zonings pairs))
  are_within = record {
    ascend = singles_rise (zonings pairs) are_told.up;
    exactly = λ id zone. (
      (λ c. (only_is_within id zone).0 ((single_exactly pairs (zonings pairs) are_told id zone).0 c)),
      (λ h. (single_exactly pairs (zonings pairs) are_told id zone).1 ((only_is_within id zone).1 h)),
    );
  }

  each_told : (id : ℕ) → Contains (numbers rows) id → Contains (split_ids (zonings pairs)) id
      ⊎ Contains (map (λ (p : ℕ × ℕ). p.0) (single_zones (zonings pairs))) id
  each_told id c =
      let w = overlaps_some rows zones city stands.tiling stands.zones_tile stands.simple id c in
      ⊎_elim (λ h. inl h)
      (λ h. inr (Contains-mapped (λ (p : ℕ × ℕ). p.0) (single_zones (zonings pairs)) (id, h.0) h.1))
      (split_or_single pairs (zonings pairs) are_told id w.0 ((stands.table.exactly id w.0).1 w.1))

  pub is_report : (entries : ℕ) → IsReport (record {
    rows = rows;
    zones = zones;
    city = city;
    pairs = pairs;
    entries =
        entries;
  }) (report_text entries pairs)
  is_report entries = record {
    is_table = stands.table;
    splits = split_ids (zonings pairs);
    are_split = are_split rows zones pairs stands.table;
    others = single_zones (zonings pairs);
    are_within = are_within;
    each_is_told = each_told;
    is_text = refl;
  }

-- the text that is made of a table's pairs and count is its report
pub table_report : (table : Overlay) (entries : ℕ) (pairs : List (ℕ × ℕ)) → IsOverlapTable table.rows table.zones table.pairs
    → IsTiling table.rows table.city → IsTiling table.zones table.city → AreSimple table.rows
    → IsStrictlyIncreasing (numbers table.rows) → IsStrictlyIncreasing (numbers table.zones)
    → entries ≡ table.entries → pairs ≡ table.pairs → IsReport table (report_text entries pairs)
table_report table entries pairs are_all tiling zones_tile simple ids_rise zones_rise e s =
    subst (IsReport table) (ap (λ n. report_text n table.pairs) (sym e) ∙ ap (report_text entries) (sym s))
    (is_report table.rows table.zones table.city table.pairs
    (record {
      table = are_all;
      tiling = tiling;
      zones_tile = zones_tile;
      simple = simple;
      ids_rise = ids_rise;
      zones_rise = zones_rise;
    }) table.entries)
