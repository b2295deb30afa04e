use Rattle.std.proofs.Common.{◌≡◌, subst, ℕ, None}
use Rattle.fabric_core.specs.Tiling.{IsTiling}
use Rattle.ring_edits.specs.Edits.{CoversAlike}
use Rattle.fabric_core.specs.Limits.{AreWithinLimits}
use Rattle.fabric_core.specs.GridIndex.{IsIndexed}
use Rattle.fabric_core.specs.own.Kept.{Kept, gone_by}
use Rattle.std.specs.List.{All, AllByRecursion, Contains}
use Rattle.fabric_core.specs.Rows.{numbers}
use Rattle.geo_exact.specs.Bounds.{HoldsCorner}
use Rattle.parcel_table.specs.Table.{rows_of_keyed}
use Rattle.fabric_core.specs.own.Balanced.{IsBalanced}
use Rattle.fabric_core.specs.own.Changes.{state_of}
use Rattle.fabric_core.proofs.rows.RowLists.{ascending}
use Rattle.fabric_core.proofs.edits.Exchanged.{simple_keyed}
use Rattle.fabric_core.proofs.edits.Exchanges.{has_id, rows_below}
use Rattle.fabric_core.proofs.loads.Loaded.{is_indexed, kept_tiles}
use Rattle.fabric_core.proofs.tiled.Tiled.use_invariant.Goals as goal

pub returns-clause-tiling : goal.returns-clause-tiling
returns-clause-tiling g c =
    subst (λ (t : Kept). IsTiling t.rows t.city) c.self.view_is
    (kept_tiles c.self.inside.parcels.parcels c.self.inside.city c.self.inside.refined c.self.inside.index c.self.invariant)

pub returns-clause-within : goal.returns-clause-within
returns-clause-within g c = subst (λ (t : Kept). AreWithinLimits t.rows) c.self.view_is c.self.invariant.within

pub returns-clause-indexed : goal.returns-clause-indexed
returns-clause-indexed g c =
    subst (λ (t : Kept). IsIndexed t.rows t.city t.index) c.self.view_is
    (is_indexed c.self.inside.parcels.parcels c.self.inside.city c.self.inside.refined c.self.inside.index c.self.invariant
    c.use_invariant.ensures.keys)

pub returns-clause-ground : goal.returns-clause-ground
returns-clause-ground g c = subst (λ (t : Kept). CoversAlike t.city t.refined) c.self.view_is c.self.invariant.ground

pub returns-clause-in_area : goal.returns-clause-in_area
returns-clause-in_area g c =
    subst (λ (t : Kept). AllByRecursion (λ row. All (HoldsCorner t.index.area) row.corners) t.rows) c.self.view_is
    c.self.invariant.in_area

pub returns-clause-balanced : goal.returns-clause-balanced
returns-clause-balanced g c =
    let parcels = c.self.inside.parcels.parcels in
    subst (λ (t : Kept). IsBalanced (state_of t)) c.self.view_is (record {
      ids = record {
        up = ascending (rows_of_keyed parcels) c.self.invariant.ids_rise;
        below = rows_below c.self.inside.parcels.next parcels (λ id here. c.use_invariant.ensures.below id here);
      };
      simple = simple_keyed parcels;
      simple_city = c.self.invariant.simple_city;
      alike = c.self.invariant.alike;
    })

pub returns-clause-here : goal.returns-clause-here
returns-clause-here g c =
    subst (λ (t : Kept). (id : ℕ) → Contains (numbers t.rows) id → gone_by t id ≡ None) c.self.view_is
    (λ id there. c.use_invariant.ensures.here id (has_id c.self.inside.parcels.parcels id there))
