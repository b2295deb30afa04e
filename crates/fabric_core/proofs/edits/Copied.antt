-- What is kept of parcels is kept of their copies, too.
use Rattle.std.proofs.Common.{◌≡◌, sym, subst, ℕ, List}
use Rattle.std.specs.List.{All, AllByRecursion}
use Rattle.std.specs.List.Sorted.{IsStrictlyIncreasing}
use Rattle.geo_exact.specs.declared.corner.Corner.{Corner}
use Rattle.geo_exact.specs.Bounds.{HoldsCorner}
use Rattle.cell_index.specs.Cells.{Grid, Indexes}
use Rattle.parcel_table.specs.declared.parcels.Parcel.{Parcel}
use Rattle.parcel_table.specs.Table.{rows_of_keyed, entries_of}
use Rattle.fabric_core.specs.Limits.{AreWithinLimits}
use Rattle.fabric_core.specs.Rows.{numbers}
use Rattle.fabric_core.specs.Tiling.{corner_lists}
use Rattle.fabric_core.specs.own.Alike.{GoAlike}
use Rattle.fabric_core.specs.own.Kept.{IsKept}

pub copied : {A : Type 0} (parcels copies : List (ℕ × Parcel A)) (city refined : List Corner) (index : Grid)
    → rows_of_keyed copies ≡ rows_of_keyed parcels
    → entries_of copies ≡ entries_of parcels → IsKept parcels city refined index → IsKept copies city refined index
copied parcels copies city refined index rows entries h = record {
  ids_rise = subst (λ rows. IsStrictlyIncreasing (numbers rows)) (sym rows) h.ids_rise;
  within = subst AreWithinLimits (sym rows) h.within;
  alike = subst (λ rows. GoAlike (corner_lists rows) refined) (sym rows) h.alike;
  simple_city = h.simple_city;
  wound_once = h.wound_once;
  ground = h.ground;
  area = h.area;
  in_area = subst (AllByRecursion (λ row. All (HoldsCorner index.area) row.corners)) (sym rows) h.in_area;
  indexed = subst (Indexes index) (sym entries) h.indexed;
}
