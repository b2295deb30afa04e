use Rattle.std.proofs.Common.{◌≡◌, ◌++◌, drop, ℕ, List}
use Rattle.std.specs.List.{Contains}
use Rattle.geo_exact.specs.Layers.{NumberedRing}
use Rattle.geo_exact.specs.Point.{corner_point}
use Rattle.parcel_table.specs.declared.parcels.Parcel.{Parcel}
use Rattle.parcel_table.specs.Table.{rows_of_keyed, entries_of}
use Rattle.fabric_core.specs.own.Sides.{IsFound}
use Rattle.fabric_core.proofs.places.Located.{AreSearched}
use Rattle.fabric_core.proofs.locate.search.Given as goal

abbrev pub invariant-loop-entry : goal.invariant-loop-entry
invariant-loop-entry g l =
    (some : List (ℕ × Parcel g.row.A.Denot)) → l.entries ≡ entries_of some → ((parcel : ℕ × Parcel g.row.A.Denot)
    → Contains some parcel → Contains l.parcels.parcels parcel)
    → (rows : List NumberedRing) → IsFound rows (corner_point l.corner) l.initial.on_edge.items
    → AreSearched (corner_point l.corner) (rows ++ rows_of_keyed some) (drop l.entry-index (rows_of_keyed some)) l.on_edge.items
