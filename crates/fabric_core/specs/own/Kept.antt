-- What the parcels that tile a city keep, with the index of their boxes. Public contracts do not speak of it.
use Rattle.std.specs.Prelude.{◌≡◌, ℕ, ◌+◌, ◌^◌, ◌≤◌, nat_eq, if◌then◌else◌, List, [], ◌∷◌, ◌++◌, length, map, Option}
use Rattle.std.specs.Prelude.{Some, None, slice_index_or}
use Rattle.std.specs.List.{All, AllByRecursion, list_any}
use Rattle.std.specs.List.Sorted.{IsStrictlyIncreasing}
use Rattle.geo_exact.specs.declared.corner.Corner.{Corner}
use Rattle.geo_exact.specs.Point.{Point}
use Rattle.geo_exact.specs.declared.limits.TheConstants.{LAYER_RECORDS, RING_CORNERS}
use Rattle.geo_exact.specs.Bounds.{HoldsCorner, IsLeastBox}
use Rattle.geo_exact.specs.Layers.{NumberedRing}
use Rattle.ring_core.specs.Simple.{IsSimpleRing}
use Rattle.cell_index.specs.declared.entry.IndexEntry.{IndexEntry}
use Rattle.cell_index.specs.Cells.{Grid, Indexes}
use Rattle.parcel_table.specs.declared.parcels.Parcel.{Parcel}
use Rattle.parcel_table.specs.Table.{rows_of_keyed, entries_of}
use Rattle.fabric_core.specs.Tiling.{corner_lists, IsWoundAtMostOnce}
use Rattle.ring_edits.specs.Edits.{CoversAlike}
use Rattle.fabric_core.specs.Rows.{numbers, Tiles}
use Rattle.fabric_core.specs.Limits.{AreWithinLimits}
use Rattle.fabric_core.specs.Journal.{without_ids, next_after}
use Rattle.fabric_core.specs.own.Alike.{GoAlike}

-- the keys of parcels, each beside the id of its parcel
abbrev pub ids_by_key : {A : Type 0} → List (ℕ × Parcel A) → List (ℕ × ℕ)
ids_by_key parcels = map (λ parcel. (parcel.0, parcel.1.id)) parcels

-- the id beside a key; 0 where the key is not there
abbrev pub id_beside : List (ℕ × ℕ) → ℕ → ℕ
id_beside [] key = 0
id_beside (pair ∷ pairs) key = if nat_eq pair.0 key then pair.1 else id_beside pairs key

-- an entry under the id beside its key
abbrev pub under_id : List (ℕ × ℕ) → IndexEntry → IndexEntry
under_id pairs entry = record { key = id_beside pairs entry.key; bounds = entry.bounds }

-- an index whose entries are under keys, with each under the id beside its key
abbrev pub by_ids : List (ℕ × ℕ) → Grid → Grid
by_ids pairs index = record {
  area = index.area;
  cells = map (map (under_id pairs)) index.cells;
  beside = map (under_id pairs) index.beside;
}

-- what they show: their rows by ascending id, the city's ring as it was read, that ring refined, the
-- grid index, in which their boxes stand under their ids, the next id, and for each id below it the
-- number by which its parcel went, where one did
pub record Kept : Type 0 where
  pub rows : List NumberedRing
  pub city : List Corner
  pub refined : List Corner
  pub index : Grid
  pub next : ℕ
  pub fates : List (Option ℕ)

-- the number by which the parcel with this id went, where one did
abbrev pub gone_by : Kept → ℕ → Option ℕ
gone_by kept id = slice_index_or kept.fates id None

-- no parcel has gone yet, and the next id is one above the greatest, and small; parcels and city are no more than
-- a layer and a ring may have
pub record IsFresh (kept : Kept) : Type 0 where
  pub none_gone : (id : ℕ) → gone_by kept id ≡ None
  pub next_is : kept.next ≡ next_after kept.rows 0
  pub small : kept.next ≤ 2 ^ 32
  pub few : length kept.rows ≤ LAYER_RECORDS
  pub city_few : length kept.city ≤ RING_CORNERS

-- a layer shows what is kept
pub record IsShownBy (kept : Kept) (layer : Tiles) : Type 0 where
  pub rows : layer.rows ≡ kept.rows
  pub city : layer.city ≡ kept.city
  pub refined : layer.refined ≡ kept.refined
  pub index : layer.index ≡ kept.index

-- parcels with these ids went, by this number, and these rows came under the next ids
pub record IsExchanged (old new : Kept) (gone : List ℕ) (by : ℕ) (news : List NumberedRing) : Type 0 where
  pub rows : new.rows ≡ without_ids gone old.rows ++ news
  pub city : new.city ≡ old.city
  pub refined : new.refined ≡ old.refined
  pub next : new.next ≡ old.next + length news
  pub fates : (id : ℕ) → gone_by new id ≡ (if list_any (nat_eq id) gone then Some by else gone_by old id)

-- rows that may be kept: within the limits, and alike with the refined city
pub record MayBeKept (rows : List NumberedRing) (refined : List Corner) : Type 0 where
  pub within : AreWithinLimits rows
  pub alike : GoAlike (corner_lists rows) refined

-- what is so at each moment: the rows rise by id, are within the limits, and go alike with the refined city, a simple
-- ring, which has the city's ground; the city goes round no point twice; and the index is that of the parcels' boxes
-- over the city's least box, in which all rows lie
pub record IsKept {A : Type 0} (parcels : List (ℕ × Parcel A)) (city refined : List Corner)
    (index : Grid) : Type 0 where
  pub ids_rise : IsStrictlyIncreasing (numbers (rows_of_keyed parcels))
  pub within : AreWithinLimits (rows_of_keyed parcels)
  pub alike : GoAlike (corner_lists (rows_of_keyed parcels)) refined
  pub simple_city : IsSimpleRing refined
  pub wound_once : (p : Point) → IsWoundAtMostOnce p city
  pub ground : CoversAlike city refined
  pub area : IsLeastBox index.area city
  pub in_area : AllByRecursion (λ row. All (HoldsCorner index.area) row.corners) (rows_of_keyed parcels)
  pub indexed : Indexes index (entries_of parcels)
