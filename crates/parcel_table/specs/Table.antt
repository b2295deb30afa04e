-- A table of parcels, each under a key and with an id, and what has become of the ids that were given out (this
-- product's own).
use Rattle.std.specs.Prelude.{◌≡◌, ℕ, nat_eq, not, if◌then◌else◌, List, map, Option, Some, None, slice_index_or}
use Rattle.std.specs.List.{filter, AllZip, Contains}
use Rattle.cell_index.specs.declared.entry.IndexEntry.{IndexEntry}
use Rattle.geo_exact.specs.Layers.{NumberedRing, numbered}
use Rattle.ring_core.specs.declared.shape.Shape.{Shape}
use Rattle.parcel_table.specs.declared.parcels.Parcel.{Parcel}
use Rattle.parcel_table.specs.declared.fate.Fate.{Fate}
use Rattle.parcel_table.specs.declared.fate.Fate.TheVariants.{Unknown, Retired, Here}

-- what contracts see of a table: its parcels beside their keys, by ascending id; the next id, which is above all of
-- them; for each id below it the number by which its parcel was retired, where one was; the key of the next parcel that
-- is put in under a new key; and how many more parcels go in without an allocation
pub record Table (A : Type 0) : Type 0 where
  pub parcels : List (ℕ × Parcel A)
  pub next : ℕ
  pub fates : List (Option ℕ)
  pub vacant : ℕ
  pub room : ℕ

module _ {A : Type 0} where
  -- the parcel with this id is under this key
  pub record IsKeyOf (parcels : List (ℕ × Parcel A)) (id key : ℕ) : Type 0 where
    pub parcel : Parcel A
    pub is_here : Contains parcels (key, parcel)
    pub has_id : parcel.id ≡ id

  -- a parcel with this id is here
  abbrev pub HasId : List (ℕ × Parcel A) → ℕ → Type 0
  HasId parcels id = (key : ℕ) × IsKeyOf parcels id key

  -- the number by which the parcel with this id was retired, where one was
  abbrev pub retired_by : Table A → ℕ → Option ℕ
  retired_by table id = slice_index_or table.fates id None

  -- what has become of an id: its parcel is under a key; it was retired by a number; or neither
  abbrev pub IsFateOf : Table A → ℕ → Fate → Type 0
  IsFateOf table id Unknown = (¬ HasId table.parcels id) × (retired_by table id ≡ None)
  IsFateOf table id (Retired by) = (¬ HasId table.parcels id) × (retired_by table id ≡ Some by)
  IsFateOf table id (Here key) = IsKeyOf table.parcels id key × (retired_by table id ≡ None)

  -- the parcels without the one with this id
  abbrev pub without_id : ℕ → List (ℕ × Parcel A) → List (ℕ × Parcel A)
  without_id id parcels = filter (λ parcel. not (nat_eq parcel.1.id id)) parcels

  -- the parcels, the one with this id with this shape
  abbrev pub with_shape : ℕ → Shape A → List (ℕ × Parcel A) → List (ℕ × Parcel A)
  with_shape id shape parcels =
      map (λ parcel. if nat_eq parcel.1.id id
      then (parcel.0, record { id = parcel.1.id; shape = shape }) else parcel) parcels

  -- a copy of a parcel: its id, its ring, its triangles and its box
  pub record IsParcelClone (parcel copy : Parcel A) : Type 0 where
    pub id : copy.id ≡ parcel.id
    pub ring : copy.shape.ring.corners ≡ parcel.shape.ring.corners
    pub triangles : copy.shape.triangles ≡ parcel.shape.triangles
    pub bounds : copy.shape.bounds ≡ parcel.shape.bounds

  -- a copy of a table: copies of the parcels under the same keys, and the same ids and keys from here on
  pub record IsTableClone (table copy : Table A) : Type 0 where
    pub parcels : AllZip (λ parcel copy. (copy.0 ≡ parcel.0) × IsParcelClone parcel.1 copy.1) table.parcels copy.parcels
    pub next : copy.next ≡ table.next
    pub fates : copy.fates ≡ table.fates
    pub vacant : copy.vacant ≡ table.vacant

  -- parcels as their ids, and as their ids and shapes
  abbrev pub ids_of : List (ℕ × Parcel A) → List ℕ
  ids_of parcels = map (λ parcel. parcel.1.id) parcels

  abbrev pub shapes_of : List (ℕ × Parcel A) → List (ℕ × Shape A)
  shapes_of parcels = map (λ parcel. (parcel.1.id, parcel.1.shape)) parcels

  -- ids and shapes as rows, and parcels as rows
  abbrev pub rows_of : List (ℕ × Shape A) → List NumberedRing
  rows_of shapes = map (λ shape. numbered shape.0 shape.1.ring.corners) shapes

  abbrev pub rows_of_keyed : List (ℕ × Parcel A) → List NumberedRing
  rows_of_keyed parcels = map (λ parcel. numbered parcel.1.id parcel.1.shape.ring.corners) parcels

  -- parcels as the entries of a grid index: each one's box under its key
  abbrev pub entries_of : List (ℕ × Parcel A) → List IndexEntry
  entries_of parcels = map (λ parcel. record { key = parcel.0; bounds = parcel.1.shape.bounds }) parcels
