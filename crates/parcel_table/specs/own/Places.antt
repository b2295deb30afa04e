-- How parcels are kept: each in a slab under a key, and for each id below the next one what has become of it. Public
-- contracts do not speak of it.
use Rattle.std.specs.Prelude.{⊤, ◌≡◌, ℕ, ◌+◌, ◌-◌, min, List, [], ◌∷◌, map, filter_map, length, Option, Some, None}
use Rattle.std.specs.Prelude.{option_map}
use Rattle.slab.specs.Slab.{Slab, get, slab_len}
use Rattle.ring_core.specs.declared.shape.Shape.{Shape}
use Rattle.parcel_table.specs.declared.parcels.Parcel.{Parcel}
use Rattle.parcel_table.specs.declared.place.Place.{Place}
use Rattle.parcel_table.specs.declared.place.Place.TheVariants.{Unused, Retired, Here}

-- the number by which the parcel of an id was retired, where one was
abbrev pub fate_at : Place → Option ℕ
fate_at Unused = None
fate_at (Retired by) = Some by
fate_at (Here key) = None

module _ {A : Type 0} where
  -- the parcel that an id's place leads to, where it is here
  abbrev pub parcel_at : Slab (Parcel A) → Place → Option (Parcel A)
  parcel_at slab Unused = None
  parcel_at slab (Retired by) = None
  parcel_at slab (Here key) = get slab key

  -- that parcel beside its key
  abbrev pub keyed_at : Slab (Parcel A) → Place → Option (ℕ × Parcel A)
  keyed_at slab Unused = None
  keyed_at slab (Retired by) = None
  keyed_at slab (Here key) = option_map (λ parcel. (key, parcel)) (get slab key)

  -- all parcels that places lead to, in order, each beside its key
  abbrev pub keyed : Slab (Parcel A) → List Place → List (ℕ × Parcel A)
  keyed slab places = filter_map (keyed_at slab) places

  -- parcels as their ids and shapes
  abbrev pub shapes_at : Slab (Parcel A) → List Place → List (ℕ × Shape A)
  shapes_at slab places = map (λ parcel. (parcel.id, parcel.shape)) (filter_map (parcel_at slab) places)

  -- the places of the ids from this one on: each leads to no parcel, or to the one with that id
  abbrev pub ArePlaced : Slab (Parcel A) → ℕ → List Place → Type 0
  ArePlaced slab id [] = ⊤
  ArePlaced slab id (Unused ∷ places) = ArePlaced slab (id + 1) places
  ArePlaced slab id (Retired by ∷ places) = ArePlaced slab (id + 1) places
  ArePlaced slab id (Here key ∷ places) =
      ((parcel : Parcel A) × (get slab key ≡ Some parcel) × (parcel.id ≡ id)) × ArePlaced slab (id + 1) places

  -- how many more parcels there is room for, both in the slab and in a list of so many places with this capacity
  abbrev pub room_in : Slab (Parcel A) → ℕ → ℕ → ℕ
  room_in slab capacity len = min (slab.capacity - slab_len slab) (capacity - len)

  -- a slab and a table of ids that belong together: all parcels of the slab stand in the table
  pub record IsTable (slab : Slab (Parcel A)) (places : List Place) : Type 0 where
    pub are_placed : ArePlaced slab 0 places
    pub are_all : slab_len slab ≡ length (keyed slab places)
