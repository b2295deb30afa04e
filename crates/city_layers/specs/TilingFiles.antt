-- A city's files and a layer's files that tile it, and the first fault of those that do not (the order of the faults
-- is this product's own).
use Rattle.std.specs.Prelude.{◌≡◌, ◌≢◌, ◌⊎◌, ℕ, List, [], ◌∷◌, length, Option}
use Rattle.geo_exact.specs.declared.coord.Unit.{Unit as LengthUnit}
use Rattle.geo_exact.specs.declared.corner.Corner.{Corner}
use Rattle.geo_exact.specs.Rings.{begun_at_least}
use Rattle.shp_files.specs.LayerFile.{IsLayerFile, NumberedRing}
use Rattle.shp_files.specs.FirstFault.{IsFirstFault}
use Rattle.fabric_core.specs.declared.city.CityFault.{CityFault}
use Rattle.fabric_core.specs.declared.city.CityFault.TheVariants.{Ring as CityFaultRing, Folded, NoMemory as CityMemory}
use Rattle.fabric_core.specs.declared.layer.LoadFault.{LoadFault}
use Rattle.fabric_core.specs.declared.layer.LoadFault.TheVariants.{TooMany, Ring as LayerFaultRing, Gap}
use Rattle.fabric_core.specs.declared.layer.LoadFault.TheVariants.{NoMemory as LayerMemory}
use Rattle.fabric_core.specs.Tiling.{IsTiling}
use Rattle.fabric_core.specs.Rows.{AreRefined, Tiles}
use Rattle.fabric_core.specs.Faults.{IsCityFault, IsLoadFault}
use Rattle.city_layers.specs.declared.sources.Source.{Source}
use Rattle.city_layers.specs.declared.fault.Role.{Role}
use Rattle.city_layers.specs.declared.fault.Role.TheVariants.{City, Parcels}
use Rattle.city_layers.specs.declared.fault.ToolFault.{ToolFault}
use Rattle.city_layers.specs.declared.fault.ToolFault.TheVariants.{Unreadable, UnreadableIndex, Output, File, CityCount}
use Rattle.city_layers.specs.declared.fault.ToolFault.TheVariants.{CityRing, NoTiling, ClerkCount, ClerkLine, PointLine}
use Rattle.city_layers.specs.declared.fault.ToolFault.TheVariants.{NoParcel, NoThread, NoWindow, NoMemory}
use Rattle.city_layers.specs.Sources.{index_of}

-- the bytes of a layer's files
pub record Files : Type 0 where
  pub main : List ℕ
  pub index : Option (List ℕ)

abbrev pub files_of : {A : Type 0} → Source A → Files
files_of source = record { main = source.main.items; index = index_of source }

-- the files are a layer of one ring, and that, begun at its least corner, is a city
pub record IsCityOf (files : Files) (unit : LengthUnit) (corners : List Corner) : Type 0 where
  pub ring : NumberedRing
  pub is_only : IsLayerFile files.main files.index unit (ring ∷ [])
  pub is_begun : corners ≡ begun_at_least ring.corners
  pub is_city : (fault : CityFault) → ¬ IsCityFault corners fault

-- the files are a layer of this number of rings, and not of one
pub record IsCount (files : Files) (unit : LengthUnit) (count : ℕ) : Type 0 where
  pub rings : List NumberedRing
  pub is_layer : IsLayerFile files.main files.index unit rings
  pub has_count : length rings ≡ count
  pub is_not_one : count ≢ 1

-- the files are a layer of one ring, and that, begun at its least corner, is no city
pub record IsRingRefused (files : Files) (unit : LengthUnit) (fault : CityFault) : Type 0 where
  pub ring : NumberedRing
  pub is_only : IsLayerFile files.main files.index unit (ring ∷ [])
  pub is_fault : IsCityFault (begun_at_least ring.corners) fault

-- what the fault of a ring is to the user
abbrev pub told_of_city : CityFault → ToolFault
told_of_city (CityFaultRing fault) = CityRing (CityFaultRing fault)
told_of_city (Folded i j) = CityRing (Folded i j)
told_of_city CityMemory = NoMemory

-- the fault is the first of a city's files: that of the files, another number of polygons than one, or that of the ring
abbrev pub IsFaultOfCity : Files → LengthUnit → ToolFault → Type 0
IsFaultOfCity files unit (File role fault) = (role ≡ City) × IsFirstFault files.main files.index unit fault
IsFaultOfCity files unit (CityCount count) = IsCount files unit count
IsFaultOfCity files unit (CityRing fault) = IsRingRefused files unit fault
IsFaultOfCity files unit (NoTiling role fault) = ⊥
IsFaultOfCity files unit (ClerkCount count) = ⊥
IsFaultOfCity files unit (ClerkLine clerk line) = ⊥
IsFaultOfCity files unit (PointLine number) = ⊥
IsFaultOfCity files unit (NoParcel id) = ⊥
IsFaultOfCity files unit (NoThread hand) = ⊥
IsFaultOfCity files unit (NoWindow window) = ⊥
IsFaultOfCity files unit (Unreadable path) = ⊥
IsFaultOfCity files unit (UnreadableIndex stem) = ⊥
IsFaultOfCity files unit Output = ⊥
IsFaultOfCity files unit NoMemory = ⊥

-- the layer of these files, in a city: its rings, noded, numbered as the records, without a fault, and tiling the city
pub record IsTiledBy (files : Files) (unit : LengthUnit) (city : List Corner) (tiles : Tiles) : Type 0 where
  pub records : List NumberedRing
  pub are_records : IsLayerFile files.main files.index unit records
  pub are_refined : AreRefined records city tiles.rows tiles.refined
  pub same_city : tiles.city ≡ city
  pub has_no_fault : (fault : LoadFault) → ¬ IsLoadFault records city fault
  pub is_tiling : IsTiling tiles.rows city

-- the files are a layer, and its rings are refused as parcels of the city
pub record IsLayerRefused (files : Files) (unit : LengthUnit) (city : List Corner) (fault : LoadFault) : Type 0 where
  pub records : List NumberedRing
  pub are_records : IsLayerFile files.main files.index unit records
  pub is_fault : IsLoadFault records city fault

-- what the fault of a layer with this role is to the user
abbrev pub told_of_load : Role → LoadFault → ToolFault
told_of_load role (TooMany record_number) = NoTiling role (TooMany record_number)
told_of_load role (LayerFaultRing record_number fault) = NoTiling role (LayerFaultRing record_number fault)
told_of_load role (Gap a b net) = NoTiling role (Gap a b net)
told_of_load role LayerMemory = NoMemory

-- the fault is the first of a layer's files in a city: that of the files, or of the rings
abbrev pub IsFaultOfLayer : Role → Files → LengthUnit → List Corner → ToolFault → Type 0
IsFaultOfLayer role files unit city (File told fault) = (told ≡ role) × IsFirstFault files.main files.index unit fault
IsFaultOfLayer role files unit city (NoTiling told fault) = (told ≡ role) × IsLayerRefused files unit city fault
IsFaultOfLayer role files unit city (CityCount count) = ⊥
IsFaultOfLayer role files unit city (CityRing fault) = ⊥
IsFaultOfLayer role files unit city (ClerkCount count) = ⊥
IsFaultOfLayer role files unit city (ClerkLine clerk line) = ⊥
IsFaultOfLayer role files unit city (PointLine number) = ⊥
IsFaultOfLayer role files unit city (NoParcel id) = ⊥
IsFaultOfLayer role files unit city (NoThread hand) = ⊥
IsFaultOfLayer role files unit city (NoWindow window) = ⊥
IsFaultOfLayer role files unit city (Unreadable path) = ⊥
IsFaultOfLayer role files unit city (UnreadableIndex stem) = ⊥
IsFaultOfLayer role files unit city Output = ⊥
IsFaultOfLayer role files unit city NoMemory = ⊥

-- the layer of the parcels' files tiles the city of the city's files
pub record AreTiles (city parcels : Files) (unit : LengthUnit) (tiles : Tiles) : Type 0 where
  pub is_city : IsCityOf city unit tiles.city
  pub is_tiled : IsTiledBy parcels unit tiles.city tiles

-- the city's files give a city, and the fault is the first of the parcels' files in it
pub record IsFaultInCity (city parcels : Files) (unit : LengthUnit) (fault : ToolFault) : Type 0 where
  pub corners : List Corner
  pub is_city : IsCityOf city unit corners
  pub is_fault : IsFaultOfLayer Parcels parcels unit corners fault

-- the fault is the first of both: the city's before the parcels'
abbrev pub IsTilesFault : Files → Files → LengthUnit → ToolFault → Type 0
IsTilesFault city parcels unit fault = IsFaultOfCity city unit fault ⊎ IsFaultInCity city parcels unit fault
