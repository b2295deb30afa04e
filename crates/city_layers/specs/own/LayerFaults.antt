-- Why the files of a layer were not read, as the code's own functions hand it on: no public contract speaks of it.
use Rattle.std.specs.Prelude.{◌≡◌, ℕ, List, Option}
use Rattle.geo_exact.specs.declared.coord.Unit.{Unit as LengthUnit}
use Rattle.shp_files.specs.FirstFault.{IsFirstFault}
use Rattle.shp_files.specs.declared.fault.LayerFault.{LayerFault}
use Rattle.city_layers.specs.declared.fault.Role.{Role}
use Rattle.city_layers.specs.declared.fault.ToolFault.{ToolFault}
use Rattle.city_layers.specs.declared.fault.ToolFault.TheVariants.{Unreadable, UnreadableIndex, Output, File, CityCount}
use Rattle.city_layers.specs.declared.fault.ToolFault.TheVariants.{CityRing, NoTiling, ClerkCount, ClerkLine, PointLine}
use Rattle.city_layers.specs.declared.fault.ToolFault.TheVariants.{NoParcel, NoThread, NoWindow, NoMemory}

-- what is told of a layer with this role that was not read
abbrev pub layer_fault : Role → LayerFault → ToolFault
layer_fault role (LayerFault.File fault) = File role fault
layer_fault role LayerFault.NoMemory = NoMemory

-- why the files of the layer with this role gave no rings: its first fault, or want of memory
abbrev pub IsLayerFault : Role → List ℕ → Option (List ℕ) → LengthUnit → ToolFault → Type 0
IsLayerFault role main index unit (File told fault) = (told ≡ role) × IsFirstFault main index unit fault
IsLayerFault role main index unit NoMemory = Unit {0}
IsLayerFault role main index unit Output = ⊥
IsLayerFault role main index unit (Unreadable path) = ⊥
IsLayerFault role main index unit (UnreadableIndex stem) = ⊥
IsLayerFault role main index unit (CityCount count) = ⊥
IsLayerFault role main index unit (CityRing fault) = ⊥
IsLayerFault role main index unit (NoTiling told fault) = ⊥
IsLayerFault role main index unit (ClerkCount count) = ⊥
IsLayerFault role main index unit (ClerkLine clerk line) = ⊥
IsLayerFault role main index unit (PointLine number) = ⊥
IsLayerFault role main index unit (NoParcel id) = ⊥
IsLayerFault role main index unit (NoThread hand) = ⊥
IsLayerFault role main index unit (NoWindow window) = ⊥
