-- What the user reads of why a run ended early, behind `error: ` (this product's own). Numbers are in decimal, with a
-- minus sign where they are below 0; corners in millimetres.
use Rattle.std.specs.Prelude.{List, ℕ, ◌++◌, codes, decimal}
use Rattle.std.specs.Fmt.{signed_decimal}
use Rattle.geo_exact.specs.declared.coord.CoordFault.TheVariants.{NotNumber, OffGrid, TooFar}
use Rattle.shp_files.specs.declared.fault.FaultKind.{FaultKind}
use Rattle.shp_files.specs.declared.fault.FaultKind.TheVariants.{Short, FileCode, Version, ShapeType}
use Rattle.shp_files.specs.declared.fault.FaultKind.TheVariants.{Content, Parts, NotClosed}
use Rattle.shp_files.specs.declared.fault.FaultKind.TheVariants.{FewPoints, Coord}
use Rattle.shp_files.specs.declared.fault.FaultKind.TheVariants.{IndexDisagrees, TooMany as ManyRecords}
use Rattle.shp_files.specs.declared.fault.FileFault.{FileFault}
use Rattle.shp_files.specs.declared.fault.FileName.{FileName}
use Rattle.shp_files.specs.declared.fault.FileName.TheVariants.{Main, Index}
use Rattle.fabric_core.specs.declared.city.CityFault.{CityFault}
use Rattle.fabric_core.specs.declared.city.CityFault.TheVariants.{Ring as CityFaultRing, Folded}
use Rattle.fabric_core.specs.declared.city.CityFault.TheVariants.{NoMemory as CityMemory}
use Rattle.fabric_core.specs.declared.layer.LoadFault.{LoadFault}
use Rattle.fabric_core.specs.declared.layer.LoadFault.TheVariants.{TooMany, Ring as LayerFaultRing}
use Rattle.fabric_core.specs.declared.layer.LoadFault.TheVariants.{Gap, NoMemory as LayerMemory}
use Rattle.text_pieces.specs.CornerText.{corner_text}
use Rattle.text_pieces.specs.RingFaultText.{ring_fault_text}
use Rattle.city_layers.specs.declared.fault.Role.{Role}
use Rattle.city_layers.specs.declared.fault.Role.TheVariants.{File as OneLayer, City, Parcels, Zones}
use Rattle.city_layers.specs.declared.fault.ToolFault.{ToolFault}
use Rattle.city_layers.specs.declared.fault.ToolFault.TheVariants.{Unreadable, UnreadableIndex, Output, File}
use Rattle.city_layers.specs.declared.fault.ToolFault.TheVariants.{CityCount, CityRing, NoTiling}
use Rattle.city_layers.specs.declared.fault.ToolFault.TheVariants.{ClerkCount, ClerkLine, PointLine, NoParcel}
use Rattle.city_layers.specs.declared.fault.ToolFault.TheVariants.{NoThread, NoWindow, NoMemory}

-- the layer that has the fault
abbrev pub role_text : Role → List ℕ
role_text OneLayer = codes "file"
role_text City = codes "city"
role_text Parcels = codes "parcels"
role_text Zones = codes "zones"

-- which of its two files
abbrev pub file_text : FileName → List ℕ
file_text Main = codes "main"
file_text Index = codes "index"

-- the code of what is wrong in a file
abbrev pub kind_text : FaultKind → List ℕ
kind_text Short = codes "F1"
kind_text FileCode = codes "F2"
kind_text Version = codes "F3"
kind_text ShapeType = codes "F4"
kind_text Content = codes "F5"
kind_text Parts = codes "F6"
kind_text NotClosed = codes "F7"
kind_text FewPoints = codes "F8"
kind_text (Coord NotNumber) = codes "F9 C1"
kind_text (Coord OffGrid) = codes "F9 C2"
kind_text (Coord TooFar) = codes "F9 C3"
kind_text IndexDisagrees = codes "F10"
kind_text ManyRecords = codes "F11"

-- `ROLE: CODE FILE record POSITION at PLACE`
abbrev pub file_fault_text : Role → FileFault → List ℕ
file_fault_text role fault = role_text role ++ codes ": " ++ kind_text fault.kind ++ codes " " ++ file_text fault.file
    ++ codes " record " ++ decimal fault.position ++ codes " at " ++ decimal fault.place

-- `city: FAULT` of a ring, `city: G5 I J` of one that is folded over itself
abbrev pub city_fault_text : CityFault → List ℕ
city_fault_text (CityFaultRing fault) = codes "city: " ++ ring_fault_text fault
city_fault_text (Folded i j) = codes "city: G5 " ++ decimal i ++ codes " " ++ decimal j
city_fault_text CityMemory = codes "no memory"

-- `ROLE: H3 R`, `ROLE: H1 R FAULT`, `ROLE: H2 AX AY BX BY net N`
abbrev pub load_fault_text : Role → LoadFault → List ℕ
load_fault_text role (TooMany record_number) = role_text role ++ codes ": H3 " ++ decimal record_number
load_fault_text role (LayerFaultRing record_number fault) =
    role_text role ++ codes ": H1 " ++ decimal record_number ++ codes " " ++ ring_fault_text fault
load_fault_text role (Gap a b net) = role_text role ++ codes ": H2 " ++ corner_text a ++ codes " " ++ corner_text b
    ++ codes " net " ++ signed_decimal net
load_fault_text role LayerMemory = codes "no memory"

-- why a run ended early
abbrev pub fault_text : ToolFault → List ℕ
fault_text (Unreadable path) = codes "S1 " ++ path.now
fault_text (UnreadableIndex stem) = codes "S1 " ++ stem.now ++ codes ".shx"
fault_text Output = codes "S2"
fault_text (File role fault) = file_fault_text role fault
fault_text (CityCount count) = codes "city: S3 " ++ decimal count
fault_text (CityRing fault) = city_fault_text fault
fault_text (NoTiling role fault) = load_fault_text role fault
fault_text (ClerkCount count) = codes "K1 " ++ decimal count
fault_text (ClerkLine clerk line) = codes "clerk " ++ decimal clerk ++ codes ": L1 " ++ decimal line
fault_text (PointLine number) = codes "points: L1 " ++ decimal number
fault_text (NoParcel id) = codes "parcels: H4 " ++ decimal id
fault_text (NoThread hand) = codes "O7 " ++ decimal hand
fault_text (NoWindow window) = codes "K3 " ++ decimal window
fault_text NoMemory = codes "no memory"
