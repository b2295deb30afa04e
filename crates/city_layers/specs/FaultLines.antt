-- The lines of a check that tells all faults (this product's own). Numbers are in decimal, with a minus sign where
-- they are below 0; corners in millimetres.
use Rattle.std.specs.Prelude.{◌≡◌, ℕ, ℤ, List, [], ◌++◌, codes, decimal, Option, None, Some, Vec}
use Rattle.std.specs.Fmt.{signed_decimal}
use Rattle.std.specs.List.{flat_map}
use Rattle.std.specs.Io.KnownBytes.{Appends}
use Rattle.geo_exact.specs.declared.coord.Unit.{Unit as LengthUnit}
use Rattle.geo_exact.specs.declared.corner.Corner.{Corner}
use Rattle.ring_core.specs.declared.ring.RingFault.{RingFault}
use Rattle.shp_files.specs.LayerFile.{IsLayerFile, NumberedRing}
use Rattle.fabric_core.specs.declared.all_faults.AllFaults.{AllFaults}
use Rattle.fabric_core.specs.declared.all_faults.AllFaults.TheVariants.{Rings, Gaps}
use Rattle.fabric_core.specs.declared.layer.LoadFault.{LoadFault}
use Rattle.fabric_core.specs.declared.layer.LoadFault.TheVariants.{TooMany, Ring, Gap, NoMemory as LayerMemory}
use Rattle.fabric_core.specs.Rows.{AreRefined}
use Rattle.fabric_core.specs.Faults.{AreRingFaults, AreGaps}
use Rattle.city_layers.specs.declared.fault.ToolFault.{ToolFault}
use Rattle.city_layers.specs.declared.fault.ToolFault.TheVariants.{Unreadable, UnreadableIndex, Output, File, CityCount}
use Rattle.city_layers.specs.declared.fault.ToolFault.TheVariants.{CityRing, NoTiling, ClerkCount, ClerkLine, PointLine}
use Rattle.city_layers.specs.declared.fault.ToolFault.TheVariants.{NoParcel, NoThread, NoWindow, NoMemory}
use Rattle.text_pieces.specs.CornerText.{corner_text}
use Rattle.text_pieces.specs.RingFaultText.{ring_fault_text}
use Rattle.city_layers.specs.TilingFiles.{Files, IsCityOf}

-- `ring R FAULT`
abbrev pub ring_line : ℕ × RingFault → List ℕ
ring_line told = codes "ring " ++ decimal told.0 ++ codes " " ++ ring_fault_text told.1 ++ codes "\n"

-- `edge AX AY BX BY`
abbrev pub edge_text : Corner → Corner → List ℕ
edge_text a b = codes "edge " ++ corner_text a ++ codes " " ++ corner_text b

-- `edge AX AY BX BY net N`
abbrev pub edge_line : Corner × Corner × ℤ → List ℕ
edge_line gap = edge_text gap.0 gap.1 ++ codes " net " ++ signed_decimal gap.2 ++ codes "\n"

-- the lines of all faults of one kind, where there are some
abbrev pub fault_lines : {A : Type 0} → Option (AllFaults A) → List ℕ
fault_lines None = []
fault_lines (Some (Rings faults)) = flat_map ring_line faults.items
fault_lines (Some (Gaps gaps)) = flat_map edge_line gaps.items

-- the lines of all faults of the rows that are of the first fault's kind
abbrev pub AreKindLines : List NumberedRing → List Corner → LoadFault → List ℕ → Type 0
AreKindLines rows refined (TooMany number) lines = lines ≡ []
AreKindLines rows refined (Ring number fault) lines =
    (faults : List (ℕ × RingFault)) × AreRingFaults rows faults × (lines ≡ flat_map ring_line faults)
AreKindLines rows refined (Gap a b net) lines =
    (gaps : List (Corner × Corner × ℤ)) × AreGaps rows refined gaps × (lines ≡ flat_map edge_line gaps)
AreKindLines rows refined LayerMemory lines = ⊥

-- the files are a layer, and the lines are those of all faults that it has in the city, of the first fault's kind
pub record AreLayerLines (files : Files) (unit : LengthUnit) (city : List Corner) (fault : LoadFault)
    (lines : List ℕ) : Type 0 where
  pub records : List NumberedRing
  pub are_records : IsLayerFile files.main files.index unit records
  pub rows : List NumberedRing
  pub refined : List Corner
  pub are_refined : AreRefined records city rows refined
  pub are_lines : AreKindLines rows refined fault lines

-- the lines that come before a fault: where the rings are refused as parcels of their city, those of all faults of
-- the fault's kind, and else none
abbrev pub AreLinesBefore : Files → Files → LengthUnit → ToolFault → List ℕ → Type 0
AreLinesBefore city parcels unit (NoTiling role fault) lines =
    (corners : List Corner) × IsCityOf city unit corners × AreLayerLines parcels unit corners fault lines
AreLinesBefore city parcels unit (File role fault) lines = lines ≡ []
AreLinesBefore city parcels unit (CityCount count) lines = lines ≡ []
AreLinesBefore city parcels unit (CityRing fault) lines = lines ≡ []
AreLinesBefore city parcels unit (ClerkCount count) lines = lines ≡ []
AreLinesBefore city parcels unit (ClerkLine clerk line) lines = lines ≡ []
AreLinesBefore city parcels unit (PointLine number) lines = lines ≡ []
AreLinesBefore city parcels unit (NoParcel id) lines = lines ≡ []
AreLinesBefore city parcels unit (NoThread hand) lines = lines ≡ []
AreLinesBefore city parcels unit (NoWindow window) lines = lines ≡ []
AreLinesBefore city parcels unit (Unreadable path) lines = lines ≡ []
AreLinesBefore city parcels unit (UnreadableIndex stem) lines = lines ≡ []
AreLinesBefore city parcels unit Output lines = lines ≡ []
AreLinesBefore city parcels unit NoMemory lines = lines ≡ []

-- those lines were written after the told bytes
abbrev pub WritesLinesBefore : Files → Files → LengthUnit → ToolFault → Option (List ℕ) → Option (List ℕ) → Type 0
WritesLinesBefore city parcels unit fault old new = (lines : List ℕ) × AreLinesBefore city parcels unit fault lines
    × Appends old new lines

-- the text, where there is one
abbrev pub text_or_none : {A : Type 0} → Option (Vec ℕ A) → List ℕ
text_or_none None = []
text_or_none (Some text) = text.items
