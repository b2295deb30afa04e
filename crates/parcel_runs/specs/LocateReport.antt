-- The lines that report where points lie (this product's own). Numbers are in decimal, with a minus sign where they are
-- below 0; points in millimetres.
use Rattle.std.specs.Prelude.{◌≡◌, ◌≢◌, ◌⊎◌, ℕ, List, [], ◌∷◌, ◌++◌, codes, Option}
use Rattle.std.specs.List.{flat_map}
use Rattle.std.specs.Io.KnownBytes.{Appends}
use Rattle.geo_exact.specs.Point.{corner_point, Point}
use Rattle.geo_exact.specs.Layers.{NumberedRing}
use Rattle.geo_exact.specs.declared.corner.Corner.{Corner}
use Rattle.fabric_core.specs.Locate.{AreAllOnEdge, IsInsideOf}
use Rattle.fabric_core.specs.Rows.{Tiles}
use Rattle.city_layers.specs.declared.fault.ToolFault.{ToolFault}
use Rattle.city_layers.specs.declared.fault.ToolFault.TheVariants.{PointLine}
use Rattle.text_pieces.specs.CornerText.{corner_text}
use Rattle.line_files.specs.PointLines.{ArePoints, IsFirstBadPoint}
use Rattle.text_pieces.specs.Beginnings.{AppendsBeginning}
use Rattle.city_layers.specs.TilingFiles.{AreTiles}
use Rattle.clerk_runs.specs.ClerkRuns.{Register, IsEdited}
use Rattle.clerk_runs.specs.PlaceTexts.{id_text}
use Rattle.parcel_runs.specs.RunFiles.{ParcelRun}
use Rattle.parcel_runs.specs.RunFaults.{IsRunFault}

-- `edge ID ID ..` with all parcels on whose edges p lies, ascending, where there is one; else `inside ID` with
-- one that it is inside of (in a tiling there is no other); else `outside`
abbrev pub IsPlaceText : List NumberedRing → Point → List ℕ → Type 0
IsPlaceText rows p text =
    ((ids : List ℕ) × AreAllOnEdge rows p ids × (ids ≢ []) × (text ≡ codes "edge" ++ flat_map id_text ids))
    ⊎ ((id : ℕ) × AreAllOnEdge rows p [] × IsInsideOf rows p id × (text ≡ codes "inside" ++ id_text id))
    ⊎ (AreAllOnEdge rows p [] × ((id : ℕ) → ¬ IsInsideOf rows p id) × (text ≡ codes "outside"))

-- the lines of points, in order: the point's coordinates, and where it lies among the rows
abbrev pub ArePlaceLines : List NumberedRing → List Corner → List ℕ → Type 0
ArePlaceLines rows [] text = text ≡ []
ArePlaceLines rows (point ∷ points) text =
    (place : List ℕ) × (rest : List ℕ) × IsPlaceText rows (corner_point point) place
    × (text ≡ corner_text point ++ codes " " ++ place ++ codes "\n" ++ rest) × ArePlaceLines rows points rest

-- The text of points: the parcels' files tile the city of the city's files, and the text is the lines of the clerks'
-- edits, and those of the points among the parcels that these lead to. Edits are in a memory A.
pub record IsPlacesText (A : Type 0) (run : ParcelRun) (points : List Corner) (text : List ℕ) : Type 0 where
  pub tiles : Tiles
  pub are_tiles : AreTiles run.city run.parcels run.unit tiles
  pub after : Register A
  pub told : List ℕ
  pub is_edited : IsEdited tiles run.clerks after told
  pub lines : List ℕ
  pub are_lines : ArePlaceLines after.now.rows points lines
  pub is_text : text ≡ told ++ lines

-- it was written after the bytes that were written before
pub record WritesPlaces (A : Type 0) (run : ParcelRun) (points : List Corner) (old new : Option (List ℕ))
    : Type 0 where
  pub text : List ℕ
  pub are_places : IsPlacesText A run points text
  pub is_written : Appends old new text

-- a beginning of it was written after the bytes that were written before
pub record BeginsPlaces (A : Type 0) (run : ParcelRun) (points : List Corner) (old new : Option (List ℕ))
    : Type 0 where
  pub text : List ℕ
  pub are_places : IsPlacesText A run points text
  pub is_begun : AppendsBeginning old new text

-- the same two of the points of a text
pub record WritesPlacesOfText (A : Type 0) (run : ParcelRun) (text : List ℕ) (old new : Option (List ℕ))
    : Type 0 where
  pub points : List Corner
  pub are_points : ArePoints text points
  pub are_written : WritesPlaces A run points old new

pub record BeginsPlacesOfText (A : Type 0) (run : ParcelRun) (text : List ℕ) (old new : Option (List ℕ))
    : Type 0 where
  pub points : List Corner
  pub are_points : ArePoints text points
  pub are_begun : BeginsPlaces A run points old new

-- the parcels' files tile the city of the city's files, the clerks' files have no fault, and the fault is the text's
-- first bad line
pub record IsPointsFault (run : ParcelRun) (text : List ℕ) (fault : ToolFault) : Type 0 where
  pub tiles : Tiles
  pub are_tiles : AreTiles run.city run.parcels run.unit tiles
  pub no_other : (other : ToolFault) → ¬ IsRunFault run other
  pub number : ℕ
  pub is_first : IsFirstBadPoint text number
  pub is_told : fault ≡ PointLine number

-- the fault is the first: the number of the clerks' files, the city's, then the parcels', the clerks', and the points'
abbrev pub IsLocateFault : ParcelRun → List ℕ → ToolFault → Type 0
IsLocateFault run text fault = IsRunFault run fault ⊎ IsPointsFault run text fault
