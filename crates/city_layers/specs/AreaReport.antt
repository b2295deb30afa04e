-- The text of an area report: for each ring a line with its record's number and twice its area, without sign (OGC
-- 06-103r4, 6.1.10, Surface: Area).
use Rattle.std.specs.Prelude.{List, ℕ, ◌++◌, codes, decimal, unsigned_abs, Option}
use Rattle.std.specs.List.{flat_map}
use Rattle.std.specs.Io.KnownBytes.{Appends}
use Rattle.geo_exact.specs.Area.{area2}
use Rattle.geo_exact.specs.declared.coord.Unit.{Unit as LengthUnit}
use Rattle.shp_files.specs.LayerFile.{IsLayerFile, NumberedRing}
use Rattle.text_pieces.specs.Beginnings.{AppendsBeginning}

-- the line of a ring: its number, a space, and twice its area without sign, both in decimal
abbrev pub area_line : NumberedRing → List ℕ
area_line ring = decimal ring.number ++ codes " " ++ decimal (unsigned_abs (area2 ring.corners)) ++ codes "\n"

-- the lines of the rings, in order
abbrev pub area_report : List NumberedRing → List ℕ
area_report rings = flat_map area_line rings

-- the bytes are a layer's main file and, where there is one, its index, and the report of its rings was written after
-- the told bytes
pub record WritesReport (main : List ℕ) (index : Option (List ℕ)) (unit : LengthUnit)
    (old new : Option (List ℕ)) : Type 0 where
  pub rings : List NumberedRing
  pub is_file : IsLayerFile main index unit rings
  pub is_written : Appends old new (area_report rings)

-- the bytes are a layer's main file and, where there is one, its index, and a beginning of the report of its rings
-- was written after the told bytes
pub record WritesBeginning (main : List ℕ) (index : Option (List ℕ)) (unit : LengthUnit)
    (old new : Option (List ℕ)) : Type 0 where
  pub rings : List NumberedRing
  pub is_file : IsLayerFile main index unit rings
  pub is_begun : AppendsBeginning old new (area_report rings)
