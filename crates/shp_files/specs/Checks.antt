-- The checks of a main file, in their order, each with the fault that it answers: this profile of the Technical
-- Description (July 1998).
use Rattle.std.specs.Prelude.{ℕ, zero, suc, ◌+◌, ◌*◌, ◌-◌, ◌||◌, ◌&&◌, ◌==◌, nat_lt, not, ℤ, pos, int_lt, Bool}
use Rattle.std.specs.Prelude.{true, false, if◌then◌else◌, List, [], ◌∷◌, ◌++◌, length, Option, Some, None, Result, Ok}
use Rattle.std.specs.Prelude.{Err}
use Rattle.std.specs.Ordering.{int_eq}
use Rattle.geo_exact.specs.declared.coord.Unit.{Unit as LengthUnit}
use Rattle.geo_exact.specs.declared.coord.CoordFault.{CoordFault}
use Rattle.geo_exact.specs.Grid.{coordinate}
use Rattle.geo_exact.specs.declared.limits.TheConstants.{LAYER_CORNERS, LAYER_RECORDS, RING_CORNERS}
use Rattle.shp_files.specs.declared.fault.FileName.{FileName}
use Rattle.shp_files.specs.declared.fault.FileName.TheVariants.{Main}
use Rattle.shp_files.specs.declared.fault.FaultKind.{FaultKind}
use Rattle.shp_files.specs.declared.fault.FaultKind.TheVariants as kinds
use Rattle.shp_files.specs.declared.fault.FileFault.{FileFault}
use Rattle.shp_files.specs.Layout.{double_at, file_code, file_words, version, header_shape_type, content_words}
use Rattle.shp_files.specs.Layout.{shape_type, part_count, point_count, first_part, natural}

-- one check: when it fails, and what it then answers
pub record Check : Type 0 where
  pub fails : Bool
  pub answer : FileFault

abbrev pub check : Bool → FileFault → Check
check fails answer = record { fails = fails; answer = answer }

-- the answer of the first check that fails
unfoldable pub first_failure : List Check → Option FileFault
first_failure [] = None
first_failure (line ∷ lines) = if line.fails then Some line.answer else first_failure lines

-- a fault of a file: the record's position, the byte, and what is wrong
abbrev pub fault_in : FileName → ℕ → ℕ → FaultKind → FileFault
fault_in name position place kind = record { file = name; position = position; place = place; kind = kind }

-- a fault of the main file
abbrev pub fault : ℕ → ℕ → FaultKind → FileFault
fault position place kind = fault_in Main position place kind

abbrev pub is_not : ℤ → ℤ → Bool
is_not a b = not (int_eq a b)

-- the byte at which the file is declared to end
unfoldable pub declared_end : List ℕ → ℕ
declared_end file = 2 * natural (file_words file)

-- the checks of the header, which is the same in both files
unfoldable pub header_checks : FileName → List ℕ → List Check
header_checks name file =
    check (nat_lt (length file) 100) (fault_in name 0 (length file) kinds.Short)
    ∷ check (is_not (file_code file) (pos 9994)) (fault_in name 0 0 kinds.FileCode)
    ∷ check (int_lt (file_words file) (pos 50)) (fault_in name 0 24 kinds.Short)
    ∷ check (nat_lt (length file) (declared_end file)) (fault_in name 0 (length file) kinds.Short)
    ∷ check (is_not (version file) (pos 1000)) (fault_in name 0 28 kinds.Version)
    ∷ check (is_not (header_shape_type file) (pos 5)) (fault_in name 0 32 kinds.ShapeType)
    ∷ []

-- the byte at which the record's content ends
abbrev pub record_end : List ℕ → ℕ → ℕ
record_end main start = start + 8 + 2 * natural (content_words main start)

-- the number of points of the record's polygon
abbrev pub points_of : List ℕ → ℕ → ℕ
points_of main start = natural (point_count main start)

-- the checks of the record's frame: the record at this position begins at this byte
unfoldable pub frame_checks : List ℕ → ℕ → ℕ → List Check
frame_checks main position start =
    check (nat_lt LAYER_RECORDS position) (fault position start kinds.TooMany)
    ∷ check (nat_lt (declared_end main) (start + 8)) (fault position start kinds.Short)
    ∷ check (int_lt (content_words main start) (pos 2)) (fault position (start + 4) kinds.Content)
    ∷ check (nat_lt (declared_end main) (record_end main start)) (fault position (start + 4) kinds.Short)
    ∷ []

-- the record has the type of null shapes
abbrev pub is_null : List ℕ → ℕ → Bool
is_null main start = int_eq (shape_type main start) (pos 0)

-- the checks of its shape type
unfoldable pub shape_checks : List ℕ → ℕ → ℕ → List Check
shape_checks main position start =
    check (is_not (shape_type main start) (pos 0) && is_not (shape_type main start) (pos 5))
    (fault position (start + 8) kinds.ShapeType)
    ∷ check (is_null main start && is_not (content_words main start) (pos 2)) (fault position (start + 4) kinds.Content)
    ∷ []

-- The checks of a polygon's counts, where the polygons before it have so many corners together. (The third never
-- fails behind the first: it stands here so that the table reads by itself.)
unfoldable pub count_checks : List ℕ → ℕ → ℕ → ℕ → List Check
count_checks main position start corners_before =
    check (int_lt (content_words main start) (pos 22)) (fault position (start + 4) kinds.Content)
    ∷ check (is_not (part_count main start) (pos 1)) (fault position (start + 44) kinds.Parts)
    ∷ check (nat_lt (record_end main start) (start + 52)) (fault position (start + 4) kinds.Content)
    ∷ check (int_lt (point_count main start) (pos 4)) (fault position (start + 48) kinds.FewPoints)
    ∷ check (nat_lt (RING_CORNERS + 1) (points_of main start)
    || nat_lt LAYER_CORNERS (corners_before + (points_of main start - 1)))
    (fault position (start + 48) kinds.TooMany)
    ∷ check (not (2 * natural (content_words main start) == 48 + 16 * points_of main start))
    (fault position (start + 4) kinds.Content)
    ∷ check (is_not (first_part main start) (pos 0)) (fault position (start + 52) kinds.Parts)
    ∷ []

-- the check of one coordinate (one that is read never answers)
abbrev pub refusal : ℕ → ℕ → Result ℤ CoordFault → Check
refusal position place (Ok k) = check false (fault position place kinds.Short)
refusal position place (Err c) = check true (fault position place (kinds.Coord c))

-- the checks of a number of coordinates, from a byte on
unfoldable pub coordinate_checks : List ℕ → LengthUnit → ℕ → ℕ → ℕ → List Check
coordinate_checks main unit position place zero = []
coordinate_checks main unit position place (suc count) =
    refusal position place (coordinate (double_at main place) unit)
    ∷ coordinate_checks main unit position (place + 8) count

-- two coordinates, as they were read, are different, or not both were read
abbrev pub differs : Result ℤ CoordFault → Result ℤ CoordFault → Bool
differs (Ok a) (Ok b) = is_not a b
differs (Ok a) (Err d) = true
differs (Err c) b = true

-- the point at one byte is not the point at another
abbrev pub is_other_point : List ℕ → LengthUnit → ℕ → ℕ → Bool
is_other_point main unit a b =
    differs (coordinate (double_at main a) unit) (coordinate (double_at main b) unit)
    || differs (coordinate (double_at main (a + 8)) unit) (coordinate (double_at main (b + 8)) unit)

-- the check of the ring's closing: its first point stands at one byte, its last at the other
unfoldable pub closing_checks : List ℕ → LengthUnit → ℕ → ℕ → ℕ → List Check
closing_checks main unit position first last =
    check (is_other_point main unit first last) (fault position last kinds.NotClosed) ∷ []

-- the checks of its points: each coordinate, and then the ring's closing
unfoldable pub ring_checks : List ℕ → LengthUnit → ℕ → ℕ → ℕ → List Check
ring_checks main unit position first count =
    coordinate_checks main unit position first (2 * count)
    ++ closing_checks main unit position first (first + 16 * (count - 1))

-- how many of so many points, from a byte on, are not the point behind them
unfoldable pub distinct_points : List ℕ → LengthUnit → ℕ → ℕ → ℕ
distinct_points main unit at zero = 0
distinct_points main unit at (suc count) =
    (if is_other_point main unit at (at + 16) then 1 else 0) + distinct_points main unit (at + 16) count

-- the check of the corners that are left where neighbours that are equal, round the ring, are kept once
unfoldable pub corner_checks : List ℕ → LengthUnit → ℕ → ℕ → List Check
corner_checks main unit position start =
    check (nat_lt (distinct_points main unit (start + 56) (points_of main start - 1)) 3)
    (fault position (start + 48) kinds.FewPoints) ∷ []

-- all checks of a polygon
unfoldable pub polygon_checks : List ℕ → LengthUnit → ℕ → ℕ → ℕ → List Check
polygon_checks main unit position start corners_before =
    count_checks main position start corners_before
    ++ (ring_checks main unit position (start + 56) (points_of main start)
    ++ corner_checks main unit position start)

-- all checks of the record at this position that begins at this byte, where the polygons
-- before it have so many corners together
unfoldable pub record_checks : List ℕ → LengthUnit → ℕ → ℕ → ℕ → List Check
record_checks main unit position start corners_before =
    frame_checks main position start
    ++ (shape_checks main position start
    ++ (if is_null main start then [] else polygon_checks main unit position start corners_before))

-- the corners of the record's ring as it is drawn, the closing one not counted: none for a null shape
abbrev pub drawn_corners : List ℕ → ℕ → ℕ
drawn_corners main start = if is_null main start then 0 else points_of main start - 1
