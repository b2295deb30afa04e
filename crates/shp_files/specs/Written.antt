-- The two files of a layer, as they are written (Technical Description, July 1998: "Organization of the Main File",
-- "The Main File Header", "Record Headers", "Polygon", "Organization of the Index File"). The box of no ring, all 0,
-- and the order of a ring of area 0 are this product's own.
use Rattle.std.specs.Prelude.{ℕ, ◌+◌, ◌*◌, ◌/◌, ℤ, pos, int_lt, if◌then◌else◌, List, [], ◌∷◌, ◌++◌, length}
use Rattle.std.specs.Prelude.{map, replicate, fold, flat_map}
use Rattle.std.specs.Int.{int_min, int_max}
use Rattle.byteorder.specs.Endian.{big_bytes, little_bytes}
use Rattle.geo_exact.specs.declared.corner.Corner.{Corner}
use Rattle.geo_exact.specs.Area.{area2}
use Rattle.geo_exact.specs.Doubles.{bits_of}
use Rattle.geo_exact.specs.Rings.{turned_round}
use Rattle.geo_exact.specs.declared.raw_ring.RawRing.{RawRing}
use Rattle.shp_files.specs.LayerFile.{NumberedRing, numbered, closed, joined}

-- "Numeric Types", "Byte Order": a whole number of 32 bits, its most significant byte first or last, and a double,
-- its most significant byte last
unfoldable pub big : ℕ → List ℕ
big n = big_bytes 4 n

unfoldable pub little : ℕ → List ℕ
little n = little_bytes 4 n

unfoldable pub double : ℤ → List ℕ
double k = little_bytes 8 (bits_of k)

unfoldable pub zeros : ℕ → List ℕ
zeros count = replicate count 0

-- lengths and places are counted in 16-bit words
abbrev pub words : List ℕ → ℕ
words bytes = length bytes / 2

-- a point: its x, and then its y
unfoldable pub point : Corner → List ℕ
point corner = double corner.x ++ double corner.y

-- the least and the greatest of some numbers, and 0 for none
unfoldable pub least : List ℤ → ℤ
least [] = pos 0
least (first ∷ rest) = fold int_min first rest

unfoldable pub greatest : List ℤ → ℤ
greatest [] = pos 0
greatest (first ∷ rest) = fold int_max first rest

abbrev pub x_of : Corner → ℤ
x_of corner = corner.x

abbrev pub y_of : Corner → ℤ
y_of corner = corner.y

-- the bounding box of corners: Xmin, Ymin, Xmax, Ymax
unfoldable pub box : List Corner → List ℕ
box corners =
    double (least (map x_of corners)) ++ double (least (map y_of corners)) ++ double (greatest (map x_of corners))
    ++ double (greatest (map y_of corners))

-- a ring as a polygon has it, its interior to the right of the walk: one of positive area is turned round
abbrev pub as_written : List Corner → List Corner
as_written ring = if int_lt (pos 0) (area2 ring) then turned_round ring else ring

-- the points of a ring: its corners, and the first once more
abbrev pub points : List Corner → List Corner
points ring = closed (as_written ring)

-- "Polygon": the shape type, the box, the number of parts, the number of points, the place
-- of the part's first point, the points
unfoldable pub content : List Corner → List ℕ
content ring =
    little 5 ++ box ring ++ little 1 ++ little (length (points ring)) ++ little 0 ++ flat_map point (points ring)

-- "Record Headers": the record's number and its content's length, and then the content
unfoldable pub record_bytes : ℕ → List Corner → List ℕ
record_bytes number ring = big number ++ big (words (content ring)) ++ content ring

-- the records of rings, the first of which has this number
abbrev pub records : ℕ → List (List Corner) → List (List ℕ)
records number [] = []
records number (ring ∷ rings) = record_bytes number ring ∷ records (number + 1) rings

-- "Main File Header": the file code, unused bytes, the file's length, the version, the shape type, the box of all
-- corners, and the ranges of Z and M, which polygons do not have
unfoldable pub header : ℕ → List Corner → List ℕ
header file_words corners = big 9994 ++ zeros 20 ++ big file_words ++ little 1000 ++ little 5 ++ box corners ++ zeros 32

-- all corners of the rings
abbrev pub all_corners : List (List Corner) → List Corner
all_corners rings = flat_map (λ ring. ring) rings

-- the main file: its header, of 50 words, and its records
unfoldable pub written_main : List (List Corner) → List ℕ
written_main rings = header (50 + words (joined (records 1 rings))) (all_corners rings) ++ joined (records 1 rings)

-- "Index Records": for each record the place in the main file at which it begins, and its content's length, both in
-- words. A record's header has 4 words. The first of these rings' records begins at this place.
abbrev pub index_records : ℕ → List (List Corner) → List ℕ
index_records place [] = []
index_records place (ring ∷ rings) =
    big place ++ big (words (content ring)) ++ index_records (place + 4 + words (content ring)) rings

-- the index file: its header, of 50 words, and 4 words for each record
unfoldable pub written_index : List (List Corner) → List ℕ
written_index rings = header (50 + 4 * length rings) (all_corners rings) ++ index_records 50 rings

-- the corners of each ring of a list
abbrev pub corner_lists : {A : Type 0} → List (RawRing A) → List (List Corner)
corner_lists rings = map (λ ring. ring.corners) rings

-- rings, the first of which has this number
abbrev pub numbered_from : ℕ → List (List Corner) → List NumberedRing
numbered_from number [] = []
numbered_from number (ring ∷ rings) = numbered number ring ∷ numbered_from (number + 1) rings
