-- A layer's main file as a whole text: a header, records of null shapes and polygons, and bytes that are ignored
-- (Technical Description, July 1998, "Organization of the Main File", "The Main File Header", "Record Headers", "Null
-- Shapes", "Polygon"); and, where it is given, its index file: a header, an index record for each record, and bytes
-- that are ignored ("Organization of the Index File", "Index Records"). The bytes behind the declared length, which
-- are ignored, and the limits on records and corners are this product's own. Boxes, ranges, unused bytes and stored
-- record numbers are not compared.
use Rattle.std.specs.Prelude.{◌≡◌, ◌⊎◌, ℕ, ◌+◌, ◌*◌, ◌≤◌, pos, ◌+ℤ◌, ◌*ℤ◌, List, [], ◌∷◌}
use Rattle.std.specs.Prelude.{◌++◌, length, map, Option, IfSome}
use Rattle.geo_exact.specs.declared.corner.Corner.{Corner}
use Rattle.geo_exact.specs.declared.coord.Unit.{Unit as LengthUnit}
use Rattle.geo_exact.specs.Grid.{IsOnGrid}
use Rattle.geo_exact.specs.declared.limits.TheConstants.{LAYER_CORNERS, LAYER_RECORDS, RING_CORNERS}
pub use Rattle.geo_exact.specs.Layers.{NumberedRing, numbered, rings_of, corner_count}
use Rattle.shp_files.specs.NormalForm.{kept_once, normal_form}
use Rattle.shp_files.specs.Layout.{double_at, file_code, file_words, version, header_shape_type, content_words}
use Rattle.shp_files.specs.Layout.{shape_type, part_count, point_count, first_part, offset_words}

-- the header of a file that is `declared` bytes long
pub record IsHeader (header : List ℕ) (declared : ℕ) : Type 0 where
  pub is_whole : length header ≡ 100
  pub has_code : file_code header ≡ pos 9994
  pub has_length : pos 2 *ℤ file_words header ≡ pos declared
  pub has_version : version header ≡ pos 1000
  pub has_type : header_shape_type header ≡ pos 5

-- the points that stand from a byte on are these corners, each coordinate by the grid of its double (a `Corner` is
-- within the limit by its type)
abbrev pub ArePoints : LengthUnit → List ℕ → ℕ → List Corner → Type 0
ArePoints unit bytes at [] = Unit {0}
ArePoints unit bytes at (corner ∷ rest) =
    IsOnGrid (double_at bytes at) unit corner.x × IsOnGrid (double_at bytes (at + 8)) unit corner.y
    × ArePoints unit bytes (at + 16) rest

-- a ring as a file has it: the first corner once more at the end
abbrev pub closed : List Corner → List Corner
closed [] = []
closed (first ∷ rest) = (first ∷ rest) ++ first ∷ []

-- the bytes are the record of a null shape
pub record IsNullShape (bytes : List ℕ) : Type 0 where
  pub is_whole : length bytes ≡ 12
  pub has_length : content_words bytes 0 ≡ pos 2
  pub has_type : shape_type bytes 0 ≡ pos 0

-- The bytes are the record of a polygon of one closed ring with at most 4,096 corners, the closing one not counted, and
-- at least 3 where neighbours that are equal are kept once.
pub record IsPolygon (unit : LengthUnit) (bytes : List ℕ) (corners : List Corner) : Type 0 where
  pub has_length : pos (length bytes) ≡ pos 8 +ℤ pos 2 *ℤ content_words bytes 0
  pub has_type : shape_type bytes 0 ≡ pos 5
  pub has_one_part : part_count bytes 0 ≡ pos 1
  pub has_count : point_count bytes 0 ≡ pos (length (closed corners))
  pub has_first_part : first_part bytes 0 ≡ pos 0
  pub is_filled : length bytes ≡ 56 + 16 * length (closed corners)
  pub has_points : ArePoints unit bytes 56 (closed corners)
  pub has_enough : 3 ≤ length (kept_once corners)
  pub has_not_too_many : length corners ≤ RING_CORNERS

-- The records, the first of which has this number, are null shapes and polygons, and these are the rings of the
-- polygons as they are drawn.
abbrev pub AreRecords : LengthUnit → ℕ → List (List ℕ) → List NumberedRing → Type 0
AreRecords unit number [] [] = Unit {0}
AreRecords unit number [] (ring ∷ rings) = ⊥
AreRecords unit number (bytes ∷ records) [] = IsNullShape bytes × AreRecords unit (number + 1) records []
AreRecords unit number (bytes ∷ records) (ring ∷ rings) =
    (IsNullShape bytes × AreRecords unit (number + 1) records (ring ∷ rings))
    ⊎ ((ring.number ≡ number) × IsPolygon unit bytes ring.corners × AreRecords unit (number + 1) records rings)

-- the pieces, one after the other
abbrev pub joined : List (List ℕ) → List ℕ
joined [] = []
joined (piece ∷ pieces) = piece ++ joined pieces

-- the rings as they are kept
abbrev pub normal_rings : List NumberedRing → List NumberedRing
normal_rings rings = map (λ ring. numbered ring.number (normal_form ring.corners)) rings

-- the bytes are the index record of the record `indexed`, which begins at this byte of the main file
pub record IsIndexRecord (bytes : List ℕ) (start : ℕ) (indexed : List ℕ) : Type 0 where
  pub is_whole : length bytes ≡ 8
  pub has_offset : pos 2 *ℤ offset_words bytes 0 ≡ pos start
  pub has_length : content_words bytes 0 ≡ content_words indexed 0

-- There is an index record for each of these records, in their order; the first of them
-- begins at this byte of the main file.
abbrev pub AreIndexRecords : ℕ → List (List ℕ) → List (List ℕ) → Type 0
AreIndexRecords start [] [] = Unit {0}
AreIndexRecords start [] (indexed ∷ records) = ⊥
AreIndexRecords start (bytes ∷ entries) [] = ⊥
AreIndexRecords start (bytes ∷ entries) (indexed ∷ records) =
    IsIndexRecord bytes start indexed × AreIndexRecords (start + length indexed) entries records

-- the bytes are the index file of these records
pub record IsIndexFile (index : List ℕ) (records : List (List ℕ)) : Type 0 where
  pub header : List ℕ
  pub entries : List (List ℕ)
  pub ignored : List ℕ
  pub is_text : index ≡ header ++ joined entries ++ ignored
  pub has_header : IsHeader header (length header + length (joined entries))
  pub has_entries : AreIndexRecords 100 entries records

-- the bytes are a layer's main file in this unit and, where there is one, its index file, and these are its rings
pub record IsLayerFile (main : List ℕ) (index : Option (List ℕ)) (unit : LengthUnit)
    (rings : List NumberedRing) : Type 0 where
  pub header : List ℕ
  pub records : List (List ℕ)
  pub ignored : List ℕ
  pub drawn : List NumberedRing
  pub is_text : main ≡ header ++ joined records ++ ignored
  pub has_header : IsHeader header (length header + length (joined records))
  pub has_records : AreRecords unit 1 records drawn
  pub records_within : length records ≤ LAYER_RECORDS
  pub corners_within : corner_count drawn ≤ LAYER_CORNERS
  pub has_index : IfSome index (λ bytes. IsIndexFile bytes records)
  pub has_rings : rings ≡ normal_rings drawn
