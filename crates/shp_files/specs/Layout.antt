-- Where the numbers of a shapefile stand (Technical Description, July 1998, "Numeric Types", "Byte Order", "The Main
-- File Header", "Record Headers", "Polygon", "Index Records").
use Rattle.std.specs.Prelude.{ℕ, ◌+◌, ℤ, pos, negsuc, List, drop}
use Rattle.byteorder.specs.Endian.{big_number, little_number, twos_complement}

-- the signed 32-bit number at a byte, its most significant byte first
unfoldable pub big_at : List ℕ → ℕ → ℤ
big_at bytes at = twos_complement 4 (big_number 4 (drop at bytes))

-- the signed 32-bit number at a byte, its least significant byte first
unfoldable pub little_at : List ℕ → ℕ → ℤ
little_at bytes at = twos_complement 4 (little_number 4 (drop at bytes))

-- the bits of the double at a byte, its least significant byte first
unfoldable pub double_at : List ℕ → ℕ → ℕ
double_at bytes at = little_number 8 (drop at bytes)

-- The header, 100 bytes.
abbrev pub file_code : List ℕ → ℤ
file_code file = big_at file 0

-- the file's length in 16-bit words, the header included
abbrev pub file_words : List ℕ → ℤ
file_words file = big_at file 24

abbrev pub version : List ℕ → ℤ
version file = little_at file 28

abbrev pub header_shape_type : List ℕ → ℤ
header_shape_type file = little_at file 32

-- A record that begins at a byte: its header has 8 bytes, and then comes its content. (The Description counts from
-- the content, so its places are 8 less.) The content's length in 16-bit words.
abbrev pub content_words : List ℕ → ℕ → ℤ
content_words file start = big_at file (start + 4)

abbrev pub shape_type : List ℕ → ℕ → ℤ
shape_type file start = little_at file (start + 8)

-- A polygon: after its type and its box the number of its parts (NumParts), the number of its points (NumPoints), the
-- index of each part's first point among the points (Parts), and the points.
abbrev pub part_count : List ℕ → ℕ → ℤ
part_count file start = little_at file (start + 44)

abbrev pub point_count : List ℕ → ℕ → ℤ
point_count file start = little_at file (start + 48)

abbrev pub first_part : List ℕ → ℕ → ℤ
first_part file start = little_at file (start + 52)

-- An index record that begins at a byte: the place of its record in the main file, in 16-bit words, and then that
-- record's content length, at the same byte as a record header has it (`content_words`).
abbrev pub offset_words : List ℕ → ℕ → ℤ
offset_words index start = big_at index start

-- a number that is not negative, and 0 for one that is
unfoldable pub natural : ℤ → ℕ
natural (pos n) = n
natural (negsuc n) = 0
