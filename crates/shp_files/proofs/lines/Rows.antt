-- The tables on the main file and the index of a square with corners at 0 and 100, worked out by hand.
use Rattle.std.proofs.Common.{◌≡◌, ℕ, List, [], ◌∷◌, ◌++◌, Some, None, take, set, replicate, refl}
use Rattle.geo_exact.specs.declared.coord.Unit.TheVariants.{Mm}
use Rattle.geo_exact.specs.declared.coord.CoordFault.TheVariants.{NotNumber}
use Rattle.geo_exact.specs.Grid.{coordinate, size_of}
use Rattle.shp_files.specs.declared.fault.FileName.TheVariants.{Main, Index}
use Rattle.shp_files.specs.declared.fault.FaultKind.TheVariants.{Short, Parts, NotClosed, Coord}
use Rattle.shp_files.specs.Layout.{big_at, little_at, double_at, natural}
use Rattle.shp_files.specs.Checks.{first_failure, header_checks, record_checks, frame_checks, shape_checks}
use Rattle.shp_files.specs.Checks.{count_checks, polygon_checks, corner_checks, distinct_points, coordinate_checks}
use Rattle.shp_files.specs.Checks.{closing_checks, ring_checks, declared_end, record_end, fault}
use Rattle.shp_files.specs.IndexChecks.{disagreement, entry_checks, index_end_checks, index_record_checks}

abbrev zeros : ℕ → List ℕ
zeros n = replicate n 0

-- the double 100
abbrev hundred : List ℕ
hundred = zeros 6 ++ 0x59 ∷ 0x40 ∷ []

abbrev square : List ℕ
square =
    (0x00 ∷ 0x00 ∷ 0x27 ∷ 0x0a ∷ []) ++ zeros 20 ++ (0 ∷ 0 ∷ 0 ∷ 0x76 ∷ 0xe8 ∷ 3 ∷ 0 ∷ 0 ∷ 5 ∷ 0 ∷ 0 ∷ 0
    ∷ []) ++ zeros 16 ++ hundred ++ hundred ++ zeros 32
    ++ (0 ∷ 0 ∷ 0 ∷ 1 ∷ 0 ∷ 0 ∷ 0 ∷ 0x40 ∷ 5 ∷ 0 ∷ 0 ∷ 0 ∷ []) ++ zeros 16 ++ hundred ++ hundred
    ++ (1 ∷ 0 ∷ 0 ∷ 0 ∷ 5 ∷ 0 ∷ 0 ∷ 0 ∷ 0 ∷ 0 ∷ 0 ∷ 0 ∷ [])
    ++ zeros 24 ++ hundred ++ hundred ++ hundred ++ hundred ++ zeros 8 ++ zeros 16

header_fine : first_failure (header_checks Main square) ≡ None
unfolding first_failure header_checks declared_end big_at little_at natural
header_fine = refl

record_fine : first_failure (record_checks square Mm 1 100 0) ≡ None
unfolding first_failure record_checks frame_checks shape_checks count_checks polygon_checks corner_checks
    distinct_points coordinate_checks closing_checks ring_checks declared_end big_at little_at double_at natural coordinate size_of
record_fine = refl

record_ends : record_end square 100 ≡ declared_end square
unfolding declared_end big_at natural
record_ends = refl

torn : first_failure (header_checks Main (take 235 square)) ≡ Some (fault 0 235 Short)
unfolding first_failure header_checks declared_end big_at little_at natural
torn = refl

torn_header : first_failure (header_checks Main (take 57 square)) ≡ Some (fault 0 57 Short)
unfolding first_failure header_checks declared_end big_at little_at natural
torn_header = refl

two_parts : first_failure (record_checks (set square 144 2) Mm 1 100 0) ≡ Some (fault 1 144 Parts)
unfolding first_failure record_checks frame_checks shape_checks count_checks polygon_checks corner_checks
    distinct_points coordinate_checks closing_checks ring_checks declared_end big_at little_at double_at natural coordinate size_of
two_parts = refl

-- the last point is (0, 1)
open_ring : first_failure (record_checks (set (set square 234 0xf0) 235 0x3f) Mm 1 100 0) ≡ Some (fault 1 220 NotClosed)
unfolding first_failure record_checks frame_checks shape_checks count_checks polygon_checks corner_checks
    distinct_points coordinate_checks closing_checks ring_checks declared_end big_at little_at double_at natural coordinate size_of
open_ring = refl

-- the first x is infinite
infinite : first_failure (record_checks (set (set square 162 0xf0) 163 0x7f) Mm 1 100 0) ≡ Some (fault 1 156 (Coord NotNumber))
unfolding first_failure record_checks frame_checks shape_checks count_checks polygon_checks corner_checks
    distinct_points coordinate_checks closing_checks ring_checks declared_end big_at little_at double_at natural coordinate size_of
infinite = refl

-- an index of so many words, with these index records
abbrev index_of : ℕ → List ℕ → List ℕ
index_of words entries =
    (0x00 ∷ 0x00 ∷ 0x27 ∷ 0x0a ∷ []) ++ zeros 20 ++ (0 ∷ 0 ∷ 0 ∷ words ∷ 0xe8 ∷ 3 ∷ 0 ∷ 0 ∷ 5 ∷ 0 ∷ 0 ∷ 0
    ∷ []) ++ zeros 64 ++ entries

abbrev entry : (offset words : ℕ) → List ℕ
entry offset words = 0 ∷ 0 ∷ 0 ∷ offset ∷ 0 ∷ 0 ∷ 0 ∷ words ∷ []

index_header : first_failure (header_checks Index (index_of 54 (entry 50 64))) ≡ None
unfolding first_failure header_checks declared_end big_at little_at natural
index_header = refl

index_record : first_failure (entry_checks square (index_of 54 (entry 50 64)) 1 100) ≡ None
unfolding first_failure entry_checks index_record_checks index_end_checks declared_end big_at natural
index_record = refl

index_ends : first_failure (entry_checks square (index_of 54 (entry 50 64)) 2 236) ≡ None
unfolding first_failure entry_checks index_record_checks index_end_checks declared_end big_at natural
index_ends = refl

-- the offset in bytes, the content length with the record header, one index record too few, one too many, and a main file of no record
other_offset : first_failure (entry_checks square (index_of 54 (entry 100 64)) 1 100) ≡ Some (disagreement 1 100)
unfolding first_failure entry_checks index_record_checks index_end_checks declared_end big_at natural
other_offset = refl

other_length : first_failure (entry_checks square (index_of 54 (entry 50 68)) 1 100) ≡ Some (disagreement 1 104)
unfolding first_failure entry_checks index_record_checks index_end_checks declared_end big_at natural
other_length = refl

too_few : first_failure (entry_checks square (index_of 50 []) 1 100) ≡ Some (disagreement 1 100)
unfolding first_failure entry_checks index_record_checks index_end_checks declared_end big_at natural
too_few = refl

too_many : first_failure (entry_checks square (index_of 58 (entry 50 64 ++ entry 118 64)) 2 236) ≡ Some (disagreement 2 108)
unfolding first_failure entry_checks index_record_checks index_end_checks declared_end big_at natural
too_many = refl

of_no_record : first_failure (entry_checks (set (take 100 square) 27 50) (index_of 54 (entry 50 64)) 1 100) ≡ Some (disagreement 1 100)
unfolding first_failure entry_checks index_record_checks index_end_checks declared_end big_at natural
of_no_record = refl
