-- The files of a layer of one square, and those of no ring, computed from the definitions.
use Rattle.std.proofs.Common.{◌≡◌, ℕ, List, [], ◌∷◌, ◌++◌, replicate, refl}
use lib.Count.{count_leading_zeros}
use Rattle.geo_exact.specs.declared.corner.Corner.{Corner}
use Rattle.geo_exact.specs.Doubles.{whole_bits, bits_of}
use Rattle.geo_exact.proofs.rings.Rows.{at}
use Rattle.shp_files.specs.Written.{big, little, double, zeros, point, box, least, greatest, content, record_bytes}
use Rattle.shp_files.specs.Written.{header, written_main, written_index}

abbrev pub square : List (List Corner)
square = (at 0 0 tt tt ∷ at 100 0 tt tt ∷ at 100 100 tt tt ∷ at 0 100 tt tt ∷ []) ∷ []

abbrev none : ℕ → List ℕ
none count = replicate count 0

-- the double 100
abbrev hundred : List ℕ
hundred = 0 ∷ 0 ∷ 0 ∷ 0 ∷ 0 ∷ 0 ∷ 0x59 ∷ 0x40 ∷ []

abbrev header_with : ℕ → List ℕ → List ℕ
header_with length_byte box =
    0 ∷ 0 ∷ 0x27 ∷ 0x0a ∷ none 20 ++ 0 ∷ 0 ∷ 0 ∷ length_byte ∷ 0xe8 ∷ 0x03 ∷ 0 ∷ 0 ∷ 5 ∷ 0 ∷ 0 ∷ 0 ∷ []
    ++ box ++ none 32

main_of_square : written_main square
    ≡ header_with 0x76 (none 16 ++ hundred ++ hundred)
    ++ 0 ∷ 0 ∷ 0 ∷ 1 ∷ 0 ∷ 0 ∷ 0 ∷ 0x40 ∷ 5 ∷ 0 ∷ 0 ∷ 0 ∷ none 16 ++ hundred ++ hundred
    ++ 1 ∷ 0 ∷ 0 ∷ 0 ∷ 5 ∷ 0 ∷ 0 ∷ 0 ∷ 0 ∷ 0 ∷ 0 ∷ 0 ∷ []
    ++ none 16
    ++ none 8 ++ hundred
    ++ hundred ++ hundred
    ++ hundred ++ none 8
    ++ none 16
unfolding written_main header record_bytes content big little double zeros point box least greatest bits_of whole_bits count_leading_zeros
main_of_square = refl

index_of_square : written_index square ≡ header_with 0x36 (none 16 ++ hundred ++ hundred) ++ 0 ∷ 0 ∷ 0 ∷ 0x32 ∷ 0 ∷ 0
    ∷ 0 ∷ 0x40 ∷ []
unfolding written_index header content big little double zeros point box least greatest bits_of whole_bits count_leading_zeros
index_of_square = refl

main_of_none : written_main [] ≡ header_with 0x32 (none 32)
unfolding written_main header big little double zeros box least greatest bits_of whole_bits
main_of_none = refl

index_of_none : written_index [] ≡ header_with 0x32 (none 32)
unfolding written_index header big little double zeros box least greatest bits_of whole_bits
index_of_none = refl
