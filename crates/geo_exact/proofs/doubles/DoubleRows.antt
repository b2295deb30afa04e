-- Worked examples of the doubles of whole numbers, computed from the definitions.
use Rattle.std.proofs.Common.{◌≡◌, pos, negsuc, refl}
use lib.Count.{count_leading_zeros}
use Rattle.geo_exact.specs.Doubles.{whole_bits, bits_of}

nothing : bits_of (pos 0) ≡ 0
unfolding bits_of whole_bits
nothing = refl

one : bits_of (pos 1) ≡ 0x3FF0000000000000
unfolding bits_of whole_bits count_leading_zeros
one = refl

minus_one : bits_of (negsuc 0) ≡ 0xBFF0000000000000
unfolding bits_of whole_bits count_leading_zeros
minus_one = refl

hundred : bits_of (pos 100) ≡ 0x4059000000000000
unfolding bits_of whole_bits count_leading_zeros
hundred = refl

at_the_limit : bits_of (pos 100000000000) ≡ 0x42374876E8000000
unfolding bits_of whole_bits count_leading_zeros
at_the_limit = refl

at_the_lower_limit : bits_of (negsuc 99999999999) ≡ 0xC2374876E8000000
unfolding bits_of whole_bits count_leading_zeros
at_the_lower_limit = refl
