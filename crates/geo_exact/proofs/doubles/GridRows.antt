-- What `coordinate` answers for doubles whose value was worked out by hand.
use Rattle.std.proofs.Common.{◌≡◌, pos, Ok, Err, refl}
use Rattle.geo_exact.specs.declared.coord.Unit.TheVariants.{Mm, Cm, M}
use Rattle.geo_exact.specs.declared.coord.CoordFault.TheVariants.{NotNumber, OffGrid, TooFar}
use Rattle.geo_exact.specs.Grid.{coordinate, size_of}

-- 12.34 m
hundredths : coordinate 0x4028AE147AE147AE M ≡ Ok (pos 12340)
unfolding coordinate size_of
hundredths = refl

-- 12.345 m
thousandths : coordinate 0x4028B0A3D70A3D71 M ≡ Ok (pos 12345)
unfolding coordinate size_of
thousandths = refl

minus_zero : coordinate 0x8000000000000000 M ≡ Ok (pos 0)
unfolding coordinate size_of
minus_zero = refl

-- 1/2048 m
half_a_millimetre : coordinate 0x3F40000000000000 M ≡ Err OffGrid
unfolding coordinate size_of
half_a_millimetre = refl

-- 5 + 1/1024
a_hundredth_off_in_centimetres : coordinate 0x4014010000000000 Cm ≡ Err OffGrid
unfolding coordinate size_of
a_hundredth_off_in_centimetres = refl

at_the_tolerance : coordinate 0x4014010000000000 Mm ≡ Ok (pos 5)
unfolding coordinate size_of
at_the_tolerance = refl

past_the_tolerance : coordinate 0x4014010000000001 Mm ≡ Err OffGrid
unfolding coordinate size_of
past_the_tolerance = refl

infinity : coordinate 0x7FF0000000000000 Cm ≡ Err NotNumber
unfolding coordinate size_of
infinity = refl

-- 10 ^ 10 cm
at_the_limit : coordinate 0x4202A05F20000000 Cm ≡ Ok (pos 100000000000)
unfolding coordinate size_of
at_the_limit = refl

-- 10 ^ 10 + 1 cm
past_the_limit : coordinate 0x4202A05F20080000 Cm ≡ Err TooFar
unfolding coordinate size_of
past_the_limit = refl

-- 10 ^ 11 mm
at_the_limit_in_millimetres : coordinate 0x42374876E8000000 Mm ≡ Ok (pos 100000000000)
unfolding coordinate size_of
at_the_limit_in_millimetres = refl
