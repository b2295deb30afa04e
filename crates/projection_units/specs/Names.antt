-- Names of units, in capitals or not.
use Rattle.std.specs.Prelude.{ℕ, Bool, ◌||◌, List, map, codes, Option, None, Some, if◌then◌else◌}
use Rattle.std.specs.Char.{to_ascii_lowercase}
use Rattle.std.specs.Str.{bytes_eq}
use Rattle.geo_exact.specs.declared.coord.Unit.{Unit as LengthUnit}
use Rattle.geo_exact.specs.declared.coord.Unit.TheVariants.{Mm, Cm, M}

-- whether a name is this word, which is in small letters
abbrev pub spelled : List ℕ → List ℕ → Bool
spelled name word = bytes_eq (map to_ascii_lowercase name) word

abbrev pub metre_name : List ℕ → Bool
metre_name name = spelled name (codes "m") || spelled name (codes "metre") || spelled name (codes "meter")
    || spelled name (codes "metres") || spelled name (codes "meters")

abbrev pub centimetre_name : List ℕ → Bool
centimetre_name name = spelled name (codes "cm") || spelled name (codes "centimetre")
    || spelled name (codes "centimeter") || spelled name (codes "centimetres") || spelled name (codes "centimeters")

abbrev pub millimetre_name : List ℕ → Bool
millimetre_name name = spelled name (codes "mm") || spelled name (codes "millimetre")
    || spelled name (codes "millimeter") || spelled name (codes "millimetres") || spelled name (codes "millimeters")

-- the unit of a name; of any other name none is known
abbrev pub named_unit : List ℕ → Option LengthUnit
named_unit name =
    if metre_name name then Some M
    else (if centimetre_name name then Some Cm else (if millimetre_name name then Some Mm else None))
