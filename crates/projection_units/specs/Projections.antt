-- What a projection says of the unit of coordinates.
use Rattle.std.specs.Prelude.{ℕ, Bool, false, not, ◌||◌, ◌&&◌, List, [], ◌∷◌, if◌then◌else◌}
use Rattle.projection_units.specs.Factors.{stated_by}
use Rattle.projection_units.specs.Keywords.{plane_word, later_word, globe_word, unit_word}
use Rattle.projection_units.specs.Names.{named_unit}
use Rattle.projection_units.specs.Plain.{plain}
use Rattle.projection_units.specs.Tokens.{Token, Opening, Quoted, Parted, Closing, tokens}
use Rattle.projection_units.specs.declared.stated.Stated.{Stated}
use Rattle.projection_units.specs.declared.stated.Stated.TheVariants.{Degrees, Unclear}

-- what a unit says by what comes after its keyword: its name in quotes, a comma, its factor
abbrev pub unit_after : List Token → Stated
unit_after (Quoted name ∷ Parted between ∷ Parted factor ∷ rest) = stated_by (named_unit name) factor
unit_after (Quoted name ∷ Parted between ∷ Closing factor ∷ rest) = stated_by (named_unit name) factor
unit_after other = Unclear

-- the last unit among tokens; where there is none, what was said before
abbrev pub last_unit : Stated → List Token → Stated
last_unit before [] = before
last_unit before (Opening word ∷ rest) = last_unit (if unit_word word then unit_after rest else before) rest
last_unit before (other ∷ rest) = last_unit before rest

-- what comes before the description of heights, of times, or of another system
abbrev pub up_to_heights : List Token → List Token
up_to_heights [] = []
up_to_heights (Opening word ∷ rest) = if later_word word then [] else Opening word ∷ up_to_heights rest
up_to_heights (other ∷ rest) = other ∷ up_to_heights rest

-- the description of the plane, after its keyword
abbrev pub plane_of : List Token → List Token
plane_of [] = []
plane_of (Opening word ∷ rest) = if plane_word word then up_to_heights rest else plane_of rest
plane_of (other ∷ rest) = plane_of rest

-- whether a keyword of a kind is among tokens
abbrev pub has_keyword : (List ℕ → Bool) → List Token → Bool
has_keyword is_kind [] = false
has_keyword is_kind (Opening word ∷ rest) = is_kind word || has_keyword is_kind rest
has_keyword is_kind (other ∷ rest) = has_keyword is_kind rest

-- by its tokens: degrees where they describe latitudes and longitudes, and no plane; else the plane's last unit
abbrev pub said_by : List Token → Stated
said_by tokens =
    if has_keyword globe_word tokens && not (has_keyword plane_word tokens) then Degrees
    else last_unit Unclear (plane_of tokens)

-- by its text
abbrev pub unit_said : List ℕ → Stated
unit_said text = said_by (tokens text)

-- by its file
abbrev pub unit_of_file : List ℕ → Stated
unit_of_file file = unit_said (plain file)
