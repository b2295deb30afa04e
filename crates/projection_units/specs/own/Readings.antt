-- What was read of a projection's text, byte by byte. Public contracts do not speak of it. A word is what stands
-- between two of the bytes `"` (34), `(` (40), `)` (41), `,` (44), `[` (91) and `]` (93), but for spaces and line ends
-- before it; in a name, which quotes enclose, only a quote counts.
use Rattle.std.specs.Prelude.{ℕ, ◌+◌, Bool, true, false, ◌&&◌, ◌||◌, ◌==◌, nat_lt, List, length}
use Rattle.std.specs.Prelude.{slice_index, slice_range, if◌then◌else◌}
use Rattle.projection_units.specs.Factors.{stated_by}
use Rattle.projection_units.specs.Keywords.{plane_word, later_word, globe_word, unit_word}
use Rattle.projection_units.specs.Names.{named_unit}
use Rattle.projection_units.specs.declared.reading.Awaited.{Awaited}
use Rattle.projection_units.specs.declared.reading.Awaited.TheVariants.{Nothing, Name, Comma, Factor}
use Rattle.projection_units.specs.declared.reading.Place.{Place}
use Rattle.projection_units.specs.declared.reading.Place.TheVariants.{Before, Within, Behind}
use Rattle.projection_units.specs.declared.reading.Reading.{Reading}
use Rattle.projection_units.specs.declared.stated.Stated.{Stated}
use Rattle.projection_units.specs.declared.stated.Stated.TheVariants.{Degrees, Unclear}

-- where what stands in a keyword's brackets is
abbrev pub place_behind : List ℕ → Place → Place
place_behind word Before = if plane_word word then Within else Before
place_behind word Within = if later_word word then Behind else Within
place_behind word Behind = Behind

-- whether a keyword begins a unit of the plane
abbrev pub meets_unit : List ℕ → Place → Bool
meets_unit word Before = false
meets_unit word Within = unit_word word
meets_unit word Behind = false

-- behind a keyword and the bracket that it ends in, at this place of the text
abbrev pub opened : List ℕ → ℕ → Reading → Reading
opened word at reading = record {
  quoted = false;
  word = at + 1;
  place = place_behind word reading.place;
  awaited = if meets_unit word (place_behind word reading.place) then Name else Nothing;
  globe = reading.globe || globe_word word;
  unit = if meets_unit word (place_behind word reading.place) then Unclear else reading.unit;
}

-- what comes next behind a name
abbrev pub behind_name : List ℕ → Awaited → Awaited
behind_name name Name = Comma (named_unit name)
behind_name name awaited = Nothing

abbrev pub named : List ℕ → ℕ → Reading → Reading
named name at reading =
    record reading { quoted = false; word = at + 1; awaited = behind_name name reading.awaited }

-- what comes next behind a word that a comma ends, or a bracket
abbrev pub behind_word : Bool → Awaited → Awaited
behind_word true (Comma unit) = Factor unit
behind_word comma awaited = Nothing

-- what the last unit says behind a word
abbrev pub unit_behind : List ℕ → Awaited → Stated → Stated
unit_behind word (Factor unit) before = stated_by unit word
unit_behind word awaited before = before

abbrev pub ended : List ℕ → ℕ → Bool → Reading → Reading
ended word at comma reading = record reading {
  quoted = false;
  word = at + 1;
  awaited = behind_word comma reading.awaited;
  unit = unit_behind word reading.awaited reading.unit;
}

-- behind one more byte outside of names, and the word before it
abbrev pub outside : ℕ → List ℕ → ℕ → Reading → Reading
outside byte word at reading =
    if byte == 34 then record reading { quoted = true; word = at + 1 }
    else (if (byte == 91) || (byte == 40) then opened word at reading
    else (if byte == 44 then ended word at true reading
    else (if (byte == 93) || (byte == 41) then ended word at false reading
    else (if nat_lt byte 33 && (length word == 0) then record reading { word = at + 1 } else reading))))

-- behind one more byte
abbrev pub next : List ℕ → ℕ → Reading → Reading
next text at reading =
    if reading.quoted
    then (if slice_index text at == 34 then named (slice_range text reading.word at) at reading else reading)
    else outside (slice_index text at) (slice_range text reading.word at) at reading

-- before the first byte
abbrev pub begun : Reading
begun = record { quoted = false; word = 0; place = Before; awaited = Nothing; globe = false; unit = Unclear }

-- what a text says, by all of it
abbrev pub said : Place → Bool → Stated → Stated
said Before true unit = Degrees
said place globe unit = unit
