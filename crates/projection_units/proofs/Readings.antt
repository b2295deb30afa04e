-- What is read byte by byte is what the tokens say.
use Rattle.std.proofs.Common.{◌≡◌, ◌≤◌, ◌<◌, ◌+◌, ◌++◌, ◌-◌, ◌∙◌, ℕ, Bool, true, false, List, [], ◌∷◌, length, take, drop}
use Rattle.std.proofs.Common.{get_or, ap, refl, sym, subst, true≢false, arith, length-drop, get_or-drop}
use Rattle.std.specs.Str.{bytes_eq}
use Rattle.std.proofs.lemmas.Slice.Eq.{bytes_eq-Decides}
use Rattle.std.specs.Prelude.{◌==◌, ◌||◌, ◌&&◌, not, codes, slice_index, slice_range, if◌then◌else◌}
use Rattle.std.proofs.lemmas.List.{drop_more, take_more, drop_all}
use Rattle.projection_units.specs.Factors.{stated_by}
use Rattle.projection_units.specs.Keywords.{plane_word, later_word, globe_word, unit_word}
use Rattle.projection_units.specs.Names.{named_unit}
use Rattle.projection_units.specs.Projections.{unit_after, last_unit, up_to_heights, plane_of, has_keyword}
use Rattle.projection_units.specs.Tokens.{Token, Opening, Quoted, Parted, Closing, tokens_after, is_quote, is_opening, is_closing, is_blank}
use Rattle.projection_units.specs.own.Readings.{place_behind, meets_unit, behind_name, behind_word, unit_behind}
use Rattle.projection_units.specs.own.Readings.{opened, named, ended, next, said}
use Rattle.projection_units.specs.declared.reading.Awaited.{Awaited}
use Rattle.projection_units.specs.declared.reading.Awaited.TheVariants.{Nothing, Name, Comma, Factor}
use Rattle.projection_units.specs.declared.reading.Place.{Place}
use Rattle.projection_units.specs.declared.reading.Place.TheVariants.{Before, Within, Behind}
use Rattle.projection_units.specs.declared.reading.Reading.{Reading}
use Rattle.projection_units.specs.declared.stated.Stated.{Stated}
use Rattle.projection_units.specs.declared.stated.Stated.TheVariants.{Degrees, Unclear}

-- what is known of a projection after some of its tokens
pub record Known : Type 0 where
  pub place : Place
  pub awaited : Awaited
  pub globe : Bool
  pub unit : Stated

abbrev pub known : Reading → Known
known reading = record { place = reading.place; awaited = reading.awaited; globe = reading.globe; unit = reading.unit }

abbrev pub with_token : Token → Known → Known
with_token (Opening word) k = record {
  place = place_behind word k.place;
  awaited = if meets_unit word (place_behind word k.place) then Name else Nothing;
  globe = k.globe || globe_word word;
  unit = if meets_unit word (place_behind word k.place) then Unclear else k.unit;
}
with_token (Quoted name) k = record k { awaited = behind_name name k.awaited }
with_token (Parted word) k =
    record k { awaited = behind_word true k.awaited; unit = unit_behind word k.awaited k.unit }
with_token (Closing word) k =
    record k { awaited = behind_word false k.awaited; unit = unit_behind word k.awaited k.unit }

abbrev pub with_tokens : List Token → Known → Known
with_tokens [] k = k
with_tokens (token ∷ rest) k = with_tokens rest (with_token token k)

-- what will be known at the end, after a reading of the bytes before a place
abbrev pub at_the_end : List ℕ → ℕ → Reading → Known
at_the_end text at reading =
    with_tokens (tokens_after reading.quoted (slice_range text reading.word at) (drop at text)) (known reading)

-- a reading by what its contract's parts are
abbrev pub reading_of : Bool → ℕ → Known → Reading
reading_of quoted word k = record {
  quoted = quoted;
  word = word;
  place = k.place;
  awaited = k.awaited;
  globe = k.globe;
  unit = k.unit;
}

module _ (text : List ℕ) (at : ℕ) (within : at < length text) where
  nothing_yet : slice_range text (at + 1) (at + 1) ≡ []
  nothing_yet =
      let none : (at + 1) - (at + 1) ≡ 0 = omega arith in
      ap (λ count. take count (drop (at + 1) text)) none

  one_byte_more : (word : ℕ) → word ≤ at
      → slice_range text word (at + 1) ≡ slice_range text word at ++ slice_index text at ∷ []
  one_byte_more word before =
      let more : (at + 1) - word ≡ (at - word) + 1 = omega (arith, before) in
      let whole : word + (at - word) ≡ at = omega (arith, before) in
      ap (λ count. take count (drop word text)) more
      ∙ take_more (drop word text) (at - word) 0 (omega (arith, length-drop word text, before, within))
      ∙ ap (λ byte. slice_range text word at ++ byte ∷ []) (get_or-drop word text (at - word) 0 ∙ ap (λ k. get_or text k 0) whole)

  left_of : drop at text ≡ slice_index text at ∷ drop (at + 1) text
  left_of = drop_more text at 0 within

  in_a_name : (is_end : Bool) (word : ℕ) (k : Known) → word ≤ at
      → let w = slice_range text word at in let rest = drop (at + 1) text in
      at_the_end text (at + 1) (if is_end then named w at (reading_of true word k) else reading_of true word k)
      ≡ with_tokens (if is_end then Quoted w ∷ tokens_after false [] rest
      else tokens_after true (w ++ slice_index text at ∷ []) rest) k
  in_a_name true word k before = ap (λ begun. with_tokens (tokens_after false begun (drop (at + 1) text))
      (with_token (Quoted (slice_range text word at)) k)) nothing_yet
  in_a_name false word k before =
      ap (λ begun. with_tokens (tokens_after true begun (drop (at + 1) text)) k) (one_byte_more word before)

  outside_names : (quote opening comma closing blank : Bool) (word : ℕ) (k : Known) → word ≤ at
      → let w = slice_range text word at in let rest = drop (at + 1) text in let r = reading_of false word k in
      at_the_end text (at + 1) (if quote then record r { quoted = true; word = at + 1 }
      else (if opening then opened w at r else (if comma then ended w at true r
      else (if closing then ended w at false r else (if blank then record r { word = at + 1 } else r)))))
      ≡ with_tokens (if quote then tokens_after true [] rest
      else (if opening then Opening w ∷ tokens_after false [] rest
      else (if comma then Parted w ∷ tokens_after false [] rest
      else (if closing then Closing w ∷ tokens_after false [] rest
      else (if blank then tokens_after false [] rest
      else tokens_after false (w ++ slice_index text at ∷ []) rest))))) k
  outside_names true opening comma closing blank word k before =
      ap (λ begun. with_tokens (tokens_after true begun (drop (at + 1) text)) k) nothing_yet
  outside_names false true comma closing blank word k before = ap (λ begun. with_tokens
      (tokens_after false begun (drop (at + 1) text)) (with_token (Opening (slice_range text word at)) k)) nothing_yet
  outside_names false false true closing blank word k before = ap (λ begun. with_tokens
      (tokens_after false begun (drop (at + 1) text)) (with_token (Parted (slice_range text word at)) k)) nothing_yet
  outside_names false false false true blank word k before = ap (λ begun. with_tokens
      (tokens_after false begun (drop (at + 1) text)) (with_token (Closing (slice_range text word at)) k)) nothing_yet
  outside_names false false false false true word k before =
      ap (λ begun. with_tokens (tokens_after false begun (drop (at + 1) text)) k) nothing_yet
  outside_names false false false false false word k before =
      ap (λ begun. with_tokens (tokens_after false begun (drop (at + 1) text)) k) (one_byte_more word before)

  as_split : (quoted : Bool) (word : ℕ) (k : Known)
      → with_tokens (tokens_after quoted (slice_range text word at) (slice_index text at ∷ drop (at + 1) text)) k
      ≡ at_the_end text at (reading_of quoted word k)
  as_split quoted word k =
      ap (λ left. with_tokens (tokens_after quoted (slice_range text word at) left) k) (sym left_of)

  one_byte : (quoted : Bool) (word : ℕ) (k : Known) → word ≤ at
      → at_the_end text (at + 1) (next text at (reading_of quoted word k)) ≡ at_the_end text at (reading_of quoted word k)
  one_byte true word k before = in_a_name (is_quote (slice_index text at)) word k before ∙ as_split true word k
  one_byte false word k before =
      let byte = slice_index text at in
      outside_names (is_quote byte) (is_opening byte) (byte == 44) (is_closing byte)
      (is_blank (slice_range text word at) byte) word k before
      ∙ as_split false word k

  -- one more byte changes nothing of what all say
  pub reads_on : (reading : Reading) → reading.word ≤ at
      → at_the_end text (at + 1) (next text at reading) ≡ at_the_end text at reading
  reads_on reading before = one_byte reading.quoted reading.word (known reading) before

-- after the last byte nothing is left
pub read_whole : (text : List ℕ) (at : ℕ) (reading : Reading) → length text ≤ at → at_the_end text at reading ≡ known reading
read_whole text at reading past = ap (λ left. with_tokens (tokens_after reading.quoted
    (slice_range text reading.word at) left) (known reading)) (drop_all at text past)

-- what the tokens make of a unit that is being read
abbrev awaited_unit : Awaited → List Token → Stated → Stated
awaited_unit Nothing tokens before = before
awaited_unit Name (Quoted name ∷ rest) before = awaited_unit (Comma (named_unit name)) rest before
awaited_unit Name other before = before
awaited_unit (Comma named) (Parted between ∷ rest) before = awaited_unit (Factor named) rest before
awaited_unit (Comma named) other before = before
awaited_unit (Factor named) (Parted factor ∷ rest) before = stated_by named factor
awaited_unit (Factor named) (Closing factor ∷ rest) before = stated_by named factor
awaited_unit (Factor named) other before = before

none_left : (awaited : Awaited) (before : Stated) → awaited_unit awaited [] before ≡ before
none_left Nothing before = refl
none_left Name before = refl
none_left (Comma named) before = refl
none_left (Factor named) before = refl

keyword_comes : (awaited : Awaited) (word : List ℕ) (rest : List Token) (before : Stated)
    → awaited_unit awaited (Opening word ∷ rest) before ≡ before
keyword_comes Nothing word rest before = refl
keyword_comes Name word rest before = refl
keyword_comes (Comma named) word rest before = refl
keyword_comes (Factor named) word rest before = refl

-- a unit whose keyword was just read
unit_is_read : (tokens : List Token) → awaited_unit Name tokens Unclear ≡ unit_after tokens
unit_is_read [] = refl
unit_is_read (Opening word ∷ rest) = refl
unit_is_read (Parted word ∷ rest) = refl
unit_is_read (Closing word ∷ rest) = refl
unit_is_read (Quoted name ∷ []) = refl
unit_is_read (Quoted name ∷ Opening word ∷ rest) = refl
unit_is_read (Quoted name ∷ Quoted word ∷ rest) = refl
unit_is_read (Quoted name ∷ Closing word ∷ rest) = refl
unit_is_read (Quoted name ∷ Parted between ∷ []) = refl
unit_is_read (Quoted name ∷ Parted between ∷ Opening word ∷ rest) = refl
unit_is_read (Quoted name ∷ Parted between ∷ Quoted word ∷ rest) = refl
unit_is_read (Quoted name ∷ Parted between ∷ Parted factor ∷ rest) = refl
unit_is_read (Quoted name ∷ Parted between ∷ Closing factor ∷ rest) = refl

abbrev pub says : Known → Stated
says k = said k.place k.globe k.unit

abbrev known_as : Place → Awaited → Bool → Stated → Known
known_as place awaited globe unit = record { place = place; awaited = awaited; globe = globe; unit = unit }

after_the_plane : (tokens : List Token) (globe : Bool) (unit : Stated)
    → says (with_tokens tokens (known_as Behind Nothing globe unit)) ≡ unit
after_the_plane [] globe unit = refl
after_the_plane (Opening word ∷ rest) globe unit = after_the_plane rest (globe || globe_word word) unit
after_the_plane (Quoted word ∷ rest) globe unit = after_the_plane rest globe unit
after_the_plane (Parted word ∷ rest) globe unit = after_the_plane rest globe unit
after_the_plane (Closing word ∷ rest) globe unit = after_the_plane rest globe unit

abbrev in_the_plane_says : List Token → Awaited → Bool → Stated → Type 0
in_the_plane_says tokens awaited globe unit = says (with_tokens tokens (known_as Within awaited globe unit))
    ≡ last_unit (awaited_unit awaited (up_to_heights tokens) unit) (up_to_heights tokens)

a_unit_or_not : (is_unit : Bool) (tokens : List Token) (unit : Stated)
    → last_unit (awaited_unit (if is_unit then Name else Nothing) tokens (if is_unit then Unclear else unit)) tokens
    ≡ last_unit (if is_unit then unit_after tokens else unit) tokens
a_unit_or_not true tokens unit = ap (λ said. last_unit said tokens) (unit_is_read tokens)
a_unit_or_not false tokens unit = refl

-- a keyword in the plane, by whether it ends it
keyword_in_the_plane : (is_later : Bool) (word : List ℕ) (rest : List Token) (awaited : Awaited) (globe : Bool) (unit : Stated)
    → ((awaited : Awaited) (globe : Bool) (unit : Stated) → in_the_plane_says rest awaited globe unit)
    → let place = if is_later then Behind else Within in
    let left = if is_later then [] else Opening word ∷ up_to_heights rest in
    says (with_tokens rest (known_as place (if meets_unit word place then Name else Nothing) globe
    (if meets_unit word place then Unclear else unit)))
    ≡ last_unit (awaited_unit awaited left unit) left
keyword_in_the_plane true word rest awaited globe unit later =
    after_the_plane rest globe unit ∙ sym (none_left awaited unit)
keyword_in_the_plane false word rest awaited globe unit later =
    let left = up_to_heights rest in
    later (if unit_word word then Name else Nothing) globe (if unit_word word then Unclear else unit)
    ∙ a_unit_or_not (unit_word word) left unit
    ∙ ap (λ before. last_unit (if unit_word word then unit_after left else before) left)
    (sym (keyword_comes awaited word left unit))

in_the_plane : (tokens : List Token) (awaited : Awaited) (globe : Bool) (unit : Stated)
    → in_the_plane_says tokens awaited globe unit
in_the_plane [] awaited globe unit = sym (none_left awaited unit)
in_the_plane (Opening word ∷ rest) awaited globe unit =
    keyword_in_the_plane (later_word word) word rest awaited (globe || globe_word word) unit (in_the_plane rest)
in_the_plane (Quoted word ∷ rest) Nothing globe unit = in_the_plane rest Nothing globe unit
in_the_plane (Quoted word ∷ rest) Name globe unit = in_the_plane rest (Comma (named_unit word)) globe unit
in_the_plane (Quoted word ∷ rest) (Comma named) globe unit = in_the_plane rest Nothing globe unit
in_the_plane (Quoted word ∷ rest) (Factor named) globe unit = in_the_plane rest Nothing globe unit
in_the_plane (Parted word ∷ rest) Nothing globe unit = in_the_plane rest Nothing globe unit
in_the_plane (Parted word ∷ rest) Name globe unit = in_the_plane rest Nothing globe unit
in_the_plane (Parted word ∷ rest) (Comma named) globe unit = in_the_plane rest (Factor named) globe unit
in_the_plane (Parted word ∷ rest) (Factor named) globe unit = in_the_plane rest Nothing globe (stated_by named word)
in_the_plane (Closing word ∷ rest) Nothing globe unit = in_the_plane rest Nothing globe unit
in_the_plane (Closing word ∷ rest) Name globe unit = in_the_plane rest Nothing globe unit
in_the_plane (Closing word ∷ rest) (Comma named) globe unit = in_the_plane rest Nothing globe unit
in_the_plane (Closing word ∷ rest) (Factor named) globe unit = in_the_plane rest Nothing globe (stated_by named word)

-- a word that is one of others, or this one, begins no unit where none of them does
no_unit : (word one : List ℕ) (is_earlier : Bool) → (is_earlier ≡ true → unit_word word ≡ false) → unit_word one ≡ false
    → (is_earlier || bytes_eq word one) ≡ true → unit_word word ≡ false
no_unit word one true of_earlier of_it found = of_earlier refl
no_unit word one false of_earlier of_it found =
    subst (λ w. unit_word w ≡ false) (sym ((bytes_eq-Decides word one).0 found)) of_it

-- no keyword begins both a plane and a unit
plane_is_no_unit : (word : List ℕ) → plane_word word ≡ true → unit_word word ≡ false
plane_is_no_unit word =
    let is = λ (text : List ℕ). bytes_eq word text in
    let two = is (codes "PROJCS") || is (codes "PROJCRS") in
    let three = two || is (codes "PROJECTEDCRS") in
    let four = three || is (codes "LOCAL_CS") in
    let five = four || is (codes "ENGCRS") in
    no_unit word (codes "ENGINEERINGCRS") five (no_unit word (codes "ENGCRS") four
    (no_unit word (codes "LOCAL_CS") three (no_unit word (codes "PROJECTEDCRS") two
    (no_unit word (codes "PROJCRS") (is (codes "PROJCS"))
    (no_unit word (codes "PROJCS") false (λ impossible. absurd (true≢false (sym impossible))) refl) refl) refl) refl) refl) refl

-- what the tokens say before any keyword of a plane, where latitudes and longitudes were met or not
abbrev said_after : Bool → List Token → Stated
said_after globe tokens =
    if (globe || has_keyword globe_word tokens) && not (has_keyword plane_word tokens) then Degrees
    else last_unit Unclear (plane_of tokens)

no_plane : (globe : Bool) → said Before globe Unclear ≡ (if (globe || false) && true then Degrees else Unclear)
no_plane true = refl
no_plane false = refl

the_plane : (globe : Bool) (unit : Stated) → unit ≡ (if globe && false then Degrees else unit)
the_plane true unit = refl
the_plane false unit = refl

met_before : (globe met later plane : Bool) (unit : Stated)
    → (if ((globe || met) || later) && not plane then Degrees else unit)
    ≡ (if (globe || (met || later)) && not plane then Degrees else unit)
met_before true met later plane unit = refl
met_before false met later plane unit = refl

-- a keyword before the plane, by whether it begins one
keyword_before_the_plane : (is_plane : Bool) (word : List ℕ) (rest : List Token) (globe : Bool)
    → plane_word word ≡ is_plane
    → ((globe : Bool) → says (with_tokens rest (known_as Before Nothing globe Unclear)) ≡ said_after globe rest)
    → let place = if is_plane then Within else Before in
    says (with_tokens rest (known_as place (if meets_unit word place then Name else Nothing) (globe || globe_word word)
    (if meets_unit word place then Unclear else Unclear)))
    ≡ (if (globe || (globe_word word || has_keyword globe_word rest)) && not (is_plane || has_keyword plane_word rest)
    then Degrees else last_unit Unclear (if is_plane then up_to_heights rest else plane_of rest))
keyword_before_the_plane true word rest globe is_plane later =
    let left = up_to_heights rest in
    let met = globe || globe_word word in
    ap (λ is_unit. says (with_tokens rest (known_as Within (if is_unit then Name else Nothing) met
    (if is_unit then Unclear else Unclear)))) (plane_is_no_unit word is_plane)
    ∙ in_the_plane rest Nothing met Unclear
    ∙ the_plane (globe || (globe_word word || has_keyword globe_word rest)) (last_unit Unclear left)
keyword_before_the_plane false word rest globe is_plane later =
    later (globe || globe_word word)
    ∙ met_before globe (globe_word word) (has_keyword globe_word rest) (has_keyword plane_word rest)
    (last_unit Unclear (plane_of rest))

pub before_the_plane : (tokens : List Token) (globe : Bool)
    → says (with_tokens tokens (known_as Before Nothing globe Unclear)) ≡ said_after globe tokens
before_the_plane [] globe = no_plane globe
before_the_plane (Opening word ∷ rest) globe =
    keyword_before_the_plane (plane_word word) word rest globe refl (before_the_plane rest)
before_the_plane (Quoted word ∷ rest) globe = before_the_plane rest globe
before_the_plane (Parted word ∷ rest) globe = before_the_plane rest globe
before_the_plane (Closing word ∷ rest) globe = before_the_plane rest globe
