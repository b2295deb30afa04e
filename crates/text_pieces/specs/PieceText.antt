-- How a piece of a text is told (this product's own). Numbers are in decimal, with a minus sign where they are below 0.
use Rattle.std.specs.Prelude.{ℕ, List, ◌++◌, codes, decimal}
use Rattle.std.specs.Fmt.{signed_decimal}
use Rattle.std.specs.List.{flat_map}
use Rattle.text_pieces.specs.CornerText.{corner_text, next_corner_text}
use Rattle.text_pieces.specs.RingFaultText.{ring_fault_text}
use Rattle.text_pieces.specs.declared.pieces.Piece.{Piece}
use Rattle.text_pieces.specs.declared.pieces.Piece.TheVariants.{Text, Number, Area, SignedArea, Net, Corner, Numbers}
use Rattle.text_pieces.specs.declared.pieces.Piece.TheVariants.{Corners, Refused, EndOfLine}

-- ` N`, a number behind a space
abbrev pub number_text : ℕ → List ℕ
number_text number = codes " " ++ decimal number

-- what a piece is told as
abbrev pub piece_text : Piece → List ℕ
piece_text (Text text) = text.now
piece_text (Number number) = decimal number
piece_text (Area area2) = decimal area2
piece_text (SignedArea area2) = signed_decimal area2
piece_text (Net net) = signed_decimal net
piece_text (Corner corner) = corner_text corner
piece_text (Numbers numbers) = flat_map number_text numbers.now
piece_text (Corners corners) = flat_map next_corner_text corners.now
piece_text (Refused fault) = ring_fault_text fault
piece_text EndOfLine = codes "\n"
