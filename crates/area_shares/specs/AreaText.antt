-- The text of a line of areas (this product's own). Numbers are in decimal.
use Rattle.std.specs.Prelude.{ℕ, List, [], ◌∷◌, ◌++◌, codes}
use Rattle.std.specs.Fmt.{signed_decimal}
use Rattle.std.specs.List.{flat_map}
use Rattle.text_pieces.specs.PieceText.{number_text}
use Rattle.area_shares.specs.declared.shared.AreaLine.{AreaLine}

-- `area ID ZONE AREA2`
abbrev pub area_text : AreaLine → List ℕ
area_text line =
    codes "area" ++ flat_map number_text (line.id ∷ line.zone ∷ []) ++ codes " " ++ signed_decimal line.area2 ++ codes
    "\n"
