-- How it is reported where a point lies (this product's own). Numbers are in decimal.
use Rattle.std.specs.Prelude.{ℕ, List, ◌++◌, codes}
use Rattle.std.specs.List.{flat_map}
use Rattle.text_pieces.specs.PieceText.{number_text}
use Rattle.fabric_core.specs.declared.locate.At.{At}
use Rattle.fabric_core.specs.declared.locate.At.TheVariants.{Inside, OnEdge, Outside}

-- ` ID`
abbrev pub id_text : ℕ → List ℕ
id_text id = number_text id

-- `inside ID`, `edge ID ID ..` or `outside`
abbrev pub place_text : {A : Type 0} → At A → List ℕ
place_text (Inside id) = codes "inside" ++ id_text id
place_text (OnEdge ids) = codes "edge" ++ flat_map id_text ids.items
place_text Outside = codes "outside"
