-- The lines that the code makes of where points lie.
use Rattle.std.specs.Prelude.{ℕ, List, [], ◌∷◌, ◌++◌, codes}
use Rattle.geo_exact.specs.declared.corner.Corner.{Corner}
use Rattle.fabric_core.specs.declared.locate.At.{At}
use Rattle.text_pieces.specs.CornerText.{corner_text}
use Rattle.clerk_runs.specs.PlaceTexts.{place_text}

-- the lines of points, each of which lies at its place
abbrev pub places_text : {A : Type 0} → List Corner → List (At A) → List ℕ
places_text [] places = []
places_text (point ∷ points) [] = []
places_text (point ∷ points) (at ∷ places) =
    (corner_text point ++ codes " " ++ place_text at ++ codes "\n") ++ places_text points places
