-- Edits, each corner times ten (this product's own).
use Rattle.std.specs.Prelude.{◌≡◌, List, [], ◌∷◌}
use Rattle.geo_exact.specs.declared.corner.Corner.{Corner}
use Rattle.ring_edits.specs.declared.edit.Edit.{Edit}
use Rattle.ring_edits.specs.declared.edit.Edit.TheVariants.{Split, Merge, Move, Insert, Straighten}
use Rattle.scaled_rings.specs.Tenfold.{IsTenTimes, AreTenTimes}

-- the other edit names the same parcels, and this one's corners, each ten times
abbrev pub IsTenfoldEdit : {A : Type 0} → Edit A → Edit A → Type 0
IsTenfoldEdit (Split id path) other = (way : List Corner) × (other ≡ Split id way) × AreTenTimes path way
IsTenfoldEdit (Merge a b) other = other ≡ Merge a b
IsTenfoldEdit (Move a b path) other = (way : List Corner) × (other ≡ Move a b way) × AreTenTimes path way
IsTenfoldEdit (Insert from to at) other =
    (start : Corner) × (end : Corner) × (between : Corner) × (other ≡ Insert start end between)
    × IsTenTimes from start × IsTenTimes to end × IsTenTimes at between
IsTenfoldEdit (Straighten at) other = (corner : Corner) × (other ≡ Straighten corner) × IsTenTimes at corner

-- the corners that an edit names
abbrev pub corners_of_edit : {A : Type 0} → Edit A → List Corner
corners_of_edit (Split id path) = path
corners_of_edit (Merge a b) = []
corners_of_edit (Move a b path) = path
corners_of_edit (Insert from to at) = from ∷ to ∷ at ∷ []
corners_of_edit (Straighten at) = at ∷ []
