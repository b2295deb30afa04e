-- What the writer's own functions hand on: the box of the corners so far. These words are the code's own: no public
-- contract speaks of them.
use Rattle.std.specs.Prelude.{◌≡◌, ◌<◌, List, [], length, map, Option, Some, None}
use Rattle.geo_exact.specs.declared.corner.Corner.{Corner}
use Rattle.geo_exact.specs.declared.bounds.Bounds.{Bounds}
use Rattle.shp_files.specs.Written.{least, greatest, x_of, y_of}

-- the least and the greatest coordinates of some corners
pub record AreBounds (bounds : Bounds) (corners : List Corner) : Type 0 where
  pub some : 0 < length corners
  pub left : bounds.low.x ≡ least (map x_of corners)
  pub bottom : bounds.low.y ≡ least (map y_of corners)
  pub right : bounds.high.x ≡ greatest (map x_of corners)
  pub top : bounds.high.y ≡ greatest (map y_of corners)

-- the same, or nothing for no corner
abbrev pub MayBeBounds : Option Bounds → List Corner → Type 0
MayBeBounds None corners = corners ≡ []
MayBeBounds (Some bounds) corners = AreBounds bounds corners
