-- How a corner is told (this product's own): its coordinates in millimetres, in decimal, with a minus sign where they
-- are below 0.
use Rattle.std.specs.Prelude.{ℕ, List, ◌++◌, codes}
use Rattle.std.specs.Fmt.{signed_decimal}
use Rattle.geo_exact.specs.declared.corner.Corner.{Corner}

-- `X Y`
abbrev pub corner_text : Corner → List ℕ
corner_text corner = signed_decimal corner.x ++ codes " " ++ signed_decimal corner.y

-- ` X Y`, a corner behind a space
abbrev pub next_corner_text : Corner → List ℕ
next_corner_text corner = codes " " ++ corner_text corner
