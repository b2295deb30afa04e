-- Edges by their lower and higher ends (this product's own).
use Rattle.std.specs.Prelude.{ℤ, ◌-ℤ◌, ◌*ℤ◌, if◌then◌else◌}
use Rattle.geo_exact.specs.Rings.{Edge}
use Rattle.area_bounds.specs.declared.rising.Rising.{Rising}

-- the edge, up or down
unfoldable pub edge_of : Rising → Edge
edge_of rising =
    if rising.is_up
    then record { from = rising.low; to = rising.high }
    else record { from = rising.high; to = rising.low }

-- how fast two lines part
abbrev pub parting_of : Rising → Rising → ℤ
parting_of one other =
    (one.high.x -ℤ one.low.x) *ℤ (other.high.y -ℤ other.low.y)
    -ℤ (other.high.x -ℤ other.low.x) *ℤ (one.high.y -ℤ one.low.y)
