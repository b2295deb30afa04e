-- Lines that cross between two levels (this product's own).
use Rattle.std.specs.Prelude.{◌<◌, ◌⊎◌}
use Rattle.area_bounds.specs.declared.lines.Places.{Places}

-- the one line is left of the other at one of the levels, and right of it at the other
abbrev pub AreCrossed : Places → Places → Type 0
AreCrossed first second =
    ((first.one < first.other) × (second.other < second.one))
    ⊎ ((first.other < first.one) × (second.one < second.other))
