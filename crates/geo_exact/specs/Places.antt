-- Corners of a ring by their numbers, from 0 (OGC 06-103r4, 6.1.7, LinearRing: a closed line; its last corner is
-- followed by its first).
use Rattle.std.specs.Prelude.{ℕ, ◌+◌, ◌-◌, ◌==◌, if◌then◌else◌, pos, List, slice_index_or}
use Rattle.geo_exact.specs.declared.corner.Corner.{Corner}

-- the point (0, 0)
abbrev pub origin : Corner
origin = record {
  x = pos 0;
  y = pos 0;
  x_in_range = record { low = record { le = tt }; high = record { le = tt } };
  y_in_range = record { low = record { le = tt }; high = record { le = tt } };
}

-- corner i of the ring; past its end, where a ring has none, the origin
abbrev pub corner_at : List Corner → ℕ → Corner
corner_at ring i = slice_index_or ring i origin

-- the number that follows i round a ring of n corners
abbrev pub after : ℕ → ℕ → ℕ
after n i = if i + 1 == n then 0 else i + 1

-- the number that i follows round a ring of n corners
abbrev pub before : ℕ → ℕ → ℕ
before n i = if i == 0 then n - 1 else i - 1
