-- The order of corners, as std's sorting states it.
use Rattle.std.specs.declared.cmp.Ordering.{Ordering}
use Rattle.std.specs.Ordering.{int_cmp, ordering_then}
use Rattle.geo_exact.specs.declared.corner.Corner.{Corner}

-- by x, then by y
abbrev pub corner_cmp : Corner → Corner → Ordering
corner_cmp a b = ordering_then (int_cmp a.x b.x) (int_cmp a.y b.y)
