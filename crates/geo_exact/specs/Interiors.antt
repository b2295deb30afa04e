-- Whether two interiors meet: the first entry of the nine-intersection matrix is not empty (OGC 06-103r4, 6.1.15.2,
-- DE-9IM). This is not that standard's predicate Overlaps, which leaves out containment.
use Rattle.std.specs.Prelude.{List}
use Rattle.geo_exact.specs.declared.corner.Corner.{Corner}
use Rattle.geo_exact.specs.Point.{Point}
use Rattle.geo_exact.specs.Winding.{IsInterior}

-- some rational point is interior to both rings
abbrev pub InteriorsMeet : List Corner → List Corner → Type 0
InteriorsMeet r s = (p : Point) × IsInterior p r × IsInterior p s
