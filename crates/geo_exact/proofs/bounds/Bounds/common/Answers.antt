use Rattle.geo_exact.proofs.numbers.Extremes.{above_max, below_min}
use Rattle.geo_exact.proofs.bounds.Bounds.common.Goals as goal

pub returns : goal.returns
returns c = λ p.
    let w = above_max _ _ p.d p.x p.d_positive c.upper.ensures.x in
    let e = below_min _ _ p.d p.x p.d_positive c.lower.ensures.x in
    let s = above_max _ _ p.d p.y p.d_positive c.upper.ensures.y in
    let n = below_min _ _ p.d p.y p.d_positive c.lower.ensures.y in (
      λ i. (
        record { west = (w.0 i.west).0; east = (e.0 i.east).0; south = (s.0 i.south).0; north = (n.0 i.north).0 },
        record { west = (w.0 i.west).1; east = (e.0 i.east).1; south = (s.0 i.south).1; north = (n.0 i.north).1 },
      ),
      λ i. record {
        west = w.1 (i.0.west, i.1.west);
        east = e.1 (i.0.east, i.1.east);
        south = s.1 (i.0.south, i.1.south);
        north = n.1 (i.0.north, i.1.north);
      },
    )
