use Rattle.std.proofs.lemmas.Bool.{false≢true}
use Rattle.tri_overlap.proofs.Halves.{inside_all, apart_lists}
use Rattle.tri_overlap.proofs.RingPairs.{pair_of_rings, rings_of_pair}
use Rattle.tri_overlap.proofs.shapes.shapes_overlap.Goals as goal

pub returns-then-is_apart : goal.returns-then-is_apart
returns-then-is_apart g c =
    let s = c.args.first.now in
    let t = c.args.second.now in (
      λ b. absurd (false≢true b),
      λ m. absurd (apart_lists s.bounds t.bounds s.triangles t.triangles s.bounded t.bounded (c.is_apart.ensures.0 c.if-is_apart.true)
          (pair_of_rings s.ring.corners t.ring.corners s.triangles t.triangles s.made_up t.made_up m)),
    )

pub meet_within-requires : goal.meet_within-requires
meet_within-requires g c =
    let s = c.args.first.now in
    let t = c.args.second.now in
    λ p i j. (c.common-window.ensures p).1 (
      inside_all s.bounds s.triangles s.bounded p (rw c.as_slice.ensures at i),
      inside_all t.bounds t.triangles t.bounded p (rw c.as_slice-2.ensures at j),
    )

pub returns : goal.returns
returns g c =
    let s = c.args.first.now in
    let t = c.args.second.now in
    let h = rw (c.as_slice.ensures, c.as_slice-2.ensures) at c.meet_within.ensures in (
      λ b. rings_of_pair s.ring.corners t.ring.corners s.triangles t.triangles s.made_up t.made_up (h.0 b),
      λ m. h.1 (pair_of_rings s.ring.corners t.ring.corners s.triangles t.triangles s.made_up t.made_up m),
    )
