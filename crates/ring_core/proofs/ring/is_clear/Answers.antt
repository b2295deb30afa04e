use Rattle.std.proofs.Common.{◌≡◌, ◌<◌, arith, below_more, length}
use Rattle.geo_exact.specs.declared.corner.Corner.{Corner}
use Rattle.geo_exact.specs.Places.{after, corner_at}
use Rattle.geo_exact.specs.Point.{Point}
use Rattle.geo_exact.specs.Turn.{IsOnEdge}
use Rattle.ring_core.specs.Simple.{MeetOtherwise}
use Rattle.ring_core.proofs.edges.CornersRead.{corner_read, corner_after_read}
use Rattle.ring_core.proofs.ring.is_clear.Goals as goal
use Rattle.ring_core.proofs.ring.is_clear.Goals.{else-not-misses-via-then-not-misses+else-meets_one, else-not-misses-via-else-not-misses}

missed : (a b c d c' d' : Corner) (p : Point) → c ≡ c' → d ≡ d' → (IsOnEdge p a b → IsOnEdge p c d → ⊥)
    → IsOnEdge p a b → IsOnEdge p c' d' → ⊥
missed a b c d c' d' p e f h on other = h on (rw (e, f) other)

pub loop-j-preserved : goal.loop-j-preserved
loop-j-preserved c = λ k m o b q r.
    let ring = c.args.ring.now in let n = length ring in let j = c.loop-j.j in
    let in_ring : j < n = omega arith in
    below_more (λ l. k < l → ¬ MeetOtherwise ring k l) j (λ l x y. c.loop-j.invariant k l o b y x) (λ y x.
    elim c.else-not-misses.branch [
      | else-not-misses-via-then-not-misses+else-meets_one w ↦
          w.meets_one.ensures w.if-meets_one.false k o (omega (arith, w.min.ensures)) x
      | else-not-misses-via-else-not-misses w ↦
          let held = c.box_of_edges-held.ensures k o b in
          missed (corner_at ring k) (corner_at ring (after n k)) _ _ (corner_at ring j) (corner_at ring (after n j)) x.0
          (corner_read ring j _ in_ring c.index-ring-j.is)
          (corner_after_read ring j _ _ in_ring c.following.ensures c.index-ring-following.is)
          (c.misses.ensures w.if-not-misses.false (corner_at ring k) (corner_at ring (after n k)) x.0 held.0 held.1) x.1 x.2
    ]) m r q

pub returns : goal.returns
returns c = λ _ k m o b q r. c.loop-j.invariant k m o b q (omega arith)
