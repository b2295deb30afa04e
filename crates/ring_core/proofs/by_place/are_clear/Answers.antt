use Rattle.std.proofs.Common.{◌≡◌, ◌≤◌, length, arith, below_more}
use Rattle.geo_exact.specs.declared.corner.Corner.{Corner}
use Rattle.geo_exact.specs.Places.{after, corner_at}
use Rattle.ring_core.specs.own.EdgePairs.{HaveCommonPoint}
use Rattle.ring_core.specs.own.ByPlace.{AreClear, edge_at}
use Rattle.ring_core.proofs.edges.CornersRead.{corner_read, corner_after_read}
use Rattle.ring_core.proofs.searches.PlacedEdges.{clear_without_point}
use Rattle.ring_core.proofs.by_place.are_clear.Goals as goal
use Rattle.ring_core.proofs.by_place.are_clear.Goals.{else-not-misses-via-then-not-misses+else-one_meets}
use Rattle.ring_core.proofs.by_place.are_clear.Goals.{else-not-misses-via-else-not-misses}

missed : (a b c d c' d' : Corner) → c ≡ c' → d ≡ d' → (HaveCommonPoint a b c d → ⊥) → HaveCommonPoint a b c' d' → ⊥
missed a b c d c' d' e f h m = h (m.0, m.1, rw (e, f) m.2)

pub loop-q-preserved : goal.loop-q-preserved
loop-q-preserved c = λ p k inside o b.
    let ring = c.args.ring.now in let n = length ring in let edges = c.args.edges.now in let q = c.loop-q.q in
    let i = edge_at edges p in let j = edge_at edges q in let in_ring = c.requires.in_ring q (omega arith) in
    below_more (λ m. c.args.other.start ≤ m → AreClear ring i (edge_at edges m)) q (λ m x y. c.loop-q.invariant p m inside y x) (λ _.
    elim c.else-not-misses.branch [
      | else-not-misses-via-then-not-misses+else-one_meets w ↦ w.one_meets.ensures w.if-one_meets.false p inside
      | else-not-misses-via-else-not-misses w ↦
          let held = c.requires.held p inside in
          clear_without_point ring i j (missed (corner_at ring i) (corner_at ring (after n i)) _ _ (corner_at ring j)
          (corner_at ring (after n j)) (corner_read ring j _ in_ring c.index-ring-j.is)
          (corner_after_read ring j _ _ in_ring c.following.ensures c.index-ring-following.is)
          (λ m. c.misses.ensures w.if-not-misses.false (corner_at ring i) (corner_at ring (after n i)) m.0 held.0 held.1 m.1 m.2))
    ]) k b o

pub returns : goal.returns
returns c = λ _ p q one other. c.loop-q.invariant p q one other.from (omega (arith, other.to, c.loop-q-test.false))
