use Rattle.std.proofs.Common.{◌≡◌, ◌<◌, ◌∙◌, sym, ap, arith, below_more, Bool, IsTrue, ◌↔◌, length, get_or}
use Rattle.std.proofs.lemmas.Bool.{false≢true}
use Rattle.std.proofs.lemmas.List.{get_or_read}
use Rattle.geo_exact.specs.declared.bounds.Bounds.{Bounds}
use Rattle.geo_exact.specs.declared.corner.Corner.{Corner}
use Rattle.geo_exact.specs.Bounds.{EdgeBoxesMeet}
use Rattle.geo_exact.specs.Places.{after, corner_at, origin}
use Rattle.ring_core.specs.own.EdgePairs.{IsEdgeBox}
use Rattle.ring_core.specs.Simple.{MeetOtherwise}
use Rattle.ring_core.proofs.edges.EdgePoints.{boxes_overlap}
use Rattle.ring_core.proofs.edges.RoundNumbers.{after_in}
use Rattle.ring_core.proofs.ring.first_meeting_with.Goals as goal
use Rattle.ring_core.proofs.ring.first_meeting_with.Goals.{else-box_meets-via-then-box_meets+else-meet_otherwise}
use Rattle.ring_core.proofs.ring.first_meeting_with.Goals.{else-box_meets-via-else-box_meets}

met : (r : Bool) (box : Bounds) (a b c d a' b' c' d' : Corner) → a ≡ a' → b ≡ b' → c ≡ c' → d ≡ d' → IsEdgeBox box a b
    → ((u w : Corner) → IsEdgeBox box u w → IsTrue r ↔ EdgeBoxesMeet u w c d) → EdgeBoxesMeet a' b' c' d' → IsTrue r
met r box a b c d a' b' c' d' e f g h k t m = (t a b k).1 (rw (e, f, g, h) m)

pub returns-then-meet_otherwise : goal.returns-then-meet_otherwise
returns-then-meet_otherwise c = (omega arith, omega arith, c.meet_otherwise.ensures.0 c.if-meet_otherwise.true, c.loop-j.invariant)

pub loop-j-preserved : goal.loop-j-preserved
loop-j-preserved c =
    let ring = c.args.ring.now in let n = length ring in let i = c.args.i in let j = c.loop-j.j in
    let in_ring : j < n = omega arith in
    λ l o b. below_more (λ k. i < k → ¬ MeetOtherwise ring i k) j (λ k r q. c.loop-j.invariant k q r) (λ _ m.
    elim c.else-box_meets.branch [
      | else-box_meets-via-then-box_meets+else-meet_otherwise w ↦ false≢true (sym w.if-meet_otherwise.false
          ∙ w.meet_otherwise.ensures.1 m)
      | else-box_meets-via-else-box_meets w ↦ false≢true (sym w.if-box_meets.false
          ∙ met c.box_meets.result c.edge_box-bounds.result _ _ _ _
          (corner_at ring i) (corner_at ring (after n i)) (corner_at ring j) (corner_at ring (after n j))
          (get_or_read ring i c.index-ring-i.result c.requires.in_ring c.index-ring-i.is origin)
          (get_or_read ring (after n i) c.index-ring-following.result (after_in n i c.requires.in_ring)
          (c.index-ring-following.is ∙ ap (λ k. get_or ring k c.index-ring-following.result) c.following.ensures) origin)
          (get_or_read ring j c.index-ring-j.result in_ring c.index-ring-j.is origin)
          (get_or_read ring (after n j) c.index-ring-following-in-loop-j.result (after_in n j in_ring)
          (c.index-ring-following-in-loop-j.is
          ∙ ap (λ k. get_or ring k c.index-ring-following-in-loop-j.result) c.following-in-loop-j.ensures) origin)
          c.edge_box-bounds.ensures c.box_meets.ensures (boxes_overlap _ _ _ _ m.0 m.1 m.2))
    ]) l b o

pub returns : goal.returns
returns c = λ k o b. c.loop-j.invariant k o (omega arith)
