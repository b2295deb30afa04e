use Rattle.std.proofs.Common.{◌≡◌, ◌∙◌, sym, Bool, IsTrue, ◌↔◌, length, arith}
use Rattle.std.proofs.lemmas.Bool.{false≢true}
use Rattle.geo_exact.specs.declared.corner.Corner.{Corner}
use Rattle.geo_exact.specs.Bounds.{EdgeBoxesMeet}
use Rattle.geo_exact.specs.Places.{after, corner_at}
use Rattle.ring_core.proofs.edges.CornersRead.{corner_read, corner_after_read}
use Rattle.ring_core.proofs.edges.EdgePoints.{boxes_overlap}
use Rattle.ring_core.proofs.edges.RoundNumbers.{after_inner}
use Rattle.ring_core.proofs.ring.meets.Goals as goal

met : (r : Bool) (a b c d a' b' c' d' : Corner) → a ≡ a' → b ≡ b' → c ≡ c' → d ≡ d'
    → (IsTrue r ↔ EdgeBoxesMeet a b c d) → EdgeBoxesMeet a' b' c' d' → IsTrue r
met r a b c d a' b' c' d' e f g h t m = t.1 (rw (e, f, g, h) m)

pub returns-else-edge_boxes_meet : goal.returns-else-edge_boxes_meet
returns-else-edge_boxes_meet c = λ no m.
    let ring = c.args.ring.now in let n = length ring in let i = c.args.i in let j = c.args.j in
    false≢true (sym no ∙ met c.edge_boxes_meet.result _ _ _ _ (corner_at ring i) (corner_at ring (after n i)) (corner_at ring j)
    (corner_at ring (after n j))
    (corner_read ring i _ (omega arith) c.index-ring-i.is)
    (corner_after_read ring i _ _ (omega arith) (omega (arith, after_inner n i (omega arith))) c.index-ring-i-2.is)
    (corner_read ring j _ c.requires.in_ring c.index-ring-j.is)
    (corner_after_read ring j _ _ c.requires.in_ring c.following.ensures c.index-ring-following.is)
    c.edge_boxes_meet.ensures (boxes_overlap _ _ _ _ m.0 m.1 m.2))
