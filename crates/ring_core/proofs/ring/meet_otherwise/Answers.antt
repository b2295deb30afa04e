use Rattle.std.proofs.Common.{◌≡◌, ◌∙◌, sym, ◌+◌, ◌<◌, length, arith, Bool, IsTrue, ◌↔◌}
use Rattle.geo_exact.specs.declared.corner.Corner.{Corner}
use Rattle.geo_exact.specs.Places.{corner_at, after}
use Rattle.ring_core.specs.own.EdgePairs.{HaveCommonPoint, DoublesBack}
use Rattle.ring_core.specs.Simple.{MeetOtherwise}
use Rattle.ring_core.proofs.edges.CornersRead.{corner_read, corner_read_at}
use Rattle.ring_core.proofs.edges.Neighbours.{following_meet, closing_meet, apart_meet}
use Rattle.ring_core.proofs.edges.RoundNumbers.{after_in, after_inner}
use Rattle.ring_core.proofs.ring.meet_otherwise.Goals as goal

doubling : (r : Bool) (a b c a' b' c' : Corner) (Q : Type 0) → a ≡ a' → b ≡ b' → c ≡ c'
    → (IsTrue r ↔ DoublesBack a b c) → (DoublesBack a' b' c' ↔ Q) → (IsTrue r ↔ Q)
doubling r a b c a' b' c' Q e f g h k =
    let m : IsTrue r ↔ DoublesBack a' b' c' = rw (← e, ← f, ← g) h in (λ x. k.0 (m.0 x), λ x. m.1 (k.1 x))

common : (r : Bool) (a b c d a' b' c' d' : Corner) (Q : Type 0) → a ≡ a' → b ≡ b' → c ≡ c' → d ≡ d'
    → (IsTrue r ↔ HaveCommonPoint a b c d) → (HaveCommonPoint a' b' c' d' ↔ Q) → (IsTrue r ↔ Q)
common r a b c d a' b' c' d' Q e f g i h k =
    let m : IsTrue r ↔ HaveCommonPoint a' b' c' d' = rw (← e, ← f, ← g, ← i) h in (λ x. k.0 (m.0 x), λ x. m.1 (k.1 x))

pub returns-then-i-j : goal.returns-then-i-j
returns-then-i-j c =
    let ring = c.args.ring.now in let i = c.args.i in let j = c.args.j in let n = length ring in
    let f : i < length ring = omega arith in
    doubling c.doubles_back.result _ _ _ (corner_at ring i) (corner_at ring j) (corner_at ring (after n j)) (MeetOtherwise ring i j)
    (corner_read ring i _ f c.index-ring-i.is) (corner_read ring j _ c.requires.in_ring c.index-ring-j.is)
    (corner_read_at ring (after n j) _ _ (after_in n j c.requires.in_ring) c.following-next.ensures c.index-ring-next.is)
    c.doubles_back.ensures (following_meet ring i j c.requires.long c.if-i-j.true c.requires.in_ring)

pub returns-then-next-i : goal.returns-then-next-i
returns-then-next-i c =
    let ring = c.args.ring.now in let i = c.args.i in let j = c.args.j in let n = length ring in
    let f : i < length ring = omega arith in
    let s : i + 1 < length ring = omega arith in
    doubling c.doubles_back-then-next-i.result _ _ _ (corner_at ring j) (corner_at ring i)
    (corner_at ring (after n i)) (MeetOtherwise ring i j)
    (corner_read ring j _ c.requires.in_ring c.index-ring-j.is) (corner_read ring i _ f c.index-ring-i.is)
    (corner_read_at ring (after n i) (i + 1) _ (after_in n i f) (omega (arith, after_inner n i (omega arith))) c.index-ring-i-2.is)
    c.doubles_back-then-next-i.ensures (closing_meet ring i j c.requires.long c.requires.ordered
    (sym c.following-next.ensures ∙ c.if-next-i.true))

pub returns : goal.returns
returns c =
    let ring = c.args.ring.now in let i = c.args.i in let j = c.args.j in let n = length ring in
    let f : i < length ring = omega arith in
    let s : i + 1 < length ring = omega arith in
    common c.have_common_point.result _ _ _ _
    (corner_at ring i) (corner_at ring (after n i)) (corner_at ring j) (corner_at ring (after n j)) (MeetOtherwise ring i j)
    (corner_read ring i _ f c.index-ring-i.is)
    (corner_read_at ring (after n i) (i + 1) _ (after_in n i f) (omega (arith, after_inner n i (omega arith))) c.index-ring-i-2.is)
    (corner_read ring j _ c.requires.in_ring c.index-ring-j.is)
    (corner_read_at ring (after n j) _ _ (after_in n j c.requires.in_ring) c.following-next.ensures c.index-ring-next.is)
    c.have_common_point.ensures
    (apart_meet ring i j c.requires.ordered c.requires.in_ring c.if-i-j.false (λ e. c.if-next-i.false (c.following-next.ensures ∙ e)))
