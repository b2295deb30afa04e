-- Crossings and edge areas: turned round, and under a cut.
use Rattle.std.proofs.Common.{◌≡◌, refl, ◌∙◌, sym, ap, arith, Bool, true, false, if◌then◌else◌, [], ◌∷◌}
use Rattle.std.proofs.lemmas.Int.{ints, clamps}
use Rattle.std.specs.Int.{int_min, int_max}
use lib.IntN.{ℤ, pos, negsuc, ◌+ℤ◌, ◌-ℤ◌, ◌*ℤ◌, neg_ℤ, +ℤ_idl, +ℤ_idr}
use lib.Signed.{◌<ℤ◌, ◌≤ℤ◌, lt_z, le_z}
use Rattle.geo_exact.specs.declared.corner.Corner.{Corner}
use Rattle.geo_exact.specs.Point.{Point}
use Rattle.geo_exact.specs.Turn.{turn, turn_at, IsOnEdge}
use Rattle.geo_exact.specs.Winding.{crossing}
use Rattle.geo_exact.specs.Area.{edge_area2}
use Rattle.geo_exact.proofs.numbers.Differences.{expand}
use Rattle.geo_exact.proofs.numbers.Signs.{pos_of_mul, same_positive, same_negative, flip}
use Rattle.geo_exact.proofs.numbers.Polynomials.{var, add, mul, neg, same_by}
use Rattle.geo_exact.proofs.rings.EdgeSums.{edge_of}
use Rattle.geo_exact.proofs.corners_and_turns.TurnLaws.{corner_point, turn_at_back, turn_at_end, turn_at_start}
use Rattle.geo_exact.proofs.corners_and_turns.TurnLaws.{corner_on_line, corner_from_y, corner_to_y}

-- ---- areas
pub edge_area2_back : (a b : Corner) → edge_area2 (edge_of b a) ≡ neg_ℤ (edge_area2 (edge_of a b))
edge_area2_back a b = omega (arith, ints)

pub edge_area2_triangle : (a b c : Corner) → edge_area2 (edge_of a b) +ℤ edge_area2 (edge_of b c)
    +ℤ edge_area2 (edge_of c a) ≡ turn a b c
edge_area2_triangle a b c = simp expand (omega (arith, ints))

-- m on the line through a and b
pub edge_area2_splits : (a b m : Corner) → turn a b m ≡ pos 0 → edge_area2 (edge_of a m) +ℤ edge_area2 (edge_of m b)
    ≡ edge_area2 (edge_of a b)
edge_area2_splits a b m h = omega (arith, ints, edge_area2_triangle a b m, edge_area2_back b m, edge_area2_back m a, h)

-- ---- crossings
-- the crossing of an edge, from whether its ends are not above p, and from the turn at p
abbrev pub crossed : Bool → Bool → ℤ → ℤ
crossed la lb t =
    if la
    then (if lb then pos 0 else (if lt_z (pos 0) t then pos 1 else pos 0))
    else (if lb then (if lt_z t (pos 0) then negsuc 0 else pos 0) else pos 0)

-- the test of the sign of a negative, as `flip`
pub flip_back : (t : ℤ) → lt_z (neg_ℤ t) (pos 0) ≡ lt_z (pos 0) t
flip_back t = sym (flip (neg_ℤ t)) ∙ ap (lt_z (pos 0)) (let e : neg_ℤ (neg_ℤ t) ≡ t = omega (arith, ints) in e)

neg_if : (b : Bool) → neg_ℤ (if b then pos 1 else pos 0) ≡ (if b then negsuc 0 else pos 0)
neg_if true = refl
neg_if false = refl

neg_if' : (b : Bool) → neg_ℤ (if b then negsuc 0 else pos 0) ≡ (if b then pos 1 else pos 0)
neg_if' true = refl
neg_if' false = refl

crossed_back : (la lb : Bool) (t : ℤ) → crossed lb la (neg_ℤ t) ≡ neg_ℤ (crossed la lb t)
crossed_back true true t = refl
crossed_back true false t = ap (λ b. if b then negsuc 0 else pos 0) (flip_back t) ∙ sym (neg_if (lt_z (pos 0) t))
crossed_back false true t = ap (λ b. if b then pos 1 else pos 0) (flip t) ∙ sym (neg_if' (lt_z t (pos 0)))
crossed_back false false t = refl

pub crossing_back : (p : Point) (a b : Corner) → crossing p b a ≡ neg_ℤ (crossing p a b)
crossing_back p a b =
    ap (crossed (le_z (b.y *ℤ p.d) p.y) (le_z (a.y *ℤ p.d) p.y)) (turn_at_back a b p)
    ∙ crossed_back (le_z (a.y *ℤ p.d) p.y) (le_z (b.y *ℤ p.d) p.y) (turn_at a b p)

-- the crossing looks at one sign of the turn alone, and only where one end is above p and the other is not
pub crossed_kept : (la lb : Bool) (t z : ℤ)
    → (la ≡ true → lb ≡ false → lt_z (pos 0) z ≡ lt_z (pos 0) t)
    → (la ≡ false → lb ≡ true → lt_z z (pos 0) ≡ lt_z t (pos 0))
    → crossed la lb z ≡ crossed la lb t
crossed_kept true true t z h k = refl
crossed_kept true false t z h k = ap (λ b. if b then pos 1 else pos 0) (h refl refl)
crossed_kept false true t z h k = ap (λ b. if b then negsuc 0 else pos 0) (k refl refl)
crossed_kept false false t z h k = refl

level : (k s l t x z : ℤ) → k *ℤ s -ℤ l *ℤ t ≡ x *ℤ z → z ≡ pos 0 → k *ℤ s ≡ l *ℤ t
level k s l t x z e h = omega (arith, ints, rw h at e)

negated : (u v w x s t : ℤ) → (v -ℤ u) *ℤ s ≡ (x -ℤ w) *ℤ t → (u -ℤ v) *ℤ s ≡ (w -ℤ x) *ℤ t
negated u v w x s t e = simp expand (omega (arith, ints, simp expand at e))

times-sub : (d u v : ℤ) → d *ℤ (u -ℤ v) ≡ u *ℤ d -ℤ v *ℤ d
times-sub d u v = same_by (d ∷ u ∷ v ∷ []) (mul (var 0) (add (var 1) (neg (var 2))))
    (add (mul (var 1) (var 0)) (neg (mul (var 2) (var 0)))) refl

-- from a height that is not above y to one that is
pub rises : (d u v y : ℤ) → pos 0 <ℤ d → le_z (u *ℤ d) y ≡ true → le_z (v *ℤ d) y ≡ false → pos 0 <ℤ (v -ℤ u)
rises d u v y h a b = pos_of_mul d (v -ℤ u) h (let e : pos 0 <ℤ (v *ℤ d -ℤ u *ℤ d) = omega (arith, ints) in
    rw (times-sub d v u) e)

splits : (la lm lb : Bool) (tam tmb tab : ℤ)
    → (la ≡ true → lm ≡ false → lb ≡ true → ⊥)
    → (la ≡ false → lm ≡ true → lb ≡ false → ⊥)
    → (la ≡ true → lm ≡ true → lb ≡ false → lt_z (pos 0) tmb ≡ lt_z (pos 0) tab)
    → (la ≡ true → lm ≡ false → lb ≡ false → lt_z (pos 0) tam ≡ lt_z (pos 0) tab)
    → (la ≡ false → lm ≡ true → lb ≡ true → lt_z tam (pos 0) ≡ lt_z tab (pos 0))
    → (la ≡ false → lm ≡ false → lb ≡ true → lt_z tmb (pos 0) ≡ lt_z tab (pos 0))
    → crossed la lm tam +ℤ crossed lm lb tmb ≡ crossed la lb tab
splits true true true x y z a b c d e f = refl
splits true true false x y z a b c d e f = +ℤ_idl _ ∙ ap (λ t. if t then pos 1 else pos 0) (c refl refl refl)
splits true false true x y z a b c d e f = absurd (a refl refl refl)
splits true false false x y z a b c d e f = +ℤ_idr _ ∙ ap (λ t. if t then pos 1 else pos 0) (d refl refl refl)
splits false true true x y z a b c d e f = +ℤ_idr _ ∙ ap (λ t. if t then negsuc 0 else pos 0) (e refl refl refl)
splits false true false x y z a b c d e f = absurd (b refl refl refl)
splits false false true x y z a b c d e f = +ℤ_idl _ ∙ ap (λ t. if t then negsuc 0 else pos 0) (f refl refl refl)
splits false false false x y z a b c d e f = refl

outside : (u v w : ℤ) → int_min u v ≤ℤ w → pos 0 <ℤ (u -ℤ w) → pos 0 <ℤ (v -ℤ w) → ⊥
outside u v w h k l = omega (arith, ints, clamps)

beyond : (u v w : ℤ) → w ≤ℤ int_max u v → pos 0 <ℤ (w -ℤ u) → pos 0 <ℤ (w -ℤ v) → ⊥
beyond u v w h k l = omega (arith, ints, clamps)

-- m on the line through a and b, at a height between theirs
pub crossing_splits : (p : Point) (a b m : Corner) → turn a b m ≡ pos 0 → int_min a.y b.y ≤ℤ m.y → m.y ≤ℤ int_max a.y b.y
    → crossing p a m +ℤ crossing p m b ≡ crossing p a b
crossing_splits p a b m on_line low high =
    let up : (u v : Corner) → le_z (u.y *ℤ p.d) p.y ≡ true → le_z (v.y *ℤ p.d) p.y ≡ false → pos 0 <ℤ (v.y -ℤ u.y) =
    λ u v x y. rises p.d u.y v.y p.y p.d_positive x y in
    let at_end : (b.y -ℤ a.y) *ℤ turn_at m b p ≡ (b.y -ℤ m.y) *ℤ turn_at a b p =
    level (b.y -ℤ a.y) (turn_at m b p) (b.y -ℤ m.y) (turn_at a b p) (p.y -ℤ b.y *ℤ p.d) (turn a b m)
    (turn_at_end a b m p) on_line in
    let at_start : (b.y -ℤ a.y) *ℤ turn_at a m p ≡ (m.y -ℤ a.y) *ℤ turn_at a b p =
    level (b.y -ℤ a.y) (turn_at a m p) (m.y -ℤ a.y) (turn_at a b p) (a.y *ℤ p.d -ℤ p.y) (turn a b m)
    (turn_at_start a b m p) on_line in
    splits (le_z (a.y *ℤ p.d) p.y) (le_z (m.y *ℤ p.d) p.y) (le_z (b.y *ℤ p.d) p.y) (turn_at a m p) (turn_at m b p) (turn_at a b p)
    (λ x y z. beyond a.y b.y m.y high (up a m x y) (up b m z y))
    (λ x y z. outside a.y b.y m.y low (up m a y x) (up m b y z))
    (λ x y z. same_positive (b.y -ℤ a.y) (b.y -ℤ m.y) (turn_at m b p) (turn_at a b p) (up a b x z) (up m b y z) at_end)
    (λ x y z. same_positive (b.y -ℤ a.y) (m.y -ℤ a.y) (turn_at a m p) (turn_at a b p) (up a b x z) (up a m x y) at_start)
    (λ x y z. same_negative (a.y -ℤ b.y) (a.y -ℤ m.y) (turn_at a m p) (turn_at a b p) (up b a z x) (up m a y x)
    (negated a.y b.y a.y m.y (turn_at a m p) (turn_at a b p) at_start))
    (λ x y z. same_negative (a.y -ℤ b.y) (m.y -ℤ b.y) (turn_at m b p) (turn_at a b p) (up b a z x) (up b m z y)
    (negated a.y b.y m.y b.y (turn_at m b p) (turn_at a b p) at_end))

-- m on the edge from a to b
pub crossing_cut : (p : Point) (a b m : Corner) → IsOnEdge (corner_point m) a b → crossing p a m +ℤ crossing p m b ≡ crossing p a b
crossing_cut p a b m h = crossing_splits p a b m (corner_on_line a b m h) (corner_from_y a b m h) (corner_to_y a b m h)

pub edge_area2_cut : (a b m : Corner) → IsOnEdge (corner_point m) a b
    → edge_area2 (edge_of a m) +ℤ edge_area2 (edge_of m b) ≡ edge_area2 (edge_of a b)
edge_area2_cut a b m h = edge_area2_splits a b m (corner_on_line a b m h)
