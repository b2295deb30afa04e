-- A way that meets no edge of a ring: the ring goes round both its ends alike.
use Rattle.std.proofs.Common.{◌≡◌, ◌∙◌, ◌⊎◌, inl, inr, refl, sym, ap, arith, Bool, true, false, List, [], ◌∷◌}
use Rattle.std.proofs.Common.{if◌then◌else◌}
use Rattle.std.proofs.lemmas.Int.{ints, by_lt_z}
use lib.IntN.{ℤ, pos, negsuc, ◌+ℤ◌, ◌-ℤ◌, ◌*ℤ◌, neg_ℤ}
use lib.Signed.{◌<ℤ◌, ◌≤ℤ◌, lt_z, le_z}
use Rattle.geo_exact.specs.declared.corner.Corner.{Corner}
use Rattle.geo_exact.specs.Point.{Point}
use Rattle.geo_exact.specs.Rings.{path}
use Rattle.geo_exact.specs.Turn.{turn_at, IsOnEdge, IsOnSome, IsOnRing}
use Rattle.geo_exact.specs.Segments.{IsOnSegment}
use Rattle.geo_exact.specs.Winding.{is_not_above, crossing, crossings, winding}
use Rattle.geo_exact.proofs.numbers.Signs.{
  mul_pos,
  mul_not_neg,
  mul_not_pos,
  mul_falling,
  mul_sinking,
  mul_neg_pos,
  flip,
}
use Rattle.geo_exact.proofs.numbers.Polynomials.{var, mul, sub, same_by}
use Rattle.geo_exact.proofs.corners_and_turns.TurnLaws.{turn_at_back}
use Rattle.geo_exact.proofs.corners_and_turns.OnEdge.{on_edge_back}
use Rattle.geo_exact.proofs.rings.Crossings.{crossed}
use Rattle.geo_exact.proofs.corners_and_turns.Sides.{
  side,
  meets_rising,
  meets_falling,
  heights_from_start,
  heights_from_end,
  heights_to_first,
  heights_to_last,
}

-- ---- signs, over plain numbers
neg_of_falling : (s b : ℤ) → b ≤ℤ pos 0 → pos 0 <ℤ (s *ℤ b) → s <ℤ pos 0
neg_of_falling s b h k = by_lt_z s (pos 0) (λ p. p) (λ q. absurd (omega (arith, ints, mul_not_pos s b q h)))

pos_of_falling : (s b : ℤ) → b ≤ℤ pos 0 → (s *ℤ b) <ℤ pos 0 → pos 0 <ℤ s
pos_of_falling s b h k = by_lt_z (pos 0) s (λ p. p) (λ q. absurd (omega (arith, ints, mul_falling s b q h)))

-- the sign of a factor, the other one positive
pos_left : (s b : ℤ) → pos 0 <ℤ b → pos 0 <ℤ (s *ℤ b) → pos 0 <ℤ s
pos_left s b h k = by_lt_z (pos 0) s (λ p. p) (λ q. absurd (omega (arith, ints, mul_sinking s b q (omega (arith, ints)))))

neg_left : (s b : ℤ) → pos 0 <ℤ b → (s *ℤ b) <ℤ pos 0 → s <ℤ pos 0
neg_left s b h k = by_lt_z s (pos 0) (λ p. p) (λ q. absurd (omega (arith, ints, mul_not_neg s b q (omega (arith, ints)))))

not_pos_left : (s b : ℤ) → pos 0 <ℤ b → (s *ℤ b) ≤ℤ pos 0 → s ≤ℤ pos 0
not_pos_left s b h k = by_lt_z (pos 0) s (λ p. absurd (omega (arith, ints, mul_pos s b p h))) (λ q. q)

not_neg_left : (s b : ℤ) → pos 0 <ℤ b → pos 0 ≤ℤ (s *ℤ b) → pos 0 ≤ℤ s
not_neg_left s b h k = by_lt_z s (pos 0) (λ p. absurd (omega (arith, ints, mul_neg_pos s b p h))) (λ q. q)

-- ---- the signs of the turns at p and at q, s and t, and of the sides of u and w, v and z, where segment and edge meet
abbrev Rising : ℤ → ℤ → ℤ → ℤ → Type 0
Rising s t v z = (pos 0 ≤ℤ s) × (t ≤ℤ pos 0) × ((t <ℤ pos 0) ⊎ (pos 0 <ℤ s)) × (v ≤ℤ pos 0) × (pos 0 ≤ℤ z)

abbrev Falling : ℤ → ℤ → ℤ → ℤ → Type 0
Falling s t v z = (s ≤ℤ pos 0) × (pos 0 ≤ℤ t) × ((s <ℤ pos 0) ⊎ (pos 0 <ℤ t)) × (pos 0 ≤ℤ v) × (z ≤ℤ pos 0)

record Apart (s t v z : ℤ) : Type 0 where
  not_rising : ¬ Rising s t v z
  not_falling : ¬ Falling s t v z

-- the heights: of u and w above p, a and b; above q, c and d; of q above p, h; of w above u, r
record Heights (s t v z a b c d h r : ℤ) : Type 0 where
  at_start : z *ℤ a -ℤ v *ℤ b ≡ s *ℤ h
  at_end : z *ℤ c -ℤ v *ℤ d ≡ t *ℤ h
  at_first : s *ℤ c -ℤ t *ℤ a ≡ v *ℤ r
  at_last : s *ℤ d -ℤ t *ℤ b ≡ z *ℤ r

agree : (b c : Bool) → (b ≡ true → c ≡ false → ⊥) → (b ≡ false → c ≡ true → ⊥) → b ≡ c
agree true true h k = refl
agree true false h k = absurd (h refl refl)
agree false true h k = absurd (k refl refl)
agree false false h k = refl

is_less : (u v : ℤ) → lt_z u v ≡ true → u <ℤ v
is_less u v e = omega (arith, ints)

is_not_less : (u v : ℤ) → lt_z u v ≡ false → v ≤ℤ u
is_not_less u v e = omega (arith, ints)

weak : (u v : ℤ) → u <ℤ v → u ≤ℤ v
weak u v h = omega (arith, ints)

below_diff : (x y z : ℤ) → x -ℤ y ≡ z → x ≤ℤ pos 0 → pos 0 <ℤ z → y <ℤ pos 0
below_diff x y z e h k = omega (arith, ints)

-- from below p to between p and q
enters : (s t v z a b c d h r : ℤ) → Heights s t v z a b c d h r → Apart s t v z
    → a ≤ℤ pos 0 → pos 0 <ℤ b → d ≤ℤ pos 0 → pos 0 <ℤ h → pos 0 <ℤ r → lt_z (pos 0) s ≡ lt_z z (pos 0)
enters s t v z a b c d h r e n ha hb hd hh hr =
    agree (lt_z (pos 0) s) (lt_z z (pos 0))
    (λ i j. let x = is_less (pos 0) s i in let y = is_not_less z (pos 0) j in
    n.not_rising (
      weak (pos 0) s x,
      not_pos_left t b hb (omega (arith, ints, e.at_last, mul_not_pos s d (weak (pos 0) s x) hd, mul_not_neg z r y (weak (pos 0) r hr))),
      inr x,
      weak v (pos 0) (neg_left v b hb (omega (arith, ints, e.at_start, mul_not_pos z a y ha, mul_pos s h x hh))),
      y,
    ))
    (λ i j. let x = is_not_less (pos 0) s i in let y = is_less z (pos 0) j in
    let f : pos 0 <ℤ t = pos_left t b hb (omega (arith, ints, e.at_last, mul_falling s d x hd, mul_neg_pos z r y hr)) in
    n.not_falling (
      x,
      weak (pos 0) t f,
      inr f,
      not_neg_left v b hb (omega (arith, ints, e.at_start, mul_falling z a (weak z (pos 0) y) ha, mul_sinking s h x (weak (pos 0) h hh))),
      weak z (pos 0) y,
    ))

-- from below p to above q
passes : (s t v z a b c d h r : ℤ) → Heights s t v z a b c d h r → Apart s t v z
    → a ≤ℤ pos 0 → pos 0 <ℤ b → c ≤ℤ pos 0 → pos 0 <ℤ d → pos 0 <ℤ r → lt_z (pos 0) s ≡ lt_z (pos 0) t
passes s t v z a b c d h r e n ha hb hc hd hr =
    agree (lt_z (pos 0) s) (lt_z (pos 0) t)
    (λ i j. let x = is_less (pos 0) s i in let y = is_not_less (pos 0) t j in
    n.not_rising (
      weak (pos 0) s x,
      y,
      inr x,
      not_pos_left v r hr (omega (arith, ints, e.at_first, mul_not_pos s c (weak (pos 0) s x) hc, mul_falling t a y ha)),
      weak (pos 0) z (pos_left z r hr (omega (arith, ints, e.at_last, mul_pos s d x hd, mul_sinking t b y (weak (pos 0) b hb)))),
    ))
    (λ i j. let x = is_not_less (pos 0) s i in let y = is_less (pos 0) t j in
    n.not_falling (
      x,
      weak (pos 0) t y,
      inr y,
      not_neg_left v r hr (omega (arith, ints, e.at_first, mul_falling s c x hc, mul_not_pos t a (weak (pos 0) t y) ha)),
      weak z (pos 0) (neg_left z r hr (omega (arith, ints, e.at_last, mul_sinking s d x (weak (pos 0) d hd), mul_pos t b y hb))),
    ))

-- both between p and q
stays : (s t v z a b c d h r : ℤ) → Heights s t v z a b c d h r → Apart s t v z
    → pos 0 <ℤ a → pos 0 <ℤ b → c ≤ℤ pos 0 → d ≤ℤ pos 0 → pos 0 <ℤ h → lt_z z (pos 0) ≡ lt_z v (pos 0)
stays s t v z a b c d h r e n ha hb hc hd hh =
    agree (lt_z z (pos 0)) (lt_z v (pos 0))
    (λ i j. let x = is_less z (pos 0) i in let y = is_not_less v (pos 0) j in
    let f : s <ℤ pos 0 = neg_left s h hh (omega (arith, ints, e.at_start, mul_neg_pos z a x ha, mul_not_neg v b y (weak (pos 0) b hb))) in
    n.not_falling (
      weak s (pos 0) f,
      not_neg_left t h hh (omega (arith, ints, e.at_end, mul_falling z c (weak z (pos 0) x) hc, mul_not_pos v d y hd)),
      inl f,
      y,
      weak z (pos 0) x,
    ))
    (λ i j. let x = is_not_less z (pos 0) i in let y = is_less v (pos 0) j in
    let f : pos 0 <ℤ s = pos_left s h hh (omega (arith, ints, e.at_start, mul_not_neg z a x (weak (pos 0) a ha), mul_neg_pos v b y hb)) in
    n.not_rising (
      weak (pos 0) s f,
      not_pos_left t h hh (omega (arith, ints, e.at_end, mul_not_pos z c x hc, mul_falling v d (weak v (pos 0) y) hd)),
      inr f,
      weak v (pos 0) y,
      x,
    ))

-- from between p and q to above q
leaves : (s t v z a b c d h r : ℤ) → Heights s t v z a b c d h r → Apart s t v z
    → pos 0 <ℤ a → c ≤ℤ pos 0 → pos 0 <ℤ d → pos 0 <ℤ h → pos 0 <ℤ r → lt_z (pos 0) t ≡ lt_z v (pos 0)
leaves s t v z a b c d h r e n ha hc hd hh hr =
    agree (lt_z (pos 0) t) (lt_z v (pos 0))
    (λ i j. let x = is_less (pos 0) t i in let y = is_not_less v (pos 0) j in
    let f : s <ℤ pos 0 = neg_of_falling s c hc (omega (
      arith,
      ints,
      e.at_first,
      mul_pos t a x ha,
      mul_not_neg v r y
          (weak (pos 0) r hr),
    )) in
    n.not_falling (
      weak s (pos 0) f,
      weak (pos 0) t x,
      inl f,
      y,
      weak z (pos 0) (neg_of_falling z c hc (omega (arith, ints, e.at_end, mul_pos t h x hh, mul_not_neg v d y (weak (pos 0) d hd)))),
    ))
    (λ i j. let x = is_not_less (pos 0) t i in let y = is_less v (pos 0) j in
    let f : pos 0 <ℤ s = pos_of_falling s c hc (omega (
      arith,
      ints,
      e.at_first,
      mul_sinking t a x
          (weak (pos 0) a ha),
      mul_neg_pos v r y hr,
    )) in
    n.not_rising (
      weak (pos 0) s f,
      x,
      inr f,
      weak v (pos 0) y,
      weak (pos 0) z (pos_of_falling z c hc (omega (arith, ints, e.at_end, mul_sinking t h x (weak (pos 0) h hh), mul_neg_pos v d y hd))),
    ))

-- ---- crossings of the rays from p and from q, over plain Bools
-- 1 for a corner above p and not above q that is right of the way from p to q, at the side s
abbrev pub beside : Bool → Bool → ℤ → ℤ
beside lp lq s = if lp then pos 0 else (if lq then (if lt_z s (pos 0) then pos 1 else pos 0) else pos 0)

one_minus : (b c : Bool) → b ≡ c → (if b then pos 1 else pos 0) -ℤ pos 0 ≡ (if c then pos 1 else pos 0) -ℤ pos 0
one_minus b c e = ap (λ x. (if x then pos 1 else pos 0) -ℤ pos 0) e

minus_one : (b c : Bool) → b ≡ c → (if b then negsuc 0 else pos 0) -ℤ pos 0 ≡ pos 0 -ℤ (if c then pos 1 else pos 0)
minus_one true true e = refl
minus_one false false e = refl
minus_one true false e = cc
minus_one false true e = cc

less_one : (b c : Bool) → b ≡ c → pos 0 -ℤ (if b then pos 1 else pos 0) ≡ pos 0 -ℤ (if c then pos 1 else pos 0)
less_one b c e = ap (λ x. pos 0 -ℤ (if x then pos 1 else pos 0)) e

plus_one : (b c : Bool) → b ≡ c → pos 0 -ℤ (if b then negsuc 0 else pos 0) ≡ (if c then pos 1 else pos 0) -ℤ pos 0
plus_one true true e = refl
plus_one false false e = refl
plus_one true false e = cc
plus_one false true e = cc

no_change : (b c : Bool) → b ≡ c → pos 0 -ℤ pos 0 ≡ (if b then pos 1 else pos 0) -ℤ (if c then pos 1 else pos 0)
no_change true true e = refl
no_change false false e = refl
no_change true false e = cc
no_change false true e = cc

alike : (b c : Bool) → b ≡ c → (if b then pos 1 else pos 0) -ℤ (if c then pos 1 else pos 0) ≡ pos 0 -ℤ pos 0
alike true true e = refl
alike false false e = refl
alike true false e = cc
alike false true e = cc

alike' : (b c : Bool) → b ≡ c → (if b then negsuc 0 else pos 0) -ℤ (if c then negsuc 0 else pos 0) ≡ pos 0 -ℤ pos 0
alike' true true e = refl
alike' false false e = refl
alike' true false e = cc
alike' false true e = cc

changes : (up uq wp wq : Bool) (s t v z : ℤ)
    → (up ≡ true → uq ≡ false → ⊥) → (wp ≡ true → wq ≡ false → ⊥)
    → (up ≡ true → wp ≡ false → wq ≡ true → lt_z (pos 0) s ≡ lt_z z (pos 0))
    → (wp ≡ true → up ≡ false → uq ≡ true → lt_z s (pos 0) ≡ lt_z v (pos 0))
    → (up ≡ true → wq ≡ false → lt_z (pos 0) s ≡ lt_z (pos 0) t)
    → (wp ≡ true → uq ≡ false → lt_z s (pos 0) ≡ lt_z t (pos 0))
    → (up ≡ false → uq ≡ true → wp ≡ false → wq ≡ true → lt_z z (pos 0) ≡ lt_z v (pos 0))
    → (up ≡ false → uq ≡ true → wq ≡ false → lt_z (pos 0) t ≡ lt_z v (pos 0))
    → (wp ≡ false → wq ≡ true → uq ≡ false → lt_z t (pos 0) ≡ lt_z z (pos 0))
    → crossed up wp s -ℤ crossed uq wq t ≡ beside wp wq z -ℤ beside up uq v
changes true false wp wq s t v z i j a b c d e f g = absurd (i refl refl)
changes up uq true false s t v z i j a b c d e f g = absurd (j refl refl)
changes true true true true s t v z i j a b c d e f g = refl
changes true true false true s t v z i j a b c d e f g = one_minus _ _ (a refl refl refl)
changes true true false false s t v z i j a b c d e f g = alike _ _ (c refl refl)
changes false true true true s t v z i j a b c d e f g = minus_one _ _ (b refl refl refl)
changes false true false true s t v z i j a b c d e f g = no_change _ _ (e refl refl refl refl)
changes false true false false s t v z i j a b c d e f g = less_one _ _ (f refl refl refl)
changes false false true true s t v z i j a b c d e f g = alike' _ _ (d refl refl)
changes false false false true s t v z i j a b c d e f g = plus_one _ _ (g refl refl refl)
changes false false false false s t v z i j a b c d e f g = refl

-- ---- an edge and the segment from p to q, which is level or goes upward
-- no point of the segment is on the edge
abbrev pub IsClear : Point → Point → Corner → Corner → Type 0
IsClear p q u w = (m : Point) → IsOnSegment m p q → IsOnEdge m u w → ⊥

clear_back : (p q : Point) (u w : Corner) → IsClear p q u w → IsClear p q w u
clear_back p q u w n m h k = n m h (on_edge_back w u m k)

apart_of : (p q : Point) (u w : Corner) → IsClear p q u w → Apart (turn_at u w p) (turn_at u w q) (side p q u) (side p q w)
apart_of p q u w n = record {
  not_rising = λ r. let m = meets_rising p q u w r.0 r.1 r.2 r.3 r.4 in n m.0 m.1 m.2;
  not_falling = λ r. let m = meets_falling p q u w r.0 r.1 r.2 r.3 r.4 in n m.0 m.1 m.2;
}

-- the height of a corner above p
abbrev above : Corner → Point → ℤ
above u p = u.y *ℤ p.d -ℤ p.y

-- that of q
abbrev pub climb : Point → Point → ℤ
climb p q = q.y *ℤ p.d -ℤ p.y *ℤ q.d

heights_of : (p q : Point) (u w : Corner)
    → Heights (turn_at u w p) (turn_at u w q) (side p q u) (side p q w) (above u p) (above w p) (above u q) (above w q) (climb p q)
    (w.y -ℤ u.y)
heights_of p q u w = record {
  at_start = heights_from_start p q u w;
  at_end = heights_from_end p q u w;
  at_first = heights_to_first p q u w;
  at_last = heights_to_last p q u w;
}

is_at_most : (u v : ℤ) → le_z u v ≡ true → (u -ℤ v) ≤ℤ pos 0
is_at_most u v e = omega (arith, ints)

is_over : (u v : ℤ) → le_z u v ≡ false → pos 0 <ℤ (u -ℤ v)
is_over u v e = omega (arith, ints)

climb_between : (p q : Point) (u : Corner) → above u p *ℤ q.d -ℤ above u q *ℤ p.d ≡ climb p q
climb_between p q u =
    same_by (p.y ∷ p.d ∷ q.y ∷ q.d ∷ u.y ∷ [])
    (sub (mul (sub (mul (var 4) (var 1)) (var 0)) (var 3)) (mul (sub (mul (var 4) (var 3)) (var 2)) (var 1)))
    (sub (mul (var 2) (var 1)) (mul (var 0) (var 3)))
    refl

rise_at : (p : Point) (u w : Corner) → (w.y -ℤ u.y) *ℤ p.d ≡ above w p -ℤ above u p
rise_at p u w =
    same_by (p.y ∷ p.d ∷ u.y ∷ w.y ∷ [])
    (mul (sub (var 3) (var 2)) (var 1))
    (sub (sub (mul (var 3) (var 1)) (var 0)) (sub (mul (var 2) (var 1)) (var 0)))
    refl

climbs : (p q : Point) (u : Corner) → pos 0 <ℤ above u p → above u q ≤ℤ pos 0 → pos 0 <ℤ climb p q
climbs p q u h k = sum (above u p *ℤ q.d) (above u q *ℤ p.d) (climb p q) (climb_between p q u)
    (mul_pos (above u p) q.d h q.d_positive) (mul_sinking (above u q) p.d k (weak (pos 0) p.d p.d_positive))
  where
    sum : (x y z : ℤ) → x -ℤ y ≡ z → pos 0 <ℤ x → y ≤ℤ pos 0 → pos 0 <ℤ z
    sum x y z e a b = omega (arith, ints)

not_over : (p q : Point) (u : Corner) → pos 0 ≤ℤ climb p q → above u p ≤ℤ pos 0 → pos 0 <ℤ above u q → ⊥
not_over p q u c h k = sum (above u p *ℤ q.d) (above u q *ℤ p.d) (climb p q) (climb_between p q u)
    (mul_sinking (above u p) q.d h (weak (pos 0) q.d q.d_positive)) (mul_pos (above u q) p.d k p.d_positive) c
  where
    sum : (x y z : ℤ) → x -ℤ y ≡ z → x ≤ℤ pos 0 → pos 0 <ℤ y → pos 0 ≤ℤ z → ⊥
    sum x y z e a b d = omega (arith, ints)

rises : (p : Point) (u w : Corner) → above u p ≤ℤ pos 0 → pos 0 <ℤ above w p → pos 0 <ℤ (w.y -ℤ u.y)
rises p u w h k = pos_left (w.y -ℤ u.y) p.d p.d_positive (sum (above w p) (above u p) ((w.y -ℤ u.y) *ℤ p.d) (rise_at p u w) k h)
  where
    sum : (x y z : ℤ) → z ≡ x -ℤ y → pos 0 <ℤ x → y ≤ℤ pos 0 → pos 0 <ℤ z
    sum x y z e a b = omega (arith, ints)

enters_at : (p q : Point) (u w : Corner) → IsClear p q u w
    → is_not_above u p ≡ true → is_not_above w p ≡ false → is_not_above w q ≡ true → lt_z (pos 0) (turn_at u w p)
    ≡ lt_z (side p q w)
    (pos 0)
enters_at p q u w n i j k =
    let a = is_at_most (u.y *ℤ p.d) p.y i in
    let b = is_over (w.y *ℤ p.d) p.y j in
    let d = is_at_most (w.y *ℤ q.d) q.y k in
    enters _ _ _ _ _ _ _ _ _ _ (heights_of p q u w) (apart_of p q u w n) a b d (climbs p q w b d) (rises p u w a b)

passes_at : (p q : Point) (u w : Corner) → IsClear p q u w → pos 0 ≤ℤ climb p q
    → is_not_above u p ≡ true → is_not_above w q ≡ false → lt_z (pos 0) (turn_at u w p) ≡ lt_z (pos 0) (turn_at u w q)
passes_at p q u w n h i k =
    let a = is_at_most (u.y *ℤ p.d) p.y i in
    let d = is_over (w.y *ℤ q.d) q.y k in
    let b = by_lt_z (pos 0) (above w p) (λ x. x) (λ x. absurd (not_over p q w h x d)) in
    let c = by_lt_z (pos 0) (above u q) (λ x. absurd (not_over p q u h a x)) (λ x. x) in
    passes _ _ _ _ _ _ _ _ _ _ (heights_of p q u w) (apart_of p q u w n) a b c d (rises p u w a b)

stays_at : (p q : Point) (u w : Corner) → IsClear p q u w → is_not_above u p ≡ false → is_not_above u q ≡ true
    → is_not_above w p ≡ false → is_not_above w q ≡ true → lt_z (side p q w) (pos 0) ≡ lt_z (side p q u) (pos 0)
stays_at p q u w n i j k l =
    let a = is_over (u.y *ℤ p.d) p.y i in
    let c = is_at_most (u.y *ℤ q.d) q.y j in
    stays _ _ _ _ _ _ _ _ _ _ (heights_of p q u w) (apart_of p q u w n) a (is_over (w.y *ℤ p.d) p.y k) c
    (is_at_most (w.y *ℤ q.d) q.y l) (climbs p q u a c)

leaves_at : (p q : Point) (u w : Corner) → IsClear p q u w → is_not_above u p ≡ false → is_not_above u q ≡ true
    → is_not_above w q ≡ false
    → lt_z (pos 0) (turn_at u w q) ≡ lt_z (side p q u) (pos 0)
leaves_at p q u w n i j k =
    let a = is_over (u.y *ℤ p.d) p.y i in
    let c = is_at_most (u.y *ℤ q.d) q.y j in
    let d = is_over (w.y *ℤ q.d) q.y k in
    leaves _ _ _ _ _ _ _ _ _ _ (heights_of p q u w) (apart_of p q u w n) a c d (climbs p q u a c) (rises q u w c d)

-- left of the edge the other way is right of it
right_of : (u w : Corner) (p : Point) → lt_z (turn_at u w p) (pos 0) ≡ lt_z (pos 0) (turn_at w u p)
right_of u w p = sym (flip (turn_at u w p)) ∙ ap (lt_z (pos 0)) (sym (turn_at_back u w p))

-- 1 for a corner beside the segment, right of it, at a height above p and not above q
abbrev pub count_beside : Point → Point → Corner → ℤ
count_beside p q c = beside (is_not_above c p) (is_not_above c q) (side p q c)

pub crossing_changes : (p q : Point) (u w : Corner) → IsClear p q u w → pos 0 ≤ℤ climb p q
    → crossing p u w -ℤ crossing q u w ≡ count_beside p q w -ℤ count_beside p q u
crossing_changes p q u w n h =
    let b = clear_back p q u w n in
    changes (is_not_above u p) (is_not_above u q) (is_not_above w p) (is_not_above w q)
    (turn_at u w p) (turn_at u w q) (side p q u) (side p q w)
    (λ i j. not_over p q u h (is_at_most (u.y *ℤ p.d) p.y i) (is_over (u.y *ℤ q.d) q.y j))
    (λ i j. not_over p q w h (is_at_most (w.y *ℤ p.d) p.y i) (is_over (w.y *ℤ q.d) q.y j))
    (λ i j k. enters_at p q u w n i j k)
    (λ i j k. right_of u w p ∙ enters_at p q w u b i j k)
    (λ i j. passes_at p q u w n h i j)
    (λ i j. right_of u w p ∙ passes_at p q w u b h i j ∙ sym (right_of u w q))
    (λ i j k l. stays_at p q u w n i j k l)
    (λ i j k. leaves_at p q u w n i j k)
    (λ i j k. right_of u w q ∙ leaves_at p q w u b i j k)

-- ---- paths and rings
pub path_changes : (p q : Point) → pos 0 ≤ℤ climb p q → (from : Corner) (rest : List Corner) (to : Corner)
    → ((m : Point) → IsOnSegment m p q → ¬ IsOnSome m (path from rest to))
    → crossings p (path from rest to) -ℤ crossings q (path from rest to) ≡ count_beside p q to -ℤ count_beside p q from
path_changes p q h from [] to n = last (crossing p from to) (crossing q from to) (count_beside p q to -ℤ count_beside p q from)
    (crossing_changes p q from to (λ m i j. n m i (inl j)) h)
  where
    last : (x y z : ℤ) → x -ℤ y ≡ z → (x +ℤ pos 0) -ℤ (y +ℤ pos 0) ≡ z
    last x y z e = omega (arith, ints)
path_changes p q h from (c ∷ rest) to n =
    sum (crossing p from c) (crossing q from c) (crossings p (path c rest to)) (crossings q (path c rest to))
    (count_beside p q from) (count_beside p q c) (count_beside p q to)
    (crossing_changes p q from c (λ m i j. n m i (inl j)) h) (path_changes p q h c rest to (λ m i j. n m i (inr j)))
  where
    sum : (x y s t f g k : ℤ) → x -ℤ y ≡ g -ℤ f → s -ℤ t ≡ k -ℤ g → (x +ℤ s) -ℤ (y +ℤ t) ≡ k -ℤ f
    sum x y s t f g k e i = omega (arith, ints)

rising_way : (p q : Point) (ring : List Corner) → pos 0 ≤ℤ climb p q → ((m : Point) → IsOnSegment m p q → ¬ IsOnRing m ring)
    → winding p ring ≡ winding q ring
rising_way p q [] h n = refl
rising_way p q (first ∷ rest) h n =
    none (winding p (first ∷ rest)) (winding q (first ∷ rest)) (count_beside p q first) (path_changes p q h first rest first n)
  where
    none : (x y z : ℤ) → x -ℤ y ≡ z -ℤ z → x ≡ y
    none x y z e = omega (arith, ints)

pub swapped : (u v : ℤ) → u +ℤ v ≡ v +ℤ u
swapped u v = omega (arith, ints)

abbrev pub segment_back : (q p r : Point) → IsOnSegment q p r → IsOnSegment q r p
segment_back q p r h = record {
  k = h.k;
  m = h.n;
  n = h.m;
  k_positive = h.k_positive;
  m_not_negative = h.n_not_negative;
  n_not_negative = h.m_not_negative;
  in_x = h.in_x ∙ swapped (h.m *ℤ p.x) (h.n *ℤ r.x);
  in_y = h.in_y ∙ swapped (h.m *ℤ p.y) (h.n *ℤ r.y);
  in_d = h.in_d ∙ swapped (h.m *ℤ p.d) (h.n *ℤ r.d);
}

-- where no point of the segment from p to q is on the ring, the ring goes round p as often as round q
pub winding_along : (p q : Point) (ring : List Corner) → ((m : Point) → IsOnSegment m p q → ¬ IsOnRing m ring)
    → winding p ring ≡ winding q ring
winding_along p q ring n =
    by_lt_z (climb p q) (pos 0)
    (λ h. sym (rising_way q p ring (turned (climb p q) (climb q p) (opposite (q.y *ℤ p.d) (p.y *ℤ q.d)) h)
    (λ m i. n m (segment_back m q p i))))
    (λ h. rising_way p q ring h n)
  where
    opposite : (x y : ℤ) → y -ℤ x ≡ neg_ℤ (x -ℤ y)
    opposite x y = omega (arith, ints)

    turned : (x y : ℤ) → y ≡ neg_ℤ x → x <ℤ pos 0 → pos 0 ≤ℤ y
    turned x y e h = omega (arith, ints)
