-- A ring whose first corner comes before all its others, by x and then by y, does not go round a corner that the first one sees outside.
use Rattle.std.proofs.Common.{◌≡◌, ◌∙◌, ◌⊎◌, inl, inr, refl, sym, ap, subst, arith, Bool, true, false, List, []}
use Rattle.std.proofs.Common.{◌∷◌, ◌++◌, if◌then◌else◌}
use Rattle.std.specs.List.{AllByRecursion}
use Rattle.std.proofs.lemmas.Int.{ints}
use lib.IntN.{ℤ, pos, negsuc, ◌+ℤ◌, ◌-ℤ◌, ◌*ℤ◌, neg_ℤ}
use lib.Signed.{◌<ℤ◌, ◌≤ℤ◌, lt_z, le_z}
use Rattle.geo_exact.specs.declared.corner.Corner.{Corner}
use Rattle.geo_exact.specs.Order.{IsBefore}
use Rattle.geo_exact.specs.Point.{Point, corner_point}
use Rattle.geo_exact.specs.Rings.{path}
use Rattle.geo_exact.specs.Segments.{IsOnSegment}
use Rattle.geo_exact.specs.Turn.{turn, turn_at, IsOnSome}
use Rattle.geo_exact.specs.Winding.{crossing, crossings, winding}
use Rattle.geo_exact.proofs.numbers.Differences.{times_one}
use Rattle.geo_exact.proofs.numbers.Signs.{mul_pos, mul_not_neg, mul_sinking, pos_of_mul}
use Rattle.geo_exact.proofs.numbers.Polynomials.{var, lit, add, mul, neg, sub, same_by}
use Rattle.geo_exact.proofs.rings.EdgeSums.{sum_over-path}
use Rattle.geo_exact.proofs.corners_and_turns.TurnLaws.{turn_expr, turn_at_corner, turn_cycle, turn_swap}
use Rattle.geo_exact.proofs.rings.Crossings.{crossed, crossing_back}
use Rattle.geo_exact.proofs.rings.Windings.{crossing_of}
use Rattle.geo_exact.proofs.corners_and_turns.Sides.{side, side_expr}
use Rattle.geo_exact.proofs.rings.Ways.{beside, count_beside, path_changes, segment_back}

-- ---- corners after v, by x and then by y: (a, b) is the way there from v
abbrev pub IsAhead : ℤ → ℤ → Type 0
IsAhead a b = (pos 0 <ℤ a) ⊎ ((a ≡ pos 0) × (pos 0 <ℤ b))

pub ahead : (v u : Corner) → IsBefore v u → IsAhead (u.x -ℤ v.x) (u.y -ℤ v.y)
ahead v u (inl h) = inl (omega (arith, ints))
ahead v u (inr h) = inr (omega (arith, ints, h.0), omega (arith, ints, h.1))

pub not_behind : (a b : ℤ) → IsAhead a b → pos 0 ≤ℤ a
not_behind a b (inl h) = omega (arith, ints)
not_behind a b (inr h) = omega (arith, ints, h.0)

-- one that is not above v is right of it
to_right : (a b : ℤ) → IsAhead a b → b ≤ℤ pos 0 → pos 0 <ℤ a
to_right a b (inl h) k = h
to_right a b (inr h) k = absurd (omega (arith, ints, h.1))

abbrev cross : ℤ → ℤ → ℤ → ℤ → ℤ
cross a b c d = a *ℤ d -ℤ b *ℤ c

-- from one that is not above v to one that is not below it
up_left : (a b c d : ℤ) → IsAhead a b → IsAhead c d → b ≤ℤ pos 0 → pos 0 ≤ℤ d → pos 0 ≤ℤ cross a b c d
up_left a b c d h i k l =
    sum (a *ℤ d) (b *ℤ c) (mul_not_neg a d (not_behind a b h) l) (mul_sinking b c k (not_behind c d i))
  where
    sum : (x y : ℤ) → pos 0 ≤ℤ x → y ≤ℤ pos 0 → pos 0 ≤ℤ (x -ℤ y)
    sum x y h k = omega (arith, ints)

-- to one that is above it
up_left_above : (a b c d : ℤ) → IsAhead a b → IsAhead c d → b ≤ℤ pos 0 → pos 0 <ℤ d → pos 0 <ℤ cross a b c d
up_left_above a b c d h i k l =
    sum (a *ℤ d) (b *ℤ c) (mul_pos a d (to_right a b h k) l) (mul_sinking b c k (not_behind c d i))
  where
    sum : (x y : ℤ) → pos 0 <ℤ x → y ≤ℤ pos 0 → pos 0 <ℤ (x -ℤ y)
    sum x y h k = omega (arith, ints)

cross_back : (a b c d : ℤ) → cross c d a b ≡ neg_ℤ (cross a b c d)
cross_back a b c d =
    same_by (a ∷ b ∷ c ∷ d ∷ []) (sub (mul (var 2) (var 1)) (mul (var 3) (var 0)))
    (neg (sub (mul (var 0) (var 3)) (mul (var 1) (var 2)))) refl

down_right : (a b c d : ℤ) → IsAhead a b → IsAhead c d → pos 0 <ℤ b → d ≤ℤ pos 0 → cross a b c d <ℤ pos 0
down_right a b c d h i k l = turned (cross c d a b) (cross a b c d) (cross_back a b c d) (up_left_above c d a b i h l k)
  where
    turned : (x y : ℤ) → x ≡ neg_ℤ y → pos 0 <ℤ x → y <ℤ pos 0
    turned x y e h = omega (arith, ints)

-- ahead of v, left of left is left
left_of_left : (a b c d e f : ℤ) → IsAhead a b → IsAhead c d → IsAhead e f → pos 0 <ℤ cross a b c d → pos 0 <ℤ cross c d e f
    → pos 0 <ℤ cross a b e f
left_of_left a b c d e f h i j k l =
    let c_right : pos 0 <ℤ c = right c d e f i j l in
    let a_right : pos 0 <ℤ a = right a b c d h i k in
    pos_of_mul c (cross a b e f) c_right
    (whole (c *ℤ cross a b e f) (e *ℤ cross a b c d) (a *ℤ cross c d e f) (shared a b c d e f)
    (mul_not_neg e (cross a b c d) (not_behind e f j) (weak (cross a b c d) k)) (mul_pos a (cross c d e f) a_right l))
  where
    weak : (x : ℤ) → pos 0 <ℤ x → pos 0 ≤ℤ x
    weak x h = omega (arith, ints)

    whole : (x y z : ℤ) → x ≡ y +ℤ z → pos 0 ≤ℤ y → pos 0 <ℤ z → pos 0 <ℤ x
    whole x y z e h i = omega (arith, ints)

    shared : (a b c d e f : ℤ) → c *ℤ cross a b e f ≡ e *ℤ cross a b c d +ℤ a *ℤ cross c d e f
    shared a b c d e f =
        same_by (a ∷ b ∷ c ∷ d ∷ e ∷ f ∷ [])
        (mul (var 2) (sub (mul (var 0) (var 5)) (mul (var 1) (var 4))))
        (add (mul (var 4) (sub (mul (var 0) (var 3)) (mul (var 1) (var 2))))
        (mul (var 0) (sub (mul (var 2) (var 5)) (mul (var 3) (var 4)))))
        refl

    -- nothing ahead is left of straight up
    right : (a b c d : ℤ) → IsAhead a b → IsAhead c d → pos 0 <ℤ cross a b c d → pos 0 <ℤ a
    right a b c d (inl h) i k = h
    right a b c d (inr h) i k =
        absurd (none (a *ℤ d) (b *ℤ c) (ap (λ z. z *ℤ d) h.0 ∙ zero d) (mul_not_neg b c (weak b h.1) (not_behind c d i)) k)
      where
        zero : (z : ℤ) → pos 0 *ℤ z ≡ pos 0
        zero z = omega (arith, ints)

        none : (x y : ℤ) → x ≡ pos 0 → pos 0 ≤ℤ y → pos 0 <ℤ (x -ℤ y) → ⊥
        none x y e h i = omega (arith, ints)

-- ---- crossings at the places of corners
height_at : (u c : Corner) → le_z (u.y *ℤ pos 1) c.y ≡ le_z u.y c.y
height_at u c = ap (λ z. le_z z c.y) (times_one u.y)

crossing_at : (c u w : Corner) → crossing (corner_point c) u w ≡ crossed (le_z u.y c.y) (le_z w.y c.y) (turn u w c)
crossing_at c u w =
    ap (λ b. crossed b (le_z (w.y *ℤ pos 1) c.y) (turn_at u w (corner_point c))) (height_at u c)
    ∙ ap (λ b. crossed (le_z u.y c.y) b (turn_at u w (corner_point c))) (height_at w c)
    ∙ ap (λ t. crossed (le_z u.y c.y) (le_z w.y c.y) t) (turn_at_corner u w c)

pub side_at : (v c u : Corner) → side (corner_point v) (corner_point c) u ≡ turn v c u
side_at v c u =
    same_by (v.x ∷ v.y ∷ c.x ∷ c.y ∷ u.x ∷ u.y ∷ [])
    (side_expr (var 0) (var 1) (lit (pos 1)) (var 2) (var 3) (lit (pos 1)) (var 4) (var 5))
    (turn_expr (var 0) (var 1) (var 2) (var 3) (var 4) (var 5))
    refl

beside_at : (v c u : Corner) → count_beside (corner_point v) (corner_point c) u ≡ beside (le_z u.y v.y) (le_z u.y c.y) (turn v c u)
beside_at v c u =
    ap (λ b. beside b (le_z (u.y *ℤ pos 1) c.y) (side (corner_point v) (corner_point c) u)) (height_at u v)
    ∙ ap (λ b. beside (le_z u.y v.y) b (side (corner_point v) (corner_point c) u)) (height_at u c)
    ∙ ap (λ t. beside (le_z u.y v.y) (le_z u.y c.y) t) (side_at v c u)

-- 1 for a corner that is not above v
abbrev low : Corner → Corner → ℤ
low v u = if le_z u.y v.y then pos 1 else pos 0

at_most : (x y : ℤ) → le_z x y ≡ true → (x -ℤ y) ≤ℤ pos 0
at_most x y e = omega (arith, ints)

more : (x y : ℤ) → le_z x y ≡ false → pos 0 <ℤ (x -ℤ y)
more x y e = omega (arith, ints)

crossed_low : (lu lw : Bool) (t : ℤ) → (lu ≡ true → lw ≡ false → pos 0 <ℤ t)
    → (lu ≡ false → lw ≡ true → t <ℤ pos 0)
    → crossed lu lw t ≡ (if lu then pos 1 else pos 0) -ℤ (if lw then pos 1 else pos 0)
crossed_low true true t h k = refl
crossed_low false false t h k = refl
crossed_low true false t h k = ap (λ b. if b then pos 1 else pos 0) (is_true (pos 0) t (h refl refl))
  where
    is_true : (x y : ℤ) → x <ℤ y → lt_z x y ≡ true
    is_true x y h = let e : true ≡ lt_z x y = omega (arith, ints) in sym e
crossed_low false true t h k = ap (λ b. if b then negsuc 0 else pos 0) (is_true t (pos 0) (k refl refl))
  where
    is_true : (x y : ℤ) → x <ℤ y → lt_z x y ≡ true
    is_true x y h = let e : true ≡ lt_z x y = omega (arith, ints) in sym e

-- from v itself, an edge between corners after it
crossing_ahead : (v u w : Corner) → IsBefore v u → IsBefore v w → crossing (corner_point v) u w ≡ low v u -ℤ low v w
crossing_ahead v u w h k =
    crossing_at v u w
    ∙ crossed_low (le_z u.y v.y) (le_z w.y v.y) (turn u w v)
    (λ i j. subst (λ z. pos 0 <ℤ z) (sym (turn_cycle v u w))
    (up_left_above (u.x -ℤ v.x) (u.y -ℤ v.y) (w.x -ℤ v.x) (w.y -ℤ v.y) (ahead v u h) (ahead v w k) (at_most u.y v.y i)
    (more w.y v.y j)))
    (λ i j. subst (λ z. z <ℤ pos 0) (sym (turn_cycle v u w))
    (down_right (u.x -ℤ v.x) (u.y -ℤ v.y) (w.x -ℤ v.x) (w.y -ℤ v.y) (ahead v u h) (ahead v w k) (more u.y v.y i)
    (at_most w.y v.y j)))

path_ahead : (v from to : Corner) (rest : List Corner) → IsBefore v from → AllByRecursion (IsBefore v) rest → IsBefore v to
    → crossings (corner_point v) (path from rest to) ≡ low v from -ℤ low v to
path_ahead v from to [] h all k =
    last (crossing (corner_point v) from to) (low v from -ℤ low v to) (crossing_ahead v from to h k)
  where
    last : (x y : ℤ) → x ≡ y → x +ℤ pos 0 ≡ y
    last x y e = omega (arith, ints)
path_ahead v from to (c ∷ rest) h all k =
    sum (crossing (corner_point v) from c) (crossings (corner_point v) (path c rest to)) (low v from) (low v c) (low v to)
    (crossing_ahead v from c h all.0) (path_ahead v c to rest all.0 all.1 k)
  where
    sum : (x y a b d : ℤ) → x ≡ a -ℤ b → y ≡ b -ℤ d → x +ℤ y ≡ a -ℤ d
    sum x y a b d e f = omega (arith, ints)

-- ---- what the edge from v to u, and u's part of the path, count at c: 1 where c is left of the way from v to u, 0 where it is right
test_true : (x y : ℤ) → x <ℤ y → lt_z x y ≡ true
test_true x y h = let e : true ≡ lt_z x y = omega (arith, ints) in sym e

test_false : (x y : ℤ) → y ≤ℤ x → lt_z x y ≡ false
test_false x y h = let e : false ≡ lt_z x y = omega (arith, ints) in sym e

-- c not below v
abbrev part_up : Bool → Bool → ℤ → ℤ → ℤ
part_up lv lc t s = crossed true lc t +ℤ (if lv then pos 1 else pos 0) +ℤ beside lv lc s

part_up_right : (lv lc : Bool) (t s : ℤ) → (lv ≡ true → pos 0 ≤ℤ t) → t <ℤ pos 0 → pos 0 <ℤ s → part_up lv lc t s
    ≡ pos 0
part_up_right true lc t s h k l = let i = h refl in absurd (omega (arith, ints))
part_up_right false true t s h k l = ap (λ b. pos 0 +ℤ pos 0 +ℤ (if b then pos 1 else pos 0))
    (test_false s (pos 0) (omega (arith, ints)))
part_up_right false false t s h k l = ap (λ b. (if b then pos 1 else pos 0) +ℤ pos 0 +ℤ pos 0)
    (test_false (pos 0) t (omega (arith, ints)))

part_up_left : (lv lc : Bool) (t s : ℤ) → (lv ≡ true → lc ≡ true) → pos 0 <ℤ t → s <ℤ pos 0 → part_up lv lc t s
    ≡ pos 1
part_up_left true true t s h k l = refl
part_up_left true false t s h k l = let e : false ≡ true = h refl in cc
part_up_left false true t s h k l = ap (λ b. pos 0 +ℤ pos 0 +ℤ (if b then pos 1 else pos 0)) (test_true s (pos 0) l)
part_up_left false false t s h k l = ap (λ b. (if b then pos 1 else pos 0) +ℤ pos 0 +ℤ pos 0) (test_true (pos 0) t k)

-- c below v
abbrev part_down : Bool → Bool → ℤ → ℤ → ℤ
part_down lv lc t s = crossed false lc t +ℤ (if lv then pos 1 else pos 0) -ℤ beside lc lv s

part_down_right : (lv lc : Bool) (t s : ℤ) → (lc ≡ true → lv ≡ true) → t <ℤ pos 0 → s <ℤ pos 0 → part_down lv lc t s
    ≡ pos 0
part_down_right true true t s h k l = ap (λ b. (if b then negsuc 0 else pos 0) +ℤ pos 1 -ℤ pos 0) (test_true t (pos 0) k)
part_down_right true false t s h k l = ap (λ b. pos 0 +ℤ pos 1 -ℤ (if b then pos 1 else pos 0)) (test_true s (pos 0) l)
part_down_right false true t s h k l = let e : false ≡ true = h refl in cc
part_down_right false false t s h k l = refl

part_down_left : (lv lc : Bool) (t s : ℤ) → (lv ≡ false → t <ℤ pos 0) → pos 0 <ℤ t → pos 0 <ℤ s → part_down lv lc t s
    ≡ pos 1
part_down_left true true t s h k l = ap (λ b. (if b then negsuc 0 else pos 0) +ℤ pos 1 -ℤ pos 0)
    (test_false t (pos 0) (omega (arith, ints)))
part_down_left true false t s h k l = ap (λ b. pos 0 +ℤ pos 1 -ℤ (if b then pos 1 else pos 0))
    (test_false s (pos 0) (omega (arith, ints)))
part_down_left false lc t s h k l = let i = h refl in absurd (omega (arith, ints))

-- ---- the parts of the two edges at v, at a corner c that v sees
module _ (v c : Corner) (after_c : IsBefore v c) where
  turned : (u : Corner) → turn v c u ≡ neg_ℤ (turn v u c)
  turned u = turn_cycle u v c ∙ turn_swap v u c

  to_left : (x y : ℤ) → y ≡ neg_ℤ x → x <ℤ pos 0 → pos 0 <ℤ y
  to_left x y e h = omega (arith, ints)

  to_right_of : (x y : ℤ) → y ≡ neg_ℤ x → pos 0 <ℤ x → y <ℤ pos 0
  to_right_of x y e h = omega (arith, ints)

  up_part : (u : Corner) → le_z v.y c.y ≡ true → crossing (corner_point c) v u +ℤ low v u +ℤ count_beside (corner_point v)
      (corner_point c) u
      ≡ part_up (le_z u.y v.y) (le_z u.y c.y) (turn v u c) (turn v c u)
  up_part u h =
      ap (λ z. z +ℤ low v u +ℤ count_beside (corner_point v) (corner_point c) u)
      (crossing_at c v u ∙ ap (λ b. crossed b (le_z u.y c.y) (turn v u c)) h)
      ∙ ap (λ z. crossed true (le_z u.y c.y) (turn v u c) +ℤ low v u +ℤ z) (beside_at v c u)

  down_part : (u : Corner) → le_z v.y c.y ≡ false → crossing (corner_point c) v u +ℤ low v u -ℤ count_beside (corner_point c)
      (corner_point v) u
      ≡ part_down (le_z u.y v.y) (le_z u.y c.y) (turn v u c) (turn c v u)
  down_part u h =
      ap (λ z. z +ℤ low v u -ℤ count_beside (corner_point c) (corner_point v) u)
      (crossing_at c v u ∙ ap (λ b. crossed b (le_z u.y c.y) (turn v u c)) h)
      ∙ ap (λ z. crossed false (le_z u.y c.y) (turn v u c) +ℤ low v u -ℤ z) (beside_at c v u)

  level_up : (x y z : ℤ) → le_z x y ≡ true → le_z y z ≡ true → le_z x z ≡ true
  level_up x y z h k = let e : true ≡ le_z x z = omega (arith, ints) in sym e

  level_down : (x y z : ℤ) → le_z y z ≡ false → le_z x z ≡ true → le_z x y ≡ true
  level_down x y z h k = let e : true ≡ le_z x y = omega (arith, ints) in sym e

  above_c : (x y : ℤ) → le_z x y ≡ true → pos 0 ≤ℤ (y -ℤ x)
  above_c x y h = omega (arith, ints)

  below_c : (x y : ℤ) → le_z x y ≡ false → (y -ℤ x) ≤ℤ pos 0
  below_c x y h = omega (arith, ints)

  up_right : (u : Corner) → IsBefore v u → le_z v.y c.y ≡ true → turn v u c <ℤ pos 0
      → crossing (corner_point c) v u +ℤ low v u +ℤ count_beside (corner_point v) (corner_point c) u ≡ pos 0
  up_right u after h t =
      up_part u h
      ∙ part_up_right (le_z u.y v.y) (le_z u.y c.y) (turn v u c) (turn v c u)
      (λ i. up_left (u.x -ℤ v.x) (u.y -ℤ v.y) (c.x -ℤ v.x) (c.y -ℤ v.y) (ahead v u after) (ahead v c after_c) (at_most u.y v.y i)
      (above_c v.y c.y h))
      t (to_left (turn v u c) (turn v c u) (turned u) t)

  up_left_of : (u : Corner) → IsBefore v u → le_z v.y c.y ≡ true → pos 0 <ℤ turn v u c
      → crossing (corner_point c) v u +ℤ low v u +ℤ count_beside (corner_point v) (corner_point c) u ≡ pos 1
  up_left_of u after h t =
      up_part u h
      ∙ part_up_left (le_z u.y v.y) (le_z u.y c.y) (turn v u c) (turn v c u)
      (λ i. level_up u.y v.y c.y i h) t (to_right_of (turn v u c) (turn v c u) (turned u) t)

  down_right_of : (u : Corner) → IsBefore v u → le_z v.y c.y ≡ false → turn v u c <ℤ pos 0
      → crossing (corner_point c) v u +ℤ low v u -ℤ count_beside (corner_point c) (corner_point v) u ≡ pos 0
  down_right_of u after h t =
      down_part u h
      ∙ part_down_right (le_z u.y v.y) (le_z u.y c.y) (turn v u c) (turn c v u)
      (λ i. level_down u.y v.y c.y h i) t (subst (λ z. z <ℤ pos 0) (turn_cycle c v u) t)

  down_left_of : (u : Corner) → IsBefore v u → le_z v.y c.y ≡ false → pos 0 <ℤ turn v u c
      → crossing (corner_point c) v u +ℤ low v u -ℤ count_beside (corner_point c) (corner_point v) u ≡ pos 1
  down_left_of u after h t =
      down_part u h
      ∙ part_down_left (le_z u.y v.y) (le_z u.y c.y) (turn v u c) (turn c v u)
      (λ i. down_right (u.x -ℤ v.x) (u.y -ℤ v.y) (c.x -ℤ v.x) (c.y -ℤ v.y) (ahead v u after) (ahead v c after_c) (more u.y v.y i)
      (below_c v.y c.y h))
      t (subst (λ z. pos 0 <ℤ z) (turn_cycle c v u) t)

-- ---- the ring from v by n to p, and back
module _ (v n p c : Corner) (between : List Corner) (after_n : IsBefore v n) (after_between : AllByRecursion (IsBefore v) between)
    (after_p : IsBefore v p) (after_c : IsBefore v c)
    (clear : (m : Point) → IsOnSegment m (corner_point v) (corner_point c) → ¬ IsOnSome m (path n between p)) where
  whole : winding (corner_point c) (v ∷ n ∷ (between ++ p ∷ []))
      ≡ crossing (corner_point c) v n +ℤ (crossings (corner_point c) (path n between p) +ℤ (crossing (corner_point c) p v +ℤ pos 0))
  whole = ap (λ z. crossing (corner_point c) v n +ℤ z) (sum_over-path (crossing_of (corner_point c)) n p v between [])

  seen_up : le_z v.y c.y ≡ true → (k : ℤ)
      → crossing (corner_point c) v n +ℤ low v n +ℤ count_beside (corner_point v) (corner_point c) n ≡ k
      → crossing (corner_point c) v p +ℤ low v p +ℤ count_beside (corner_point v) (corner_point c) p ≡ k
      → winding (corner_point c) (v ∷ n ∷ (between ++ p ∷ [])) ≡ pos 0
  seen_up h k first last =
      whole
      ∙ none (crossing (corner_point c) v n) (crossing (corner_point c) v p) (crossing (corner_point c) p v)
      (crossings (corner_point v) (path n between p)) (crossings (corner_point c) (path n between p)) (low v n) (low v p)
      (count_beside (corner_point v) (corner_point c) n) (count_beside (corner_point v) (corner_point c) p) k
      (crossing_back (corner_point c) v p) (path_ahead v n p between after_n after_between after_p)
      (path_changes (corner_point v) (corner_point c) (rise v.y c.y h) n between p clear) first last
    where
      rise : (x y : ℤ) → le_z x y ≡ true → pos 0 ≤ℤ (y *ℤ pos 1 -ℤ x *ℤ pos 1)
      rise x y h = omega (arith, ints)

      none : (cn cp cb pv pc ln lp gn gp k : ℤ) → cb ≡ neg_ℤ cp → pv ≡ ln -ℤ lp → pv -ℤ pc ≡ gp -ℤ gn
          → cn +ℤ ln +ℤ gn ≡ k → cp +ℤ lp +ℤ gp ≡ k → cn +ℤ (pc +ℤ (cb +ℤ pos 0)) ≡ pos 0
      none cn cp cb pv pc ln lp gn gp k e f g h i = omega (arith, ints)

  seen_down : le_z v.y c.y ≡ false → (k : ℤ)
      → crossing (corner_point c) v n +ℤ low v n -ℤ count_beside (corner_point c) (corner_point v) n ≡ k
      → crossing (corner_point c) v p +ℤ low v p -ℤ count_beside (corner_point c) (corner_point v) p ≡ k
      → winding (corner_point c) (v ∷ n ∷ (between ++ p ∷ [])) ≡ pos 0
  seen_down h k first last =
      whole
      ∙ none (crossing (corner_point c) v n) (crossing (corner_point c) v p) (crossing (corner_point c) p v)
      (crossings (corner_point v) (path n between p)) (crossings (corner_point c) (path n between p)) (low v n) (low v p)
      (count_beside (corner_point c) (corner_point v) n) (count_beside (corner_point c) (corner_point v) p) k
      (crossing_back (corner_point c) v p) (path_ahead v n p between after_n after_between after_p)
      (path_changes (corner_point c) (corner_point v) (rise v.y c.y h) n between p
      (λ m s. clear m (segment_back m (corner_point c) (corner_point v) s))) first last
    where
      rise : (x y : ℤ) → le_z x y ≡ false → pos 0 ≤ℤ (x *ℤ pos 1 -ℤ y *ℤ pos 1)
      rise x y h = omega (arith, ints)

      none : (cn cp cb pv pc ln lp gn gp k : ℤ) → cb ≡ neg_ℤ cp → pv ≡ ln -ℤ lp → pc -ℤ pv ≡ gp -ℤ gn
          → cn +ℤ ln -ℤ gn ≡ k → cp +ℤ lp -ℤ gp ≡ k → cn +ℤ (pc +ℤ (cb +ℤ pos 0)) ≡ pos 0
      none cn cp cb pv pc ln lp gn gp k e f g h i = omega (arith, ints)

  one_side : (turn v n c <ℤ pos 0) × (turn v p c <ℤ pos 0) ⊎ (pos 0 <ℤ turn v n c) × (pos 0 <ℤ turn v p c)
      → winding (corner_point c) (v ∷ n ∷ (between ++ p ∷ [])) ≡ pos 0
  one_side sides = cases (le_z v.y c.y) refl sides
    where
      cases : (b : Bool) → le_z v.y c.y ≡ b → (turn v n c <ℤ pos 0) × (turn v p c <ℤ pos 0) ⊎ (pos 0 <ℤ turn v n c) ×
          (pos 0 <ℤ turn v p c)
          → winding (corner_point c) (v ∷ n ∷ (between ++ p ∷ [])) ≡ pos 0
      cases true h (inl s) = seen_up h (pos 0) (up_right v c after_c n after_n h s.0) (up_right v c after_c p after_p h s.1)
      cases true h (inr s) = seen_up h (pos 1) (up_left_of v c after_c n after_n h s.0) (up_left_of v c after_c p after_p h s.1)
      cases false h (inl s) = seen_down h (pos 0) (down_right_of v c after_c n after_n h s.0) (down_right_of v c after_c p after_p h s.1)
      cases false h (inr s) = seen_down h (pos 1) (down_left_of v c after_c n after_n h s.0) (down_left_of v c after_c p after_p h s.1)

  left_on : (a b d : Corner) → IsBefore v a → IsBefore v b → IsBefore v d → pos 0 <ℤ turn v a b → pos 0 <ℤ turn v b d
      → pos 0 <ℤ turn v a d
  left_on a b d ha hb hd =
      left_of_left (a.x -ℤ v.x) (a.y -ℤ v.y) (b.x -ℤ v.x) (b.y -ℤ v.y) (d.x -ℤ v.x) (d.y -ℤ v.y) (ahead v a ha) (ahead v b hb)
      (ahead v d hd)

  -- the ring turns left at v, and c is not between n and p as v sees them
  pub outside_wedge : pos 0 <ℤ turn p v n → (turn v n c <ℤ pos 0) ⊎ (turn p v c <ℤ pos 0)
      → winding (corner_point c) (v ∷ n ∷ (between ++ p ∷ [])) ≡ pos 0
  outside_wedge left (inl right) =
      one_side (inl (
        right,
        to_right_of v c after_c (turn v c p) (turn v p c) (opposite p)
            (left_on c n p after_c after_n after_p (to_left v c after_c (turn v n c) (turn v c n) (turned v c after_c n) right)
            (subst (λ z. pos 0 <ℤ z) (sym (turn_cycle p v n)) left)),
      ))
    where
      opposite : (u : Corner) → turn v u c ≡ neg_ℤ (turn v c u)
      opposite u = twice (turn v u c) (turn v c u) (turned v c after_c u)
        where
          twice : (x y : ℤ) → y ≡ neg_ℤ x → x ≡ neg_ℤ y
          twice x y e = omega (arith, ints)
  outside_wedge left (inr right) =
      let q : pos 0 <ℤ turn v p c = to_left v c after_c (turn p v c) (turn v p c) (turn_swap p v c) right in
      one_side (inr (left_on n p c after_n after_p after_c (subst (λ z. pos 0 <ℤ z) (sym (turn_cycle p v n)) left) q, q))
