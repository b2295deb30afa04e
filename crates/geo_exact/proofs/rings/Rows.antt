-- The definitions on worked examples: each value is computed by the definition itself.
use Rattle.std.proofs.Common.{◌≡◌, ℕ, ◌-◌, ◌*◌, ◌^◌, ◌⊎◌, T, ltb, Bool, true, false, not, ◌&&◌, List, []}
use Rattle.std.proofs.Common.{◌∷◌, refl, inl, inr, subst, arith, lit<}
use Rattle.std.proofs.lemmas.Int.{ints}
use Rattle.std.specs.Prelude.{ℤ, pos, negsuc, neg_ℤ, ◌+ℤ◌, ◌-ℤ◌, ◌*ℤ◌, ◌≤ℤ◌, ◌<ℤ◌, int_le, int_lt}
use Rattle.std.specs.Prelude.{if◌then◌else◌}
use lib.Signed.{lt_z_no}
use Rattle.geo_exact.specs.declared.corner.Corner.{Corner}
use Rattle.geo_exact.specs.declared.coord.Unit.{Unit}
use Rattle.geo_exact.specs.declared.coord.Unit.TheVariants.{Mm, Cm, M}
use Rattle.geo_exact.specs.declared.coord.CoordFault.TheVariants.{NotNumber, OffGrid, TooFar}
use Rattle.geo_exact.specs.Limit.{IsWithin, limit}
use Rattle.geo_exact.specs.Point.{Point}
use Rattle.geo_exact.specs.Rings.{Edge, edges}
use Rattle.geo_exact.specs.Turn.{turn, turn_at, IsOnEdge, IsOnSome, IsOnRing}
use Rattle.geo_exact.specs.Winding.{crossing, winding, IsInterior}
use Rattle.geo_exact.specs.Area.{area2}
use Rattle.geo_exact.specs.Interiors.{InteriorsMeet}
use Rattle.geo_exact.specs.Grid.{millimetres, exponent_field, scaled_value, IsOnGrid, IsCoordFault}

-- ---- corners, points and rings

-- z is at most n away from 0, by two tests
abbrev within : (n : ℕ) (z : ℤ) → T (int_le (neg_ℤ (pos n)) z) → T (int_le z (pos n)) → IsWithin n z
within n z low high = record { low = record { le = low }; high = record { le = high } }

abbrev corner : (x y : ℤ) → IsWithin limit x → IsWithin limit y → Corner
corner x y x_in_range y_in_range = record { x = x; y = y; x_in_range = x_in_range; y_in_range = y_in_range }

-- the corner (x, y), neither coordinate negative
abbrev pub at : (x y : ℕ) → T (int_le (pos x) (pos limit)) → T (int_le (pos y) (pos limit)) → Corner
at x y h k = corner (pos x) (pos y) (within limit (pos x) tt h) (within limit (pos y) tt k)

-- the point (x / d, y / d)
abbrev point : (x y d : ℕ) → T (int_lt (pos 0) (pos d)) → Point
point x y d h = record { x = pos x; y = pos y; d = pos d; d_positive = record { lt = h } }

-- the rectangle from (a, 0) to (b, 100)
abbrev strip : (a b : ℕ) → T (int_le (pos a) (pos limit)) → T (int_le (pos b) (pos limit)) → List Corner
strip a b h k = at a 0 h tt ∷ at b 0 k tt ∷ at b 100 k tt ∷ at a 100 h tt ∷ []

abbrev square : List Corner
square = strip 0 100 tt tt

-- a thin triangle, clockwise
abbrev clockwise : List Corner
clockwise = at 60 0 tt tt ∷ at 50 50 tt tt ∷ at 60 100 tt tt ∷ []

-- the square with its corners at the limit
abbrev greatest : List Corner
greatest =
    let least : IsWithin limit (neg_ℤ (pos limit)) = within limit (neg_ℤ (pos limit)) tt tt in
    let most : IsWithin limit (pos limit) = within limit (pos limit) tt tt in
    corner (neg_ℤ (pos limit)) (neg_ℤ (pos limit)) least least
    ∷ corner (pos limit) (neg_ℤ (pos limit)) most least
    ∷ corner (pos limit) (pos limit) most most
    ∷ corner (neg_ℤ (pos limit)) (pos limit) least most
    ∷ []

-- a parcel and a zone whose common part, from (0, 0) to (100, 100), has no whole point inside
abbrev parcel : List Corner
parcel = at 0 0 tt tt ∷ at 100 100 tt tt ∷ at 0 100 tt tt ∷ []

abbrev zone : List Corner
zone = at 0 0 tt tt ∷ at 100 0 tt tt ∷ at 100 100 tt tt ∷ at 50 51 tt tt ∷ []

abbrev upright : List Corner
upright = at 0 0 tt tt ∷ at 60 0 tt tt ∷ at 30 60 tt tt ∷ []

abbrev hanging : List Corner
hanging = at 0 40 tt tt ∷ corner (pos 30) (neg_ℤ (pos 20)) (within limit (pos 30) tt tt)
    (within limit (neg_ℤ (pos 20)) tt tt) ∷ at 60 40 tt tt ∷ []

-- a parcel round the west of two others, on whose common edges with it a place may lie
abbrev around : List Corner
around =
    at 0 0 tt tt ∷ at 100 0 tt tt ∷ at 100 20 tt tt ∷ at 40 20 tt tt ∷ at 40 80 tt tt ∷ at 100 80 tt tt ∷ at 100 100 tt tt
    ∷ at 0 100 tt tt ∷ []

abbrev block : List Corner
block = at 40 20 tt tt ∷ at 70 20 tt tt ∷ at 70 80 tt tt ∷ at 40 80 tt tt ∷ []

-- ---- twice-area

square_area : area2 square ≡ pos 20000
square_area = refl

west_area : area2 (strip 0 60 tt tt) ≡ pos 12000
west_area = refl

east_area : area2 (strip 60 100 tt tt) ≡ pos 8000
east_area = refl

clockwise_area : area2 clockwise ≡ neg_ℤ (pos 1000)
clockwise_area = refl

greatest_area : area2 greatest ≡ pos 80000000000000000000000
greatest_area = refl

around_area : area2 around ≡ pos 12800
around_area = refl

block_area : area2 block ≡ pos 3600
block_area = refl

-- the part that the parcel and the zone have in common
common_area : area2 (at 0 0 tt tt ∷ at 100 100 tt tt ∷ at 50 51 tt tt ∷ []) ≡ pos 100
common_area = refl

-- lists of no, one and two corners go round nothing
empty_area : area2 [] ≡ pos 0
empty_area = refl

lone_area : area2 (at 60 100 tt tt ∷ []) ≡ pos 0
lone_area = refl

pair_area : area2 (at 60 0 tt tt ∷ at 50 50 tt tt ∷ []) ≡ pos 0
pair_area = refl

-- ---- orientation and winding

abbrev middle : Point
middle = point 50 50 1 tt

abbrev beside : Point
beside = point 57 50 1 tt

left_turn : turn (at 0 0 tt tt) (at 100 0 tt tt) (at 0 100 tt tt) ≡ pos 10000
left_turn = refl

right_turn : turn (at 60 0 tt tt) (at 50 50 tt tt) (at 60 100 tt tt) ≡ neg_ℤ (pos 1000)
right_turn = refl

-- an upward edge with the point on its left, a downward edge with the point on its right, and both the other way round
up_left : crossing beside (at 100 0 tt tt) (at 100 100 tt tt) ≡ pos 1
up_left = refl

up_right : crossing beside (at 0 0 tt tt) (at 0 100 tt tt) ≡ pos 0
up_right = refl

down_right : crossing beside (at 100 100 tt tt) (at 100 0 tt tt) ≡ neg_ℤ (pos 1)
down_right = refl

down_left : crossing beside (at 0 100 tt tt) (at 0 0 tt tt) ≡ pos 0
down_left = refl

-- of two edges that meet at the point's height, the one that goes on upward crosses
into_height : crossing beside (at 60 0 tt tt) (at 70 50 tt tt) ≡ pos 0
into_height = refl

from_height : crossing beside (at 70 50 tt tt) (at 60 100 tt tt) ≡ pos 1
from_height = refl

along_height : crossing beside (at 60 50 tt tt) (at 70 50 tt tt) ≡ pos 0
along_height = refl

square_round_middle : winding middle square ≡ pos 1
square_round_middle = refl

square_round_beside : winding beside square ≡ pos 1
square_round_beside = refl

clockwise_round_beside : winding beside clockwise ≡ neg_ℤ (pos 1)
clockwise_round_beside = refl

-- at its own corner too a ring has some sum of crossings
clockwise_round_middle : winding middle clockwise ≡ neg_ℤ (pos 1)
clockwise_round_middle = refl

-- ---- on an edge, and inside

abbrev on_clockwise : IsOnRing middle clockwise
on_clockwise = inl (record {
  on_line = refl;
  from_x = record { le = tt };
  to_x = record { le = tt };
  from_y = record { le = tt };
  to_y = record { le = tt };
})

-- (40, 50) lies on both rings, between the ends of an edge; (50, 50) lies in the block alone
abbrev on_block : IsOnRing (point 40 50 1 tt) block
on_block = inr (inr (inr (inl (record {
  on_line = refl;
  from_x = record { le = tt };
  to_x = record { le = tt };
  from_y = record { le = tt };
  to_y = record { le = tt };
}))))

abbrev on_around : IsOnRing (point 40 50 1 tt) around
on_around = inr (inr (inr (inl (record {
  on_line = refl;
  from_x = record { le = tt };
  to_x = record { le = tt };
  from_y = record { le = tt };
  to_y = record { le = tt };
}))))

-- an edge has its ends, and no point of its line beyond them
abbrev at_end : IsOnEdge (point 100 0 1 tt) (at 0 0 tt tt) (at 100 0 tt tt)
at_end = record {
  on_line = refl;
  from_x = record { le = tt };
  to_x = record { le = tt };
  from_y = record { le = tt };
  to_y = record { le = tt };
}

beyond_end : ¬ IsOnEdge (point 100001 0 1000 tt) (at 0 0 tt tt) (at 100 0 tt tt)
beyond_end on = on.to_x.le

-- no edge's turn is 0 at the point
abbrev is_zero : ℤ → Bool
is_zero z = int_le z (pos 0) && int_le (pos 0) z

abbrev is_off : Point → List Edge → Bool
is_off p [] = true
is_off p (edge ∷ rest) = if is_zero (turn_at edge.from edge.to p) then false else is_off p rest

second : (b c : Bool) → T (if b then false else c) → T c
second true c h = absurd h
second false c h = h

-- so it is on none of them
off : (p : Point) (es : List Edge) → T (is_off p es) → ¬ IsOnSome p es
off p [] h on = on
off p (edge ∷ rest) h (inl on) = subst (λ z. T (if is_zero z then false else is_off p rest)) on.on_line h
off p (edge ∷ rest) h (inr on) = off p rest (second (is_zero (turn_at edge.from edge.to p)) (is_off p rest) h) on

-- an interior point, by two tests
abbrev interior : (p : Point) (ring : List Corner) → T (is_off p (edges ring)) → T (int_le (pos 1) (winding p ring))
    → IsInterior p ring
interior p ring h k = record { off_edges = off p (edges ring) h; is_wound = record { le = k } }

beside_inside : IsInterior beside square
beside_inside = interior beside square tt tt

middle_of_block : IsInterior middle block
middle_of_block = interior middle block tt tt

middle_of_around : ¬ IsInterior middle around
middle_of_around inside = inside.is_wound.le

-- a clockwise ring has no interior there, though its edges go round the point
beside_clockwise : ¬ IsInterior beside clockwise
beside_clockwise inside = inside.is_wound.le

-- (50, 50 + 1/3) lies in the parcel and in the zone
interiors_meet : InteriorsMeet parcel zone
interiors_meet = let p : Point = point 150 151 3 tt in (p, interior p parcel tt tt, interior p zone tt tt)

-- two triangles of which neither has a corner of the other inside
crossed : InteriorsMeet upright hanging
crossed = let p : Point = point 30 20 1 tt in (p, interior p upright tt tt, interior p hanging tt tt)

-- a crossing, by its tests: whether each end is at the height of the point or below it, and the turn's two signs
abbrev crosses : Bool → Bool → Bool → Bool → ℤ
crosses from to left right =
    if from
    then (if to then pos 0 else (if left then pos 1 else pos 0))
    else (if to then (if right then negsuc 0 else pos 0) else pos 0)

wound : (bottom top s1 t1 s2 t2 s3 t3 s4 t4 : Bool)
    → T (int_le (pos 1) (crosses bottom bottom s1 t1
    +ℤ (crosses bottom top s2 t2 +ℤ (crosses top top s3 t3 +ℤ (crosses top bottom s4 t4 +ℤ pos 0)))))
    → (T s2 × T (not t4)) ⊎ (T (not bottom) × T top)
wound true true s1 t1 s2 t2 s3 t3 s4 t4 h = absurd h
wound false false s1 t1 s2 t2 s3 t3 s4 t4 h = absurd h
wound false true s1 t1 s2 t2 s3 t3 s4 t4 h = inr (tt, tt)
wound true false s1 t1 true t2 s3 t3 s4 false h = inl (tt, tt)
wound true false s1 t1 true t2 s3 t3 s4 true h = absurd h
wound true false s1 t1 false t2 s3 t3 s4 false h = absurd h
wound true false s1 t1 false t2 s3 t3 s4 true h = absurd h

-- a point that a strip goes round is left of its upward edge and not right of its downward one: else it would be
-- below the strip and above it at once
within_strip : (a b : ℕ) (h : T (int_le (pos a) (pos limit))) (k : T (int_le (pos b) (pos limit))) (p : Point)
    → T (int_le (pos 1) (winding p (strip a b h k)))
    → (T (int_lt (pos 0) (turn_at (at b 0 k tt) (at b 100 k tt) p)) × T (not (int_lt (turn_at (at a 100 h tt) (at a 0 h tt) p) (pos 0))))
    ⊎ (T (not (int_le (pos 0 *ℤ p.d) p.y)) × T (int_le (pos 100 *ℤ p.d) p.y))
within_strip a b h k p w = wound (int_le (pos 0 *ℤ p.d) p.y) (int_le (pos 100 *ℤ p.d) p.y) _ _ _ _ _ _ _ _ w

both : (b : Bool) → T b → T (not b) → ⊥
both true h k = k
both false h k = h

-- touching along an edge is no common point of the interiors: it would lie to the left of x = 60, and not to the left
touching : ¬ InteriorsMeet (strip 0 60 tt tt) (strip 60 100 tt tt)
touching (p, in_west, in_east) =
    let flat : (T (not (int_le (pos 0 *ℤ p.d) p.y)) × T (int_le (pos 100 *ℤ p.d) p.y)) → ⊥ = λ h.
    let top : (pos 100 *ℤ p.d) ≤ℤ p.y = record { le = h.1 } in
    let bottom : (pos 0 *ℤ p.d) ≤ℤ p.y = omega (arith, ints, p.d_positive, top) in
    both (int_le (pos 0 *ℤ p.d) p.y) bottom.le h.0 in
    elim (within_strip 0 60 tt tt p in_west.is_wound.le) [
      | inl west ↦ elim (within_strip 60 100 tt tt p in_east.is_wound.le) [
        | inl east ↦
            let left : pos 0 <ℤ turn_at (at 60 0 tt tt) (at 60 100 tt tt) p = record { lt = west.0 } in
            let not_left : pos 0 ≤ℤ turn_at (at 60 100 tt tt) (at 60 0 tt tt) p = lt_z_no east.1 in
            omega (arith, ints, left, not_left)
        | inr h ↦ flat h
      ]
      | inr h ↦ flat h
    ]

-- ---- the grid

-- how far the double lies beyond k, in 1024ths, times 2 ^ 1075
abbrev distance : ℕ → Unit → ℤ → ℤ
distance bits unit k = (pos (millimetres unit) *ℤ scaled_value bits -ℤ k *ℤ pos (2 ^ 1075)) *ℤ pos 1024

abbrev on_grid : (bits : ℕ) (unit : Unit) (k : ℤ) → T (ltb (exponent_field bits) 2047)
    → T (int_le (neg_ℤ (pos (2 ^ 1075))) (distance bits unit k)) → T (int_le (distance bits unit k) (pos (2 ^ 1075)))
    → IsOnGrid bits unit k
on_grid bits unit k number low high = record { is_number = lit< number; is_near = within (2 ^ 1075) (distance bits unit k) low high }

-- 12.34 metres
twelve : IsOnGrid 0x4028AE147AE147AE M (pos 12340)
twelve = on_grid 0x4028AE147AE147AE M (pos 12340) tt tt tt

-- 12.345 metres
twelve_and_more : IsOnGrid 0x4028B0A3D70A3D71 M (pos 12345)
twelve_and_more = on_grid 0x4028B0A3D70A3D71 M (pos 12345) tt tt tt

minus_zero : IsOnGrid 0x8000000000000000 M (pos 0)
minus_zero = on_grid 0x8000000000000000 M (pos 0) tt tt tt

-- the greatest subnormal
subnormal : IsOnGrid 0x000FFFFFFFFFFFFF Cm (pos 0)
subnormal = on_grid 0x000FFFFFFFFFFFFF Cm (pos 0) tt tt tt

-- 5 + 1/1024
edge_of_five : IsOnGrid 0x4014010000000000 Mm (pos 5)
edge_of_five = on_grid 0x4014010000000000 Mm (pos 5) tt tt tt

-- -(5 + 1/1024)
edge_of_minus_five : IsOnGrid 0xC014010000000000 Mm (neg_ℤ (pos 5))
edge_of_minus_five = on_grid 0xC014010000000000 Mm (neg_ℤ (pos 5)) tt tt tt

-- the limit
at_limit : IsOnGrid 0x42374876E8000000 Mm (pos limit)
at_limit = on_grid 0x42374876E8000000 Mm (pos limit) tt tt tt

-- the limit in centimetres
at_limit_in_centimetres : IsOnGrid 0x4202A05F20000000 Cm (pos limit)
at_limit_in_centimetres = on_grid 0x4202A05F20000000 Cm (pos limit) tt tt tt

-- 5 and a little more than 1/1024
past_five : IsCoordFault 0x4014010000000001 Mm OffGrid
past_five = (lit< tt, λ k near. omega (arith, ints, near.is_near.low, near.is_near.high))

-- 5 + 1/1024 centimetres
hundredth : IsCoordFault 0x4014010000000000 Cm OffGrid
hundredth = (lit< tt, λ k near. omega (arith, ints, near.is_near.low, near.is_near.high))

-- 1/2048 metres
half_way : IsCoordFault 0x3F40000000000000 M OffGrid
half_way = (lit< tt, λ k near. omega (arith, ints, near.is_near.low, near.is_near.high))

infinite : IsCoordFault 0x7FF0000000000000 Cm NotNumber
infinite = refl

-- a centimetre past the limit
past_limit : IsCoordFault 0x4202A05F20080000 Cm TooFar
past_limit = (pos 100000000010, on_grid 0x4202A05F20080000 Cm (pos 100000000010) tt tt tt, λ h. h.high.le)

-- the value of 1, times 2 ^ 1075
one : scaled_value 0x3FF0000000000000 ≡ pos (2 ^ 1075)
one = refl

-- the least double above 0 is 2 ^ -1074
least_subnormal : scaled_value 1 ≡ pos 2
least_subnormal = refl

-- the least normal double is 2 ^ -1022
least_normal : scaled_value 0x0010000000000000 ≡ pos (2 ^ 53)
least_normal = refl

-- the greatest finite double, negative, is -(2 ^ 53 - 1) * 2 ^ 971
greatest_negative : scaled_value 0xFFEFFFFFFFFFFFFF ≡ neg_ℤ (pos ((2 ^ 53 - 1) * 2 ^ 2046))
greatest_negative = refl
