-- A simple ring has an interior point: the centre of a triangle that it is clipped to.
use Rattle.std.proofs.Common.{◌≡◌, inl, refl, arith, pos, ◌+ℤ◌, List, [], ◌∷◌}
use Rattle.std.proofs.lemmas.Int.{ints}
use lib.Signed.{◌<ℤ◌}
use Rattle.geo_exact.specs.declared.corner.Corner.{Corner}
use Rattle.geo_exact.specs.Point.{Point}
use Rattle.geo_exact.specs.Area.{area2}
use Rattle.geo_exact.specs.Turn.{turn, turn_at}
use Rattle.geo_exact.specs.Winding.{IsInterior}
use Rattle.geo_exact.proofs.numbers.Polynomials.{Expr, var, lit, add, same_by}
use Rattle.geo_exact.proofs.rings.Triangles.{triangle_interior}
use Rattle.geo_exact.proofs.corners_and_turns.TurnLaws.{turn_at_expr, turn_expr}
use Rattle.ring_core.specs.declared.triangle.Tri.{Tri}
use Rattle.ring_core.specs.Simple.{IsSimpleRing}
use Rattle.ring_core.specs.Sums.{MakeUp}
use Rattle.ring_core.proofs.clipping.Clipped.{make_up}
use Rattle.ring_core.proofs.clipping.WholeClipping.{to_triangles}
use Rattle.tri_overlap.proofs.RingPairs.{rings_of_pair}

-- the centre of a triangle
abbrev pub centre : (a b c : Corner) → Point
centre a b c = record { x = a.x +ℤ b.x +ℤ c.x; y = a.y +ℤ b.y +ℤ c.y; d = pos 3; d_positive = record { lt = tt } }

abbrev sum_expr : Expr → Expr → Expr → Expr
sum_expr u v w = add (add u v) w

abbrev at_centre : Expr → Expr → Expr → Expr → Expr
at_centre ux uy wx wy = turn_at_expr ux uy wx wy (sum_expr (var 0) (var 2) (var 4)) (sum_expr (var 1) (var 3) (var 5)) (lit (pos 3))

abbrev whole_turn : Expr
whole_turn = turn_expr (var 0) (var 1) (var 2) (var 3) (var 4) (var 5)

module _ (a b c : Corner) where
  pub first_turn : turn_at a b (centre a b c) ≡ turn a b c
  first_turn = same_by (a.x ∷ a.y ∷ b.x ∷ b.y ∷ c.x ∷ c.y ∷ []) (at_centre (var 0) (var 1) (var 2) (var 3)) whole_turn refl

  pub second_turn : turn_at b c (centre a b c) ≡ turn a b c
  second_turn = same_by (a.x ∷ a.y ∷ b.x ∷ b.y ∷ c.x ∷ c.y ∷ []) (at_centre (var 2) (var 3) (var 4) (var 5)) whole_turn refl

  pub third_turn : turn_at c a (centre a b c) ≡ turn a b c
  third_turn = same_by (a.x ∷ a.y ∷ b.x ∷ b.y ∷ c.x ∷ c.y ∷ []) (at_centre (var 4) (var 5) (var 0) (var 1)) whole_turn refl

  pub centre_inside : pos 0 <ℤ turn a b c → IsInterior (centre a b c) (a ∷ b ∷ c ∷ [])
  centre_inside left = (triangle_interior a b c (centre a b c) left).1 (rw first_turn left, rw second_turn left, rw third_turn left)

pub inner_point : (ring : List Corner) → IsSimpleRing ring → (p : Point) × IsInterior p ring
inner_point ring simple =
    let clipped = to_triangles ring simple in
    let made : MakeUp clipped.0 ring = make_up ring clipped.0 clipped.1 in from clipped.0 made
  where
    from : (ts : List Tri) → MakeUp ts ring → (p : Point) × IsInterior p ring
    from [] made = absurd (let some : pos 0 <ℤ area2 ring = simple.counterclockwise in omega (arith, ints, some, made.areas))
    from (t ∷ ts) made =
        let inner = centre_inside t.a t.b t.c t.turns_left in
        let w = rings_of_pair ring ring (t ∷ ts) (t ∷ ts) made made (inl (inl (centre t.a t.b t.c, inner, inner))) in (w.0, w.1)
