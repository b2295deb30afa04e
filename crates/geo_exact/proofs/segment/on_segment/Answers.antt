use Rattle.std.proofs.Common.{◌≡◌, IsTrue, ◌↔◌, ℤ, pos, ◌≤ℤ◌, nat_eq, of_z, to_z, FitsSigned, arith, ◌∙◌, sym}
use Rattle.std.proofs.Common.{ap, Bool, ◌*◌}
use Rattle.std.specs.Int.{w128, w64, int_min, int_max}
use Rattle.std.proofs.lemmas.Int.{ints, to_z-of_z}
use Rattle.std.proofs.lemmas.Bool.Decides.{nat_tests}
use Rattle.std.proofs.lemmas.Bool.{false≢true}
use Rattle.geo_exact.specs.Limit.{IsWithin, limit}
use Rattle.geo_exact.proofs.corners_and_turns.CornerPoints.{on_edge_from_box, box_from_on_edge}
use Rattle.geo_exact.proofs.corners_and_turns.TurnLaws.{corner_on_line}
use Rattle.geo_exact.proofs.segment.on_segment.Goals as goal

-- a clause about coordinates, as the code passes them
passed : (r : Bool) (u v w : ℤ) → IsWithin limit u → IsWithin limit v → IsWithin limit w
    → (IsTrue r ↔ ((int_min (to_z w64 (of_z w64 u)) (to_z w64 (of_z w64 v)) ≤ℤ to_z w64 (of_z w64 w))
    × (to_z w64 (of_z w64 w) ≤ℤ int_max (to_z w64 (of_z w64 u)) (to_z w64 (of_z w64 v)))))
    → (IsTrue r ↔ ((int_min u v ≤ℤ w) × (w ≤ℤ int_max u v)))
passed r u v w a b c h =
    let x : FitsSigned w64 u = omega (arith, ints) in
    let y : FitsSigned w64 v = omega (arith, ints) in
    let z : FitsSigned w64 w = omega (arith, ints) in
    simp to_z-of_z at h

zero_bits : (z : ℤ) → IsWithin (8 * (limit * limit)) z → IsTrue (nat_eq (of_z w128 z) 0) → z ≡ pos 0
zero_bits z h e = let x : FitsSigned w128 z = omega (arith, ints) in grind (arith, ints, nat_tests)

pub returns-then-not-is_between : goal.returns-then-not-is_between
returns-then-not-is_between c =
    let a = c.args.a in let b = c.args.b in let p = c.args.p in
    let told = passed c.is_between.result a.x b.x p.x a.x_in_range b.x_in_range p.x_in_range c.is_between.ensures in
    (λ e. absurd (false≢true e), λ h. absurd (false≢true (sym c.if-not-is_between.true ∙ told.1 (box_from_on_edge a b p h).0)))

pub returns-then-not-is_between-2 : goal.returns-then-not-is_between-2
returns-then-not-is_between-2 c =
    let a = c.args.a in let b = c.args.b in let p = c.args.p in
    let told = passed c.is_between-2.result a.y b.y p.y a.y_in_range b.y_in_range p.y_in_range c.is_between-2.ensures in
    (λ e. absurd (false≢true e), λ h. absurd (false≢true (sym c.if-not-is_between-2.true ∙ told.1 (box_from_on_edge a b p h).1)))

pub returns : goal.returns
returns c =
    let a = c.args.a in let b = c.args.b in let p = c.args.p in
    let x = passed c.is_between.result a.x b.x p.x a.x_in_range b.x_in_range p.x_in_range c.is_between.ensures in
    let y = passed c.is_between-2.result a.y b.y p.y a.y_in_range b.y_in_range p.y_in_range c.is_between-2.ensures in (
      λ e. on_edge_from_box a b p (sym c.turn.ensures.value ∙ zero_bits c.turn.result c.turn.ensures.bound e)
          (x.0 c.if-not-is_between.false) (y.0 c.if-not-is_between-2.false),
      λ h. ap (λ z. nat_eq (of_z w128 z) 0) (c.turn.ensures.value ∙ corner_on_line a b p h),
    )
