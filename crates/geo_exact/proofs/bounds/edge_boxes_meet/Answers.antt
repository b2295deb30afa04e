use Rattle.std.proofs.Common.{IsTrue, ◌↔◌, Bool, ℤ, to_z, of_z, FitsSigned, arith, sym, ◌∙◌}
use Rattle.std.specs.Int.{w64}
use Rattle.std.proofs.lemmas.Int.{ints, to_z-of_z}
use Rattle.std.proofs.lemmas.Bool.{false≢true}
use Rattle.geo_exact.specs.Limit.{IsWithin, limit}
use Rattle.geo_exact.specs.Bounds.{RangesMeet}
use Rattle.geo_exact.proofs.bounds.edge_boxes_meet.Goals as goal

-- a clause about coordinates, as the code passes them
passed : (r : Bool) (u v s t : ℤ) → IsWithin limit u → IsWithin limit v → IsWithin limit s → IsWithin limit t
    → (IsTrue r ↔ RangesMeet (to_z w64 (of_z w64 u)) (to_z w64 (of_z w64 v)) (to_z w64 (of_z w64 s)) (to_z w64 (of_z w64 t)))
    → (IsTrue r ↔ RangesMeet u v s t)
passed r u v s t a b c d h =
    let w : FitsSigned w64 u = omega (arith, ints) in
    let x : FitsSigned w64 v = omega (arith, ints) in
    let y : FitsSigned w64 s = omega (arith, ints) in
    let z : FitsSigned w64 t = omega (arith, ints) in
    simp to_z-of_z at h

pub returns-then-not-ranges_meet : goal.returns-then-not-ranges_meet
returns-then-not-ranges_meet g =
    let a = g.args.a in let b = g.args.b in let c = g.args.c in let d = g.args.d in
    let told = passed g.ranges_meet.result a.x b.x c.x d.x a.x_in_range b.x_in_range c.x_in_range d.x_in_range g.ranges_meet.ensures in
    (λ e. absurd (false≢true e), λ h. absurd (false≢true (sym g.if-not-ranges_meet.true ∙ told.1 h.0)))

pub returns : goal.returns
returns g =
    let a = g.args.a in let b = g.args.b in let c = g.args.c in let d = g.args.d in
    let x = passed g.ranges_meet.result a.x b.x c.x d.x a.x_in_range b.x_in_range c.x_in_range d.x_in_range g.ranges_meet.ensures in
    let y = passed g.ranges_meet-2.result a.y b.y c.y d.y a.y_in_range b.y_in_range c.y_in_range d.y_in_range g.ranges_meet-2.ensures in
    (λ e. (x.0 g.if-not-ranges_meet.false, y.0 e), λ h. y.1 h.1)
