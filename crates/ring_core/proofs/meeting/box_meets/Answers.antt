use Rattle.std.proofs.Common.{◌≡◌, IsTrue, ◌↔◌, Bool, ℤ, to_z, of_z, FitsSigned, arith, sym, ◌∙◌}
use Rattle.std.specs.Int.{w64, int_min, int_max}
use Rattle.std.proofs.lemmas.Int.{ints, to_z-of_z}
use Rattle.std.proofs.lemmas.Bool.{false≢true}
use Rattle.std.proofs.lemmas.Bool.Decides.{Decides-and}
use Rattle.std.specs.Prelude.{◌&&◌}
use lib.Signed.{le_z}
use Rattle.geo_exact.proofs.numbers.Orders.{Decides-int_le}
use Rattle.geo_exact.specs.Limit.{IsWithin, limit}
use Rattle.geo_exact.specs.Bounds.{RangesMeet}
use Rattle.ring_core.proofs.meeting.box_meets.Goals as goal

-- a clause about coordinates, as the code passes them, for the range from the lesser to the greater of u and v
passed : (r : Bool) (low high u v s t : ℤ) → IsWithin limit low → IsWithin limit high → IsWithin limit s → IsWithin limit t
    → low ≡ int_min u v → high ≡ int_max u v
    → r ≡ (le_z (to_z w64 (of_z w64 low)) (int_max (to_z w64 (of_z w64 s)) (to_z w64 (of_z w64 t)))
    && le_z (int_min (to_z w64 (of_z w64 s)) (to_z w64 (of_z w64 t))) (to_z w64 (of_z w64 high)))
    → (IsTrue r ↔ RangesMeet u v s t)
passed r low high u v s t a b c d e f h =
    let w : FitsSigned w64 low = omega (arith, ints) in
    let x : FitsSigned w64 high = omega (arith, ints) in
    let y : FitsSigned w64 s = omega (arith, ints) in
    let z : FitsSigned w64 t = omega (arith, ints) in
    let tested : r ≡ (le_z low (int_max s t) && le_z (int_min s t) high) = simp to_z-of_z at h in
    let decides = Decides-and (le_z low (int_max s t)) (le_z (int_min s t) high) (Decides-int_le low (int_max s t))
    (Decides-int_le (int_min s t) high) in
    rw (← e, ← f) (λ q. decides.0 (sym tested ∙ q), λ m. tested ∙ decides.1 m)

pub returns-then-is_reached : goal.returns-then-is_reached
returns-then-is_reached g = λ a b e.
    let low = g.args.bounds.low in let high = g.args.bounds.high in let c = g.args.c in let d = g.args.d in
    let x = passed g.is_reached.result low.x high.x a.x b.x c.x d.x low.x_in_range high.x_in_range c.x_in_range d.x_in_range
    e.west e.east g.is_reached.ensures in
    let y = passed g.is_reached-then-is_reached.result low.y high.y a.y b.y c.y d.y low.y_in_range high.y_in_range c.y_in_range d.y_in_range
    e.south e.north g.is_reached-then-is_reached.ensures in
    (λ h. (x.0 g.if-is_reached.true, y.0 h), λ m. y.1 m.1)

pub returns-else-is_reached : goal.returns-else-is_reached
returns-else-is_reached g = λ a b e.
    let low = g.args.bounds.low in let high = g.args.bounds.high in let c = g.args.c in let d = g.args.d in
    let x = passed g.is_reached.result low.x high.x a.x b.x c.x d.x low.x_in_range high.x_in_range c.x_in_range d.x_in_range
    e.west e.east g.is_reached.ensures in
    (λ h. absurd (false≢true (sym g.if-is_reached.false ∙ h)), λ m. x.1 m.0)
