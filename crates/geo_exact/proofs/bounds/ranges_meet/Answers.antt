use Rattle.std.proofs.Common.{◌≡◌, ◌≤ℤ◌, IsTrue, ◌↔◌, Bool, ℤ, arith}
use Rattle.std.specs.Int.{int_max, int_min}
use Rattle.std.proofs.lemmas.Int.{ints, to_z-of_z, clamps}
use Rattle.geo_exact.proofs.bounds.ranges_meet.Goals as goal

rising : (r : Bool) (u v s t : ℤ) → u ≤ℤ v → (IsTrue r ↔ ((u ≤ℤ int_max s t) × (int_min s t ≤ℤ v)))
    → (IsTrue r ↔ ((int_min u v ≤ℤ int_max s t) × (int_min s t ≤ℤ int_max u v)))
rising r u v s t o h =
    let low : int_min u v ≡ u = omega (arith, ints, clamps) in
    let high : int_max u v ≡ v = omega (arith, ints, clamps) in
    rw (low, high) h

falling : (r : Bool) (u v s t : ℤ) → v ≤ℤ u → (IsTrue r ↔ ((v ≤ℤ int_max s t) × (int_min s t ≤ℤ u)))
    → (IsTrue r ↔ ((int_min u v ≤ℤ int_max s t) × (int_min s t ≤ℤ int_max u v)))
falling r u v s t o h =
    let low : int_min u v ≡ v = omega (arith, ints, clamps) in
    let high : int_max u v ≡ u = omega (arith, ints, clamps) in
    rw (low, high) h

pub returns-then-u-v : goal.returns-then-u-v
returns-then-u-v c =
    let u = c.ranges.u in let v = c.ranges.v in let s = c.ranges.s in let t = c.ranges.t in
    rising c.reaches.result c.args.u c.args.v c.args.s c.args.t (omega (arith, ints)) (simp to_z-of_z at c.reaches.ensures)

pub returns-else-u-v : goal.returns-else-u-v
returns-else-u-v c =
    let u = c.ranges.u in let v = c.ranges.v in let s = c.ranges.s in let t = c.ranges.t in
    falling c.reaches-else-u-v.result c.args.u c.args.v c.args.s c.args.t (omega (arith, ints))
    (simp to_z-of_z at c.reaches-else-u-v.ensures)
