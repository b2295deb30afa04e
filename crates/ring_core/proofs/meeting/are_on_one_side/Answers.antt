use Rattle.std.proofs.Common.{◌≡◌, ◌⊎◌, ◌<ℤ◌, IsTrue, ◌↔◌, Bool, ℤ, pos, to_z, of_z, FitsSigned, arith, ◌*◌}
use Rattle.std.specs.Int.{w128}
use Rattle.std.proofs.lemmas.Int.{ints, to_z-of_z}
use Rattle.geo_exact.specs.Limit.{IsWithin, limit}
use Rattle.ring_core.proofs.meeting.are_on_one_side.Goals as goal

passed : (r : Bool) (m n s t : ℤ) → IsWithin (8 * (limit * limit)) m → IsWithin (8 * (limit * limit)) n → m ≡ s → n ≡ t
    → (IsTrue r ↔ (((pos 0 <ℤ to_z w128 (of_z w128 m)) × (pos 0 <ℤ to_z w128 (of_z w128 n)))
    ⊎ ((to_z w128 (of_z w128 m) <ℤ pos 0) × (to_z w128 (of_z w128 n) <ℤ pos 0))))
    → (IsTrue r ↔ (((pos 0 <ℤ s) × (pos 0 <ℤ t)) ⊎ ((s <ℤ pos 0) × (t <ℤ pos 0))))
passed r m n s t x y e f h =
    let i : FitsSigned w128 m = omega (arith, ints) in
    let j : FitsSigned w128 n = omega (arith, ints) in
    rw (← e, ← f) (simp to_z-of_z at h)

pub returns : goal.returns
returns c =
    passed c.have_one_sign.result c.turn.result c.turn-2.result _ _
    c.turn.ensures.bound c.turn-2.ensures.bound c.turn.ensures.value c.turn-2.ensures.value c.have_one_sign.ensures
