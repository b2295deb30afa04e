use Rattle.std.proofs.Common.{arith, FitsSigned, w64}
use Rattle.std.proofs.lemmas.Int.{ints, to_z-of_z}
use Rattle.tri_overlap.proofs.Farthest.{IsPicked, picked_within, farthest}
use Rattle.geo_exact.proofs.numbers.Fits.{fits_x, fits_y}
use Rattle.tri_overlap.proofs.windows.farthest_left.Goals as goal

pub invariant_of-result : goal.invariant_of-result
invariant_of-result c =
    let h = simp (to_z-of_z, fits_x, fits_y) at c.ahead.ensures in
    let k = simp (to_z-of_z, fits_x, fits_y) at c.ahead-2.ensures in
    let x : IsPicked c.args.from.y c.args.to.y c.args.bounds.high.x c.args.bounds.low.x c.ahead.result =
    record { rising = h.rising; falling = h.falling } in
    let y : IsPicked c.args.from.x c.args.to.x c.args.bounds.low.y c.args.bounds.high.y c.ahead-2.result =
    record { rising = k.rising; falling = k.falling } in
    let i : FitsSigned w64 c.ahead.result = omega (arith, ints) in
    let j : FitsSigned w64 c.ahead-2.result = omega (arith, ints) in
    record {
      x_in_range = simp to_z-of_z (picked_within x c.args.bounds.high.x_in_range c.args.bounds.low.x_in_range);
      y_in_range = simp to_z-of_z (picked_within y c.args.bounds.low.y_in_range c.args.bounds.high.y_in_range);
    }

pub returns : goal.returns
returns c =
    let h = simp (to_z-of_z, fits_x, fits_y) at c.ahead.ensures in
    let k = simp (to_z-of_z, fits_x, fits_y) at c.ahead-2.ensures in
    let x : IsPicked c.args.from.y c.args.to.y c.args.bounds.high.x c.args.bounds.low.x c.ahead.result =
    record { rising = h.rising; falling = h.falling } in
    let y : IsPicked c.args.from.x c.args.to.x c.args.bounds.low.y c.args.bounds.high.y c.ahead-2.result =
    record { rising = k.rising; falling = k.falling } in
    let i : FitsSigned w64 c.ahead.result = omega (arith, ints) in
    let j : FitsSigned w64 c.ahead-2.result = omega (arith, ints) in
    λ p inside. simp to_z-of_z (farthest c.args.from c.args.to c.ahead.result c.ahead-2.result c.args.bounds p x y inside)
