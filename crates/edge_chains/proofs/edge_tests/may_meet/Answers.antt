use Rattle.std.proofs.Common.{◌≡◌, ◌∙◌, refl, true, arith, FitsSigned, w64, int_le}
use Rattle.std.proofs.lemmas.Int.{ints, to_z-of_z}
use Rattle.geo_exact.proofs.numbers.Orders.{Decides-int_le}
use Rattle.edge_chains.proofs.edge_tests.may_meet.Goals as goal

pub returns : goal.returns
returns c = λ corner k i.
    let one = c.args.one in
    let other = c.args.other in
    let f1 : FitsSigned w64 one.low.x = omega (arith, ints) in
    let f2 : FitsSigned w64 one.low.y = omega (arith, ints) in
    let f3 : FitsSigned w64 one.high.x = omega (arith, ints) in
    let f4 : FitsSigned w64 one.high.y = omega (arith, ints) in
    let f5 : FitsSigned w64 other.low.x = omega (arith, ints) in
    let f6 : FitsSigned w64 other.low.y = omega (arith, ints) in
    let f7 : FitsSigned w64 other.high.x = omega (arith, ints) in
    let f8 : FitsSigned w64 other.high.y = omega (arith, ints) in
    let e1 : c.is_at_most.result ≡ int_le one.low.x other.high.x = simp to_z-of_z at c.is_at_most.ensures in
    let e2 : c.is_at_most-2.result ≡ int_le other.low.x one.high.x = simp to_z-of_z at c.is_at_most-2.ensures in
    let e3 : c.is_at_most-3.result ≡ int_le one.low.y other.high.y = simp to_z-of_z at c.is_at_most-3.ensures in
    let e4 : c.is_at_most-4.result ≡ int_le other.low.y one.high.y = simp to_z-of_z at c.is_at_most-4.ensures in
    let west : c.is_at_most.result ≡ true = e1 ∙ (Decides-int_le one.low.x other.high.x).1 (omega (arith, ints, k.west, i.east)) in
    let east : c.is_at_most-2.result ≡ true = e2 ∙ (Decides-int_le other.low.x one.high.x).1 (omega (arith, ints, i.west, k.east)) in
    let south : c.is_at_most-3.result ≡ true = e3 ∙ (Decides-int_le one.low.y other.high.y).1 (omega (arith, ints, k.south, i.north)) in
    let north : c.is_at_most-4.result ≡ true = e4 ∙ (Decides-int_le other.low.y one.high.y).1 (omega (arith, ints, i.south, k.north)) in
    rw west (rw east (rw south (rw north refl)))
