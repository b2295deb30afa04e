use Rattle.std.proofs.Common.{◌≡◌, ap, ◌∙◌, arith, FitsSigned, w64, to_z, of_z, pos, ◌-ℤ◌, ◌*ℤ◌}
use Rattle.std.proofs.lemmas.Int.{ints, to_z-of_z}
use lib.Signed.{quot_z}
use Rattle.edge_chains.proofs.steps.steps_of.Goals as goal

pub returns-then-make_one : goal.returns-then-make_one
returns-then-make_one c =
    let a = c.args.a in let b = c.args.b in
    let f1 : FitsSigned w64 a.x = omega (arith, ints) in
    let f2 : FitsSigned w64 a.y = omega (arith, ints) in
    let f3 : FitsSigned w64 b.x = omega (arith, ints) in
    let f4 : FitsSigned w64 b.y = omega (arith, ints) in
    let dx : c.difference-dx.result ≡ b.x -ℤ a.x = simp to_z-of_z at c.difference-dx.ensures in
    let dy : c.difference-dy.result ≡ b.y -ℤ a.y = simp to_z-of_z at c.difference-dy.ensures in
    let n = c.shares_of-shares.result.divisor in
    let count : pos n ≡ to_z w64 n = omega (arith, ints, c.if-count-gt-MOST.false) in
    let x : to_z w64 (of_z w64 c.difference-dx.result) ≡ b.x -ℤ a.x = omega (arith, ints, dx) in
    let y : to_z w64 (of_z w64 c.difference-dy.result) ≡ b.y -ℤ a.y = omega (arith, ints, dy) in
    let across = to_z w64 (of_z w64 (quot_z (to_z w64 (of_z w64 c.difference-dx.result)) (to_z w64 n))) in
    let up = to_z w64 (of_z w64 (quot_z (to_z w64 (of_z w64 c.difference-dy.result)) (to_z w64 n))) in
    record {
      some = omega (arith, c.if-count-eq0.false);
      in_x = ap (λ z. z *ℤ across) count ∙ c.is_product.ensures c.if-is_product.true ∙ x;
      in_y = ap (λ z. z *ℤ up) count ∙ c.is_product-then-is_product.ensures c.if-is_product-2.true ∙ y;
      shortest = (_, _, c.make_one.ensures c.if-make_one.true);
    }
