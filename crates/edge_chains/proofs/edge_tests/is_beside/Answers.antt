use Rattle.std.proofs.Common.{◌≡◌, ap, ◌∙◌, arith, FitsSigned, w64, ◌-ℤ◌, ◌*ℤ◌}
use Rattle.std.specs.Int.{w128}
use Rattle.std.proofs.lemmas.Int.{ints, to_z-of_z}
use Rattle.leaning_boxes.proofs.Rows.{apart_from_test}
use Rattle.edge_chains.proofs.edges.Inside.{none_beside_of}
use Rattle.edge_chains.proofs.edge_tests.is_beside.Goals as goal

pub returns : goal.returns
returns c =
    let a = c.args.a in let b = c.args.b in let s = c.args.bounds in
    let f1 : FitsSigned w64 a.x = omega (arith, ints) in
    let f2 : FitsSigned w64 a.y = omega (arith, ints) in
    let f3 : FitsSigned w64 b.x = omega (arith, ints) in
    let f4 : FitsSigned w64 b.y = omega (arith, ints) in
    let f5 : FitsSigned w64 s.low.x = omega (arith, ints) in
    let f6 : FitsSigned w64 s.low.y = omega (arith, ints) in
    let f7 : FitsSigned w64 s.high.x = omega (arith, ints) in
    let f8 : FitsSigned w64 s.high.y = omega (arith, ints) in
    let dx : c.difference-dx.result ≡ b.x -ℤ a.x = simp to_z-of_z at c.difference-dx.ensures in
    let dy : c.difference-dy.result ≡ b.y -ℤ a.y = simp to_z-of_z at c.difference-dy.ensures in
    let d1 : c.difference.result ≡ s.low.y -ℤ a.y = simp to_z-of_z at c.difference.ensures in
    let d2 : c.difference-2.result ≡ s.high.y -ℤ a.y = simp to_z-of_z at c.difference-2.ensures in
    let d3 : c.difference-3.result ≡ s.low.x -ℤ a.x = simp to_z-of_z at c.difference-3.ensures in
    let d4 : c.difference-4.result ≡ s.high.x -ℤ a.x = simp to_z-of_z at c.difference-4.ensures in
    let g1 : FitsSigned w64 c.difference-dx.result = omega (arith, ints) in
    let g2 : FitsSigned w64 c.difference-dy.result = omega (arith, ints) in
    let g3 : FitsSigned w64 c.difference.result = omega (arith, ints) in
    let g4 : FitsSigned w64 c.difference-2.result = omega (arith, ints) in
    let g5 : FitsSigned w64 c.difference-3.result = omega (arith, ints) in
    let g6 : FitsSigned w64 c.difference-4.result = omega (arith, ints) in
    let p1 : c.wide_product-bottom.result ≡ (b.x -ℤ a.x) *ℤ (s.low.y -ℤ a.y) =
    simp to_z-of_z at c.wide_product-bottom.ensures ∙ ap (λ z. z *ℤ c.difference.result) dx ∙ ap (λ z. (b.x -ℤ a.x) *ℤ z) d1 in
    let p2 : c.wide_product-top.result ≡ (b.x -ℤ a.x) *ℤ (s.high.y -ℤ a.y) =
    simp to_z-of_z at c.wide_product-top.ensures ∙ ap (λ z. z *ℤ c.difference-2.result) dx ∙ ap (λ z. (b.x -ℤ a.x) *ℤ z) d2 in
    let p3 : c.wide_product-left.result ≡ (b.y -ℤ a.y) *ℤ (s.low.x -ℤ a.x) =
    simp to_z-of_z at c.wide_product-left.ensures ∙ ap (λ z. z *ℤ c.difference-3.result) dy ∙ ap (λ z. (b.y -ℤ a.y) *ℤ z) d3 in
    let p4 : c.wide_product-right.result ≡ (b.y -ℤ a.y) *ℤ (s.high.x -ℤ a.x) =
    simp to_z-of_z at c.wide_product-right.ensures ∙ ap (λ z. z *ℤ c.difference-4.result) dy ∙ ap (λ z. (b.y -ℤ a.y) *ℤ z) d4 in
    let h1 : FitsSigned w128 c.wide_product-bottom.result = omega (arith, ints) in
    let h2 : FitsSigned w128 c.wide_product-top.result = omega (arith, ints) in
    let h3 : FitsSigned w128 c.wide_product-left.result = omega (arith, ints) in
    let h4 : FitsSigned w128 c.wide_product-right.result = omega (arith, ints) in
    let e = simp to_z-of_z at c.ranges_are_apart.ensures in
    λ t corner k. none_beside_of s a b corner c.wide_product-bottom.result c.wide_product-top.result
    c.wide_product-left.result c.wide_product-right.result p1 p2 p3 p4
    (apart_from_test c.ranges_are_apart.result c.wide_product-bottom.result c.wide_product-top.result
    c.wide_product-left.result c.wide_product-right.result e t) k
