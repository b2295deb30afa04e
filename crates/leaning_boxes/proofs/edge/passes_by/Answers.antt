use Rattle.std.proofs.Common.{◌≡◌, arith, FitsSigned, w64, ◌-ℤ◌, ◌*ℤ◌, ◌∙◌, ap}
use Rattle.std.specs.Int.{w128}
use Rattle.std.proofs.lemmas.Int.{ints, to_z-of_z}
use Rattle.leaning_boxes.proofs.Rows.{apart_from_test, not_on_row}
use Rattle.leaning_boxes.proofs.edge.passes_by.Goals as goal

pub returns : goal.returns
returns c =
    let row = c.args.row in let range = c.args.range in
    let f1 : FitsSigned w64 row.from = omega (arith, ints) in
    let f2 : FitsSigned w64 row.to = omega (arith, ints) in
    let f3 : FitsSigned w64 range.from = omega (arith, ints) in
    let f4 : FitsSigned w64 range.to = omega (arith, ints) in
    let f5 : FitsSigned w128 row.rise_from = omega (arith, ints) in
    let f6 : FitsSigned w128 row.rise_to = omega (arith, ints) in
    let f7 : FitsSigned w128 range.rise_from = omega (arith, ints) in
    let f8 : FitsSigned w128 range.rise_to = omega (arith, ints) in
    let way : c.way_between-way.result ≡ row.to -ℤ row.from = simp to_z-of_z at c.way_between-way.ensures.value in
    let rise : c.rise_between-rise.result ≡ row.rise_to -ℤ row.rise_from = simp to_z-of_z at c.rise_between-rise.ensures.value in
    let d1 : c.rise_between.result ≡ range.rise_from -ℤ row.rise_from = simp to_z-of_z at c.rise_between.ensures.value in
    let d2 : c.rise_between-2.result ≡ range.rise_to -ℤ row.rise_from = simp to_z-of_z at c.rise_between-2.ensures.value in
    let d3 : c.way_between.result ≡ range.from -ℤ row.from = simp to_z-of_z at c.way_between.ensures.value in
    let d4 : c.way_between-2.result ≡ range.to -ℤ row.from = simp to_z-of_z at c.way_between-2.ensures.value in
    let g1 : FitsSigned w128 c.way_between-way.result = record { sfits = c.way_between-way.type_inv } in
    let g2 : FitsSigned w128 c.rise_between-rise.result = record { sfits = c.rise_between-rise.type_inv } in
    let g3 : FitsSigned w128 c.rise_between.result = record { sfits = c.rise_between.type_inv } in
    let g4 : FitsSigned w128 c.rise_between-2.result = record { sfits = c.rise_between-2.type_inv } in
    let g5 : FitsSigned w128 c.way_between.result = record { sfits = c.way_between.type_inv } in
    let g6 : FitsSigned w128 c.way_between-2.result = record { sfits = c.way_between-2.type_inv } in
    let h1 : FitsSigned w128 c.rise_product-low.result = record { sfits = c.rise_product-low.type_inv } in
    let h2 : FitsSigned w128 c.rise_product-high.result = record { sfits = c.rise_product-high.type_inv } in
    let h3 : FitsSigned w128 c.rise_product-first.result = record { sfits = c.rise_product-first.type_inv } in
    let h4 : FitsSigned w128 c.rise_product-last.result = record { sfits = c.rise_product-last.type_inv } in
    let p1 : c.rise_product-low.result ≡ (row.to -ℤ row.from) *ℤ (range.rise_from -ℤ row.rise_from) =
    simp to_z-of_z at c.rise_product-low.ensures ∙ ap (λ z. z *ℤ c.rise_between.result) way ∙ ap (λ z. (row.to -ℤ row.from) *ℤ z) d1 in
    let p2 : c.rise_product-high.result ≡ (row.to -ℤ row.from) *ℤ (range.rise_to -ℤ row.rise_from) =
    simp to_z-of_z at c.rise_product-high.ensures ∙ ap (λ z. z *ℤ c.rise_between-2.result) way ∙ ap (λ z. (row.to -ℤ row.from) *ℤ z) d2 in
    let p3 : c.rise_product-first.result ≡ (range.from -ℤ row.from) *ℤ (row.rise_to -ℤ row.rise_from) =
    simp to_z-of_z at c.rise_product-first.ensures ∙ ap (λ z. z *ℤ c.rise_between-rise.result) d3
    ∙ ap (λ z. (range.from -ℤ row.from) *ℤ z) rise in
    let p4 : c.rise_product-last.result ≡ (range.to -ℤ row.from) *ℤ (row.rise_to -ℤ row.rise_from) =
    simp to_z-of_z at c.rise_product-last.ensures ∙ ap (λ z. z *ℤ c.rise_between-rise.result) d4
    ∙ ap (λ z. (range.to -ℤ row.from) *ℤ z) rise in
    let test = simp to_z-of_z at c.ranges_are_apart.ensures in
    λ t z w e f g h. not_on_row (row.to -ℤ row.from) (row.rise_to -ℤ row.rise_from)
    (range.rise_from -ℤ row.rise_from) (range.rise_to -ℤ row.rise_from)
    (range.from -ℤ row.from) (range.to -ℤ row.from) (w -ℤ row.rise_from) (z -ℤ row.from)
    c.rise_product-low.result c.rise_product-high.result c.rise_product-first.result c.rise_product-last.result
    (omega (arith, ints, g)) (omega (arith, ints, h)) (omega (arith, ints, e)) (omega (arith, ints, f)) p1 p2 p3 p4
    (apart_from_test c.ranges_are_apart.result c.rise_product-low.result c.rise_product-high.result
    c.rise_product-first.result c.rise_product-last.result test t)
