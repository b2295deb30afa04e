use Rattle.std.proofs.Common.{◌≡◌, ◌∙◌, ◌++◌, ◌∷◌, ◌<◌, ◌≤◌, [], ap, sym, arith, length, get_or, take}
use Rattle.std.proofs.lemmas.List.{map-append, take_more, take_all, length-map, get_or_default}
use Rattle.cell_index.specs.own.Ranges.{contents, Cell, no_cell}
use Rattle.cell_index.proofs.CellsKept.{item_at, shown_alike}
use Rattle.cell_index.proofs.index.CellIndexClone.clone.Goals as goal

pub loop-cell-preserved : goal.loop-cell-preserved
loop-cell-preserved g c =
    let source = c.self.inside.cells.items in
    let n = c.loop-cell.cell-index in
    let inside : n < length source = omega (arith, c.loop-cell-test.true, ap length c.as_slice-cell-items.ensures.value) in
    let within : n < length (contents source) = omega (arith, inside, length-map source (λ (x : Cell). x.items)) in
    let copied : c.in_ok-from_slice.field-0.items ≡ get_or (contents source) n [] =
    c.in_ok-from_slice.ensures.ok ∙ c.as_slice.ensures
    ∙ ap (λ x. x.items) (c.cell-item.is ∙ ap (λ xs. get_or xs n c.cell-item.result) c.as_slice-cell-items.ensures.value
    ∙ get_or_default source n c.cell-item.result no_cell inside)
    ∙ sym (item_at source n inside) in
    ap contents c.in_ok-push.ensures.items
    ∙ map-append (λ x. x.items) c.loop-cell.cells.items (c.in_ok-from_slice.field-0 ∷ [])
    ∙ ap (λ xs. xs ++ c.in_ok-from_slice.field-0.items ∷ []) c.loop-cell.invariant
    ∙ ap (λ items. take n (contents source) ++ items ∷ []) copied
    ∙ sym (take_more (contents source) n [] within)

pub invariant_of-result : goal.invariant_of-result
invariant_of-result g c =
    let source = c.self.inside.cells.items in
    let end : length source ≤ c.loop-cell.cell-index =
    omega (arith, c.loop-cell-test.false, ap length c.as_slice-cell-items.ensures.value) in
    let all : contents c.loop-cell.cells.items ≡ contents source =
    c.loop-cell.invariant ∙ take_all c.loop-cell.cell-index (contents source)
    (omega (arith, end, length-map source (λ (x : Cell). x.items))) in
    omega (
      arith,
      ap length all,
      length-map source (λ (x : Cell). x.items),
      length-map c.loop-cell.cells.items (λ (x : Cell). x.items),
      c.self.invariant,
    )

pub returns : goal.returns
returns g c =
    let source = c.self.inside.cells.items in
    let end : length source ≤ c.loop-cell.cell-index =
    omega (arith, c.loop-cell-test.false, ap length c.as_slice-cell-items.ensures.value) in
    record {
      cases = shown_alike c.self.inside.area c.loop-cell.cells.items source
          (c.loop-cell.invariant ∙ take_all c.loop-cell.cell-index (contents source)
          (omega (arith, end, length-map source (λ (x : Cell). x.items))))
          ∙ c.self.view_is;
    }
