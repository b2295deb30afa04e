use Rattle.std.proofs.Common.{◌≡◌, arith, not, get_or, subst}
use Rattle.cell_index.specs.Cells.{is_same_entry}
use Rattle.cell_index.specs.own.Ranges.{place_count, passing, IsChanged}
use Rattle.cell_index.proofs.Changes.{same_cell, changed_more}
use Rattle.cell_index.proofs.cells.take_out.Goals as goal

pub loop-n-preserved : goal.loop-n-preserved
loop-n-preserved g c =
    changed_more c.args.places c.loop-n.n c.number.result (omega (arith, c.loop-n-test.true, c.count-n-end.ensures)) c.number.ensures.value
    (passing (λ entry. not (is_same_entry entry c.args.gone))) c.args.cells.now c.loop-n.cells
    c.index-cells-number.result c.take_from.new.cell
    (omega (arith, c.number.ensures.kept, c.requires, c.loop-n.auto.cells))
    (same_cell c.take_from.new.cell
    (passing (λ entry. not (is_same_entry entry c.args.gone)) (get_or c.loop-n.cells c.number.result c.index-cells-number.result))
    c.take_from.ensures.items c.take_from.ensures.capacity)
    c.loop-n.invariant

pub returns : goal.returns
returns g c =
    let all : c.loop-n.n ≡ place_count c.args.places = omega (arith, c.loop-n.auto.n-end, c.loop-n-test.false, c.count-n-end.ensures) in
    subst (λ n. IsChanged c.args.places n (passing (λ entry. not (is_same_entry entry c.args.gone))) c.args.cells.now
    c.loop-n.cells) all c.loop-n.invariant
