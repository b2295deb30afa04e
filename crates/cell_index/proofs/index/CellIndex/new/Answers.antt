use Rattle.std.proofs.Common.{◌≡◌, arith, ◌∙◌, ◌+◌, ap, length, []}
use Rattle.std.proofs.lemmas.List.{length_push}
use Rattle.std.proofs.lemmas.List.Elements.{All-push}
use Rattle.cell_index.specs.own.Ranges.{no_cell}
use Rattle.cell_index.proofs.CellsKept.{shows}
use Rattle.cell_index.proofs.index.CellIndex.new.Goals as goal

pub loop-init : goal.loop-init
loop-init g c = record {
  so_many = ap length c.in_ok-cells.ensures.items;
  empty = rw c.in_ok-cells.ensures.items (λ k d h. absurd (omega (arith, h)));
}

pub loop-preserved : goal.loop-preserved
loop-preserved g c = record {
  so_many = ap length c.in_ok-push.ensures.items ∙ length_push c.loop.cells.items c.new.result
      ∙ ap (λ n. n + 1) c.loop.invariant.so_many;
  empty = rw c.in_ok-push.ensures.items (All-push (λ x. x.items ≡ []) c.loop.cells.items c.new.result
      c.loop.invariant.empty c.new.ensures.items);
}

pub invariant_of-result : goal.invariant_of-result
invariant_of-result g c = omega (arith, c.loop.invariant.so_many, c.loop-test.false, c.loop.auto.counter-end)

pub returns-clause-empty : goal.returns-clause-empty
returns-clause-empty g c =
    let all : length c.loop.cells.items ≡ 4097 = omega (arith, c.loop.invariant.so_many, c.loop-test.false, c.loop.auto.counter-end) in
    shows c.args.area c.loop.cells.items all []
    (λ k inside. c.loop.invariant.empty k no_cell (omega (arith, inside, all)))
