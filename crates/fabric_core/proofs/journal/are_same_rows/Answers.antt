use Rattle.std.proofs.Common.{◌≡◌, add-one}
use Rattle.fabric_core.specs.JournalRows.{row_of}
use Rattle.fabric_core.specs.own.EntryRows.{rows_of_entry}
use Rattle.fabric_core.proofs.rows.SameRows.{same_step, same_at}
use Rattle.fabric_core.proofs.journal.are_same_rows.Goals as goal

pub returns-then-not-is_same_row : goal.returns-then-not-is_same_row
returns-then-not-is_same_row g c =
    let apart : rows_of_entry c.args.rows.now ≡ rows_of_entry c.args.others.now → ⊥ = λ same.
    let equal = c.is_same_row.ensures.1
    (same_at row_of c.args.rows.now c.args.others.now c.loop-place.place c.index-rows-place.result c.index-others-place.result
    c.loop-place-test.true c.loop-place.invariant.0 c.index-rows-place.is c.index-others-place.is same) in
    absurd (cc (c.if-not-is_same_row.true, equal)) in
    (λ never. absurd (cc never), λ s. absurd (apart s))

pub loop-place-preserved : goal.loop-place-preserved
loop-place-preserved g c = (
  c.loop-place.invariant.0,
  rw add-one (same_step row_of c.args.rows.now c.args.others.now c.loop-place.place c.index-rows-place.result c.index-others-place.result
      c.loop-place-test.true c.loop-place.invariant.0 c.index-rows-place.is c.index-others-place.is
      (c.is_same_row.ensures.0 (cc c.if-not-is_same_row.false))
      c.loop-place.invariant.1),
)
