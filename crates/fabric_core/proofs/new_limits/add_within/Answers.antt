use Rattle.std.proofs.Common.{sym, ap, subst, arith, ◌≤◌, length, take, ◌∷◌, []}
use Rattle.std.specs.List.{AllByRecursion}
use Rattle.std.proofs.lemmas.Bool.{false≢true}
use Rattle.geo_exact.specs.declared.limits.TheConstants.{RING_CORNERS}
use Rattle.geo_exact.specs.Layers.{NumberedRing, corner_count}
use Rattle.fabric_core.specs.JournalRows.{row_of}
use Rattle.fabric_core.specs.own.EntryRows.{rows_of_entry}
use Rattle.fabric_core.proofs.rows.Lists.{AllByRecursion-push, corner_count-append}
use Rattle.fabric_core.proofs.rows.NewLimits.{entry_more, one_too_long, all_too_long}
use Rattle.fabric_core.proofs.new_limits.add_within.Goals.{then-count-gt-RING_CORNERS-via-then-count-gt-RING_CORNERS}
use Rattle.fabric_core.proofs.new_limits.add_within.Goals.{
  then-count-gt-RING_CORNERS-via-else-count-gt-RING_CORNERS+then-total-count-gt-LAYER_CORNERS,
}
use Rattle.fabric_core.proofs.new_limits.add_within.Goals as goal

pub returns-then-count-gt-RING_CORNERS : goal.returns-then-count-gt-RING_CORNERS
returns-then-count-gt-RING_CORNERS g c =
    let rows = c.args.rows.now in let k = c.loop-row.row-index in let row = c.row-item.result in (
      λ e. absurd (false≢true e),
      λ within. elim c.then-count-gt-RING_CORNERS.branch [
        | then-count-gt-RING_CORNERS-via-then-count-gt-RING_CORNERS w ↦ absurd
            (one_too_long rows c.args.corners c.args.parcels k row c.loop-row-test.true c.row-item.is
            (omega (arith, w.if-count-gt-RING_CORNERS.true, c.len-count.ensures)) within)
        | then-count-gt-RING_CORNERS-via-else-count-gt-RING_CORNERS+then-total-count-gt-LAYER_CORNERS w ↦ absurd
            (all_too_long rows c.args.corners c.args.parcels k row c.loop-row-test.true c.row-item.is
            (omega (arith, w.if-total-count-gt-LAYER_CORNERS.true, c.len-count.ensures, c.loop-row.invariant.total)) within)
      ],
    )

pub loop-row-preserved : goal.loop-row-preserved
loop-row-preserved g c =
    let rows = c.args.rows.now in let k = c.loop-row.row-index in let row = c.row-item.result in
    let more = entry_more rows k row c.loop-row-test.true c.row-item.is in record {
      total = omega (
        arith,
        c.loop-row.invariant.total,
        c.len-count.ensures,
        ap corner_count more,
        corner_count-append (rows_of_entry (take k rows)) (row_of row ∷ []),
      );
      few = omega (arith, c.if-total-count-gt-LAYER_CORNERS.false);
      each = subst (AllByRecursion (λ (row : NumberedRing). length row.corners ≤ RING_CORNERS)) (sym more)
          (AllByRecursion-push (λ (row : NumberedRing). length row.corners ≤ RING_CORNERS) (rows_of_entry (take k rows)) (row_of row)
          c.loop-row.invariant.each (omega (arith, c.if-count-gt-RING_CORNERS.false, c.len-count.ensures)));
    }
