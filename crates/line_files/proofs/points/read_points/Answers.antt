use Rattle.std.proofs.Common.{◌≡◌, ◌+◌, [], cond, inl, sym, ap, subst, arith, rules, length}
use Rattle.line_files.specs.PointLines.{IsNumberedPointLine, IsFirstBadPoint}
use Rattle.line_files.specs.declared.points.PointsFault.TheVariants.{BadLine}
use Rattle.line_files.specs.own.BehindGrid.{is_named}
use Rattle.line_files.proofs.GridLines.{read_behind, said_on_it, said_there, bad_on_it, bad_there}
use Rattle.line_files.proofs.Numerals.{points_are_grammar}
use Rattle.line_files.proofs.Said.{skipped_read, said_read, none_said, bad_read, one_bad, all_said, one_list, none_bad}
use Rattle.line_files.proofs.Splits.{no_line}
use Rattle.line_files.proofs.points.read_points.Goals as goal

pub loop-rest-init : goal.loop-rest-init
loop-rest-init g c =
    let none : c.new-points.result.items ≡ [] = search rules in
    let first : c.from-number.result ≡ cond (is_named c.split_grid-grid.result.0) 1 0 = search rules in
    record {
      read = rw none (read_behind _ (points_are_grammar _) _ _ _ _ c.split_grid-grid.ensures first);
      counted = omega (arith, c.split_grid-grid.ensures.is_shorter, first);
    }

pub loop-rest-preserved-in-Skipped : goal.loop-rest-preserved-in-Skipped
loop-rest-preserved-in-Skipped g c = record {
  read = skipped_read _ (points_are_grammar _) _ _ _ _ _
      (rw c.split_line.ensures.lines at c.loop-rest.invariant.read) c.in-Skipped.ensures;
  counted = omega arith;
}

pub loop-rest-preserved : goal.loop-rest-preserved
loop-rest-preserved g c = record {
  read = rw c.in_ok-push-in-Point.ensures.items (said_read _ (points_are_grammar _) _ _ _ _ _ c.in-Point.point
      (rw c.split_line.ensures.lines at c.loop-rest.invariant.read) c.in-Point.ensures.0 c.in-Point.ensures.1);
  counted = omega arith;
}

pub returns-in-Bad-clause-bad : goal.returns-in-Bad-clause-bad
returns-in-Bad-clause-bad g c = λ number e.
    let same : c.loop-rest.number + 1 ≡ number = cc in
    subst (IsFirstBadPoint c.args.text.now) same
    (bad_on_it IsNumberedPointLine _ _ _ c.split_grid-grid.ensures _ (bad_read _ (points_are_grammar _) _ _ _ _ _
    (rw c.split_line.ensures.lines at c.loop-rest.invariant.read) (c.in-Bad.ensures _)))

pub returns-in-Bad-clause-reads : goal.returns-in-Bad-clause-reads
returns-in-Bad-clause-reads g c = λ points h.
    absurd (none_said _ (points_are_grammar _) _ _ _ _ _
    (rw c.split_line.ensures.lines at c.loop-rest.invariant.read) (c.in-Bad.ensures _) points
    (said_there IsNumberedPointLine _ _ _ c.split_grid-grid.ensures points h))

pub returns-in-Bad-clause-refuses : goal.returns-in-Bad-clause-refuses
returns-in-Bad-clause-refuses g c = λ number h.
    inl (ap BadLine (sym (one_bad _ (points_are_grammar _) _ _ _ _ _
    (rw c.split_line.ensures.lines at c.loop-rest.invariant.read) (c.in-Bad.ensures _) number
    (bad_there IsNumberedPointLine _ _ _ c.split_grid-grid.ensures number h))))

pub returns-clause-points : goal.returns-clause-points
returns-clause-points g c =
    let e : length c.loop-rest.rest.now ≡ 0 = search rules in
    said_on_it IsNumberedPointLine _ _ _ c.split_grid-grid.ensures _
    (all_said _ _ _ _ (rw (no_line c.loop-rest.rest.now e) at c.loop-rest.invariant.read))

pub returns-clause-reads : goal.returns-clause-reads
returns-clause-reads g c = λ points h.
    let e : length c.loop-rest.rest.now ≡ 0 = search rules in
    one_list _ _ _ _ (rw (no_line c.loop-rest.rest.now e) at c.loop-rest.invariant.read) points
    (said_there IsNumberedPointLine _ _ _ c.split_grid-grid.ensures points h)

pub returns-clause-refuses : goal.returns-clause-refuses
returns-clause-refuses g c = λ number h.
    let e : length c.loop-rest.rest.now ≡ 0 = search rules in
    absurd (none_bad _ _ _ _ (rw (no_line c.loop-rest.rest.now e) at c.loop-rest.invariant.read) number
    (bad_there IsNumberedPointLine _ _ _ c.split_grid-grid.ensures number h))
