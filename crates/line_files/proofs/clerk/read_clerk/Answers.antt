use Rattle.std.proofs.Common.{◌≡◌, ◌+◌, [], cond, inl, refl, sym, ap, subst, arith, rules, length}
use Rattle.std.specs.Prelude.{⊤}
use Rattle.line_files.specs.TextLines.{IsSkipped}
use Rattle.line_files.specs.ClerkFile.{SaysEdit, IsFirstBadLine}
use Rattle.line_files.specs.declared.clerk.ClerkFault.TheVariants.{Line}
use Rattle.line_files.specs.own.BehindGrid.{is_named}
use Rattle.line_files.proofs.GridLines.{read_behind, said_on_it, said_there, bad_on_it, bad_there, first_on_it}
use Rattle.line_files.proofs.ClerkWords.{edits_are_grammar, bad_line, first_bad_retyped, first_says_retyped}
use Rattle.line_files.proofs.Said.{skipped_read, said_read, none_said, bad_read, one_bad, all_said, one_list, none_bad, says_first}
use Rattle.line_files.proofs.Splits.{no_line}
use Rattle.line_files.proofs.clerk.read_clerk.Goals as goal

pub loop-rest-init : goal.loop-rest-init
loop-rest-init g c =
    let none : c.new-list.result.items ≡ [] = search rules in
    let first : c.from-number.result ≡ cond (is_named c.split_grid-grid.result.0) 1 0 = search rules in
    record {
      read = rw none (read_behind _ (edits_are_grammar _) _ _ _ _ c.split_grid-grid.ensures first);
      counted = omega (arith, c.split_grid-grid.ensures.is_shorter, first);
    }

pub loop-rest-preserved-then-is_skipped : goal.loop-rest-preserved-then-is_skipped
loop-rest-preserved-then-is_skipped g c =
    let skipped : IsSkipped c.split_line.result.0.now = search rules in
    record {
      read = skipped_read _ (edits_are_grammar _) _ _ _ _ _ (rw c.split_line.ensures.lines at c.loop-rest.invariant.read) skipped;
      counted = omega arith;
    }

pub loop-rest-preserved : goal.loop-rest-preserved
loop-rest-preserved g c =
    let apart : ¬ IsSkipped c.split_line.result.0.now = search rules in
    record {
      read = rw c.in_ok-push-in-Some.ensures.items (said_read _ (edits_are_grammar _) _ _ _ _ _ (c.loop-rest.number + 1, c.in-Some.edit)
          (rw c.split_line.ensures.lines at c.loop-rest.invariant.read) apart
          record { is_number = refl; is_edit = rw c.in-Some.is at c.in_ok-edit.ensures.edit });
      counted = omega arith;
    }

pub returns-in_err-edit-clause-memory : goal.returns-in_err-edit-clause-memory
returns-in_err-edit-clause-memory g c = λ e.
    let apart : ¬ IsSkipped c.split_line.result.0.now = search rules in
    let said = c.in_err-edit.ensures.memory in
    first_on_it (λ grid. SaysEdit {A = ⊤} grid) _ _ _ c.split_grid-grid.ensures (first_says_retyped g.row.A.Denot _ _ 1 _
    (says_first _ _ _ _ _ _ (c.loop-rest.number + 1, said.0) (rw c.split_line.ensures.lines at c.loop-rest.invariant.read) apart
    record { is_number = refl; is_edit = said.1 }))

pub returns-in_err-push-in-Some-clause-memory : goal.returns-in_err-push-in-Some-clause-memory
returns-in_err-push-in-Some-clause-memory g c = λ e.
    let apart : ¬ IsSkipped c.split_line.result.0.now = search rules in
    first_on_it (λ grid. SaysEdit {A = ⊤} grid) _ _ _ c.split_grid-grid.ensures (first_says_retyped g.row.A.Denot _ _ 1 _
    (says_first _ _ _ _ _ _ (c.loop-rest.number + 1, c.in-Some.edit) (rw c.split_line.ensures.lines at c.loop-rest.invariant.read) apart
    record { is_number = refl; is_edit = rw c.in-Some.is at c.in_ok-edit.ensures.edit }))

pub returns-in-None-clause-bad : goal.returns-in-None-clause-bad
returns-in-None-clause-bad g c = λ number e.
    let same : c.loop-rest.number + 1 ≡ number = cc in
    let apart : ¬ IsSkipped c.split_line.result.0.now = search rules in
    let bad = bad_line _ (c.loop-rest.number + 1) c.split_line.result.0.now apart (rw c.in-None.is at c.in_ok-edit.ensures.edit) in
    subst (IsFirstBadLine c.args.bytes.now) same
    (bad_on_it (λ grid. SaysEdit {A = ⊤} grid) _ _ _ c.split_grid-grid.ensures _ (first_bad_retyped g.row.A.Denot _ _ 1 _ _
    (bad_read _ (edits_are_grammar _) _ _ _ _ _ (rw c.split_line.ensures.lines at c.loop-rest.invariant.read) bad)))

pub returns-in-None-clause-reads : goal.returns-in-None-clause-reads
returns-in-None-clause-reads g c = λ list h.
    let apart : ¬ IsSkipped c.split_line.result.0.now = search rules in
    let bad = bad_line _ (c.loop-rest.number + 1) c.split_line.result.0.now apart (rw c.in-None.is at c.in_ok-edit.ensures.edit) in
    absurd (none_said _ (edits_are_grammar _) _ _ _ _ _ (rw c.split_line.ensures.lines at c.loop-rest.invariant.read) bad list
    (said_there (λ grid. SaysEdit {A = g.row.A.Denot} grid) _ _ _ c.split_grid-grid.ensures list h))

pub returns-in-None-clause-refuses : goal.returns-in-None-clause-refuses
returns-in-None-clause-refuses g c = λ number h.
    let apart : ¬ IsSkipped c.split_line.result.0.now = search rules in
    let bad = bad_line _ (c.loop-rest.number + 1) c.split_line.result.0.now apart (rw c.in-None.is at c.in_ok-edit.ensures.edit) in
    inl (ap Line (sym (one_bad _ (edits_are_grammar _) _ _ _ _ _ (rw c.split_line.ensures.lines at c.loop-rest.invariant.read) bad number
    (first_bad_retyped _ g.row.A.Denot _ 1 _ number (bad_there (λ grid. SaysEdit {A = ⊤} grid) _ _ _ c.split_grid-grid.ensures number h)))))

pub returns-clause-list : goal.returns-clause-list
returns-clause-list g c =
    let e : length c.loop-rest.rest.now ≡ 0 = search rules in
    said_on_it (λ grid. SaysEdit {A = g.row.A.Denot} grid) _ _ _ c.split_grid-grid.ensures _
    (all_said _ _ _ _ (rw (no_line c.loop-rest.rest.now e) at c.loop-rest.invariant.read))

pub returns-clause-reads : goal.returns-clause-reads
returns-clause-reads g c = λ list h.
    let e : length c.loop-rest.rest.now ≡ 0 = search rules in
    one_list _ _ _ _ (rw (no_line c.loop-rest.rest.now e) at c.loop-rest.invariant.read) list
    (said_there (λ grid. SaysEdit {A = g.row.A.Denot} grid) _ _ _ c.split_grid-grid.ensures list h)

pub returns-clause-refuses : goal.returns-clause-refuses
returns-clause-refuses g c = λ number h.
    let e : length c.loop-rest.rest.now ≡ 0 = search rules in
    none_bad _ _ _ _ (rw (no_line c.loop-rest.rest.now e) at c.loop-rest.invariant.read) number
    (first_bad_retyped _ g.row.A.Denot _ 1 _ number (bad_there (λ grid. SaysEdit {A = ⊤} grid) _ _ _ c.split_grid-grid.ensures number h))
