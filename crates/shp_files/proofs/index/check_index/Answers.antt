use Rattle.std.proofs.Common.{◌≢◌, sym, subst, ◌∙◌, arith}
use Rattle.std.proofs.lemmas.Result.{err_from_is_err_and}
use Rattle.shp_files.specs.declared.fault.FileFault.{FileFault}
use Rattle.shp_files.specs.FirstFault.{IsIndexFault}
use Rattle.shp_files.specs.Checks.{declared_end}
use Rattle.shp_files.proofs.lines.IndexChecked.{checked_first, checked_next, frame_here, fault_at_record, agrees_where, fault_where}
use Rattle.shp_files.proofs.index.check_index.Goals as goal

pub loop-head-init : goal.loop-head-init
loop-head-init c = record {
  from_1 = omega arith;
  start = c.requires.room;
  checked = λ unit all. checked_first c.args.main.now c.args.index.now unit all (sym c.in_ok-index_end.ensures.checked);
}

pub check_index_record-requires-clause-room : goal.check_index_record-requires-clause-room
check_index_record-requires-clause-room c =
    let frame = frame_here c.args.main.now c.args.index.now c.loop-head.head.position c.loop-head.head.start c.args.end c.requires.accepted
    c.loop-head.invariant.checked c.loop-head-test.true c.requires.end in
    omega (arith, frame.room, c.requires.end, c.requires.within)

pub returns-in_err-check_index_record-clause-fault : goal.returns-in_err-check_index_record-clause-fault
returns-in_err-check_index_record-clause-fault c = λ unit all.
    let apart : c.loop-head.head.start ≢ declared_end c.args.main.now = λ e. c.loop-head-test.true (e ∙ sym c.requires.end) in
    let p = err_from_is_err_and c.from_residual-in_err-check_index_record.result c.from_residual-in_err-check_index_record.ensures.1 in
    let is = fault_at_record c.args.main.now c.args.index.now unit c.loop-head.head.position c.loop-head.head.start
    c.in_err-check_index_record.field-0.0
    (c.loop-head.invariant.checked unit all) apart c.in_err-check_index_record.ensures in
    rw p.1 (subst (λ (fault : FileFault). IsIndexFault c.args.main.now c.args.index.now unit fault) (sym p.2) is)

pub next_head-head-requires-clause-few : goal.next_head-head-requires-clause-few
next_head-head-requires-clause-few c =
    let frame = frame_here c.args.main.now c.args.index.now c.loop-head.head.position c.loop-head.head.start c.args.end c.requires.accepted
    c.loop-head.invariant.checked c.loop-head-test.true c.requires.end in
    frame.few_records

pub next_head-head-requires-clause-room : goal.next_head-head-requires-clause-room
next_head-head-requires-clause-room c =
    let frame = frame_here c.args.main.now c.args.index.now c.loop-head.head.position c.loop-head.head.start c.args.end c.requires.accepted
    c.loop-head.invariant.checked c.loop-head-test.true c.requires.end in
    omega (arith, frame.room, c.requires.end, c.requires.within)

pub loop-head-preserved : goal.loop-head-preserved
loop-head-preserved c =
    let apart : c.loop-head.head.start ≢ declared_end c.args.main.now = λ e. c.loop-head-test.true (e ∙ sym c.requires.end) in
    let frame = frame_here c.args.main.now c.args.index.now c.loop-head.head.position c.loop-head.head.start c.args.end c.requires.accepted
    c.loop-head.invariant.checked c.loop-head-test.true c.requires.end in
    let new = c.next_head-head.ensures in
    record {
      from_1 = omega (arith, new.position);
      start = omega (arith, new.start, frame.within, c.requires.end);
      checked = λ u ok. rw (new.position, new.start)
          (checked_next c.args.main.now c.args.index.now u c.loop-head.head.position c.loop-head.head.start ok
          (c.loop-head.invariant.checked u ok) apart
          c.in_ok-check_index_record.ensures);
    }

pub returns-clause-agrees : goal.returns-clause-agrees
returns-clause-agrees c = λ unit all ok.
    agrees_where c.args.main.now c.args.index.now unit c.loop-head.head.position c.loop-head.head.start
    c.check_index_end.result (c.loop-head.invariant.checked unit all)
    (c.loop-head-test.false ∙ c.requires.end) (c.check_index_end.ensures c.args.index.now c.in_ok-index_end.ensures.end) ok

pub returns-clause-fault : goal.returns-clause-fault
returns-clause-fault c = λ unit all.
    fault_where c.args.main.now c.args.index.now unit c.loop-head.head.position c.loop-head.head.start
    c.check_index_end.result (c.loop-head.invariant.checked unit all)
    (c.loop-head-test.false ∙ c.requires.end) (c.check_index_end.ensures c.args.index.now c.in_ok-index_end.ensures.end)
