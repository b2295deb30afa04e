use Rattle.std.proofs.Common.{ℕ, List, ◌++◌, flat_map}
use Rattle.std.proofs.lemmas.Result.{err_from_is_err_and, on_err_weaker, on_ok_weaker}
use Rattle.zone_tables.specs.Report.{entries_line, pair_line, split_line, within_line}
use Rattle.zone_tables.specs.own.Zonings.{zonings, split_ids, single_zones}
use Rattle.zone_tables.proofs.lines.push_report.Goals as goal

abbrev pairs_text : List (ℕ × ℕ) → List ℕ
pairs_text pairs = flat_map pair_line pairs

abbrev splits_text : List (ℕ × ℕ) → List ℕ
splits_text pairs = flat_map split_line (split_ids (zonings pairs))

abbrev singles_text : List (ℕ × ℕ) → List ℕ
singles_text pairs = flat_map within_line (single_zones (zonings pairs))

pub returns-in_err-push_line-clause-err : goal.returns-in_err-push_line-clause-err
returns-in_err-push_line-clause-err g c =
    let p = err_from_is_err_and c.from_residual.result c.from_residual.ensures.1 in
    let pairs = c.args.pairs.now in
    let first = entries_line c.args.entries in
    rw (p.1)
    (g.met.S.Sink.breaks_off_before _ _ (first ++ pairs_text pairs ++ splits_text pairs) (singles_text pairs)
    (g.met.S.Sink.breaks_off_before _ _ (first ++ pairs_text pairs) (splits_text pairs)
    (g.met.S.Sink.breaks_off_before _ _ first (pairs_text pairs) c.in_err-push_line.ensures.err)))

pub returns-in_err-push_pairs-clause-err : goal.returns-in_err-push_pairs-clause-err
returns-in_err-push_pairs-clause-err g c =
    let p = err_from_is_err_and c.from_residual-in_err-push_pairs.result c.from_residual-in_err-push_pairs.ensures.1 in
    let pairs = c.args.pairs.now in
    let first = entries_line c.args.entries in
    rw (p.1)
    (g.met.S.Sink.breaks_off_before _ _ (first ++ pairs_text pairs ++ splits_text pairs) (singles_text pairs)
    (g.met.S.Sink.breaks_off_before _ _ (first ++ pairs_text pairs) (splits_text pairs)
    (g.met.S.Sink.breaks_off_later _ _ _ first (pairs_text pairs) c.in_ok-push_line.ensures.ok c.in_err-push_pairs.ensures.err)))

pub returns-in_err-push_splits-clause-err : goal.returns-in_err-push_splits-clause-err
returns-in_err-push_splits-clause-err g c =
    let p = err_from_is_err_and c.from_residual-in_err-push_splits.result c.from_residual-in_err-push_splits.ensures.1 in
    let pairs = c.args.pairs.now in
    let first = entries_line c.args.entries in
    let two = g.met.S.Sink.takes_both _ _ _ first (pairs_text pairs) c.in_ok-push_line.ensures.ok c.in_ok-push_pairs.ensures.ok in
    rw (p.1)
    (g.met.S.Sink.breaks_off_before _ _ (first ++ pairs_text pairs ++ splits_text pairs) (singles_text pairs)
    (g.met.S.Sink.breaks_off_later _ _ _ (first ++ pairs_text pairs) (splits_text pairs) two c.in_err-push_splits.ensures.err))

pub returns-clause-ok : goal.returns-clause-ok
returns-clause-ok g c =
    let pairs = c.args.pairs.now in
    let first = entries_line c.args.entries in
    let two = g.met.S.Sink.takes_both _ _ _ first (pairs_text pairs) c.in_ok-push_line.ensures.ok c.in_ok-push_pairs.ensures.ok in
    let three = g.met.S.Sink.takes_both _ _ _ (first ++ pairs_text pairs) (splits_text pairs) two
    c.in_ok-push_splits.ensures.ok in
    on_ok_weaker c.push_singles.result
    (λ h. g.met.S.Sink.takes_both _ _ _ (first ++ pairs_text pairs ++ splits_text pairs) (singles_text pairs) three h)
    c.push_singles.ensures.ok

pub returns-clause-err : goal.returns-clause-err
returns-clause-err g c =
    let pairs = c.args.pairs.now in
    let first = entries_line c.args.entries in
    let two = g.met.S.Sink.takes_both _ _ _ first (pairs_text pairs) c.in_ok-push_line.ensures.ok c.in_ok-push_pairs.ensures.ok in
    let three = g.met.S.Sink.takes_both _ _ _ (first ++ pairs_text pairs) (splits_text pairs) two
    c.in_ok-push_splits.ensures.ok in
    on_err_weaker c.push_singles.result
    (λ h. g.met.S.Sink.breaks_off_later _ _ _ (first ++ pairs_text pairs ++ splits_text pairs) (singles_text pairs) three h)
    c.push_singles.ensures.err
