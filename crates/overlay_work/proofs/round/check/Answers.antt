use Rattle.std.proofs.Common.{map}
use Rattle.fabric_core.specs.Rows.{numbers}
use Rattle.fabric_core.proofs.edits.Refusals.{error_is}
use Rattle.overlay_work.proofs.Starts.{one_fault, none_early}
use Rattle.overlay_work.proofs.round.check.Goals as goal

pub returns-in_err-check_early-clause-exact : goal.returns-in_err-check_early-clause-exact
returns-in_err-check_early-clause-exact g c fault has early =
    let e = c.in_err-check_early.field-0.0 in
    error_is c.from_residual.result e fault c.from_residual.ensures.1
    (one_fault (numbers c.args.sheet.now.now.rows) c.args.sheet.now.city c.args.zones.now.city
    (map (λ list. list.items) c.args.lists.now) e fault c.in_err-check_early.ensures.fault has)

pub returns-in_err-id-clause-exact : goal.returns-in_err-id-clause-exact
returns-in_err-id-clause-exact g c fault has early =
    absurd (none_early (numbers c.args.sheet.now.now.rows) c.args.sheet.now.city c.args.zones.now.city
    (map (λ list. list.items) c.args.lists.now) fault c.in_ok-check_early.ensures.hands c.in_ok-check_early.ensures.city has early)

pub returns-in-Some-clause-exact : goal.returns-in-Some-clause-exact
returns-in-Some-clause-exact g c fault has early =
    absurd (none_early (numbers c.args.sheet.now.now.rows) c.args.sheet.now.city c.args.zones.now.city
    (map (λ list. list.items) c.args.lists.now) fault c.in_ok-check_early.ensures.hands c.in_ok-check_early.ensures.city has early)

pub returns-in-None-clause-exact : goal.returns-in-None-clause-exact
returns-in-None-clause-exact g c fault has early =
    absurd (none_early (numbers c.args.sheet.now.now.rows) c.args.sheet.now.city c.args.zones.now.city
    (map (λ list. list.items) c.args.lists.now) fault c.in_ok-check_early.ensures.hands c.in_ok-check_early.ensures.city has early)
