use Rattle.std.proofs.Common.{◌≡◌, inr, ◌∙◌, ap, arith, map, length, Bor}
use denote.Param.Send.{sendable}
use Rattle.desk_lock.specs.Offices.{OfficeId, fresh_cards, origin_of}
use Rattle.geo_exact.proofs.PassedOn.{passed_as}
use Rattle.clerk_runs.proofs.Crossing.{office_sync}
use Rattle.clerk_runs.proofs.EachTold.{length_fresh, made_known, origin_empty}
use Rattle.clerk_runs.proofs.Windows.{journal_seen}
use Rattle.clerk_runs.proofs.runs.edit_at_office.Goals as goal

pub do_all-requires-sync-C : goal.do_all-requires-sync-C
do_all-requires-sync-C g c κs within =
    let sync = c.type_bounds.sync-H in
    let frees = c.type_bounds.frees-H-Allocator in
    search (office_sync, sendable) depth 20

pub jobs_of-requires : goal.jobs_of-requires
jobs_of-requires g c =
    omega (arith, ap length c.in-Ok.ensures.cards, length_fresh (Bor g.row.H.Denot) 0 c.len.result, c.len.ensures, c.args.clerks.ok.0)

pub returns-in_err-places-clause-fault : goal.returns-in_err-places-clause-fault
returns-in_err-places-clause-fault g c = passed_as _ _ _ c.from_residual-in_err-places.ensures.1 (λ fault is. inr is)

pub returns-clause-made : goal.returns-clause-made
returns-clause-made g c =
    let office = g.J.Naming-1.office in
    let clerks = c.args.clerks.items in
    let number : office.clerks ≡ length clerks = ap (λ (o : OfficeId (Bor g.row.H.Denot)). o.clerks) c.requires.office in
    let origin : office.origin ≡ origin_of c.args.fabric = ap (λ (o : OfficeId (Bor g.row.H.Denot)). o.origin) c.requires.office in
    let jobs = c.in_ok-jobs.jobs.items in
    let done = c.in-Ok-do_all.field-0.jobs.items in
    let count : c.len.result ≡ length clerks = omega (arith, c.len.ensures, c.args.clerks.ok.0) in
    let fresh : map (λ job. job.card) jobs ≡ fresh_cards 0 (length clerks) =
    c.in_ok-jobs.ensures.cards ∙ (c.in-Ok.ensures.cards ∙ ap (λ n. fresh_cards 0 n) count) in
    let cards : c.as_mut_slice.result.now ≡ map (λ job. job.card) done = c.as_mut_slice.ensures.value ∙ c.in_ok-cards.ensures.cards in
    made_known (λ job. job.card) (λ job. job.edits.items) (λ job. job.refused) (λ job. job.lines.items) (λ job. job.receipts.items)
    office clerks c.args.fabric c.in_ok-sheet.sheet jobs done _ number origin c.requires.fresh c.in-Ok-do_all.ensures.done fresh
    c.in_ok-jobs.ensures.edits c.in_ok-cards.ensures.lines c.in_ok-cards.ensures.none_refused (rw cards at c.in_ok-sheet.ensures.sheet)
    c.use_invariant.ensures.lawful c.use_invariant.ensures.replays

pub locate_all-requires-clause-has_seen : goal.locate_all-requires-clause-has_seen
locate_all-requires-clause-has_seen g c = λ published.
    let office = g.J.Naming-1.office in
    let clerks = c.args.clerks.items in
    let number : office.clerks ≡ length clerks = ap (λ (o : OfficeId (Bor g.row.H.Denot)). o.clerks) c.requires.office in
    let origin : office.origin ≡ origin_of c.args.fabric = ap (λ (o : OfficeId (Bor g.row.H.Denot)). o.origin) c.requires.office in
    let count : c.len.result ≡ office.clerks = omega (arith, c.len.ensures, c.args.clerks.ok.0, number) in
    let fresh : map (λ job. job.card) c.in_ok-jobs.jobs.items ≡ fresh_cards 0 office.clerks =
    c.in_ok-jobs.ensures.cards ∙ (c.in-Ok.ensures.cards ∙ ap (λ n. fresh_cards 0 n) count) in
    let cards : c.as_mut_slice.result.now ≡ map (λ job. job.card) c.in-Ok-do_all.field-0.jobs.items =
    c.as_mut_slice.ensures.value ∙ c.in_ok-cards.ensures.cards in
    journal_seen (λ job. job.card) (λ job. job.edits.items) (λ job. job.refused) (λ job. job.lines.items) (λ job. job.receipts.items)
    office c.in_ok-sheet.sheet c.take_all_in.new.window.seen c.in_ok-jobs.jobs.items c.in-Ok-do_all.field-0.jobs.items
    (origin_empty office c.args.fabric origin c.requires.fresh) c.in-Ok-do_all.ensures.done fresh c.in_ok-cards.ensures.none_refused
    (rw cards at c.in_ok-sheet.ensures.sheet) c.use_invariant.ensures.lawful (c.in_ok-cards.ensures.learnt published)
