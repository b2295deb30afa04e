use denote.Param.Send.{sendable}
use Rattle.std.proofs.Common.{inl, refl, sym, ap, subst, ◌∙◌, length}
use Rattle.std.specs.List.{AllZip}
use Rattle.job_threads.specs.Jobs.{IsLeastRefused}
use Rattle.overlay_work.specs.Rounds.{Progress, AreHandsOf, HasGoneOn}
use Rattle.overlay_work.specs.Faults.{IsRunFault}
use Rattle.overlay_work.proofs.Places.{err_more, err_both}
use Rattle.overlay_work.proofs.Workers.{all_worked, all_passed, hands_stay, as_many_stay, all_go_on, all_stop}
use Rattle.overlay_work.proofs.Workers.{all_stand_still, threads_had, least_stays}
use Rattle.overlay_work.proofs.Crossing.{hand_send}
use Rattle.overlay_work.proofs.run.run_round.Goals as goal

pub do_all-requires-send-J : goal.do_all-requires-send-J
do_all-requires-send-J g c κs within =
    let sync = c.type_bounds.sync-H in
    let frees = c.type_bounds.frees-H-Allocator in
    search (hand_send, sendable) depth 20

pub returns-in-Some-clause-back : goal.returns-in-Some-clause-back
returns-in-Some-clause-back g c =
    let old = c.args.hands.items in
    let new = c.in-Ok.done.jobs.items in
    (refl, hands_stay c.args.round old new c.requires (all_worked _ old new c.in-Ok.ensures.done))

pub returns-in-Some-clause-as_many : goal.returns-in-Some-clause-as_many
returns-in-Some-clause-as_many g c =
    let old = c.args.hands.items in
    let new = c.in-Ok.done.jobs.items in
    as_many_stay old new (all_worked _ old new c.in-Ok.ensures.done)

pub returns-in-Some-clause-worked : goal.returns-in-Some-clause-worked
returns-in-Some-clause-worked g c =
    let old = c.args.hands.items in
    let new = c.in-Ok.done.jobs.items in
    all_go_on old new (all_worked _ old new c.in-Ok.ensures.done)

pub returns-in-Some-clause-fault : goal.returns-in-Some-clause-fault
returns-in-Some-clause-fault g c =
    let old = c.args.hands.items in
    let new = c.in-Ok.done.jobs.items in
    least_stays old new c.in-Ok.done.threads c.in-Some.number (all_worked _ old new c.in-Ok.ensures.done)
    (subst (IsLeastRefused (λ (hand : Progress). hand.number) old c.in-Ok.done.threads) c.in-Some.is c.in-Ok.ensures.refused)

pub returns-in-Some-clause-passed : goal.returns-in-Some-clause-passed
returns-in-Some-clause-passed g c = inl (all_passed _ c.args.hands.items c.in-Ok.done.jobs.items c.in-Ok.ensures.done)

pub close_worked-requires-clause-had_threads : goal.close_worked-requires-clause-had_threads
close_worked-requires-clause-had_threads g c =
    let old = c.args.hands.items in
    let new = c.in-Ok.done.jobs.items in
    threads_had old new c.in-Ok.done.threads (all_worked _ old new c.in-Ok.ensures.done)
    (subst (IsLeastRefused (λ (hand : Progress). hand.number) old c.in-Ok.done.threads) c.in_default.is c.in-Ok.ensures.refused)

pub close_worked-requires-clause-at_work : goal.close_worked-requires-clause-at_work
close_worked-requires-clause-at_work g c =
    let old = c.args.hands.items in
    let new = c.in-Ok.done.jobs.items in
    hands_stay c.args.round old new c.requires (all_worked _ old new c.in-Ok.ensures.done)

pub close_worked-requires-clause-stopped : goal.close_worked-requires-clause-stopped
close_worked-requires-clause-stopped g c =
    let old = c.args.hands.items in
    let new = c.in-Ok.done.jobs.items in
    all_stop old new (all_worked _ old new c.in-Ok.ensures.done)

pub returns-clause-back : goal.returns-clause-back
returns-clause-back g c =
    let old = c.args.hands.items in
    let new = c.in-Ok.done.jobs.items in
    let stay = hands_stay c.args.round old new c.requires (all_worked _ old new c.in-Ok.ensures.done) in
    err_more _ _ c.close_worked.result (λ back h. (h.0, subst (AreHandsOf c.args.round) (sym h.1) stay)) c.close_worked.ensures.back

pub returns-clause-as_many : goal.returns-clause-as_many
returns-clause-as_many g c =
    let old = c.args.hands.items in
    let new = c.in-Ok.done.jobs.items in
    let many = as_many_stay old new (all_worked _ old new c.in-Ok.ensures.done) in
    err_more _ _ c.close_worked.result (λ back h. ap (λ l. length l) h.1 ∙ many) c.close_worked.ensures.back

pub returns-clause-worked : goal.returns-clause-worked
returns-clause-worked g c =
    let old = c.args.hands.items in
    let new = c.in-Ok.done.jobs.items in
    let go_on = all_go_on old new (all_worked _ old new c.in-Ok.ensures.done) in
    err_more _ _ c.close_worked.result (λ back h. subst (AllZip HasGoneOn old) (sym h.1) go_on) c.close_worked.ensures.back

pub returns-in-Err-clause-worked : goal.returns-in-Err-clause-worked
returns-in-Err-clause-worked g c = subst (AllZip HasGoneOn c.args.hands.items) (sym c.in-Err.ensures.back)
    (all_stand_still c.args.hands.items)

pub returns-clause-fault : goal.returns-clause-fault
returns-clause-fault g c =
    let old = c.args.hands.items in
    err_both _ _ _ c.close_worked.result
    (λ back same told. subst (λ l. IsRunFault c.args.round old back.hands.items l back.fault) (sym same) told)
    c.close_worked.ensures.threads
    (err_both _ _ _ c.close_worked.result
    (λ back h told. subst (λ l. IsRunFault c.args.round old l c.in-Ok.done.threads back.fault) (sym h.1) told)
    c.close_worked.ensures.back (c.close_worked.ensures.fault old))

pub returns-clause-refuses : goal.returns-clause-refuses
returns-clause-refuses g c =
    let old = c.args.hands.items in
    let new = c.in-Ok.done.jobs.items in
    let many = as_many_stay old new (all_worked _ old new c.in-Ok.ensures.done) in
    λ missing. c.close_worked.ensures.refuses (λ all. missing (sym many ∙ all))

pub returns-clause-passed : goal.returns-clause-passed
returns-clause-passed g c = inl (all_passed _ c.args.hands.items c.in-Ok.done.jobs.items c.in-Ok.ensures.done)
