use Rattle.std.proofs.Common.{rules, ◌≡◌, ◌∙◌, sym, ap, subst, ◌+◌, ◌%◌, ◌<◌, [], ◌∷◌, ◌++◌, length, slice_index_or}
use Rattle.std.proofs.Common.{slice_set}
use Rattle.std.specs.Prelude.{IsPermutation}
use Rattle.std.proofs.lemmas.List.{length-set}
use Rattle.overlay_work.specs.Sharing.{joined}
use Rattle.parcel_runs.specs.own.Dealing.{dealt}
use Rattle.parcel_runs.proofs.DealtLists.{one_more, dealt_more}
use Rattle.parcel_runs.proofs.InTurn.{AreInTurnSoFar, list_here, list_at, list_elsewhere, begins_in_turn, next_in_turn, deals_on}
use Rattle.parcel_runs.proofs.InTurn.{ends_in_turn}
use Rattle.parcel_runs.proofs.dealing.deal.Goals as goal

pub loop-id-init : goal.loop-id-init
loop-id-init g c = record {
  count = search rules;
  turn = search rules;
  in_turn = subst (λ l. AreInTurnSoFar c.args.workers 0 c.args.ids l (dealt c.in_ok-lists.lists.items))
      (sym c.into_iter-id-iterator.ensures.into_iter_gives)
      (begins_in_turn c.args.workers c.args.ids (dealt c.in_ok-lists.lists.items) c.in_ok-lists.ensures.none);
  each_once = search rules;
}

pub returns-clause-in_turn : goal.returns-clause-in_turn
returns-clause-in_turn g c =
    ends_in_turn c.args.workers c.loop-id.worker c.args.ids (dealt c.loop-id.lists.items) c.loop-id.invariant.turn
    (subst (λ l. AreInTurnSoFar c.args.workers c.loop-id.worker c.args.ids l (dealt c.loop-id.lists.items)) c.in-None.ensures.steps.0
    c.loop-id.invariant.in_turn)

pub loop-id-preserved : goal.loop-id-preserved
loop-id-preserved g c =
    let lists = c.loop-id.lists.items in
    let worker = c.loop-id.worker in
    let list = c.index_mut.result.now in
    let id = c.in-Some.id in
    let here : worker < length lists = subst (λ n. worker < n) (sym c.loop-id.invariant.count) c.loop-id.invariant.turn in
    let pushed : c.push.new.self.items ≡ (slice_index_or lists worker list).items ++ id ∷ [] =
    c.in_ok-push.ensures.items ∙ ap (λ l. l.items ++ id ∷ []) c.index_mut.ensures.value in
    record {
      count = length-set lists worker c.push.new.self ∙ c.loop-id.invariant.count;
      turn = search rules;
      in_turn = deals_on c.args.workers worker ((worker + 1) % c.args.workers) c.args.ids id c.next.new.self (dealt lists)
          (dealt (slice_set lists worker c.push.new.self)) c.loop-id.invariant.turn
          (next_in_turn c.args.workers worker c.loop-id.invariant.turn)
          (list_here (λ l. l.items) lists worker c.push.new.self here ∙ pushed
          ∙ ap (λ l. l ++ id ∷ []) (sym (list_at (λ l. l.items) lists worker list here)))
          (list_elsewhere (λ l. l.items) lists worker c.push.new.self)
          (subst (λ l. AreInTurnSoFar c.args.workers worker c.args.ids l (dealt lists)) c.in-Some.ensures.steps
          c.loop-id.invariant.in_turn);
      each_once = dealt_more c.args.ids (joined (dealt lists)) (joined (dealt (slice_set lists worker c.push.new.self))) c.next.new.self id
          (subst (λ l. IsPermutation (joined (dealt lists) ++ l) c.args.ids) c.in-Some.ensures.steps c.loop-id.invariant.each_once)
          (one_more (λ l. l.items) lists worker c.push.new.self list id here pushed);
    }
