use Rattle.std.proofs.Common.{rules, ◌≡◌, ◌∙◌, sym, ap, subst, arith, ℕ, ◌<◌, List, [], ◌∷◌, ◌++◌, length, map}
use Rattle.std.proofs.Common.{append-nil}
use Rattle.std.specs.Prelude.{IsPermutation}
use Rattle.std.proofs.lemmas.List.{length-map}
use Rattle.fabric_core.specs.Rows.{numbers}
use Rattle.overlay_claims.specs.Claims.{all_places, times}
use Rattle.overlay_work.specs.Rounds.{Task}
use Rattle.overlay_work.specs.own.Kept.{ids_at}
use Rattle.overlay_work.specs.own.Gathered.{claimed_by, did_by, ended_by, AreReady}
use Rattle.overlay_work.proofs.ZonesFound.{member_of_all}
use Rattle.overlay_work.proofs.Starts.{no_items}
use Rattle.overlay_work.proofs.EachIdOnce.{are_ready, all_ended, all_claimed_once}
use Rattle.overlay_work.proofs.hands_in.confirm.Goals as goal

pub loop-hand-init : goal.loop-hand-init
loop-hand-init g c =
    let task = c.args.work.now in
    let hands = c.args.hands.items in
    let first = c.in-Some.first in
    let rest = c.into_iter-hand-iterator.result.rest.items in
    let whole : hands ≡ first ∷ rest = sym c.into_iter-rest.ensures.rest ∙ c.in-Some.ensures.items
    ∙ ap (λ i. first ∷ i.rest.items) (sym c.into_iter-hand-iterator.ensures.into_iter_gives) in
    let ready = subst (AreReady task) whole (are_ready task hands c.requires.at_work c.requires.done.hold_nothing) in
    let all = c.new-all.ensures in
    let did : ids_at task.lists c.new-all.result.places ≡ first.did =
    ap (λ a. ids_at task.lists a.places) all ∙ ap (λ (t : Task). ids_at t.lists c.into_claimant.result.places)
    (sym ready.0) ∙ c.into_claimant.ensures.did in
    record {
      lists = ap (λ a. a.lists) all ∙ c.into_claimant.ensures.claims ∙ ap (λ (t : Task). t.claims) ready.0;
      count = (let one = ap (λ a. a.hands) all in let long = ap length whole in omega (arith, one, long));
      claimed = ap (λ a. a.places ++ claimed_by rest) all ∙ ap (λ l. l ++ claimed_by rest) c.into_claimant.ensures.claimed
          ∙ sym (ap claimed_by whole);
      did = ap (λ l. l ++ did_by rest) did ∙ sym (ap did_by whole);
      ended = ap (λ a. a.ended ++ ended_by rest) all ∙ ap (λ l. l ++ ended_by rest) c.into_claimant.ensures.ended
          ∙ sym (ap ended_by whole);
      ready = ready.2;
    }

pub confirm-requires-clause-all_ends : goal.confirm-requires-clause-all_ends
confirm-requires-clause-all_ends g c list less =
    let task = c.args.work.now in
    let hands = c.args.hands.items in
    let rest = c.loop-hand.hand-iterator.rest in
    let count : length rest.items ≡ 0 = search (rules, c.in-None.ensures.steps.0) in
    let none : rest.items ≡ [] = no_items rest.items count in
    let ended : c.loop-hand.all.ended ≡ ended_by hands =
    sym (append-nil c.loop-hand.all.ended) ∙ ap (λ l. c.loop-hand.all.ended ++ ended_by l) (sym none) ∙ c.loop-hand.invariant.ended in
    let done = c.requires.done.some_done in
    let many : length c.claims-claims.result.now.lengths ≡ length task.lists =
    ap (λ l. length l.lengths) c.claims-claims.ensures ∙ ap length c.use_invariant.ensures.lengths
    ∙ length-map task.lists (λ (l : List ℕ). length l) in
    subst (λ l. 0 < times list l) (sym ended) (all_ended task hands done.0 done.1
    (member_of_all (λ hand. hand.task ≡ task) hands done.0 c.requires.at_work done.1) done.2 list (omega (arith, less, many)))

pub returns-clause-claimed : goal.returns-clause-claimed
returns-clause-claimed g c =
    let task = c.args.work.now in
    let hands = c.args.hands.items in
    let rest = c.loop-hand.hand-iterator.rest in
    let count : length rest.items ≡ 0 = search (rules, c.in-None.ensures.steps.0) in
    let none : rest.items ≡ [] = no_items rest.items count in
    let claimed : c.loop-hand.all.places ≡ claimed_by hands =
    sym (append-nil c.loop-hand.all.places) ∙ ap (λ l. c.loop-hand.all.places ++ claimed_by l) (sym none) ∙ c.loop-hand.invariant.claimed in
    let lengths : c.claims-claims.result.now.lengths ≡ map (λ (l : List ℕ). length l) task.lists =
    ap (λ l. l.lengths) c.claims-claims.ensures ∙ c.use_invariant.ensures.lengths in
    subst (λ l. IsPermutation (claimed_by hands) (all_places 0 l)) lengths
    (subst (λ l. IsPermutation l (all_places 0 c.claims-claims.result.now.lengths)) claimed c.confirm.ensures.all_once)

pub returns-clause-did : goal.returns-clause-did
returns-clause-did g c =
    let task = c.args.work.now in
    let hands = c.args.hands.items in
    let rest = c.loop-hand.hand-iterator.rest in
    let count : length rest.items ≡ 0 = search (rules, c.in-None.ensures.steps.0) in
    let none : rest.items ≡ [] = no_items rest.items count in
    let did : ids_at task.lists c.loop-hand.all.places ≡ did_by hands =
    sym (append-nil (ids_at task.lists c.loop-hand.all.places))
    ∙ ap (λ l. ids_at task.lists c.loop-hand.all.places ++ did_by l) (sym none) ∙ c.loop-hand.invariant.did in
    let lengths : c.claims-claims.result.now.lengths ≡ map (λ (l : List ℕ). length l) task.lists =
    ap (λ l. l.lengths) c.claims-claims.ensures ∙ c.use_invariant.ensures.lengths in
    subst (λ l. IsPermutation l (numbers task.rows)) did
    (all_claimed_once (numbers task.rows) task.lists c.claims-claims.result.now.lengths c.loop-hand.all.places
    c.use_invariant.ensures.sharing lengths c.confirm.ensures.all_once)
