use Rattle.std.proofs.Common.{rules, ◌≡◌, ◌∙◌, sym, ap, subst, length, [], ◌∷◌, ◌++◌, append_assoc, append-nil}
use Rattle.std.specs.Arc.{arc_value}
use Rattle.overlay_claims.specs.Claimants.{fresh as fresh_claimant}
use Rattle.overlay_work.specs.Rounds.{Task, fresh, fresh_hands}
use Rattle.overlay_work.specs.own.Kept.{started, AreFresh}
use Rattle.overlay_work.proofs.Starts.{no_items, started_fresh, are_fresh, length-fresh_claimants}
use Rattle.overlay_work.proofs.round.hands_of.Goals as goal

pub loop-claimant-init : goal.loop-claimant-init
loop-claimant-init g c =
    let task = arc_value c.args.work.now in
    let rest = c.into_iter-claimant-iterator.ensures.into_iter_gives.0 in
    record {
      all_hands = ap (λ l. l ++ started task c.into_iter-claimant-iterator.result.rest.items)
          c.in_ok-hands.ensures.items ∙ ap (started task) rest;
      are_fresh = subst (AreFresh task.claims) (sym (rest ∙ c.requires.1)) (are_fresh task.claims c.requires.0);
    }

pub new-requires : goal.new-requires
new-requires g c =
    let fresh_one =
    (subst (AreFresh (arc_value c.args.work.now).claims) c.in-Some.ensures.steps.0 c.loop-claimant.invariant.are_fresh).0 in (
      c.in-Some.claimant.number,
      fresh_one ∙ ap (λ (t : Task). fresh_claimant t.claims c.in-Some.claimant.number)
          (sym c.in_ok-try_clone.ensures),
    )

pub loop-claimant-preserved : goal.loop-claimant-preserved
loop-claimant-preserved g c =
    let task = arc_value c.args.work.now in
    let rest = c.in-Some.ensures.steps.0 in
    let new = started task c.next.new.self.rest.items in
    let one : c.new.result ≡ fresh task c.in-Some.claimant.number = c.new.ensures
    ∙ ap (λ (t : Task). fresh t c.in-Some.claimant.number) c.in_ok-try_clone.ensures in
    record {
      all_hands = ap (λ l. l ++ new) c.in_ok-push.ensures.items ∙ append_assoc c.loop-claimant.hands.items (c.new.result ∷ []) new
          ∙ ap (λ h. c.loop-claimant.hands.items ++ h ∷ new) one
          ∙ ap (λ l. c.loop-claimant.hands.items ++ started task l) (sym rest) ∙ c.loop-claimant.invariant.all_hands;
      are_fresh = (subst (AreFresh task.claims) rest c.loop-claimant.invariant.are_fresh).1;
    }

pub returns : goal.returns
returns g c =
    let task = arc_value c.args.work.now in
    let rest = c.loop-claimant.claimant-iterator.rest in
    let count : length rest.items ≡ 0 = search (rules, c.in-None.ensures.steps.0) in
    let none : rest.items ≡ [] = no_items rest.items count in
    let all : c.loop-claimant.hands.items ≡ started task c.args.claimants.items =
    sym (append-nil c.loop-claimant.hands.items) ∙ ap (λ l. c.loop-claimant.hands.items ++ started task l) (sym none)
    ∙ c.loop-claimant.invariant.all_hands in
    let many : length c.args.claimants.items ≡ c.requires.0 = ap length c.requires.1
    ∙ length-fresh_claimants task.claims c.requires.0 in
    all ∙ ap (started task) c.requires.1 ∙ started_fresh task task.claims c.requires.0 ∙ ap (fresh_hands task) (sym many)
