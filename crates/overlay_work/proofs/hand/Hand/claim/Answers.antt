use Rattle.std.proofs.Common.{◌≡◌, ◌∙◌, inr, refl, sym, ap, subst, arith, ℕ, length, take, List, [], ◌∷◌, ◌-◌}
use Rattle.std.proofs.Common.{◌≤◌, ◌++◌, None}
use Rattle.std.specs.Prelude.{sum_by}
use Rattle.std.specs.List.{Contains}
use Rattle.std.specs.Arc.{arc_value}
use Rattle.fabric_core.specs.Rows.{numbers}
use Rattle.std.proofs.lemmas.List.{length-map}
use Rattle.overlay_claims.specs.Claimants.{Standing, ClaimsNext}
use Rattle.overlay_work.specs.Rounds.{Task, id_at, standing_of}
use Rattle.overlay_work.specs.own.Kept.{IsTask, IsHand, done_of, ids_at}
use Rattle.overlay_work.proofs.AllClaimed.{all_are_claimed}
use Rattle.overlay_work.proofs.Places.{one_more_id, before_last}
use Rattle.overlay_work.proofs.Steps.{claims_for_hand, not_done_yet}
use Rattle.overlay_work.proofs.Hands.{hand_claims, hand_ends}
use Rattle.overlay_work.proofs.hand.Hand.claim.Goals as goal

pub returns-in_default-clause-none : goal.returns-in_default-clause-none
returns-in_default-clause-none g c =
    let hand = c.self.inside in
    let task = arc_value hand.work in
    let none : hand.holds ≡ None = ap (λ v. v.holds) c.self.view_is ∙ c.requires in
    let stands : IsTask task = subst IsTask c.deref.ensures c.use_invariant.ensures in
    let told = c.in_default.ensures in
    let count : length c.next.new.self.lists.lengths ≡ length task.lists =
    ap (λ l. length l.lengths) (told.same.0 ∙ c.self.invariant.claims) ∙ ap length stands.lengths
    ∙ length-map task.lists (λ (l : List ℕ). length l) in
    record {
      held_nothing = c.requires;
      holds_nothing = none;
      all_ends = λ list less. told.none.all_ends list (omega (arith, less, count));
      all_claimed = all_are_claimed task (record {
        lengths = task.claims.lengths;
        parts = 1;
        places = c.next.new.self.places;
        notes = c.next.new.self.ended;
      }) stands (λ list less. told.none.all_ends list (omega (arith, less, count)));
      same_claims = told.none.same_places ∙ ap (λ v. v.claimed) c.self.view_is;
      did = ap (λ l. done_of hand.holds (ids_at task.lists l)) told.none.same_places ∙ ap (λ v. v.did) c.self.view_is;
      kept = ap (λ v. v.kept) c.self.view_is;
      tests = ap (λ v. v.tests) c.self.view_is;
      ends = (told.none.more, told.none.ends ∙ ap (λ v. v.ended ++ told.none.more) c.self.view_is);
    }

pub returns-clause-some : goal.returns-clause-some
returns-clause-some g c =
    let hand = c.self.inside in
    let task = arc_value hand.work in
    let told = c.in-Some.ensures in
    let place : ℕ × ℕ = (c.in-Some.list, c.in-Some.place) in
    let shown : Standing = record {
      lists = task.claims;
      number = c.next.new.self.number;
      places =
          c.next.new.self.places;
      ended = c.next.new.self.ended;
    } in
    let next = claims_for_hand task hand.claimant c.next.new.self place c.self.invariant.claims told.some in
    let none : hand.holds ≡ None = ap (λ v. v.holds) c.self.view_is ∙ c.requires in
    let more : ids_at task.lists c.next.new.self.places ≡ ids_at task.lists hand.claimant.places ++ c.id_at-id.result ∷ [] =
    ap (ids_at task.lists) told.some.claims ∙ one_more_id task.lists hand.claimant.places place
    ∙ ap (λ x. ids_at task.lists hand.claimant.places ++ x ∷ []) (sym (c.id_at-id.ensures.id
    ∙ ap (λ (t : Task). id_at t.lists place) c.deref-3.ensures)) in
    record {
      has_parcel = inr (record {
        held_nothing = c.requires;
        place = place;
        claims = subst (λ v. ClaimsNext (standing_of v) shown place) c.self.view_is next;
        stands_there = c.id_at-id.ensures.id ∙ ap (λ (t : Task). id_at t.lists place) c.deref-3.ensures
            ∙ ap (λ v. id_at v.task.lists place) c.self.view_is;
      });
      holds = refl;
      did = ap (λ l. take (length l - 1) l) more ∙ before_last (ids_at task.lists hand.claimant.places) c.id_at-id.result
          ∙ ap (λ h. done_of h (ids_at task.lists hand.claimant.places)) (sym none) ∙ ap (λ v. v.did) c.self.view_is;
      kept = ap (λ v. v.kept) c.self.view_is;
      tests = ap (λ v. v.tests) c.self.view_is;
      is_not_done = not_done_yet task hand.claimant c.next.new.self place
          (subst IsTask c.deref.ensures c.use_invariant.ensures) c.self.invariant.claims told.some;
    }

pub invariant_of-self : goal.invariant_of-self
invariant_of-self g c =
    let hand = c.self.inside in
    let task = arc_value hand.work in
    let none : hand.holds ≡ None = ap (λ v. v.holds) c.self.view_is ∙ c.requires in
    let told = c.in_default.ensures in
    let is = subst (λ h. IsHand task hand.claimant h hand.kept.items hand.tests) none c.self.invariant in
    subst (λ h. IsHand task c.next.new.self h hand.kept.items hand.tests) (sym none)
    (hand_ends task hand.claimant c.next.new.self hand.kept.items hand.tests is told.same.0 told.none.same_places)

pub invariant_of-self-2 : goal.invariant_of-self-2
invariant_of-self-2 g c =
    let hand = c.self.inside in
    let task = arc_value hand.work in
    let none : hand.holds ≡ None = ap (λ v. v.holds) c.self.view_is ∙ c.requires in
    let told = c.in-Some.ensures in
    let is = subst (λ h. IsHand task hand.claimant h hand.kept.items hand.tests) none c.self.invariant in
    let claims = c.claims.ensures ∙ ap (λ t. t.claims) c.deref-2.ensures in
    hand_claims task hand.claimant c.next.new.self hand.kept.items hand.tests (c.in-Some.list, c.in-Some.place)
    c.id_at-id.result is told.same.0 told.some.claims
    (subst (λ l. length c.next.new.self.places ≤ sum_by (λ n. n) l.lengths) claims told.bounded)
    (c.id_at-id.ensures.id ∙ ap (λ t. id_at t.lists (c.in-Some.list, c.in-Some.place)) c.deref-3.ensures)
    (subst (λ t. Contains (numbers t.rows) c.id_at-id.result) c.deref-3.ensures c.id_at-id.ensures.here)
    (not_done_yet task hand.claimant c.next.new.self (c.in-Some.list, c.in-Some.place)
    (subst IsTask c.deref.ensures c.use_invariant.ensures) c.self.invariant.claims told.some)
