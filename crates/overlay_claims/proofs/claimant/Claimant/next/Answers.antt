use Rattle.std.proofs.Common.{◌≡◌, ◌∙◌, sym, ap, subst, arith, ℕ, length, ◌<◌, ◌+◌, ◌%◌, [], ◌∷◌, ◌++◌}
use Rattle.std.specs.Prelude.{slice_index}
use Rattle.overlay_claims.specs.Claims.{times}
use Rattle.std.proofs.Math.Nat.{mod-lt}
use Rattle.overlay_claims.specs.Claimants.{Lists, list_after, lists_from, AreAllEnded}
use Rattle.overlay_claims.proofs.Orders.{next_is_not_noted, all_are_among}
use Rattle.overlay_claims.proofs.claimant.Claimant.next.Goals as goal

pub claim-requires-clause-not_noted : goal.claim-requires-clause-not_noted
claim-requires-clause-not_noted g c =
    let hand = c.loop-self.self-inside in
    let kept = c.loop-self.invariant in
    let n : ℕ = length c.args.claims.now.lengths in
    let at : c.list_after-list.result ≡ (hand.number + hand.ended) % n = c.list_after-list.ensures
    ∙ ap (λ m. (hand.number + hand.ended) % m) kept.count in
    let none : times ((hand.number + hand.ended) % n) hand.mark.me.0.notes ≡ 0 =
    subst (λ l. times ((hand.number + hand.ended) % n) l ≡ 0) (sym kept.in_order.in_order)
    (next_is_not_noted hand.number n hand.ended (omega (arith, c.loop-self-test.true, kept.count))) in
    omega (arith, ap (λ l. times l hand.mark.me.0.notes) at ∙ none, kept.one_part)

pub returns-in-Some-clause-some : goal.returns-in-Some-clause-some
returns-in-Some-clause-some g c =
    let hand = c.loop-self.self-inside in
    let kept = c.loop-self.invariant in
    let n : ℕ = length c.args.claims.now.lengths in
    let list = c.list_after-list.result in
    let place = c.in-Some.place in
    let old = c.args.self.now in
    let number : hand.number ≡ old.number = kept.number ∙ ap (λ v. v.number) c.self.view_is in
    let count : n ≡ length old.lists.lengths = sym (ap (λ (l : Lists). length l.lengths) c.requires.own) in
    let less : hand.ended < n = omega (arith, c.loop-self-test.true, kept.count) in
    let at : list ≡ list_after hand.number n hand.ended = c.list_after-list.ensures
    ∙ ap (λ m. (hand.number + hand.ended) % m) kept.count in
    let here : list < n = subst (λ k. k < n) (sym at) (mod-lt (hand.number + hand.ended) (omega (arith, less))) in
    let same = c.in-Some.ensures.some in
    record {
      is_place = (
        subst (λ k. list < k) count here,
        subst (λ (l : Lists). place < slice_index l.lengths list)
            (sym c.requires.own) c.in-Some.ensures.here,
      );
      claims = ap (λ v. v.places) same ∙ ap (λ l. l ++ (list, place) ∷ []) (kept.places ∙ ap (λ v. v.places) c.self.view_is);
      before = hand.ended;
      is_a_list = subst (λ k. hand.ended < k) count less;
      is_next = at ∙ ap (λ k. list_after k n hand.ended) number ∙ ap (λ k. list_after old.number k hand.ended) count;
      ended_before = ap (λ v. v.notes) same ∙ kept.in_order.in_order
          ∙ ap (λ k. lists_from k (length c.args.claims.now.lengths) hand.ended) number
          ∙ ap (λ k. lists_from old.number k hand.ended) count;
      more = kept.more;
      ends = ap (λ v. v.notes) same ∙ kept.ends ∙ ap (λ v. v.ended ++ kept.more) c.self.view_is;
    }

pub returns-clause-none : goal.returns-clause-none
returns-clause-none g c =
    let hand = c.loop-self.self-inside in
    let kept = c.loop-self.invariant in
    let n : ℕ = length c.args.claims.now.lengths in
    let all : hand.ended ≡ n = omega (arith, c.loop-self-test.false, kept.count, kept.in_order.at_most) in
    let ended : AreAllEnded n hand.mark.me.0.notes =
    subst (AreAllEnded n) (sym kept.in_order.in_order)
    (subst (λ k. AreAllEnded n (lists_from hand.number n k)) (sym all) (all_are_among hand.number n kept.in_order.own_list)) in
    record {
      all_ends = subst (λ k. AreAllEnded k hand.mark.me.0.notes) (sym (ap length kept.lengths)) ended;
      same_places = kept.places ∙ ap (λ v. v.places) c.self.view_is;
      more = kept.more;
      ends = kept.ends ∙ ap (λ v. v.ended ++ kept.more) c.self.view_is;
    }
