use Rattle.std.proofs.Common.{◌≡◌, ◌∙◌, inl, sym, refl, ap, subst, arith, length, [], ◌∷◌, ◌+◌, ◌++◌, Some}
use Rattle.std.specs.Arc.{arc_value}
use Rattle.std.specs.List.{Contains}
use Rattle.std.proofs.lemmas.List.Elements.{Contains-append_right}
use Rattle.fabric_core.specs.Rows.{numbers}
use Rattle.overlay_work.specs.Rounds.{Task}
use Rattle.overlay_work.proofs.ZonesFound.{its_own, member_of_all}
use Rattle.std.specs.Prelude.{IsSome}
use Rattle.overlay_work.specs.own.Kept.{IsTask, IsHand, KeepsPairs, HoldsLast, done_of, ids_at}
use Rattle.overlay_work.proofs.Hands.{hand_does, tests_fit, done_all}
use Rattle.overlay_work.proofs.hand.Hand.finish.Goals as goal

pub keep_pairs-requires : goal.keep_pairs-requires
keep_pairs-requires g c =
    let hand = c.self.inside in
    let task = arc_value hand.work in
    let ids = ids_at task.lists hand.claimant.places in
    let holds : hand.holds ≡ Some c.args.id = ap (λ v. v.holds) c.self.view_is ∙ c.requires in
    let last : HoldsLast (Some c.args.id) ids = subst (λ h. HoldsLast h ids) holds c.self.invariant.holds_last in
    let claimed : Contains ids c.args.id =
    subst (λ l. Contains l c.args.id) (sym last.1) (Contains-append_right last.0 (c.args.id ∷ []) c.args.id (its_own c.args.id)) in
    let here = member_of_all (Contains (numbers task.rows)) ids c.args.id c.self.invariant.here claimed in
    subst (λ (t : Task). Contains (numbers t.rows) c.args.id) (sym c.deref-2.ensures) here

pub overflow_add-self : goal.overflow_add-self
overflow_add-self g c =
    let hand = c.self.inside in
    let task = arc_value hand.work in
    let holds : hand.holds ≡ Some c.args.id = ap (λ v. v.holds) c.self.view_is ∙ c.requires in
    let stands : IsTask task = subst IsTask c.deref.ensures c.use_invariant.ensures in
    let is = subst (λ h. IsHand task hand.claimant h hand.kept.items hand.tests) holds c.self.invariant in
    let keeps = subst (λ t. KeepsPairs t c.args.id hand.kept.items c.keep_pairs.new.kept.items c.in_ok-tests.tests)
    c.deref-2.ensures c.in_ok-tests.ensures.ok in
    let few = tests_fit task hand.claimant hand.kept.items c.keep_pairs.new.kept.items hand.tests c.in_ok-tests.tests
    c.args.id stands is keeps in
    omega (arith, few)

pub invariant_of-self-2 : goal.invariant_of-self-2
invariant_of-self-2 g c =
    let hand = c.self.inside in
    let task = arc_value hand.work in
    let holds : hand.holds ≡ Some c.args.id = ap (λ v. v.holds) c.self.view_is ∙ c.requires in
    let stands : IsTask task = subst IsTask c.deref.ensures c.use_invariant.ensures in
    let is = subst (λ h. IsHand task hand.claimant h hand.kept.items hand.tests) holds c.self.invariant in
    let keeps = subst (λ t. KeepsPairs t c.args.id hand.kept.items c.keep_pairs.new.kept.items c.in_ok-tests.tests)
    c.deref-2.ensures c.in_ok-tests.ensures.ok in
    hand_does task hand.claimant hand.kept.items c.keep_pairs.new.kept.items hand.tests c.in_ok-tests.tests c.args.id stands is keeps

pub returns-clause-ok : goal.returns-clause-ok
returns-clause-ok g c =
    let hand = c.self.inside in
    let task = arc_value hand.work in
    let same : task ≡ c.args.self.now.task = ap (λ v. v.task) c.self.view_is in
    let ids = ids_at task.lists hand.claimant.places in
    let holds : hand.holds ≡ Some c.args.id = ap (λ v. v.holds) c.self.view_is ∙ c.requires in
    let last : HoldsLast (Some c.args.id) ids = subst (λ h. HoldsLast h ids) holds c.self.invariant.holds_last in
    let did : c.args.self.now.did ≡ done_of (Some c.args.id) ids = sym (ap (λ v. v.did) c.self.view_is)
    ∙ ap (λ h. done_of h ids) holds in
    let keeps = subst (λ t. KeepsPairs t c.args.id hand.kept.items c.keep_pairs.new.kept.items c.in_ok-tests.tests)
    (c.deref-2.ensures ∙ same) c.in_ok-tests.ensures.ok in
    record {
      has_parcel = inl (record {
        held = c.requires;
        same_claims = ap (λ v. v.claimed) c.self.view_is;
        same_ends = ap (λ v. v.ended) c.self.view_is;
      });
      did = sym (done_all c.args.id ids last) ∙ ap (λ l. l ++ c.args.id ∷ []) (sym did);
      pairs = keeps.pairs;
      are_pairs = keeps.are_pairs;
      kept = keeps.kept ∙ ap (λ v. v.kept ++ keeps.pairs) c.self.view_is;
      candidates = keeps.candidates;
      are_candidates = keeps.are_candidates;
      tests = ap (λ n. hand.tests + n) keeps.tests ∙ ap (λ v. v.tests + length keeps.candidates) c.self.view_is;
      holds_nothing = refl;
      is_not_done = c.self.invariant.is_not_done (subst IsSome (sym holds) refl);
    }
