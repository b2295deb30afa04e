use Rattle.std.proofs.Common.{◌≡◌, sym, ◌∙◌, ap, subst, arith, ◌+◌, ◌-◌, ◌+ℤ◌, FitsSigned, w64, rules, ◌↔◌}
use Rattle.std.proofs.Common.{IsTrue}
use Rattle.std.specs.List.{Contains}
use Rattle.std.specs.HashSet.{contains}
use Rattle.std.proofs.lemmas.Int.{ints}
use Rattle.std.proofs.lemmas.Bool.{false≢true}
use Rattle.std.proofs.lemmas.Map.Views.{hash_set_contains_iff}
use Rattle.geo_exact.specs.Order.{is_same, is_same_equivalence}
use Rattle.geo_exact.proofs.corners_and_turns.CornerOrder.{same_from_test}
use Rattle.edge_chains.specs.own.Steps.{AreInside, IsStep}
use Rattle.edge_chains.proofs.edges.OnSteps.{AreFoundSteps, no_step, one_more, next_within, found_at_start}
use Rattle.edge_chains.proofs.edges.OnSteps.{found_passed, found_pushed, found_all}
use Rattle.edge_chains.proofs.points.Points.inside.Goals.{then-contains+in_ok-push, else-contains}
use Rattle.edge_chains.proofs.points.Points.inside.Goals as goal

pub loop-done-init : goal.loop-done-init
loop-done-init g c = record {
  begun = omega arith;
  at = no_step c.args.a c.args.steps.across c.args.steps.up;
  so_far = rw c.new-found.ensures.items (found_at_start c.self.inside.places.keys c.args.a c.args.steps.across c.args.steps.up);
}

pub moved-corner-requires : goal.moved-corner-requires
moved-corner-requires g c =
    let fx : FitsSigned w64 c.args.steps.across = search rules in
    let fy : FitsSigned w64 c.args.steps.up = search rules in
    let h = next_within c.args.a c.args.b c.loop-done.corner c.args.steps.across c.args.steps.up c.args.steps.count
    (c.loop-done._done - 1) c.requires
    c.loop-done.invariant.at (omega (arith, c.loop-done.invariant.begun, c.loop-done-test.true)) in
    record {
      in_x = record { low = omega (arith, ints, h.0.low); high = omega (arith, ints, h.0.high) };
      in_y = record { low = omega (arith, ints, h.1.low); high = omega (arith, ints, h.1.high) };
    }

pub loop-done-preserved : goal.loop-done-preserved
loop-done-preserved g c =
    let a = c.args.a in
    let u = c.args.steps.across in
    let v = c.args.steps.up in
    let keys = c.self.inside.places.keys in
    let found = c.loop-done.found.items in
    let corner = c.moved-corner.result in
    let n = c.loop-done._done - 1 in
    let inv = c.loop-done.invariant in
    let fx : FitsSigned w64 u = search rules in
    let fy : FitsSigned w64 v = search rules in
    let ex : corner.x ≡ c.loop-done.corner.x +ℤ u = omega (arith, ints, c.moved-corner.ensures.x) in
    let ey : corner.y ≡ c.loop-done.corner.y +ℤ v = omega (arith, ints, c.moved-corner.ensures.y) in
    let e : n + 1 ≡ c.loop-done._done + 1 - 1 = omega (arith, inv.begun) in
    let at = one_more a c.loop-done.corner corner u v n inv.at ex ey in
    let iff : IsTrue (contains is_same c.self.inside.places corner) ↔ Contains keys corner =
    hash_set_contains_iff is_same_equivalence same_from_test c.self.inside.places corner in
    record {
      begun = omega arith;
      at = subst (λ k. IsStep a u v k corner) e at;
      so_far = subst (λ k. AreFoundSteps keys a u v k c.if-contains.found.items) e (elim c.if-contains.branch [
        | then-contains+in_ok-push w ↦ subst (AreFoundSteps keys a u v (n + 1)) (sym (ap (λ v. v.items) w.found-is
            ∙ w.in_ok-push.ensures.items))
            (found_pushed keys found a corner u v n at (iff.0 (sym c.contains.ensures ∙ w.if-contains.true)) inv.so_far)
        | else-contains w ↦ subst (AreFoundSteps keys a u v (n + 1)) (sym (ap (λ v. v.items) w.found-is))
            (found_passed keys found a corner u v n at (λ k. false≢true (sym w.if-contains.false ∙ c.contains.ensures
            ∙ iff.1 k)) inv.so_far)
      ]);
    }

pub returns : goal.returns
returns g c =
    let a = c.args.a in
    let u = c.args.steps.across in
    let v = c.args.steps.up in
    let keys = c.self.inside.places.keys in
    let found = c.loop-done.found.items in
    let e : c.loop-done._done - 1 ≡ c.args.steps.count - 1 =
    omega (arith, c.loop-done-test.false, c.loop-done.auto._done-end, c.requires.some, c.loop-done.invariant.begun) in
    subst (λ ks. AreInside ks a c.args.b found) c.self.view_is
    (found_all keys found a c.args.b u v c.args.steps.count c.requires
    (subst (λ n. AreFoundSteps keys a u v n found) e c.loop-done.invariant.so_far))
