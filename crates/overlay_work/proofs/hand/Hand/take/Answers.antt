use Rattle.std.proofs.Common.{◌∙◌, inl, refl, sym, ap, subst}
use Rattle.std.specs.Prelude.{IsSome}
use Rattle.overlay_work.specs.Rounds.{HasAllEnds}
use Rattle.overlay_work.proofs.hand.Hand.take.Goals as goal

pub returns-in-Some-clause-some : goal.returns-in-Some-clause-some
returns-in-Some-clause-some g c = record {
  has_parcel = inl (record { held = sym (ap (λ v. v.holds) c.self.view_is) ∙ c.in-Some.is; same_claims = refl; same_ends = refl });
  holds = sym (ap (λ v. v.holds) c.self.view_is) ∙ c.in-Some.is;
  did = refl;
  kept = refl;
  tests = refl;
  is_not_done = subst (λ v. HasAllEnds v → ⊥) c.self.view_is (c.self.invariant.is_not_done (subst IsSome (sym c.in-Some.is) refl));
}
