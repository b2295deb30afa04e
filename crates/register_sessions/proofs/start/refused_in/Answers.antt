use Rattle.std.proofs.Common.{◌++◌, ◌∙◌, inl, refl, ap}
use Rattle.clerk_runs.specs.ClerkLines.{refusal_text}
use Rattle.register_sessions.proofs.start.refused_in.Goals as goal

pub returns-in-Ok : goal.returns-in-Ok
returns-in-Ok g c = inl (record {
  text = c.push_refusal.new.text;
  is = refl;
  says = c.in-Ok.ensures.ok ∙ ap (λ before. before ++ refusal_text c.args.refusal) c.new-text.ensures.items;
})
