use Rattle.std.proofs.Common.{◌∙◌, sym}
use Rattle.std.proofs.lemmas.Bool.{false≢true}
use Rattle.geo_exact.proofs.boxes.InBoxes.{Decides-holds_corner}
use Rattle.ring_core.proofs.clipping.HeldInside.{held_inside}
use Rattle.ring_core.proofs.witness.is_in_boxed.Goals as goal

pub returns-then-not-holds : goal.returns-then-not-holds
returns-then-not-holds c =
    let box = c.args.bounds in let q = c.args.q in (
      λ e. absurd (false≢true e),
      λ h. absurd (false≢true (sym c.if-not-holds.true ∙ c.holds.ensures
          ∙ (Decides-holds_corner box q).1 (held_inside box c.args.triangle q c.requires h))),
    )
