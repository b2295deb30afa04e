use Rattle.std.proofs.Common.{◌≡◌, ◌∙◌, ◌+◌, ◌-◌, inl, inr, sym, ap, subst, drop}
use Rattle.std.specs.List.{remove}
use Rattle.std.proofs.Math.Seq.{paste}
use Rattle.ring_core.proofs.clipping.TakenOnEitherSide.{moved_up, moved_down}
use Rattle.ring_core.proofs.left.take_out.Goals as goal

pub returns-then-free-start-clause-left : goal.returns-then-free-start-clause-left
returns-then-free-start-clause-left g c =
    let xs = c.args.items.now.items in let s = c.args.start in let k = c.args.k in
    rw c.if-free-start.true (ap (drop s) c.remove.ensures.items ∙ moved_down xs s k c.requires.below)

pub returns-else-free-start-clause-left : goal.returns-else-free-start-clause-left
returns-else-free-start-clause-left g c =
    let xs = c.args.items.now.items in let s = c.args.start in let k = c.args.k in
    let more : c.args.free ≡ s + 1 = elim c.requires.free [
      | inl e ↦ absurd (c.if-free-start.false e)
      | inr e ↦ e
    ] in
    ap (drop c.args.free) c.copy_within.ensures.items
    ∙ subst (λ free. drop free (paste xs free (drop s xs) (s + k - s)) ≡ remove (drop s xs) k) (sym more)
    (moved_up xs s k c.requires.below)
