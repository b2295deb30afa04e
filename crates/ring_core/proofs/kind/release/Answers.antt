use Rattle.std.proofs.Common.{◌≡◌, ◌<◌, ◌≤◌, ℕ, inl, inr, refl, ap, arith, get_or}
use Rattle.std.proofs.lemmas.Bool.{cases_lt}
use Rattle.ring_core.specs.declared.marks.Reach.{Reach}
use Rattle.ring_core.specs.own.Kinds.{IsInReach}
use Rattle.ring_core.proofs.kind.release.Goals as goal

below_reach : (number : ℕ) (reach is : Reach) → reach ≡ is → number < reach.first → IsInReach number is → ⊥
below_reach number reach is same below h = let first = ap (λ (r : Reach). r.first) same in omega (arith, first, below, h.from)

above_reach : (number here : ℕ) (reach is : Reach) → reach ≡ is → here ≤ number → reach.last < here → IsInReach number is → ⊥
above_reach number here reach is same up above h = let last = ap (λ (r : Reach). r.last) same in omega (arith, last, up, above, h.to)

pub loop-j-init : goal.loop-j-init
loop-j-init c = record {
  done = λ i b in_kinds. inl (
    refl,
    λ e. below_reach _ _ _ c.reach_of-reach.ensures (c.first_place-j.ensures.below i b)
        (c.requires.marked i c.args.gone in_kinds e),
  );
  unread = λ i q. refl;
  marked = c.requires.marked;
  seen = c.requires.seen;
}

pub returns-then-numbers-j-clause-released : goal.returns-then-numbers-j-clause-released
returns-then-numbers-j-clause-released c = λ i in_kinds.
    let j = c.loop-j.j in
    elim (cases_lt i j) [
      | inl q ↦ c.loop-j.invariant.done i q (omega (arith, in_kinds, c.loop-j.auto.kinds))
      | inr q ↦ inl (
        c.loop-j.invariant.unread i q,
        λ e.
            above_reach _ (get_or c.args.numbers.now j 0) _ _ c.reach_of-reach.ensures
            (c.requires.ascend j i 0 q (omega (arith, in_kinds, c.requires.as_many)))
            c.if-numbers-j.true (c.requires.marked i c.args.gone in_kinds e),
      )
    ]
