use Rattle.std.proofs.Common.{◌≡◌, ◌∙◌, sym, ap, subst, arith, ℕ, length, List}
use Rattle.std.specs.Arc.{arc_value}
use Rattle.std.proofs.lemmas.List.{length-map}
use Rattle.overlay_work.specs.Rounds.{HasAllEnds}
use Rattle.overlay_work.specs.own.Kept.{IsTask}
use Rattle.overlay_work.proofs.hand.Hand.is_done.Goals as goal

pub returns : goal.returns
returns g c =
    let hand = c.self.inside in
    let task = arc_value hand.work in
    let stands : IsTask task = subst IsTask c.deref.ensures c.use_invariant.ensures in
    let count : length hand.claimant.lists.lengths ≡ length task.lists =
    ap (λ l. length l.lengths) c.self.invariant.claims ∙ ap length stands.lengths
    ∙ length-map task.lists (λ (l : List ℕ). length l) in (
      λ yes. subst HasAllEnds c.self.view_is (λ list less. c.is_done.ensures.0 yes list (omega (arith, less, count))),
      λ all. c.is_done.ensures.1 (λ list less. (subst HasAllEnds (sym c.self.view_is) all) list (omega (arith, less, count))),
    )
