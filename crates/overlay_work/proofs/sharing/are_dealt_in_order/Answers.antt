use Rattle.std.proofs.Common.{rules, ◌≡◌, ◌∷◌, subst, sym}
use Rattle.std.specs.Prelude.{IsPermutation}
use Rattle.std.proofs.lemmas.List.Sorted.{IsPermutation-cons, IsPermutation-trans}
use Rattle.overlay_work.specs.Sharing.{joined}
use Rattle.overlay_work.proofs.sharing.are_dealt_in_order.Goals as goal

pub loop-id-preserved : goal.loop-id-preserved
loop-id-preserved g c = λ rest.
    let before = joined c.loop-id.queues in let after = joined c.take.new.self in let id = c.in-Some.id in let left = c.next.new.self in
    let same : c.in-Some-take.next ≡ id = search (rules, c.if-next-id.false) in
    let one : IsPermutation before (id ∷ after) = subst (λ n. IsPermutation before (n ∷ after)) same c.in-Some-take.ensures.some in
    let was : c.loop-id.id-iterator ≡ id ∷ left = search (rules, c.in-Some.ensures) in
    c.loop-id.invariant (subst (IsPermutation before) (sym was)
    (IsPermutation-trans before (id ∷ after) (id ∷ left) one (IsPermutation-cons id after left rest)))
