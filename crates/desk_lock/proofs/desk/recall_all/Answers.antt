use Rattle.std.proofs.Common.{◌≤◌, arith, length, subst}
use Rattle.std.specs.List.{AllByRecursion}
use Rattle.std.proofs.lemmas.Bool.Decides.{nat_tests}
use Rattle.std.proofs.lemmas.List.{take_all}
use Rattle.std.proofs.lemmas.List.Elements.{All-from_recursion}
use Rattle.desk_lock.specs.own.Keeping.{IsKnown}
use Rattle.desk_lock.proofs.desk.recall_all.Goals as goal

pub returns-clause-known : goal.returns-clause-known
returns-clause-known g c =
    let cards = c.args.cards.now in
    let P = IsKnown c.args.keeper.now.all in
    let whole : length cards ≤ c.loop-place.place = grind (arith, nat_tests, c.loop-place-test.false, c.loop-place.auto.place-end) in
    All-from_recursion P cards (subst (AllByRecursion P) (take_all c.loop-place.place cards whole) c.loop-place.invariant.known)
