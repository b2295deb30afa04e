use Rattle.std.proofs.Common.{sym, subst}
use Rattle.ring_core.specs.declared.sorted.Axis.TheVariants.{X, Y}
use Rattle.ring_core.specs.own.Sorted.{AreListedOrNone}
use Rattle.ring_core.proofs.searches.Sorted.{found_in_list, in_order}
use Rattle.ring_core.proofs.witness.witness_of.Goals as goal

pub returns-in-Some : goal.returns-in-Some
returns-in-Some g c =
    let corners = c.args.corners.now in let numbers = c.args.numbers.now in let list = c.as_slice-by_x.result.now in
    let are : AreListedOrNone X corners numbers list =
    subst (AreListedOrNone X corners numbers) (sym c.as_slice-by_x.ensures.value) c.requires.sorted.by_x in
    found_in_list X corners numbers list c.args.k c.triangle_at-triangle.result c.bounds_of-bounds.result c.in-Some.span
    c.witness_listed.result are c.in-Some.ensures.some c.triangle_at-triangle.ensures c.bounds_of-bounds.ensures
    c.in-Some.ensures.has c.witness_listed.ensures.some c.witness_listed.ensures.none

pub few_between-requires-2 : goal.few_between-requires-2
few_between-requires-2 g c =
    let corners = c.args.corners.now in let numbers = c.args.numbers.now in let list = c.as_slice-by_y.result.now in
    let are : AreListedOrNone Y corners numbers list =
    subst (AreListedOrNone Y corners numbers) (sym c.as_slice-by_y.ensures.value) c.requires.sorted.by_y in
    record { sorted = in_order Y corners numbers list are }

pub returns-in-Some-few_between : goal.returns-in-Some-few_between
returns-in-Some-few_between g c =
    let corners = c.args.corners.now in let numbers = c.args.numbers.now in let list = c.as_slice-by_y.result.now in
    let are : AreListedOrNone Y corners numbers list =
    subst (AreListedOrNone Y corners numbers) (sym c.as_slice-by_y.ensures.value) c.requires.sorted.by_y in
    let searched = c.witness_listed-in-Some-few_between in
    found_in_list Y corners numbers list c.args.k c.triangle_at-triangle.result c.bounds_of-bounds.result
    c.in-Some-few_between.span searched.result are c.in-Some-few_between.ensures.some c.triangle_at-triangle.ensures
    c.bounds_of-bounds.ensures c.in-Some-few_between.ensures.has searched.ensures.some searched.ensures.none
