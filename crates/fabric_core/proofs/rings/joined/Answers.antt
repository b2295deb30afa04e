use Rattle.std.proofs.Common.{rules, ◌≡◌, ◌⊎◌, [], sym, ◌∙◌, subst, IfOk}
use Rattle.geo_exact.proofs.PassedOn.{passed_if}
use Rattle.edge_chains.specs.own.Slices.{AreJoined}
use Rattle.edge_chains.proofs.nodings.Slices.{joined_first, joined_more, joined_last, nil_of_none}
use Rattle.fabric_core.specs.declared.all_faults.Asked.{Asked}
use Rattle.fabric_core.specs.Faults.{IsOutOfMemory}
use Rattle.fabric_core.specs.Tiling.{corner_lists}
use Rattle.fabric_core.specs.own.Checks.{IsToldOfRings}
use Rattle.fabric_core.specs.own.Lists.{numbered_rows, corners_of_rings}
use Rattle.fabric_core.specs.own.RingSlices.{IsCheckedSlice}
use Rattle.fabric_core.proofs.loads.RingSlices.{zip_of_rings, rings_of_zip, told_of_slice}
use Rattle.fabric_core.proofs.rows.Lists.{lists_of_rows}
use Rattle.fabric_core.proofs.rings.joined.Goals as goal

pub loop-slice-init : goal.loop-slice-init
loop-slice-init g c =
    let rows = numbered_rows c.args.numbers.now c.args.whole.value.items in
    let all : c.into_iter-slice-iterator.result.rest.items ≡ c.args.slices.items = search rules in
    subst (AreJoined (λ row ring. ring.corners ≡ row.corners) (λ rows result. IsCheckedSlice rows result)
    c.args.size rows c.into_iter-slice-iterator.result.rest.items) (sym c.in_ok-checked.ensures.items)
    (subst (λ rest. AreJoined (λ row ring. ring.corners ≡ row.corners) (λ rows result. IsCheckedSlice rows result)
    c.args.size rows rest []) (sym all) (joined_first (λ row ring. ring.corners ≡ row.corners)
    (λ rows result. IsCheckedSlice rows result) c.args.size rows c.args.slices.items c.requires.slices))

pub loop-slice-preserved : goal.loop-slice-preserved
loop-slice-preserved g c =
    let rows = numbered_rows c.args.numbers.now c.args.whole.value.items in
    subst (AreJoined (λ row ring. ring.corners ≡ row.corners) (λ rows result. IsCheckedSlice rows result)
    c.args.size rows c.next.new.self.rest.items) (sym c.in_ok-append.ensures.items)
    (joined_more (λ row ring. ring.corners ≡ row.corners) (λ rows result. IsCheckedSlice rows result)
    c.args.size rows c.in-Some.slice c.next.new.self.rest.items c.loop-slice.checked.items c.in_ok-slice.slice.items
    (subst (λ rest. AreJoined (λ row ring. ring.corners ≡ row.corners) (λ rows result. IsCheckedSlice rows result)
    c.args.size rows rest c.loop-slice.checked.items) c.in-Some.ensures.steps.0 c.loop-slice.invariant)
    (λ slice h. zip_of_rings slice c.in_ok-slice.slice.items
    (subst (λ result. IfOk result (λ checked. corners_of_rings checked.items ≡ corner_lists slice)) c.in_ok-slice.was h.ok)))

pub returns-in_err-slice-clause-err : goal.returns-in_err-slice-clause-err
returns-in_err-slice-clause-err g c =
    let rows = numbered_rows c.args.numbers.now c.args.whole.value.items in
    passed_if c.from_residual-in_err-slice.result c.in_err-slice.field-0.0
    (λ refusal. IsToldOfRings Asked.First rows refusal ⊎ IsOutOfMemory refusal) c.from_residual-in_err-slice.ensures.1
    (told_of_slice c.args.size rows c.in-Some.slice c.next.new.self.rest.items c.loop-slice.checked.items c.in_err-slice.field-0.0
    (subst (λ rest. AreJoined (λ row ring. ring.corners ≡ row.corners) (λ rows result. IsCheckedSlice rows result)
    c.args.size rows rest c.loop-slice.checked.items) c.in-Some.ensures.steps.0 c.loop-slice.invariant) c.in_err-slice.was)

pub returns-clause-ok : goal.returns-clause-ok
returns-clause-ok g c =
    let rows = numbered_rows c.args.numbers.now c.args.whole.value.items in
    rings_of_zip rows c.loop-slice.checked.items
    (joined_last c.loop-slice.slice-iterator.rest.items (λ row ring. ring.corners ≡ row.corners)
    (λ rows result. IsCheckedSlice rows result) c.args.size rows c.loop-slice.checked.items
    (nil_of_none c.loop-slice.slice-iterator.rest.items (sym c.loop-slice.slice-iterator.rest.ok.0 ∙ c.in-None.ensures.steps.0))
    c.loop-slice.invariant)
    ∙ lists_of_rows c.args.numbers.now c.args.whole.value.items c.requires.numbered
