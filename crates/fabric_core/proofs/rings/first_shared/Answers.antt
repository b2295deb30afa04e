use Rattle.std.proofs.Common.{rules, ◌≡◌, ◌⊎◌, ◌≤◌, ◌∙◌, ap, sym, subst, length, get_or, IfOk, IfErr}
use Rattle.std.specs.List.{AllByRecursion}
use Rattle.geo_exact.specs.declared.limits.TheConstants.{RING_CORNERS}
use Rattle.edge_chains.specs.own.Slices.{AreOfSlices}
use Rattle.fabric_core.specs.declared.all_faults.Asked.{Asked}
use Rattle.fabric_core.specs.Faults.{IsOutOfMemory}
use Rattle.fabric_core.specs.own.Checks.{IsToldOfRings}
use Rattle.fabric_core.specs.own.Lists.{numbered_rows, corners_of_rings}
use Rattle.fabric_core.specs.own.RingSlices.{IsSliceOf, IsCheckedSlice}
use Rattle.fabric_core.proofs.loads.Shared.{of_jobs}
use Rattle.fabric_core.proofs.loads.RingSlices.{each_slice, checked_slice}
use Rattle.fabric_core.proofs.rings.first_shared.Goals as goal

pub map_vec-requires-after_bounds : goal.map_vec-requires-after_bounds
map_vec-requires-after_bounds g c κs within i x l e =
    subst (λ slice. (length slice.numbers.now ≡ length slice.rings.items)
    × AllByRecursion (λ ring. length ring ≤ RING_CORNERS) slice.rings.items) (sym e)
    (each_slice (λ rows slice. IsSliceOf rows slice.numbers.now slice.rings.items)
    (λ slice. (length slice.numbers.now ≡ length slice.rings.items)
    × AllByRecursion (λ ring. length ring ≤ RING_CORNERS) slice.rings.items)
    c.max-size.result (numbered_rows c.args.numbers.now c.args.rings.items) c.in_ok-slices.slices.items c.in_ok-slices.ensures
    (λ rows slice h. (h.numbered, h.short)) i x l)

pub joined-requires-clause-slices : goal.joined-requires-clause-slices
joined-requires-clause-slices g c =
    let size = c.max-size.result in
    let ids = c.args.numbers.now in
    let jobs = c.in_ok-slices.slices.items in
    let results = c.in_ok-results.results.items in
    subst (λ rings. AreOfSlices (λ rows result. IsCheckedSlice rows result) size (numbered_rows ids rings) results)
    (sym (ap (λ rings. rings.items) c.of-whole.ensures))
    (of_jobs (λ rows slice. IsSliceOf rows slice.numbers.now slice.rings.items) (λ rows result. IsCheckedSlice rows result)
    size (numbered_rows ids c.args.rings.items) jobs results
    (sym c.in_ok-results.results.ok.0 ∙ c.in_ok-results.ensures.len ∙ c.in_ok-slices.slices.ok.0)
    c.in_ok-slices.ensures
    (λ i j d l rows same. let given = (c.in_ok-results.ensures.each i d l).1 in
    let job = given.job in
    let ok : IfOk (get_or results i d) (λ checked. corners_of_rings checked.items ≡ job.rings.items) =
    let call = given.call in search rules in
    let err : IfErr (get_or results i d) (λ refusal. IsToldOfRings Asked.First (numbered_rows job.numbers.now job.rings.items) refusal
    ⊎ IsOutOfMemory refusal) = let call = given.call in search rules in
    checked_slice rows job.numbers.now job.rings.items (get_or results i d)
    (subst (λ slice. IsSliceOf rows slice.numbers.now slice.rings.items) (given.job_is j) same) ok err))
