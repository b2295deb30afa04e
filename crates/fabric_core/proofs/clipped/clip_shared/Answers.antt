use Rattle.std.proofs.Common.{rules, ◌≡◌, ◌∙◌, ap, sym, subst, IfOk, get_or}
use Rattle.fabric_core.specs.own.Lists.{AreShapesOfRings}
use Rattle.edge_chains.specs.own.Slices.{AreOfSlices}
use Rattle.fabric_core.proofs.loads.Shared.{of_jobs}
use Rattle.fabric_core.proofs.clipped.clip_shared.Goals as goal

pub joined-requires : goal.joined-requires
joined-requires g c =
    let size = c.max-size.result in
    let jobs = c.in_ok-slices.slices.items in
    let results = c.in_ok-clipped.clipped.items in
    subst (λ rings. AreOfSlices (λ slice result. IfOk result (λ shapes. AreShapesOfRings slice shapes.items)) size rings results)
    (sym (ap (λ rings. rings.items) c.of-whole.ensures))
    (of_jobs (λ rings slice. slice.items ≡ rings) (λ slice result. IfOk result (λ shapes. AreShapesOfRings slice shapes.items))
    size c.args.rings.items jobs results
    (sym c.in_ok-clipped.clipped.ok.0 ∙ c.in_ok-clipped.ensures.len ∙ c.in_ok-slices.slices.ok.0)
    c.in_ok-slices.ensures
    (λ i j d l slice same. let given = (c.in_ok-clipped.ensures.each i d l).1 in
    let fact : IfOk (get_or results i d) (λ shapes. AreShapesOfRings given.job.items shapes.items) =
    let call = given.call in search rules in
    subst (λ rings. IfOk (get_or results i d) (λ shapes. AreShapesOfRings rings shapes.items))
    (sym (ap (λ job. job.items) (given.job_is j)) ∙ same) fact))
