use Rattle.std.proofs.Common.{rules, ◌∙◌, ◌≤◌, ◌*◌, length, get_or, IfOk, sym, subst, arith}
use Rattle.std.specs.List.{AllZip}
use Rattle.edge_chains.specs.Noding.{IsNoded}
use Rattle.std.proofs.lemmas.Grind.{div_ceil_times}
use Rattle.edge_chains.proofs.nodings.Slices.{of_slices}
use Rattle.edge_chains.proofs.noding.node_shared.Goals as goal

pub joined-requires : goal.joined-requires
joined-requires g c =
    let size = c.max-size.result in
    let rings = c.args.rings.now in
    let slices = c.in_ok-slices.slices.items in
    let covers : length rings ≤ length slices * size =
    rw (sym c.in_ok-slices.slices.ok.0 ∙ c.in_ok-slices.ensures.len)
    (div_ceil_times (length rings) size (omega (arith, c.max-size.ensures))).0 in
    of_slices (λ slice result. IfOk result (λ noded. AllZip (λ ring out. IsNoded ring c.args.blocks.now out) slice noded.items))
    size rings slices covers
    (λ n d l. let given = (c.in_ok-slices.ensures.each n d l).1 in
    let fact : IfOk (get_or slices n d) (λ noded. AllZip (λ ring out. IsNoded ring c.args.blocks.now out)
    given.argument.now noded.items) = let call = given.call in search rules in
    subst (λ slice. IfOk (get_or slices n d) (λ noded. AllZip (λ ring out. IsNoded ring c.args.blocks.now out) slice noded.items))
    given.argument_is.value fact)
