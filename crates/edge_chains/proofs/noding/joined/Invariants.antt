use Rattle.std.proofs.Common.{IfOk}
use Rattle.std.specs.List.{AllZip}
use Rattle.edge_chains.specs.Noding.{IsNoded}
use Rattle.edge_chains.specs.own.Slices.{AreJoined}
use Rattle.edge_chains.proofs.noding.joined.Given as goal

abbrev pub invariant-loop-slice : goal.invariant-loop-slice
invariant-loop-slice g l =
    AreJoined (λ ring out. IsNoded ring l.blocks out)
    (λ slice result. IfOk result (λ noded. AllZip (λ ring out. IsNoded ring l.blocks out) slice noded.items))
    l.size l.rings l.slice-iterator.rest.items l.noded.items
