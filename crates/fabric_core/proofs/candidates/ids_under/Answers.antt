use Rattle.std.proofs.Common.{sym, ap, get_or}
use Rattle.std.proofs.lemmas.List.{get_or_default}
use Rattle.edge_chains.proofs.nodings.NodedEdges.{AllZip-more}
use Rattle.fabric_core.specs.own.Lists.{IsIdOf}
use Rattle.fabric_core.proofs.candidates.ids_under.Goals as goal

pub loop-key-preserved : goal.loop-key-preserved
loop-key-preserved g c =
    let keys = c.args.keys.now in let key = get_or keys c.loop-key.key-index 0 in
    rw c.in_ok-push.ensures.items
    (AllZip-more (IsIdOf c.args.parcels.now.parcels) keys c.loop-key.ids.items c.loop-key.key-index key c.at.result.now.id
    c.loop-key-test.true (get_or_default keys c.loop-key.key-index 0 key c.loop-key-test.true) c.loop-key.invariant
    (λ parcel h. ap (λ p. p.id) (sym (c.at.ensures parcel h))))
