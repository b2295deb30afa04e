use Rattle.std.proofs.Common.{rules, ◌≡◌, [], sym, ◌∙◌, subst, IfOk}
use Rattle.edge_chains.proofs.nodings.Slices.{nil_of_none}
use Rattle.area_shares.specs.AreaTable.{AreAreaLines}
use Rattle.area_shares.proofs.SlicePairs.{AreGathered, gathered_first, gathered_more, gathered_last}
use Rattle.area_shares.proofs.workers.joined.Goals as goal

pub loop-lines-init : goal.loop-lines-init
loop-lines-init g c =
    let rows = c.args.parcels.now.now.rows in let zones = c.args.zones.now.rows in let pairs = c.args.pairs.now in
    let all : c.into_iter-lines-iterator.result.rest.items ≡ c.args.slices.items = search rules in
    subst (AreGathered rows zones (λ here result. IfOk result (λ lines. AreAreaLines rows zones here lines.items)) pairs
    c.into_iter-lines-iterator.result.rest.items) (sym c.in_ok-all.ensures.items)
    (subst (λ rest. AreGathered rows zones (λ here result. IfOk result (λ lines. AreAreaLines rows zones here lines.items)) pairs rest [])
    (sym all) (gathered_first rows zones (λ here result. IfOk result (λ lines. AreAreaLines rows zones here lines.items)) pairs
    c.args.slices.items c.requires))

pub loop-lines-preserved : goal.loop-lines-preserved
loop-lines-preserved g c =
    let rows = c.args.parcels.now.now.rows in let zones = c.args.zones.now.rows in let pairs = c.args.pairs.now in
    subst (AreGathered rows zones (λ here result. IfOk result (λ lines. AreAreaLines rows zones here lines.items)) pairs
    c.next.new.self.rest.items) (sym c.in_ok-append.ensures.items)
    (gathered_more rows zones (λ here result. IfOk result (λ lines. AreAreaLines rows zones here lines.items)) pairs c.in-Some.lines
    c.next.new.self.rest.items c.loop-lines.all.items c.in_ok-lines.lines.items
    (subst (λ rest. AreGathered rows zones (λ here result. IfOk result (λ lines. AreAreaLines rows zones here lines.items)) pairs rest
    c.loop-lines.all.items) c.in-Some.ensures.steps.0 c.loop-lines.invariant)
    (λ here h. subst (λ result. IfOk result (λ lines. AreAreaLines rows zones here lines.items)) c.in_ok-lines.was h))

pub returns : goal.returns
returns g c =
    let rows = c.args.parcels.now.now.rows in let zones = c.args.zones.now.rows in let pairs = c.args.pairs.now in
    gathered_last rows zones (λ here result. IfOk result (λ lines. AreAreaLines rows zones here lines.items)) pairs
    c.loop-lines.lines-iterator.rest.items c.loop-lines.all.items
    (nil_of_none c.loop-lines.lines-iterator.rest.items (sym c.loop-lines.lines-iterator.rest.ok.0 ∙ c.in-None.ensures.steps.0))
    c.loop-lines.invariant
