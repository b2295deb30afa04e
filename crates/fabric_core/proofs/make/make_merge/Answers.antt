use Rattle.std.proofs.Common.{sym, ◌∙◌, ap, subst, length, ◌∷◌, []}
use Rattle.std.proofs.lemmas.Result.{on_ok_weaker}
use Rattle.geo_exact.specs.Layers.{numbered}
use Rattle.fabric_core.specs.EditResults.{IsChange, IsMergeOf}
use Rattle.fabric_core.specs.Journal.{refined_by}
use Rattle.fabric_core.specs.own.Changes.{rings_of_shapes, state_of}
use Rattle.fabric_core.specs.own.Kept.{IsExchanged}
use Rattle.fabric_core.proofs.edits.Made.{count_of, made_exchanged, may_be_brought, number_on}
use Rattle.fabric_core.proofs.edits.Neighbours.{merged_run, run_has_edge, two_parcels}
use Rattle.fabric_core.proofs.edits.Replays.{BringsNew}
use Rattle.fabric_core.proofs.rows.RowLists.{has_number}
use Rattle.fabric_core.proofs.make.make_merge.Goals as goal

pub only-shape-requires : goal.only-shape-requires
only-shape-requires g c =
    let entry = c.args.entry.now in let kept = c.args.tiled.now in
    let h : IsMergeOf (state_of kept) c.args.a c.args.b entry.out entry.rows =
    subst (λ edit. IsChange (state_of kept) edit entry.out entry.rows) c.requires.is_merge c.requires.is_entry.is_change in
    count_of c.args.shapes.items entry.rows c.requires.shapes ∙ ap length h.rows_are

pub unite-requires-clause-a_here : goal.unite-requires-clause-a_here
unite-requires-clause-a_here g c =
    let entry = c.args.entry.now in let kept = c.args.tiled.now in
    let h : IsMergeOf (state_of kept) c.args.a c.args.b entry.out entry.rows =
    subst (λ edit. IsChange (state_of kept) edit entry.out entry.rows) c.requires.is_merge c.requires.is_entry.is_change in
    has_number kept.rows (numbered c.args.a h.ring_a) h.has_a

pub unite-requires-clause-b_here : goal.unite-requires-clause-b_here
unite-requires-clause-b_here g c =
    let entry = c.args.entry.now in let kept = c.args.tiled.now in
    let h : IsMergeOf (state_of kept) c.args.a c.args.b entry.out entry.rows =
    subst (λ edit. IsChange (state_of kept) edit entry.out entry.rows) c.requires.is_merge c.requires.is_entry.is_change in
    has_number kept.rows (numbered c.args.b h.ring_b) h.has_b

pub unite-requires-clause-apart : goal.unite-requires-clause-apart
unite-requires-clause-apart g c =
    let entry = c.args.entry.now in let kept = c.args.tiled.now in
    let balanced = c.use_invariant.ensures.balanced in
    let h : IsMergeOf (state_of kept) c.args.a c.args.b entry.out entry.rows =
    subst (λ edit. IsChange (state_of kept) edit entry.out entry.rows) c.requires.is_merge c.requires.is_entry.is_change in
    two_parcels kept.rows c.args.a c.args.b h.ring_a h.ring_b balanced.simple balanced.ids.up h.has_a h.has_b
    (run_has_edge h.ring_a h.ring_b (merged_run h.ring_a h.ring_b h.ring h.is_merge))

pub unite-requires-clause-kept : goal.unite-requires-clause-kept
unite-requires-clause-kept g c =
    let entry = c.args.entry.now in let kept = c.args.tiled.now in
    let h : IsMergeOf (state_of kept) c.args.a c.args.b entry.out entry.rows =
    subst (λ edit. IsChange (state_of kept) edit entry.out entry.rows) c.requires.is_merge c.requires.is_entry.is_change in
    may_be_brought kept entry c.use_invariant.ensures.balanced c.requires.is_entry (subst BringsNew (sym c.requires.is_merge) tt)
    (ap (λ edit. refined_by edit kept.refined) c.requires.is_merge) (c.args.a ∷ c.args.b ∷ [])
    (c.only-shape.result.ring.corners ∷ []) h.out_are
    (ap rings_of_shapes (sym c.only-shape.ensures) ∙ c.requires.shapes)

pub returns-clause-made : goal.returns-clause-made
returns-clause-made g c =
    let entry = c.args.entry.now in let kept = c.args.tiled.now in
    let rings = c.only-shape.result.ring.corners ∷ [] in
    let h : IsMergeOf (state_of kept) c.args.a c.args.b entry.out entry.rows =
    subst (λ edit. IsChange (state_of kept) edit entry.out entry.rows) c.requires.is_merge c.requires.is_entry.is_change in
    on_ok_weaker c.unite.result
    (λ done. made_exchanged kept entry c.use_invariant.ensures.balanced c.requires.is_entry c.use_invariant.ensures.here
    (subst BringsNew (sym c.requires.is_merge) tt) (ap (λ edit. refined_by edit kept.refined) c.requires.is_merge) c.unite.new.self
    (c.args.a ∷ c.args.b ∷ []) rings h.out_are (ap rings_of_shapes (sym c.only-shape.ensures) ∙ c.requires.shapes)
    (subst (λ by. IsExchanged kept c.unite.new.self (c.args.a ∷ c.args.b ∷ []) by (number_on kept.next rings)) c.number.ensures done))
    c.unite.ensures.ok
