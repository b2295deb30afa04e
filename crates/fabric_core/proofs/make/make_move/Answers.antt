use Rattle.std.proofs.Common.{sym, ◌∙◌, ap, subst, length, ◌∷◌, []}
use Rattle.std.proofs.lemmas.Result.{on_ok_weaker}
use Rattle.geo_exact.specs.Layers.{numbered}
use Rattle.fabric_core.specs.EditResults.{IsChange, IsMoveOf}
use Rattle.fabric_core.specs.Journal.{refined_by}
use Rattle.fabric_core.specs.own.Changes.{rings_of_shapes, state_of}
use Rattle.fabric_core.specs.own.Kept.{IsExchanged}
use Rattle.fabric_core.proofs.edits.Made.{count_of, made_exchanged, may_be_brought, number_on}
use Rattle.fabric_core.proofs.edits.Neighbours.{moved_run, run_has_edge, two_parcels}
use Rattle.fabric_core.proofs.edits.Replays.{BringsNew}
use Rattle.fabric_core.proofs.rows.RowLists.{has_number}
use Rattle.fabric_core.proofs.make.make_move.Goals as goal

pub both-of_a-requires : goal.both-of_a-requires
both-of_a-requires g c =
    let entry = c.args.entry.now in let kept = c.args.tiled.now in
    let h : IsMoveOf (state_of kept) c.args.a c.args.b c.requires.is_move.path entry.out entry.rows =
    subst (λ edit. IsChange (state_of kept) edit entry.out entry.rows) c.requires.is_move.is c.requires.is_entry.is_change in
    count_of c.args.shapes.items entry.rows c.requires.shapes ∙ ap length h.rows_are

pub renew-requires-clause-a_here : goal.renew-requires-clause-a_here
renew-requires-clause-a_here g c =
    let entry = c.args.entry.now in let kept = c.args.tiled.now in
    let h : IsMoveOf (state_of kept) c.args.a c.args.b c.requires.is_move.path entry.out entry.rows =
    subst (λ edit. IsChange (state_of kept) edit entry.out entry.rows) c.requires.is_move.is c.requires.is_entry.is_change in
    has_number kept.rows (numbered c.args.a h.ring_a) h.has_a

pub renew-requires-clause-b_here : goal.renew-requires-clause-b_here
renew-requires-clause-b_here g c =
    let entry = c.args.entry.now in let kept = c.args.tiled.now in
    let h : IsMoveOf (state_of kept) c.args.a c.args.b c.requires.is_move.path entry.out entry.rows =
    subst (λ edit. IsChange (state_of kept) edit entry.out entry.rows) c.requires.is_move.is c.requires.is_entry.is_change in
    has_number kept.rows (numbered c.args.b h.ring_b) h.has_b

pub renew-requires-clause-apart : goal.renew-requires-clause-apart
renew-requires-clause-apart g c =
    let entry = c.args.entry.now in let kept = c.args.tiled.now in
    let balanced = c.use_invariant.ensures.balanced in
    let h : IsMoveOf (state_of kept) c.args.a c.args.b c.requires.is_move.path entry.out entry.rows =
    subst (λ edit. IsChange (state_of kept) edit entry.out entry.rows) c.requires.is_move.is c.requires.is_entry.is_change in
    two_parcels kept.rows c.args.a c.args.b h.ring_a h.ring_b balanced.simple balanced.ids.up h.has_a h.has_b
    (run_has_edge h.ring_a h.ring_b (moved_run h.ring_a h.ring_b c.requires.is_move.path h.new_a h.new_b h.is_move))

pub renew-requires-clause-kept : goal.renew-requires-clause-kept
renew-requires-clause-kept g c =
    let entry = c.args.entry.now in let kept = c.args.tiled.now in
    let h : IsMoveOf (state_of kept) c.args.a c.args.b c.requires.is_move.path entry.out entry.rows =
    subst (λ edit. IsChange (state_of kept) edit entry.out entry.rows) c.requires.is_move.is c.requires.is_entry.is_change in
    may_be_brought kept entry c.use_invariant.ensures.balanced c.requires.is_entry (subst BringsNew (sym c.requires.is_move.is) tt)
    (ap (λ edit. refined_by edit kept.refined) c.requires.is_move.is) (c.args.a ∷ c.args.b ∷ [])
    (c.both-of_a.result.0.ring.corners ∷ c.both-of_a.result.1.ring.corners ∷ []) h.out_are
    (ap rings_of_shapes (sym c.both-of_a.ensures) ∙ c.requires.shapes)

pub returns-clause-made : goal.returns-clause-made
returns-clause-made g c =
    let entry = c.args.entry.now in let kept = c.args.tiled.now in
    let rings = c.both-of_a.result.0.ring.corners ∷ c.both-of_a.result.1.ring.corners ∷ [] in
    let h : IsMoveOf (state_of kept) c.args.a c.args.b c.requires.is_move.path entry.out entry.rows =
    subst (λ edit. IsChange (state_of kept) edit entry.out entry.rows) c.requires.is_move.is c.requires.is_entry.is_change in
    on_ok_weaker c.renew.result
    (λ done. made_exchanged kept entry c.use_invariant.ensures.balanced c.requires.is_entry c.use_invariant.ensures.here
    (subst BringsNew (sym c.requires.is_move.is) tt) (ap (λ edit. refined_by edit kept.refined) c.requires.is_move.is) c.renew.new.self
    (c.args.a ∷ c.args.b ∷ []) rings h.out_are (ap rings_of_shapes (sym c.both-of_a.ensures) ∙ c.requires.shapes)
    (subst (λ by. IsExchanged kept c.renew.new.self (c.args.a ∷ c.args.b ∷ []) by (number_on kept.next rings)) c.number.ensures done))
    c.renew.ensures.ok
