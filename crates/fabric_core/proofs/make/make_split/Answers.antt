use Rattle.std.proofs.Common.{sym, ◌∙◌, ap, subst, length, ◌∷◌, []}
use Rattle.std.proofs.lemmas.Result.{on_ok_weaker}
use Rattle.fabric_core.specs.EditResults.{IsChange, IsSplitOf}
use Rattle.fabric_core.specs.Journal.{refined_by}
use Rattle.fabric_core.specs.own.Changes.{rings_of_shapes, state_of}
use Rattle.fabric_core.specs.own.Kept.{IsExchanged}
use Rattle.geo_exact.specs.Layers.{numbered}
use Rattle.fabric_core.proofs.edits.Made.{count_of, made_exchanged, may_be_brought, number_on}
use Rattle.fabric_core.proofs.edits.Replays.{BringsNew}
use Rattle.fabric_core.proofs.rows.RowLists.{has_number}
use Rattle.fabric_core.proofs.make.make_split.Goals as goal

pub both-left-requires : goal.both-left-requires
both-left-requires g c =
    let entry = c.args.entry.now in
    let h : IsSplitOf (state_of c.args.tiled.now) c.args.id c.requires.is_split.path entry.out entry.rows =
    subst (λ edit. IsChange (state_of c.args.tiled.now) edit entry.out entry.rows) c.requires.is_split.is c.requires.is_entry.is_change in
    count_of c.args.shapes.items entry.rows c.requires.shapes ∙ ap length h.rows_are

pub divide-requires-clause-here : goal.divide-requires-clause-here
divide-requires-clause-here g c =
    let entry = c.args.entry.now in
    let h : IsSplitOf (state_of c.args.tiled.now) c.args.id c.requires.is_split.path entry.out entry.rows =
    subst (λ edit. IsChange (state_of c.args.tiled.now) edit entry.out entry.rows) c.requires.is_split.is c.requires.is_entry.is_change in
    has_number c.args.tiled.now.rows (numbered c.args.id h.ring) h.has

pub divide-requires-clause-kept : goal.divide-requires-clause-kept
divide-requires-clause-kept g c =
    let entry = c.args.entry.now in let kept = c.args.tiled.now in
    let h : IsSplitOf (state_of kept) c.args.id c.requires.is_split.path entry.out entry.rows =
    subst (λ edit. IsChange (state_of kept) edit entry.out entry.rows) c.requires.is_split.is c.requires.is_entry.is_change in
    may_be_brought kept entry c.use_invariant.ensures.balanced c.requires.is_entry (subst BringsNew (sym c.requires.is_split.is) tt)
    (ap (λ edit. refined_by edit kept.refined) c.requires.is_split.is) (c.args.id ∷ [])
    (c.both-left.result.0.ring.corners ∷ c.both-left.result.1.ring.corners ∷ []) h.out_is
    (ap rings_of_shapes (sym c.both-left.ensures) ∙ c.requires.shapes)

pub returns-clause-made : goal.returns-clause-made
returns-clause-made g c =
    let entry = c.args.entry.now in let kept = c.args.tiled.now in
    let rings = c.both-left.result.0.ring.corners ∷ c.both-left.result.1.ring.corners ∷ [] in
    let h : IsSplitOf (state_of kept) c.args.id c.requires.is_split.path entry.out entry.rows =
    subst (λ edit. IsChange (state_of kept) edit entry.out entry.rows) c.requires.is_split.is c.requires.is_entry.is_change in
    on_ok_weaker c.divide.result
    (λ done. made_exchanged kept entry c.use_invariant.ensures.balanced c.requires.is_entry c.use_invariant.ensures.here
    (subst BringsNew (sym c.requires.is_split.is) tt) (ap (λ edit. refined_by edit kept.refined) c.requires.is_split.is) c.divide.new.self
    (c.args.id ∷ []) rings h.out_is (ap rings_of_shapes (sym c.both-left.ensures) ∙ c.requires.shapes)
    (subst (λ by. IsExchanged kept c.divide.new.self (c.args.id ∷ []) by (number_on kept.next rings)) c.number.ensures done))
    c.divide.ensures.ok
