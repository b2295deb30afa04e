use Rattle.std.proofs.Common.{◌∙◌}
use Rattle.std.proofs.lemmas.Result.{on_ok_weaker}
use Rattle.fabric_core.proofs.edits.Made.{ids_changed, made_changed, may_be_changed, renewal, shapes_changed}
use Rattle.fabric_core.proofs.make.make_change.Goals as goal

pub change_rings-requires-clause-two_ends : goal.change_rings-requires-clause-two_ends
change_rings-requires-clause-two_ends g c =
    (renewal c.args.tiled.now c.args.entry.now c.use_invariant.ensures.balanced c.requires.is_entry c.args.change
    c.requires.is_change).two_ends

pub change_rings-requires-clause-ids : goal.change_rings-requires-clause-ids
change_rings-requires-clause-ids g c =
    c.out.ensures
    ∙ ids_changed c.args.tiled.now c.args.entry.now c.use_invariant.ensures.balanced c.requires.is_entry c.args.change c.requires.is_change

pub change_rings-requires-clause-shapes : goal.change_rings-requires-clause-shapes
change_rings-requires-clause-shapes g c =
    c.requires.shapes
    ∙ shapes_changed c.args.tiled.now c.args.entry.now c.use_invariant.ensures.balanced c.requires.is_entry c.args.change
    c.requires.is_change

pub change_rings-requires-clause-ground : goal.change_rings-requires-clause-ground
change_rings-requires-clause-ground g c =
    (renewal c.args.tiled.now c.args.entry.now c.use_invariant.ensures.balanced c.requires.is_entry c.args.change
    c.requires.is_change).ground

pub change_rings-requires-clause-city_ground : goal.change_rings-requires-clause-city_ground
change_rings-requires-clause-city_ground g c =
    (renewal c.args.tiled.now c.args.entry.now c.use_invariant.ensures.balanced c.requires.is_entry c.args.change
    c.requires.is_change).city_ground

pub change_rings-requires-clause-kept : goal.change_rings-requires-clause-kept
change_rings-requires-clause-kept g c =
    may_be_changed c.args.tiled.now c.args.entry.now c.use_invariant.ensures.balanced c.requires.is_entry c.args.change c.requires.is_change

pub returns-clause-made : goal.returns-clause-made
returns-clause-made g c =
    on_ok_weaker c.change_rings.result
    (made_changed c.args.tiled.now c.args.entry.now c.use_invariant.ensures.balanced c.requires.is_entry c.args.change c.requires.is_change
    c.change_rings.new.self)
    c.change_rings.ensures.ok
