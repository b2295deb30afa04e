use Rattle.std.proofs.Common.{◌≡◌, sym, ◌∙◌, ap, subst, map, [], List}
use Rattle.std.specs.List.Sorted.{IsStrictlyIncreasing}
use Rattle.geo_exact.specs.Layers.{NumberedRing, numbered}
use Rattle.overlay_tests.proofs.PlainTables.{AreSoFar, all_rows, no_row_yet, next_row}
use Rattle.overlay_tests.proofs.pairs.all_pairs.Goals as goal

pub loop-id-init : goal.loop-id-init
loop-id-init g c =
    rw (c.new-pairs.ensures.items)
    (subst (λ (left : List NumberedRing). AreSoFar c.args.sheet.now.now.rows c.args.zones.now.rows left [])
    (sym (ap (map (λ shape. numbered shape.0 shape.1.ring.corners)) c.into_iter-id-iterator.ensures.into_iter_gives
    ∙ c.shapes-id-items.ensures))
    (no_row_yet c.args.sheet.now.now.rows c.args.zones.now.rows))

pub loop-id-preserved : goal.loop-id-preserved
loop-id-preserved g c =
    rw (c.in_ok-extend_from_slice.ensures.items, c.deref.ensures.value)
    (next_row _ _ _ _ _ _ _ (subst IsStrictlyIncreasing c.ids.ensures.ids c.ids.ensures.ascending) c.loop-id.invariant
    (ap (map (λ shape. numbered shape.0 shape.1.ring.corners)) c.in-Some.ensures.steps) c.in_ok-own.ensures)
