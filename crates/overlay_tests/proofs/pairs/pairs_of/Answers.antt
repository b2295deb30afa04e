use Rattle.std.proofs.lemmas.Bool.{false≢true}
use Rattle.std.proofs.Common.{◌≡◌, refl, sym, ◌∙◌, ap, subst, map, [], ◌∷◌, List}
use Rattle.std.specs.List.Sorted.{IsStrictlyIncreasing}
use Rattle.geo_exact.specs.Layers.{NumberedRing, numbered}
use Rattle.overlay_tests.proofs.PlainTables.{AreZonesSoFar, no_zone_yet, next_zone_apart, next_zone_meets}
use Rattle.overlay_tests.proofs.pairs.pairs_of.Goals as goal

pub loop-zone-init : goal.loop-zone-init
loop-zone-init g c =
    rw (c.new-pairs.ensures.items)
    (subst (λ (left : List NumberedRing). AreZonesSoFar (numbered c.args.id c.args.shape.now.ring.corners) c.args.zones.now.rows left [])
    (sym (ap (map (λ shape. numbered shape.0 shape.1.ring.corners)) c.into_iter-zone-iterator.ensures.into_iter_gives
    ∙ c.shapes-zone-items.ensures))
    (no_zone_yet (numbered c.args.id c.args.shape.now.ring.corners) c.args.zones.now.rows))

pub loop-zone-preserved-in-Continue-1 : goal.loop-zone-preserved-in-Continue-1
loop-zone-preserved-in-Continue-1 g c =
    rw (c.in_ok-push.ensures.items)
    (next_zone_meets _ _ _ _ _ _ c.loop-zone.invariant
    (ap (map (λ shape. numbered shape.0 shape.1.ring.corners)) c.in-Some.ensures.steps)
    (subst IsStrictlyIncreasing c.ids.ensures.ids c.ids.ensures.ascending) (c.if-shapes_overlap.ensures.0 refl))

pub loop-zone-preserved : goal.loop-zone-preserved
loop-zone-preserved g c =
    next_zone_apart _ _ _ _ _ _ c.loop-zone.invariant (ap (map (λ shape. numbered shape.0 shape.1.ring.corners)) c.in-Some.ensures.steps)
    (λ meets. false≢true (c.if-shapes_overlap.ensures.1 meets))
