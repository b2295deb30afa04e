use Rattle.std.proofs.Common.{◌++◌, ◌∷◌, [], map, flat_map, sym, ◌∙◌, ap, append-nil}
use Rattle.std.proofs.lemmas.List.{flat_map_more, map-append}
use Rattle.std.proofs.lemmas.Iterator.Adapters.{YieldsList-from_rev_slice}
use Rattle.std.proofs.lemmas.Iterator.Consumers.{YieldsList-end}
use Rattle.shp_files.specs.Written.{point}
use Rattle.shp_files.proofs.write.put_backwards.Goals as goal

pub loop-corner-init : goal.loop-corner-init
loop-corner-init g c = sym (append-nil c.args.out.now.items)

pub loop-corner-preserved : goal.loop-corner-preserved
loop-corner-preserved g c =
    c.in_ok-put_point.ensures ∙ ap (λ b. b ++ point c.in-Some.corner.now) c.loop-corner.invariant
    ∙ flat_map_more point c.args.out.now.items (map (λ corner. corner.now) c.loop-corner.yielded) c.in-Some.corner.now
    ∙ ap (λ corners. c.args.out.now.items ++ flat_map point corners)
    (sym (map-append (λ corner. corner.now) c.loop-corner.yielded (c.in-Some.corner ∷ [])))

pub returns : goal.returns
returns g c =
    let all = YieldsList-end (YieldsList-from_rev_slice c.args.corners.now cc) c.loop-corner.yielded _
    c.loop-corner.yielded_by _ _ c.in-None.is c.next.ensures.steps in
    c.loop-corner.invariant ∙ ap (λ corners. c.args.out.now.items ++ flat_map point corners) all.0
