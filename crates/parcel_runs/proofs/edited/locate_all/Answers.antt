use Rattle.std.proofs.Common.{◌∷◌, [], ◌++◌, ◌∙◌, sym, ap, subst, take}
use Rattle.std.proofs.lemmas.List.{take_more}
use Rattle.std.proofs.lemmas.Slice.Zip.{all_zipped_more}
use Rattle.geo_exact.specs.Point.{corner_point}
use Rattle.fabric_core.specs.Locate.{IsLocatedAt}
use Rattle.clerk_runs.specs.ClerkRuns.{AreLocated}
use Rattle.parcel_runs.proofs.edited.locate_all.Goals as goal

pub loop-corner-preserved : goal.loop-corner-preserved
loop-corner-preserved g c =
    let rows = c.args.sheet.now.now.rows in
    let corners = c.args.corners.now in
    let i = c.loop-corner.corner-index in
    let corner = c.corner-item.result in
    let more = take_more corners i corner c.loop-corner-test.true ∙ ap (λ one. take i corners ++ one ∷ []) (sym c.corner-item.is) in
    rw c.in_ok-push.ensures.items (subst (λ list. AreLocated rows list (c.loop-corner.places.items ++ c.in_ok-at.at ∷ [])) (sym more)
    (all_zipped_more (λ one at. IsLocatedAt rows (corner_point one) at) (take i corners) c.loop-corner.places.items corner c.in_ok-at.at
    c.loop-corner.invariant c.in_ok-at.ensures))
