use Rattle.std.proofs.Common.{◌≡◌, ◌∷◌, ◌+◌, ◌∙◌, suc, sym, ap, drop, add-one}
use Rattle.std.proofs.Math.Seq.{drop-cons}
use Rattle.std.proofs.lemmas.List.{drop_all}
use Rattle.entry_history.proofs.Beginnings.{begins_whole}
use Rattle.clerk_runs.proofs.Places.{none_located, more_located, all_located}
use Rattle.clerk_runs.proofs.locating.locate_all.Goals as goal

pub loop-corner-init : goal.loop-corner-init
loop-corner-init g c = record {
  opening = c.requires.opening;
  has_seen = c.requires.has_seen;
  located = rw c.new-places.ensures.items (none_located _ _);
}

pub loop-corner-preserved : goal.loop-corner-preserved
loop-corner-preserved g c =
    let corners = c.args.corners.now in
    let i = c.loop-corner.corner-index in
    let left : drop i corners ≡ c.corner-item.result ∷ drop (i + 1) corners =
    rw (add-one, drop-cons corners i c.corner-item.result c.loop-corner-test.true) (ap (λ p. p ∷ drop (suc i) corners)
    (sym c.corner-item.is)) in
    record {
      opening = c.in_ok-locate_one.ensures.opening ∙ c.loop-corner.invariant.opening;
      has_seen = λ has. begins_whole _ _ _ (c.loop-corner.invariant.has_seen has) c.in_ok-locate_one.ensures.begins;
      located = rw c.in_ok-push.ensures.items (
          more_located _ corners (drop (i + 1) corners) c.corner-item.result c.loop-corner.places.items _
          (rw left at c.loop-corner.invariant.located) c.in_ok-locate_one.ensures.at);
    }

pub returns : goal.returns
returns g c =
    all_located _ _ _ (rw (drop_all c.loop-corner.corner-index c.args.corners.now c.loop-corner-test.false) at
    c.loop-corner.invariant.located)
