use Rattle.std.proofs.Common.{arith, ◌≤◌, [], ◌∷◌, ◌++◌, length, take, drop, ap, sym, ◌∙◌, subst, append_assoc}
use Rattle.std.specs.List.{AllByRecursion}
use Rattle.geo_exact.specs.declared.limits.TheConstants.{RING_CORNERS}
use Rattle.edge_chains.specs.own.Slices.{AreOfSlices}
use Rattle.fabric_core.specs.own.Lists.{numbered_rows}
use Rattle.fabric_core.specs.own.RingSlices.{IsSliceOf}
use Rattle.fabric_core.proofs.loads.RingSlices.{slice_front, slice_rest, slice_last}
use Rattle.fabric_core.proofs.rings.cut.Goals as goal

pub loop-rings-preserved : goal.loop-rings-preserved
loop-rings-preserved g c =
    let size = c.args.size in
    let ids = c.loop-rings.left.now in
    let rings = c.loop-rings.rings.items in
    let rows = numbered_rows c.args.numbers.now c.args.rings.items in
    let given = c.loop-rings.invariant in
    let front = slice_front size ids rings given.numbered given.short in
    let rest = slice_rest size ids rings given.numbered given.short in
    let behind = c.in_ok-rest.rest.items in
    record {
      numbered = ap length c.split_at.ensures.back ∙ rest.numbered ∙ ap length (sym c.in_ok-rest.ensures.tail);
      short = subst (AllByRecursion (λ ring. length ring ≤ RING_CORNERS)) (sym c.in_ok-rest.ensures.tail) rest.short;
      so_far = λ more h.
          subst (λ slices. AreOfSlices (λ rows slice. IsSliceOf rows slice.numbers.now slice.rings.items) size rows (slices ++ more))
          (sym c.in_ok-push.ensures.items)
          (subst (AreOfSlices (λ rows slice. IsSliceOf rows slice.numbers.now slice.rings.items) size rows)
          (sym (append_assoc c.loop-rings.slices.items (_ ∷ []) more))
          (given.so_far (_ ∷ more) (
            subst (λ ns. IsSliceOf (take size (numbered_rows ids rings)) ns c.split_off.new.self.items) (sym c.split_at.ensures.front)
                (subst (IsSliceOf (take size (numbered_rows ids rings)) (take size ids)) (sym c.in_ok-rest.ensures.items) front),
            subst (λ rs. AreOfSlices (λ rows slice. IsSliceOf rows slice.numbers.now slice.rings.items) size rs more)
                (ap (λ ns. numbered_rows ns behind) c.split_at.ensures.back
                ∙ ap (numbered_rows (drop size ids)) c.in_ok-rest.ensures.tail ∙ rest.are_rows) h,
          )));
    }

pub returns : goal.returns
returns g c =
    let size = c.args.size in
    let last = c.loop-rings.rings in
    let given = c.loop-rings.invariant in
    let fits : length last.items ≤ size = omega (arith, c.loop-rings-test.false, last.ok.0, c.len.ensures) in
    subst (AreOfSlices (λ rows slice. IsSliceOf rows slice.numbers.now slice.rings.items) size
    (numbered_rows c.args.numbers.now c.args.rings.items)) (sym c.in_ok-push-2.ensures.items)
    (given.so_far (_ ∷ []) (slice_last size c.loop-rings.left.now last.items given.numbered given.short fits))
