use Rattle.std.proofs.Common.{◌≡◌, sym, subst, arith, to_z, of_z, List}
use Rattle.std.specs.Int.{w128}
use Rattle.std.proofs.lemmas.Int.{ints}
use lib.IntN.{ℤ, ◌-ℤ◌}
use Rattle.area_shares.specs.declared.shared.AreaLine.{AreaLine}
use Rattle.area_shares.specs.own.Rounded.{taken, AddsShares}
use Rattle.area_shares.proofs.Given.{lines_on, left_on, lines_end, all_of_lines}
use Rattle.area_shares.proofs.shared.push_shares.Goals as goal

-- as it is passed
abbrev passed : ℤ → ℤ
passed z = to_z w128 (of_z w128 z)

pub overflow_add-share : goal.overflow_add-share
overflow_add-share g c =
    omega (
      arith,
      ints,
      c.share-item.result.is_small.low,
      c.share-item.result.is_small.high,
      c.takes-more.ensures.small.low,
      c.takes-more.ensures.small.high,
    )

pub loop-share-preserved : goal.loop-share-preserved
loop-share-preserved g c =
    let rest = to_z w128 c.loop-share.rest-bits in
    let more : c.takes-more.result ≡ taken c.share-item.result.has_next rest = c.takes-more.ensures.value in
    record {
      so_far =
          lines_on c.args.id c.loop-share.lines.items c.push.new.self.items _ rest _ c.takes-more.result _ c.in-Some.others.now
          c.loop-share.share-index
          c.share-item.result c.loop-share-test.true c.share-item.is more (omega (
            arith,
            ints,
            c.share-item.result.is_small.low,
            c.share-item.result.is_small.high,
            c.takes-more.ensures.small.low,
            c.takes-more.ensures.small.high,
          ))
          (omega (arith, ints, c.takes-more.ensures.small.low, c.takes-more.ensures.small.high)) c.in_ok-push.ensures.items
          c.loop-share.invariant.so_far;
      left =
          left_on rest _ c.takes-more.result _ c.in-Some.others.now c.loop-share.share-index c.share-item.result c.loop-share-test.true
          c.share-item.is
          more (omega (arith, ints, c.takes-more.ensures.small.low, c.takes-more.ensures.small.high)) c.loop-share.invariant.left;
      small = record {
        low = omega (arith, ints, c.takes-more.ensures.small.low, c.takes-more.ensures.small.high, c.loop-share.invariant.small.low);
        high = omega (arith, ints, c.takes-more.ensures.small.low, c.takes-more.ensures.small.high, c.loop-share.invariant.small.high);
      };
    }

pub returns : goal.returns
returns g c =
    let first = passed (passed c.args.total -ℤ passed c.sum_of_least.result) in
    let P : List AreaLine → Type 0 = AddsShares c.args.id c.args.total c.args.shares.now c.args.lines.now.items in
    subst P (sym (lines_end c.args.id c.loop-share.lines.items c.push-2.new.self.items c.args.lines.now.items
    (to_z w128 c.loop-share.rest-bits) first _
    c.in-Some.others.now c.loop-share.share-index c.in-Some.last.now c.loop-share-test.false
    (omega (
      arith,
      ints,
      c.in-Some.last.now.is_small.low,
      c.in-Some.last.now.is_small.high,
      c.loop-share.invariant.small.low,
      c.loop-share.invariant.small.high,
    ))
    c.in_ok-push-2.ensures.items c.loop-share.invariant.so_far c.loop-share.invariant.left))
    (all_of_lines c.args.id c.args.total first c.args.shares.now c.in-Some.others.now c.in-Some.last.now c.args.lines.now.items
    c.in-Some.ensures.cases.0
    (omega (
      arith,
      ints,
      c.sum_of_least.ensures.value,
      c.sum_of_least.ensures.small.low,
      c.sum_of_least.ensures.small.high,
      c.requires.small.low,
      c.requires.small.high,
    )))
