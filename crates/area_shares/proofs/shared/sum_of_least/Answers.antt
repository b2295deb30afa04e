use Rattle.std.proofs.Common.{arith}
use Rattle.std.proofs.lemmas.Int.{ints}
use Rattle.area_shares.proofs.Given.{least-drop}
use Rattle.area_shares.proofs.shared.sum_of_least.Goals as goal

pub loop-share-preserved : goal.loop-share-preserved
loop-share-preserved c = record {
  so_far = omega (
    arith,
    ints,
    c.loop-share.invariant.so_far,
    c.share-item.result.is_small.low,
    c.share-item.result.is_small.high,
    least-drop c.args.shares.now c.loop-share.share-index c.share-item.result c.loop-share-test.true c.share-item.is,
  );
  small = record {
    low = omega (arith, ints, c.share-item.result.is_small.low, c.loop-share.invariant.small.low);
    high = omega (arith, ints, c.share-item.result.is_small.high, c.loop-share.invariant.small.high);
  };
}
