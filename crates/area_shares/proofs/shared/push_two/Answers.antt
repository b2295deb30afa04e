use Rattle.std.proofs.Common.{arith}
use Rattle.std.proofs.lemmas.Int.{ints}
use lib.IntN.{◌+ℤ◌}
use Rattle.area_shares.proofs.Given.{nearest, two_added}
use Rattle.area_shares.proofs.shared.push_two.Goals as goal

pub returns : goal.returns
returns g c =
    let share = c.args.share in
    let area = share.least +ℤ c.takes.result in
    record {
      area = area;
      is_added = two_added c.args.id share.zone c.args.other c.args.total area _ _ c.args.lines.now.items c.push.new.self.items
          c.push-2.new.self.items
          (omega (arith, ints, share.is_small.low, share.is_small.high, c.takes.ensures.small.low, c.takes.ensures.small.high))
          (omega (
            arith,
            ints,
            share.is_small.low,
            share.is_small.high,
            c.takes.ensures.small.low,
            c.takes.ensures.small.high,
            c.requires.low,
            c.requires.high,
          ))
          c.in_ok-push.ensures.items c.in_ok-push-2.ensures.items;
      is_near = λ lost f r. nearest lost f share.least c.takes.result share.has_next r c.takes.ensures.value;
    }
