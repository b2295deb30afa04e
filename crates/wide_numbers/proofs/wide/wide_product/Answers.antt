use Rattle.std.proofs.Common.{◌≡◌, ◌+◌, ◌*◌, ◌^◌, arith}
use Rattle.wide_numbers.proofs.Sums.{product_of_words}
use Rattle.wide_numbers.proofs.wide.wide_product.Goals as goal

pub returns : goal.returns
returns c =
    let e : c.carried-d.result.low + c.carried-b.result.high ≡ c.words_of-e.result.low + 2 ^ 64 * c.words_of-e.result.high =
    omega (arith, c.words_of-e.ensures, c.from.ensures, c.from-2.ensures) in
    product_of_words c.args.m c.words_of-first.result.low c.words_of-first.result.high
    c.args.n c.words_of-second.result.low c.words_of-second.result.high
    c.carried-a.result.low c.carried-a.result.high c.carried-b.result.low c.carried-b.result.high
    c.carried-c.result.low c.carried-c.result.high c.carried-d.result.low c.carried-d.result.high
    c.words_of-e.result.low c.words_of-e.result.high
    c.words_of-first.ensures c.words_of-second.ensures c.carried-a.ensures c.carried-b.ensures c.carried-c.ensures
    c.carried-d.ensures e
