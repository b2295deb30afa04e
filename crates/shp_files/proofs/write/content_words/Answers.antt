use Rattle.std.proofs.Common.{arith}
use Rattle.shp_files.proofs.numbers.Sizes.{words_of_content}
use Rattle.shp_files.proofs.write.content_words.Goals as goal

pub returns : goal.returns
returns c = omega (arith, words_of_content c.args.ring.now)
