use Rattle.district_laws.proofs.Sums.{renumbered}
use Rattle.district_laws.proofs.tilings.what_tiles_says_nothing_of_numbers.Goals as goal

pub returns : goal.returns
returns c = λ rows others city same tiling. renumbered rows others city same tiling
