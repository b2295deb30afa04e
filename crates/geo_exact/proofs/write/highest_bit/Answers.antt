use Rattle.std.proofs.Common.{◌≡◌, ℕ, ◌-◌, ap}
use Rattle.geo_exact.specs.Doubles.{highest_bit}
use Rattle.geo_exact.proofs.doubles.Doubles.{IsHighest, highest_is}
use Rattle.geo_exact.proofs.write.highest_bit.Goals as goal

-- what the code computes
found : (n r : ℕ) → IsHighest n (highest_bit n) → 63 - r ≡ highest_bit n → IsHighest n (63 - r)
found n r is same = rw same is

pub returns-clause-low : goal.returns-clause-low
returns-clause-low c = (found _ _ (highest_is c.args.size c.requires.some c.requires.small) (ap (λ r. 63 - r) c.from.ensures)).low

pub returns-clause-high : goal.returns-clause-high
returns-clause-high c = (found _ _ (highest_is c.args.size c.requires.some c.requires.small) (ap (λ r. 63 - r) c.from.ensures)).high

pub returns-clause-bound : goal.returns-clause-bound
returns-clause-bound c = (found _ _ (highest_is c.args.size c.requires.some c.requires.small) (ap (λ r. 63 - r) c.from.ensures)).bound
