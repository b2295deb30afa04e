-- The two sides of a comparison: rings that are added, and rings that are taken (this product's own). Public contracts
-- do not speak of it.
use Rattle.std.specs.Prelude.{ℤ, pos, neg_ℤ, Option, Some, None, if◌then◌else◌}
use Rattle.std.specs.Ordering.{int_eq}
use Rattle.edge_chains.specs.declared.edge_sum.Side.{Side}
use Rattle.edge_chains.specs.declared.edge_sum.Side.TheVariants.{Added, Taken}

-- what is taken counts with the opposite sign
abbrev pub signed : Side → ℤ → ℤ
signed Added n = n
signed Taken n = neg_ℤ n

-- the entry of a number in a sum's map: none for 0
abbrev pub entry_of : ℤ → Option ℤ
entry_of n = if int_eq n (pos 0) then None else Some n
