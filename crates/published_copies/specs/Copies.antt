-- What the writer of published copies shows (this product's own).
use Rattle.std.specs.Prelude.{List}

-- the entries that were handed on, and those that the published copy has followed
pub record Handed (E : Type 0) : Type 0 where
  pub handed : List E
  pub shown : List E
