-- A text that is put into a writer in its own time: its end is pending (this product's own streams, over Write of std).
use Rattle.std.specs.Prelude.{◌≡◌, ℕ, List, ◌++◌, Option}
use Rattle.std.specs.Io.KnownBytes.{Appends}

-- a piece comes behind what was pending: of both together the first bytes were written after the told ones, and the
-- others are pending now
pub record Passes (old new : Option (List ℕ)) (was_pending piece is_pending : List ℕ) : Type 0 where
  pub sent : List ℕ
  pub are_all : was_pending ++ piece ≡ sent ++ is_pending
  pub is_written : Appends old new sent
