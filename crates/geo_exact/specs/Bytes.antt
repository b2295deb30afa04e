-- What a reader or a writer does to the bytes that it tells of, and to its count of failures (this product's own
-- streams, over Read and Write of std).
use Rattle.std.specs.Prelude.{◌≡◌, ◌≢◌, ℕ, ◌+◌, ◌-◌, ◌^◌, ◌<◌, min, List, length, take, Option, Result, Ok}
use Rattle.std.specs.Prelude.{Err, IsErr}
use Rattle.std.specs.Io.KnownBytes.{Consumes, Appends, Keeps, IsAtEnd}

-- the count after one more failure: at the greatest number it stays
abbrev pub raised : ℕ → ℕ
raised count = min (count + 1) (2 ^ 64 - 1)

-- two counts of failures together, likewise
abbrev pub together : ℕ → ℕ → ℕ
together a b = min (a + b) (2 ^ 64 - 1)

-- the count after a call
abbrev pub counted : {E : Type 0} → Result ℕ E → ℕ → ℕ
counted (Ok n) count = count
counted (Err failed) count = raised count

-- A pull into a buffer: at Ok n the first n bytes of the told ones went to its front, none only at their end or with no
-- room; at a failure none went.
abbrev pub Pulls : {E : Type 0} → Option (List ℕ) → Option (List ℕ) → Result ℕ E → List ℕ → Type 0
Pulls old new (Ok n) buffer = Consumes old new (take n buffer) × (n ≡ 0 → 0 < length buffer → IsAtEnd new)
Pulls old new (Err failed) buffer = Keeps old new

-- A put of bytes: at Ok n the first n were written after the told ones; at a failure none was.
abbrev pub Puts : {E : Type 0} → Option (List ℕ) → Option (List ℕ) → Result ℕ E → List ℕ → Type 0
Puts old new (Ok n) bytes = Appends old new (take n bytes)
Puts old new (Err failed) bytes = Keeps old new

-- A call of a stream that fails at one call, from now on the one of this number: that one fails and leaves all as it
-- was, and another is passed on.
pub record FailsOrPassesOn {E : Type 0} (call : ℕ) (answer : Result ℕ E) (Leaves PassesOn : Type 0) : Type 0 where
  pub fails : call ≡ 1 → IsErr answer × Leaves
  pub passes_on : call ≢ 1 → PassesOn
